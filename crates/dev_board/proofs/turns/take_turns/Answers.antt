use Rattle.std.proofs.Common.{◌≤◌, ◌∷◌, [], ℕ, List, arith, get_or, length, subst, sym, take}
use Rattle.std.proofs.lemmas.List.{take_more}
use Rattle.run_rules.specs.declared.world.Setup.{Setup}
use Rattle.run_sound.proofs.Callers.{all_or}
use Rattle.dev_board.specs.Playing.{Plays}
use Rattle.dev_board.proofs.TurnLaws.{none_played, plays_setup, turn_more}
use Rattle.dev_board.proofs.turns.take_turns.Goals as goal

pub loop-caller-init : goal.loop-caller-init
loop-caller-init c = record { plays = none_played c.args.board.now; agree = c.requires.agree }

pub turn-requires-clause-caller : goal.turn-requires-clause-caller
turn-requires-clause-caller c =
    let b = c.args.board.now in
    let i = c.loop-caller.caller-index in
    let k = get_or c.args.order.now i 0 in
    subst (λ (s : Setup). k ≤ length s.scripts) (sym (plays_setup b c.loop-caller.board (take i c.args.order.now) c.loop-caller.invariant.plays))
    (all_or (λ (x : ℕ). x ≤ length b.world.setup.scripts) c.args.order.now i 0 c.requires.callers (omega arith))

pub loop-caller-preserved : goal.loop-caller-preserved
loop-caller-preserved c =
    let b = c.args.board.now in
    let order = c.args.order.now in
    let i = c.loop-caller.caller-index in
    let k = get_or order i 0 in
    record {
      plays = subst (λ (xs : List ℕ). Plays b xs c.turn.new.board) (sym (take_more order i 0 c.loop-caller-test.true))
          (turn_more b c.loop-caller.board c.turn.new.board (take i order) (k ∷ []) c.loop-caller.invariant.plays c.in_ok-turn.ensures.played);
      agree = c.in_ok-turn.ensures.agree;
    }
