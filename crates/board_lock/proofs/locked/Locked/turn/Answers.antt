use Rattle.std.proofs.Common.{◌≤◌, ℕ, length, sym, ap, ◌∙◌, subst, arith, ◌+◌}
use Rattle.lease_table.specs.declared.view.View.{View}
use Rattle.dev_board.specs.declared.answer.LeaseStep.{LeaseStep}
use Rattle.board_lock.specs.Boards.{LeaseFits, one_end}
use Rattle.board_lock.specs.Holding.{Settles}
use Rattle.board_lock.specs.Tallies.{Totals}
use Rattle.board_lock.specs.Turning.{settled}
use Rattle.board_lock.proofs.Books.{booked, one_more}
use Rattle.board_lock.proofs.Carried.{carried_next, ends_none}
use Rattle.board_lock.proofs.Fits.{lease_fits}
use Rattle.board_lock.proofs.Opened.{same_setup}
use Rattle.board_lock.proofs.locked.Locked.turn.Goals as goal

pub step-requires-clause-caller : goal.step-requires-clause-caller
step-requires-clause-caller g c =
    subst (λ s. c.caller.result ≤ length s.scripts) (sym (same_setup c.self.inside.board g.N.Naming.opening c.self.invariant.0.opening)) c.caller.ensures.range.1

pub count_event-requires : goal.count_event-requires
count_event-requires g c =
    let b = booked c.caller.result c.self.inside.board c.step.new.self c.in-Did.place c.in-Did.told c.event.result.now c.in-Did.ensures.step.2 c.event.ensures in
    let some = c.caller.ensures.range.0 in
    λ z. let is = b.caller in omega arith

pub settle-requires-clause-fits : goal.settle-requires-clause-fits
settle-requires-clause-fits g c =
    let a = c.in-Did.ensures.step.2 in
    let old = c.self.inside.board.world in
    let slots = ap (λ s. length s.machine.spots) (same_setup c.self.inside.board g.N.Naming.opening c.self.invariant.0.opening) in
    let lease = c.lease.ensures ∙ ap (λ t. t.lease) a.told in
    subst (λ (t : ℕ × LeaseStep). LeaseFits t.0 t.1) (λ i. (slots i, sym lease i)) (lease_fits (length old.setup.machine.spots) old c.step.new.self.world c.caller.result c.stands.ensures.spots)

pub invariant_of-self-2 : goal.invariant_of-self-2
invariant_of-self-2 g c =
    let e = c.event.result.now in
    let kept = c.self.invariant.0 in
    let b = booked c.caller.result c.self.inside.board c.step.new.self c.in-Did.place c.in-Did.told e c.in-Did.ensures.step.2 c.event.ensures in
    let more = one_more c.caller.result c.self.inside.board c.step.new.self c.in-Did.told e b c.caller.ensures.range.0 in
    let books = c.count_event.ensures.books in
    let none = c.in-Did.ensures.step.1 in (
      record {
        opening = b.began ∙ kept.opening;
        closings = ap (λ (t : Totals). t.closings) books ∙ (ap (λ n. n + one_end e) kept.closings ∙ sym b.ends);
        dids = ap (λ (t : Totals). t.dids) books ∙ (ap (λ n. n + 1) kept.dids ∙ sym more);
        rights = let same = b.stops in let left = ap (λ (t : Totals). t.rights) books in let all = kept.rights in omega arith;
        words = kept.words;
        states = c.step.ensures.agree;
      },
      carried_next g.N.Naming.carried g.N.Naming.opening c.caller.result c.in-Did.place c.self.inside.board c.step.new.self c.in-Did.told c.self.invariant.1 c.in-Did.ensures.step.2
          (λ ticket chosen. absurd (ends_none c.self.inside.board.world c.caller.result ticket none chosen)),
    )

pub returns : goal.returns
returns g c =
    let e = c.event.result.now in
    let a = c.in-Did.ensures.step.2 in
    let b = booked c.caller.result c.self.inside.board c.step.new.self c.in-Did.place c.in-Did.told e a c.event.ensures in (
      e,
      record {
        shows = record { began = ap (λ t. t.began) a.told ∙ c.self.invariant.0.opening; caller = ap (λ t. t.caller) a.told ∙ c.caller.ensures.caller };
        answer = ap (λ t. t.answer) a.told;
        shown = b.event;
        by = b.caller ∙ c.caller.ensures.caller;
      },
      c.settle.ensures.rest ∙ ap (λ s. settled s c.settle.new.seat.leases) c.count_event.ensures.seat,
      subst (λ (t : View × LeaseStep). Settles t.0 t.1 c.settle.new.seat.leases) (λ i. (ap (λ s. s.leases) c.count_event.ensures.seat i, c.lease.ensures i)) c.settle.ensures.leases,
    )
