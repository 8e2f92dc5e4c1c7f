use Rattle.std.proofs.Common.{◌≡◌, ◌∙◌, ℕ, length, refl, sym, subst, arith}
use Rattle.plain_world.specs.declared.rules.Rules.{Rules}
use Rattle.every_order.specs.Noted.{AreNoted, Notes}
use Rattle.every_order.specs.Search.{AreMet}
use Rattle.every_order.proofs.Noting.{noted_more, noted_none}
use Rattle.every_order.proofs.ways.notes_of.Goals as goal

pub loop-place-init : goal.loop-place-init
loop-place-init c = record { rules = refl; noted = noted_none c.args.seeker.now.rules.now c.args.met.now _ refl c.new-ends.ensures.empty c.new-stuck.ensures.empty }

pub note-requires : goal.note-requires
note-requires c =
    let so = c.loop-place.invariant in
    record {
      met = subst (λ (r : Rules). AreMet r c.args.met.now) (sym so.rules) c.requires.met;
      place = omega (arith, c.loop-place-test.true);
      turns = so.noted.few;
      few = omega (arith, c.loop-place-test.true, c.requires.few);
    }

pub loop-place-preserved : goal.loop-place-preserved
loop-place-preserved c =
    let s = c.args.seeker.now.rules.now in
    let so = c.loop-place.invariant in
    record {
      rules = c.in_ok-note.ensures.rules ∙ so.rules;
      noted =
          noted_more s c.args.met.now c.loop-place.place c.loop-place.noted c.note.new.noted c.stands.ensures c.requires.met (omega (arith, c.loop-place-test.true)) so.noted
          (subst (λ (r : Rules). Notes r c.args.met.now c.loop-place.place c.loop-place.noted c.note.new.noted) so.rules c.in_ok-note.ensures.noted);
    }

pub returns : goal.returns
returns c =
    let all : c.loop-place.place ≡ length c.args.met.now = omega (arith, c.loop-place-test.false, c.loop-place.auto.place-end) in
    subst (λ (n : ℕ). AreNoted c.args.seeker.now.rules.now c.args.met.now n c.loop-place.noted) all c.loop-place.invariant.noted
