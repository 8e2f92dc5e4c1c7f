use Rattle.std.proofs.Common.{◌≡◌, false, List, sym, subst, ◌∙◌, None, arith}
use Rattle.run_rules.proofs.Marked.{condemned_at, condemned_past}
use Rattle.run_rules.specs.declared.world.Dev.{Dev}
use Rattle.run_rules.specs.After.{with_condemner}
use Rattle.dev_tree.proofs.Alike.{Alike, SamePlain, condemner_plain, half_alike, order_alike, under_alike}
use Rattle.dev_tree.proofs.Halves.{half_set, half_kept, half_all}
use Rattle.dev_tree.proofs.mark.condemn_each.Goals as goal
use Rattle.dev_tree.proofs.mark.condemn_each.Goals.{then-is_under, else-is_under}

-- what stands past the end
abbrev blank : Dev
blank = record { serial = 0; row = 0; unit = 0; parent = 0; spot = 0; asleep = false; condemned = None }

so_far : (live now : List Dev) (k s i : _) → now ≡ Rattle.dev_tree.proofs.Halves.half (with_condemner live k s) i live → Alike SamePlain live now
so_far live now k s i e = subst (Alike SamePlain live) (sym e) (half_alike (with_condemner live k s) (condemner_plain live k s) i live)

pub is_under-requires : goal.is_under-requires
is_under-requires c =
    order_alike c.args.live.now c.loop-place.live (so_far c.args.live.now c.loop-place.live c.args.caller c.args.serial c.loop-place.place c.loop-place.invariant) c.requires

pub loop-place-preserved : goal.loop-place-preserved
loop-place-preserved c =
    let old = c.args.live.now in
    let same = so_far old c.loop-place.live c.args.caller c.args.serial c.loop-place.place c.loop-place.invariant in
    elim c.if-is_under.branch [
      | then-is_under w ↦
          w.live-is ∙ half_set (with_condemner old c.args.caller c.args.serial) c.loop-place.place old c.loop-place.live blank _ (omega arith) c.loop-place.invariant
          (condemned_at old c.args.caller c.args.serial _ (under_alike old c.loop-place.live c.args.serial _ same ∙ c.is_under.ensures ∙ w.if-is_under.true))
      | else-is_under w ↦
          w.live-is ∙ half_kept (with_condemner old c.args.caller c.args.serial) c.loop-place.place old c.loop-place.live blank (omega arith) c.loop-place.invariant
          (condemned_past old c.args.caller c.args.serial _ (under_alike old c.loop-place.live c.args.serial _ same ∙ c.is_under.ensures ∙ w.if-is_under.false))
    ]

pub returns : goal.returns
returns c = half_all (with_condemner c.args.live.now c.args.caller c.args.serial) c.loop-place.place c.args.live.now c.loop-place.live (omega arith) c.loop-place.invariant
