use Rattle.std.proofs.Common.{◌≡◌, ◌∙◌, Bool, true, cond, ap, sym}
use Rattle.run_rules.specs.After.{after, freed, freeing_target, over}
use Rattle.run_rules.specs.World.{World, Caller, caller_at, nobody}
use Rattle.run_world.specs.View.{world_of, caller_of}
use Rattle.run_world.proofs.CallerLaws.{at_is}
use Rattle.deed_effect.proofs.freed.free.Goals as goal

pub returns-then-is_over-clause-world : goal.returns-then-is_over-clause-world
unfolding after
returns-then-is_over-clause-world c =
    let core = c.args.core.now in
    let w : World = world_of c.args.site.now.setup core in
    let k = c.args.caller in
    let of = c.args.of in
    let target : freeing_target (caller_at w k).doing of ≡ true =
    ap (λ (x : Caller). freeing_target x.doing of) (sym (at_is caller_of core.callers.items k c.index.result.now nobody c.requires.caller c.index.ensures))
    ∙ sym c.is_target-is_over.ensures ∙ c.if-is_over.true in
    c.finish.ensures.world c.args.site.now.setup ∙ ap (λ (v : World). over v k) c.free_device.ensures.world
    ∙ ap (λ (b : Bool). cond b (over (freed w of) k) (freed w of)) (sym target)

pub free_device-requires : goal.free_device-requires
free_device-requires c = record {
  books = c.requires.books;
  sound = c.requires.sound;
  rows = c.requires.rows;
  live = c.requires.live;
  children = c.requires.children;
}

pub returns-then-is_over-clause-books : goal.returns-then-is_over-clause-books
returns-then-is_over-clause-books c = c.finish.ensures.books c.args.site.now.setup c.free_device.ensures.books
