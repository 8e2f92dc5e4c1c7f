use Rattle.std.proofs.Common.{◌<◌, sym, subst}
use Rattle.run_rules.specs.World.{World, Caller}
use Rattle.deed_effect.specs.Effects.{MayDo}
use Rattle.run_world.specs.View.{world_of}
use Rattle.run_world.proofs.CallerLaws.{state_is}
use Rattle.deed_effect.proofs.EffectLaws.{err_more, few_locators, known_given, may_do, over_fits, unplug_may, plain_is_left}
use Rattle.deed_effect.proofs.effect.do_command.Goals as goal

pub open-requires-clause-low : goal.open-requires-clause-low
open-requires-clause-low c =
    let w : World = world_of c.args.site.now.setup c.args.core.now in
    subst (λ (x : Caller). x.over < 4294967295) (sym (state_is c.args.core.now.callers.items c.args.caller)) (over_fits w c.args.caller c.requires.may c.requires.kept)

pub unplug-requires-clause-low : goal.unplug-requires-clause-low
unplug-requires-clause-low c =
    let w : World = world_of c.args.site.now.setup c.args.core.now in
    subst (λ (x : Caller). x.over < 4294967295) (sym (state_is c.args.core.now.callers.items c.args.caller)) (over_fits w c.args.caller c.requires.may c.requires.kept)

pub open-requires-clause-holder : goal.open-requires-clause-holder
open-requires-clause-holder c =
    let w : World = world_of c.args.site.now.setup c.args.core.now in
    (subst (MayDo w c.args.caller) c.in-Open.is (may_do w c.args.caller c.args.deed.now c.requires.may c.requires.kept c.requires.chosen)).0

pub open-requires-clause-room : goal.open-requires-clause-room
open-requires-clause-room c =
    let w : World = world_of c.args.site.now.setup c.args.core.now in
    (subst (MayDo w c.args.caller) c.in-Open.is (may_do w c.args.caller c.args.deed.now c.requires.may c.requires.kept c.requires.chosen)).1

pub rescan-requires-clause-few : goal.rescan-requires-clause-few
rescan-requires-clause-few c = λ a. few_locators c.args.site.now.setup a c.requires.may

pub rescan-requires-clause-known : goal.rescan-requires-clause-known
rescan-requires-clause-known c =
    let w : World = world_of c.args.site.now.setup c.args.core.now in
    known_given w c.args.caller c.in-Rescan.of c.in-Rescan.only (rw c.in-Rescan.is at c.requires.chosen)

pub unplug-requires-clause-live : goal.unplug-requires-clause-live
unplug-requires-clause-live c =
    let w : World = world_of c.args.site.now.setup c.args.core.now in
    unplug_may w c.args.caller c.in-Unplug.spot c.in-Unplug.of
    (subst (MayDo w c.args.caller) c.in-Unplug.is (may_do w c.args.caller c.args.deed.now c.requires.may c.requires.kept c.requires.chosen))

pub do_plain-requires : goal.do_plain-requires
do_plain-requires c =
    let w : World = world_of c.args.site.now.setup c.args.core.now in
    record {
      books = c.requires.books;
      sound = c.requires.kept.sound.devices;
      rows = c.requires.kept.ranges.devices.rows;
      caller = c.requires.caller;
      low = subst (λ (x : Caller). x.over < 4294967295) (sym (state_is c.args.core.now.callers.items c.args.caller)) (over_fits w c.args.caller c.requires.may c.requires.kept);
      may = may_do w c.args.caller c.args.deed.now c.requires.may c.requires.kept c.requires.chosen;
      plain = plain_is_left c.args.deed.now c.requires.command c.in_default.not-Open c.in_default.not-Rescan c.in_default.not-Unplug;
    }

pub returns-in-Open-clause-err : goal.returns-in-Open-clause-err
returns-in-Open-clause-err c = err_more c.open.result c.open.ensures.err (λ h. h c.args.site.now.setup)

pub returns-in-Unplug-clause-err : goal.returns-in-Unplug-clause-err
returns-in-Unplug-clause-err c = err_more c.unplug.result c.unplug.ensures.err (λ h. h c.args.site.now.setup)

pub returns-in_default-clause-ok : goal.returns-in_default-clause-ok
returns-in_default-clause-ok c = c.do_plain.ensures.world

pub returns-in_default-clause-books : goal.returns-in_default-clause-books
returns-in_default-clause-books c = c.do_plain.ensures.books

pub returns-in-Rescan-clause-ok : goal.returns-in-Rescan-clause-ok
returns-in-Rescan-clause-ok c = rw c.in-Rescan.is c.rescan.ensures.ok

pub returns-in-Rescan-clause-err : goal.returns-in-Rescan-clause-err
returns-in-Rescan-clause-err c = c.rescan.ensures.err

pub returns-in-Rescan-clause-books : goal.returns-in-Rescan-clause-books
returns-in-Rescan-clause-books c = c.rescan.ensures.books c.args.site.now.setup c.requires.books

pub returns-in-Open-clause-books : goal.returns-in-Open-clause-books
returns-in-Open-clause-books c = c.open.ensures.books c.args.site.now.setup c.requires.books

pub returns-in-Unplug-clause-books : goal.returns-in-Unplug-clause-books
returns-in-Unplug-clause-books c = c.unplug.ensures.books c.args.site.now.setup c.requires.books
