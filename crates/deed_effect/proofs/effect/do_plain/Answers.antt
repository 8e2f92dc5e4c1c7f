use Rattle.run_world.specs.View.{world_of}
use Rattle.deed_effect.specs.Effects.{MayDo}
use Rattle.std.proofs.Common.{subst}
use Rattle.run_rules.specs.After.{after}
use Rattle.deed_effect.proofs.effect.do_plain.Goals as goal

pub returns-in-Refuse-clause-world : goal.returns-in-Refuse-clause-world
unfolding after
returns-in-Refuse-clause-world c = rw c.in-Refuse.is (c.finish.ensures.world c.args.site.now.setup)

pub returns-in-Refuse-clause-books : goal.returns-in-Refuse-clause-books
returns-in-Refuse-clause-books c = c.finish.ensures.books c.args.site.now.setup c.requires.books

pub returns-in-Tell-clause-world : goal.returns-in-Tell-clause-world
unfolding after
returns-in-Tell-clause-world c = rw c.in-Tell.is (c.finish-in-Tell.ensures.world c.args.site.now.setup)

pub returns-in-Tell-clause-books : goal.returns-in-Tell-clause-books
returns-in-Tell-clause-books c = c.finish-in-Tell.ensures.books c.args.site.now.setup c.requires.books

pub returns-in-Close-clause-world : goal.returns-in-Close-clause-world
returns-in-Close-clause-world c = rw c.in-Close.is (c.close.ensures.world c.args.site.now.setup)

pub returns-in-Close-clause-books : goal.returns-in-Close-clause-books
returns-in-Close-clause-books c = c.close.ensures.books c.args.site.now.setup c.requires.books

pub returns-in-Start-clause-world : goal.returns-in-Start-clause-world
unfolding after
returns-in-Start-clause-world c = rw c.in-Start.is (c.begin.ensures.world c.args.site.now.setup)

pub returns-in-Start-clause-books : goal.returns-in-Start-clause-books
returns-in-Start-clause-books c = c.begin.ensures.books c.args.site.now.setup c.requires.books

pub returns-in-Done-clause-books : goal.returns-in-Done-clause-books
returns-in-Done-clause-books c = c.finish_transfer.ensures.books c.args.site.now.setup c.requires.books

pub returns-in-Detach-clause-world : goal.returns-in-Detach-clause-world
returns-in-Detach-clause-world c = rw c.in-Detach.is (c.detach.ensures.world c.args.site.now.setup)

pub returns-in-Detach-clause-books : goal.returns-in-Detach-clause-books
returns-in-Detach-clause-books c = c.detach.ensures.books c.args.site.now.setup c.requires.books

pub returns-in-BeginPower-clause-world : goal.returns-in-BeginPower-clause-world
returns-in-BeginPower-clause-world c = rw c.in-BeginPower.is (c.begin_power.ensures.world c.args.site.now.setup)

pub returns-in-BeginPower-clause-books : goal.returns-in-BeginPower-clause-books
returns-in-BeginPower-clause-books c = c.begin_power.ensures.books c.args.site.now.setup c.requires.books

pub returns-in-EndPower-clause-books : goal.returns-in-EndPower-clause-books
returns-in-EndPower-clause-books c = c.end_power.ensures.books c.args.site.now.setup c.requires.books

pub returns-in-Sleep-clause-world : goal.returns-in-Sleep-clause-world
unfolding after
returns-in-Sleep-clause-world c = rw c.in-Sleep.is (c.rest.ensures.world c.args.site.now.setup)

pub returns-in-Sleep-clause-books : goal.returns-in-Sleep-clause-books
returns-in-Sleep-clause-books c = c.rest.ensures.books c.args.site.now.setup c.requires.books

pub returns-in-Wake-clause-world : goal.returns-in-Wake-clause-world
unfolding after
returns-in-Wake-clause-world c = rw c.in-Wake.is (c.rest-in-Wake.ensures.world c.args.site.now.setup)

pub returns-in-Wake-clause-books : goal.returns-in-Wake-clause-books
returns-in-Wake-clause-books c = c.rest-in-Wake.ensures.books c.args.site.now.setup c.requires.books

pub returns-in-Plug-clause-world : goal.returns-in-Plug-clause-world
returns-in-Plug-clause-world c = rw c.in-Plug.is (c.plug.ensures.world c.args.site.now.setup)

pub returns-in-Plug-clause-books : goal.returns-in-Plug-clause-books
returns-in-Plug-clause-books c = c.plug.ensures.books c.args.site.now.setup c.requires.books

pub returns-in-Drop-clause-world : goal.returns-in-Drop-clause-world
returns-in-Drop-clause-world c = rw c.in-Drop.is (c.give_back.ensures.world c.args.site.now.setup)

pub returns-in-Drop-clause-books : goal.returns-in-Drop-clause-books
returns-in-Drop-clause-books c = c.give_back.ensures.books c.args.site.now.setup c.requires.books

pub returns-in-EndCaller-clause-world : goal.returns-in-EndCaller-clause-world
unfolding after
returns-in-EndCaller-clause-world c = rw c.in-EndCaller.is (c.begin-in-EndCaller.ensures.world c.args.site.now.setup)

pub returns-in-EndCaller-clause-books : goal.returns-in-EndCaller-clause-books
returns-in-EndCaller-clause-books c = c.begin-in-EndCaller.ensures.books c.args.site.now.setup c.requires.books

pub close-requires-clause-held : goal.close-requires-clause-held
close-requires-clause-held c = subst (MayDo (world_of c.args.site.now.setup c.args.core.now) c.args.caller) c.in-Close.is c.requires.may

pub detach-requires-clause-live : goal.detach-requires-clause-live
detach-requires-clause-live c = subst (MayDo (world_of c.args.site.now.setup c.args.core.now) c.args.caller) c.in-Detach.is c.requires.may

pub free-requires-clause-live : goal.free-requires-clause-live
free-requires-clause-live c = (subst (MayDo (world_of c.args.site.now.setup c.args.core.now) c.args.caller) c.in-Free.is c.requires.may).0

pub free-requires-clause-children : goal.free-requires-clause-children
free-requires-clause-children c = (subst (MayDo (world_of c.args.site.now.setup c.args.core.now) c.args.caller) c.in-Free.is c.requires.may).1

pub give_back-requires : goal.give_back-requires
give_back-requires c = record { held = subst (MayDo (world_of c.args.site.now.setup c.args.core.now) c.args.caller) c.in-Drop.is c.requires.may }

pub rest-requires : goal.rest-requires
rest-requires c = record { live = subst (MayDo (world_of c.args.site.now.setup c.args.core.now) c.args.caller) c.in-Sleep.is c.requires.may }

pub rest-requires-in-Wake : goal.rest-requires-in-Wake
rest-requires-in-Wake c = record { live = subst (MayDo (world_of c.args.site.now.setup c.args.core.now) c.args.caller) c.in-Wake.is c.requires.may }

pub returns-in-Free-clause-books : goal.returns-in-Free-clause-books
returns-in-Free-clause-books c = c.free.ensures.books
