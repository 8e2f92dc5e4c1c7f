use Rattle.std.proofs.Common.{◌≡◌, ◌∙◌, ◌-◌, suc, false, true, get_or, length, ap, arith, subst, sym}
use Rattle.std.proofs.lemmas.List.{length-map}
use Rattle.run_rules.specs.declared.world.Dev.{Dev}
use Rattle.run_rules.specs.World.{children}
use Rattle.live_rules.specs.Live.{is_doomed}
use Rattle.live_tables.specs.Going.{without_device}
use Rattle.live_tables.specs.Running.{Running}
use Rattle.live_tables.proofs.Dooms.{mark_of}
use Rattle.live_tables.proofs.Goings.{GoneSoFar, all_gone, here_bare, here_is, here_lives, none_gone, one_gone, one_stays}
use Rattle.live_tables.proofs.Passes.{blank}
use Rattle.live_tables.proofs.live_tables.LiveTables.free_doomed.Goals as goal

pub loop-at-init : goal.loop-at-init
loop-at-init c = none_gone c.args.self.now c.args.group (length c.args.doomed.now) (ap length c.requires.doomed ∙ length-map c.args.self.now.world.live (λ (d : Dev). is_doomed c.args.self.now.site c.args.self.now.world.live c.args.group d.serial))

pub free-requires-clause-there : goal.free-requires-clause-there
free-requires-clause-there c =
    let k = c.loop-at.at - 1 in
    let more : c.loop-at.at ≡ suc k = omega (arith, c.loop-at-test.true) in
    let h : GoneSoFar c.args.self.now c.loop-at.self c.args.group (suc k) = subst (GoneSoFar c.args.self.now c.loop-at.self c.args.group) more c.loop-at.invariant in
    (k, here_lives c.args.self.now c.loop-at.self c.args.group k h, sym (c.device_at.ensures c.device_at.result))

pub free-requires-clause-bare : goal.free-requires-clause-bare
free-requires-clause-bare c =
    let r : Running = c.args.self.now in
    let k = c.loop-at.at - 1 in
    let more : c.loop-at.at ≡ suc k = omega (arith, c.loop-at-test.true) in
    let h : GoneSoFar r c.loop-at.self c.args.group (suc k) = subst (GoneSoFar r c.loop-at.self c.args.group) more c.loop-at.invariant in
    let hit : is_doomed r.site r.world.live c.args.group (get_or r.world.live k blank).serial ≡ true =
    sym (mark_of (λ (d : Dev). is_doomed r.site r.world.live c.args.group d.serial) r.world.live k blank false (omega (arith, h.within))) ∙ rw c.requires.doomed at c.if-doomed-at.true in
    ap (λ (d : Dev). children c.loop-at.self.world.live d.serial) (c.device_at.ensures blank ∙ here_is r c.loop-at.self c.args.group k blank h) ∙ here_bare r c.loop-at.self c.args.group k c.stands.ensures.sound h hit

pub loop-at-preserved-then-doomed-at : goal.loop-at-preserved-then-doomed-at
loop-at-preserved-then-doomed-at c =
    let r : Running = c.args.self.now in
    let k = c.loop-at.at - 1 in
    let more : c.loop-at.at ≡ suc k = omega (arith, c.loop-at-test.true) in
    let h : GoneSoFar r c.loop-at.self c.args.group (suc k) = subst (GoneSoFar r c.loop-at.self c.args.group) more c.loop-at.invariant in
    let hit : is_doomed r.site r.world.live c.args.group (get_or r.world.live k blank).serial ≡ true =
    sym (mark_of (λ (d : Dev). is_doomed r.site r.world.live c.args.group d.serial) r.world.live k blank false (omega (arith, h.within))) ∙ rw c.requires.doomed at c.if-doomed-at.true in
    one_gone r c.loop-at.self c.free.new.self c.args.group k c.stands.ensures.sound h hit
    (c.free.ensures ∙ ap (λ (d : Dev). without_device c.loop-at.self d.serial) (c.device_at.ensures blank ∙ here_is r c.loop-at.self c.args.group k blank h))

pub loop-at-preserved : goal.loop-at-preserved
loop-at-preserved c =
    let r : Running = c.args.self.now in
    let k = c.loop-at.at - 1 in
    let more : c.loop-at.at ≡ suc k = omega (arith, c.loop-at-test.true) in
    let h : GoneSoFar r c.loop-at.self c.args.group (suc k) = subst (GoneSoFar r c.loop-at.self c.args.group) more c.loop-at.invariant in
    one_stays r c.loop-at.self c.args.group k h
    (sym (mark_of (λ (d : Dev). is_doomed r.site r.world.live c.args.group d.serial) r.world.live k blank false (omega (arith, h.within))) ∙ rw c.requires.doomed at c.if-doomed-at.false)

pub returns : goal.returns
returns c = all_gone c.args.self.now c.loop-at.self c.args.group c.loop-at.at (omega (arith, c.loop-at-test.false)) c.loop-at.invariant
