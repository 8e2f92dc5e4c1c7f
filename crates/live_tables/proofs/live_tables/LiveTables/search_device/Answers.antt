use Rattle.std.proofs.Common.{◌≡◌, ◌∙◌, ◌<◌, length, get_or, ap, arith}
use Rattle.std.proofs.lemmas.Result.{err_from_is_err_and}
use Rattle.cf_types.specs.declared.tables.Place.TheVariants.{At}
use Rattle.cf_types.specs.Offers.{interfaces}
use Rattle.live_rules.specs.Live.{LiveSite}
use Rattle.live_tables.specs.Running.{offered_of}
use Rattle.live_tables.proofs.Offers.{device_begun, device_cut, device_more, device_whole, is_parent}
use Rattle.live_tables.proofs.live_tables.LiveTables.search_device.Goals as goal

pub loop-at-init : goal.loop-at-init
loop-at-init c = device_begun c.args.self.now c.args.lines.now.items c.args.parent c.args.driver c.stands.ensures.sound c.requires.known c.requires.driver

pub offered_at-requires : goal.offered_at-requires
offered_at-requires c =
    let same = ap (λ (t : LiveSite). length (interfaces t.setup.tables.attrs t.setup.tables.devices c.args.driver)) c.loop-at.invariant.brings.site in
    omega (arith, c.loop-at-test.true, c.count_offered-at-end.ensures, same)

pub search_place-requires : goal.search_place-requires
search_place-requires c =
    let there : c.loop-at.at < length (offered_of c.args.self.now c.args.driver) = omega (arith, c.loop-at-test.true, c.count_offered-at-end.ensures) in
    let is : c.offered_at.result ≡ get_or (offered_of c.args.self.now c.args.driver) c.loop-at.at 0 =
    c.offered_at.ensures ∙ ap (λ (t : LiveSite). get_or (interfaces t.setup.tables.attrs t.setup.tables.devices c.args.driver) c.loop-at.at 0) c.loop-at.invariant.brings.site in
    record {
      parent = is_parent c.args.self.now c.loop-at.self c.args.lines.now.items c.loop-at.lines.items c.args.parent c.args.driver c.loop-at.at (At c.offered_at.result) c.stands.ensures.sound
          c.loop-at.invariant.sound c.loop-at.invariant.brings c.requires.known c.requires.serials c.requires.driver there (ap At is);
    }

pub returns-in_err-search_place : goal.returns-in_err-search_place
returns-in_err-search_place c =
    let p = err_from_is_err_and c.from_residual.result c.from_residual.ensures.1 in
    let there : c.loop-at.at < length (offered_of c.args.self.now c.args.driver) = omega (arith, c.loop-at-test.true, c.count_offered-at-end.ensures) in
    let is : c.offered_at.result ≡ get_or (offered_of c.args.self.now c.args.driver) c.loop-at.at 0 =
    c.offered_at.ensures ∙ ap (λ (t : LiveSite). get_or (interfaces t.setup.tables.attrs t.setup.tables.devices c.args.driver) c.loop-at.at 0) c.loop-at.invariant.brings.site in
    rw p.1
    (device_cut c.args.self.now c.loop-at.self c.search_place.new.self c.args.lines.now.items c.loop-at.lines.items c.search_place.new.lines.items c.args.parent c.args.driver c.loop-at.at
    (At c.offered_at.result) p.0 there (ap At is) c.loop-at.invariant c.in_err-search_place.ensures)

pub loop-at-preserved : goal.loop-at-preserved
loop-at-preserved c =
    let there : c.loop-at.at < length (offered_of c.args.self.now c.args.driver) = omega (arith, c.loop-at-test.true, c.count_offered-at-end.ensures) in
    let is : c.offered_at.result ≡ get_or (offered_of c.args.self.now c.args.driver) c.loop-at.at 0 =
    c.offered_at.ensures ∙ ap (λ (t : LiveSite). get_or (interfaces t.setup.tables.attrs t.setup.tables.devices c.args.driver) c.loop-at.at 0) c.loop-at.invariant.brings.site in
    device_more c.args.self.now c.loop-at.self c.search_place.new.self c.args.lines.now.items c.loop-at.lines.items c.search_place.new.lines.items c.args.parent c.args.driver c.loop-at.at
    (At c.offered_at.result) there (ap At is) c.stands-in-loop-at.ensures.sound c.loop-at.invariant c.in_ok-search_place.ensures.brings c.in_ok-search_place.ensures.ok

pub returns : goal.returns
returns c =
    device_whole c.args.self.now c.loop-at.self c.args.lines.now.items c.loop-at.lines.items c.args.parent c.args.driver c.loop-at.at (omega (arith, c.loop-at-test.false, c.count_offered-at-end.ensures)) c.loop-at.invariant
