use Rattle.std.proofs.Common.{◌∙◌, ◌+◌, ◌&&◌, ◌||◌, ◌==◌, ℕ, Bool, false, None, get_or, ap, sym, arith}
use Rattle.std.proofs.lemmas.List.Folds.{list_any_more}
use Rattle.run_rules.specs.declared.world.Dev.{Dev}
use Rattle.run_rules.specs.World.{driver_of}
use Rattle.plain_search.proofs.units.mark_taken.Goals as goal

-- what stands past the end
abbrev blank : Dev
blank = record { serial = 0; row = 0; unit = 0; parent = 0; spot = 0; asleep = false; condemned = None }

pub loop-device-preserved : goal.loop-device-preserved
loop-device-preserved c = λ k lt.
    let devices = c.args.devices.now in
    let i = c.loop-device.device-index in
    let d : Dev = get_or devices i blank in
    let p : Dev → Bool = λ e. driver_of c.args.rules.now e.row == c.args.driver && e.unit == c.args.first + k in
    c.mark.ensures k lt
    ∙ ap (λ (n : ℕ). get_or c.loop-device.marks k false || (n == c.args.driver && d.unit == c.args.first + k)) c.driver_of.ensures
    ∙ ap (λ (b : Bool). b || p d) (c.loop-device.invariant k (omega (arith, lt, c.mark.auto.marks)))
    ∙ sym (list_any_more p devices i blank c.loop-device-test.true)
