use Rattle.std.proofs.Common.{◌≡◌, ◌<◌, ◌+◌, ◌∙◌, List, Option, length, sym, ap, subst, arith}
use Rattle.plain_world.specs.Plain.{world_of}
use Rattle.plain_world.specs.LiveDevices.{LiveDevices}
use Rattle.boot_looks.specs.declared.see.Span.{Span}
use Rattle.boot_looks.specs.declared.visit.Look.{Look}
use Rattle.boot_looks.specs.Looks.{span_of}
use Rattle.boot_looks.proofs.Spans.{SeesTo, sees_one, sees_same, span_low}
use Rattle.boot_looks.proofs.see.see.Goals as goal
use Rattle.boot_looks.proofs.see.see.Goals.{in-Some+in_ok-live, in_default}

pub loop-spot-preserved : goal.loop-spot-preserved
loop-spot-preserved c =
    let world = world_of c.args.seeker.now.rules.now c.args.plain.now in
    let live = c.args.plain.now.live in
    let d = c.args.deed.now in
    let old = c.args.looks.now.items in
    let span = span_of d (length old) in
    let k = c.loop-spot.spot in
    let long : c.len.result ≡ length old = omega (arith, c.len.ensures, c.args.looks.now.ok.0) in
    let same : c.span_of-span.result ≡ span = c.span_of-span.ensures ∙ ap (span_of d) long in
    let end : c.span_of-span.result.end ≡ span.end = ap (λ (s : Span). s.end) same in
    let low : k < length old = omega (arith, c.loop-spot-test.true, end, span_low d (length old)) in
    elim c.match-visit_by.branch [
      | in-Some+in_ok-live w ↦
          sees_one world live d span k old c.loop-spot.looks.items c.match-visit_by.looks.items w.in-Some.visit (record { live = w.in_ok-live.live; visit = w.in-Some.visit }) low
          (sym c.visit_by.ensures ∙ w.in-Some.is) (ap (λ (l : LiveDevices). record { live = l; visit = w.in-Some.visit }) w.in_ok-live.ensures)
          (ap (λ v. v.items) w.looks-is ∙ w.put.ensures) c.loop-spot.invariant
      | in_default w ↦
          subst (λ (looks : List (Option Look)). SeesTo world live d span (k + 1) old looks) (sym (ap (λ v. v.items) w.looks-is))
          (sees_same world live d span k old c.loop-spot.looks.items (sym c.visit_by.ensures ∙ w.in_default.is) c.loop-spot.invariant)
    ]
