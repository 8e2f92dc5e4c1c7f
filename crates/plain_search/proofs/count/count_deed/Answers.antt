use Rattle.std.proofs.Common.{◌∙◌, ◌+◌, ◌-◌, ◌<◌, ℕ, List, ap, sym, subst, arith}
use Rattle.run_rules.specs.declared.world.Dev.{Dev}
use Rattle.run_rules.specs.After.{new_device}
use Rattle.run_rules.specs.Sound.{EachLater}
use Rattle.run_rules.specs.World.{device_at}
use Rattle.plain_rows.specs.Taken.{is_row_of, one_if, takers}
use Rattle.plain_search.proofs.DeedLaws.{comes, few_takers, goes, last_more, none_less, one_less, stays}
use Rattle.plain_search.proofs.count.count_deed.Goals as goal

pub enter-requires-clause-low : goal.enter-requires-clause-low
enter-requires-clause-low c = λ r. omega (arith, c.requires.counted r, few_takers c.args.rules.now c.args.live.now.devices r, c.requires.few)

pub returns-in-Some-clause-counted : goal.returns-in-Some-clause-counted
returns-in-Some-clause-counted c = λ w k same r.
    let s = c.args.rules.now in
    let a = c.in-Some.arrival in
    c.enter.ensures.numbers r ∙ ap (λ (n : ℕ). n + one_if (is_row_of s a.row a.unit r)) (c.requires.counted r ∙ ap (λ (ds : List Dev). takers s ds r) (sym same))
    ∙ sym (ap (λ (ds : List Dev). takers s ds r) (comes w k c.args.deed.now a c.in-Some.ensures) ∙ last_more s w.live (new_device w a) r)

pub returns-in-Some-device_at-clause-counted : goal.returns-in-Some-device_at-clause-counted
returns-in-Some-device_at-clause-counted c = λ w k same r.
    let s = c.args.rules.now in
    let d = c.in-Some-device_at.device in
    let serial = c.in-Some-going.serial in
    let order = subst (EachLater (λ d e. d.serial < e.serial)) (sym same) c.stands.ensures.later in
    let found = ap (λ (ds : List Dev). device_at ds serial) same ∙ sym c.device_at.ensures ∙ c.in-Some-device_at.is in
    c.leave.ensures.numbers r ∙ ap (λ (n : ℕ). n - one_if (is_row_of s d.row d.unit r)) (c.requires.counted r ∙ ap (λ (ds : List Dev). takers s ds r) (sym same))
    ∙ sym (ap (λ (ds : List Dev). takers s ds r) (goes w k c.args.deed.now serial (c.going.ensures ∙ c.in-Some-going.is)) ∙ one_less s w.live serial d r order found)

pub returns-in-None-device_at-clause-counted : goal.returns-in-None-device_at-clause-counted
returns-in-None-device_at-clause-counted c = λ w k same r.
    let s = c.args.rules.now in
    let serial = c.in-Some-going.serial in
    let found = ap (λ (ds : List Dev). device_at ds serial) same ∙ sym c.device_at.ensures ∙ c.in-None-device_at.is in
    c.requires.counted r ∙ ap (λ (ds : List Dev). takers s ds r) (sym same)
    ∙ sym (ap (λ (ds : List Dev). takers s ds r) (goes w k c.args.deed.now serial (c.going.ensures ∙ c.in-Some-going.is)) ∙ none_less s w.live serial r found)

pub returns-in-None-going-clause-counted : goal.returns-in-None-going-clause-counted
returns-in-None-going-clause-counted c = λ w k same r.
    let s = c.args.rules.now in
    c.requires.counted r ∙ ap (λ (ds : List Dev). takers s ds r) (sym same)
    ∙ sym (stays s w k c.args.deed.now r (c.coming.ensures ∙ c.in-None.is) (c.going.ensures ∙ c.in-None-going.is))
