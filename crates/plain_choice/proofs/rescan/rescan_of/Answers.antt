use Rattle.std.proofs.Common.{◌≡◌, ℕ, true, false, List, Option, Some, None, length, map, refl, sym, ap, ◌∙◌, arith}
use Rattle.std.specs.Prelude.{Vec, bytes_eq, option_map, position}
use Rattle.std.specs.Global.{Global}
use Rattle.std.specs.Option.{option_map_or}
use Rattle.cf_types.specs.Locators.{locators_at}
use Rattle.cf_types.specs.Offers.{interfaces}
use Rattle.cf_types.specs.declared.machine.Given.{Given}
use Rattle.cf_types.specs.declared.tables.Locator.{Locator}
use Rattle.cf_types.specs.declared.tables.Place.TheVariants.{At}
use Rattle.cf_types.specs.Lookups.{attr_number}
use Rattle.run_rules.specs.declared.deed.Deed.TheVariants.{Refuse, Rescan}
use Rattle.run_rules.specs.declared.deed.CommandRefusal.TheVariants as refusal
use Rattle.run_rules.specs.declared.world.Dev.{Dev}
use Rattle.run_rules.specs.declared.world.Setup.{Setup}
use Rattle.run_rules.specs.declared.world.Wanted.{Wanted}
use Rattle.run_rules.specs.Next.{rescan_of, wanted_of}
use Rattle.run_rules.specs.World.{World, has, offered_by}
use Rattle.plain_world.specs.Plain.{world_of}
use Rattle.plain_world.proofs.WantedLaws.{few_at}
use Rattle.plain_choice.proofs.rescan.rescan_of.Goals as goal
use Rattle.plain_choice.proofs.rescan.rescan_of.Goals.{in-Some-2, in-None}

abbrev items_of : Option (Vec Wanted Global) → Option (List Wanted)
items_of list = option_map (λ v. v.items) list

no_attr : (w : World) (d : Dev) (attr : Option (List ℕ)) (given : List Given) (name : List ℕ) → attr ≡ Some name → attr_number w.setup.tables.attrs name ≡ None → rescan_of w d attr given ≡ Refuse refusal.BadAttribute
unfolding rescan_of
no_attr w d attr given name is none = rw (is, none) refl

not_offered : (w : World) (d : Dev) (attr : Option (List ℕ)) (given : List Given) (name : List ℕ) (a : ℕ) → attr ≡ Some name → attr_number w.setup.tables.attrs name ≡ Some a → has (offered_by w.setup d.row) a ≡ false
    → rescan_of w d attr given ≡ Refuse refusal.BadAttribute
unfolding rescan_of
not_offered w d attr given name a is at off = rw (is, at, off) refl

on_attr : (w : World) (d : Dev) (attr : Option (List ℕ)) (given : List Given) (name : List ℕ) (a : ℕ) (o : Option (List Wanted)) → attr ≡ Some name → attr_number w.setup.tables.attrs name ≡ Some a
    → has (offered_by w.setup d.row) a ≡ true → wanted_of (map (λ l. l.name) (locators_at w.setup.tables.attrs (At a))) given ≡ o
    → rescan_of w d attr given ≡ option_map_or (λ wanted. Rescan d.serial (Some a)) o (Refuse refusal.BadLocator)
unfolding rescan_of
on_attr w d attr given name a o is at on wanted = rw (is, at, on, wanted) refl

pub returns-in_default-attr_named : goal.returns-in_default-attr_named
returns-in_default-attr_named c =
    no_attr (world_of c.args.rules.now c.args.plain.now) c.args.device c.args.limits.now.attr.now c.args.limits.now.given.now c.in-Some.name c.in-Some.is
    (ap (λ (x : List ℕ). position (λ a. bytes_eq a.name x) c.args.rules.now.tables.attrs) (sym c.bytes.ensures.bytes) ∙ c.attr_named.ensures ∙ c.in_default-attr_named.is)

pub returns-then-not-has : goal.returns-then-not-has
returns-then-not-has c =
    not_offered (world_of c.args.rules.now c.args.plain.now) c.args.device c.args.limits.now.attr.now c.args.limits.now.given.now c.in-Some.name c.in-Some-attr_named.attr c.in-Some.is
    (ap (λ (x : List ℕ). position (λ a. bytes_eq a.name x) c.args.rules.now.tables.attrs) (sym c.bytes.ensures.bytes) ∙ c.attr_named.ensures ∙ c.in-Some-attr_named.is)
    (ap (λ (driver : ℕ). has (interfaces c.args.rules.now.tables.attrs c.args.rules.now.tables.devices driver) c.in-Some-attr_named.attr) (sym c.driver_of.ensures)
    ∙ ap (λ (xs : List ℕ). has xs c.in-Some-attr_named.attr) (sym c.offered.ensures) ∙ sym c.has.ensures ∙ c.if-not-has.true)

pub wanted_of-requires : goal.wanted_of-requires
wanted_of-requires c = record {
  few = omega (arith, ap length c.locators_at.ensures, few_at c.rules.inside.tables.now.attrs (At c.in-Some-attr_named.attr) c.rules.invariant.may.tables.counted.locators);
}

pub returns : goal.returns
returns c =
    let all =
    λ (o : Option (List Wanted)) (wanted : wanted_of (map (λ l. l.name) (locators_at c.args.rules.now.tables.attrs (At c.in-Some-attr_named.attr))) c.args.limits.now.given.now ≡ o).
    on_attr (world_of c.args.rules.now c.args.plain.now) c.args.device c.args.limits.now.attr.now c.args.limits.now.given.now c.in-Some.name c.in-Some-attr_named.attr o c.in-Some.is
    (ap (λ (x : List ℕ). position (λ a. bytes_eq a.name x) c.args.rules.now.tables.attrs) (sym c.bytes.ensures.bytes) ∙ c.attr_named.ensures ∙ c.in-Some-attr_named.is)
    (ap (λ (driver : ℕ). has (interfaces c.args.rules.now.tables.attrs c.args.rules.now.tables.devices driver) c.in-Some-attr_named.attr) (sym c.driver_of.ensures)
    ∙ ap (λ (xs : List ℕ). has xs c.in-Some-attr_named.attr) (sym c.offered.ensures) ∙ sym c.has.ensures ∙ c.if-not-has.false)
    wanted in
    let listed = c.locators_at.ensures ∙ ap (λ (s : Setup). locators_at s.tables.attrs (At c.in-Some-attr_named.attr)) c.rules.view_is in
    let named =
    ap (λ (ls : List Locator). wanted_of (map (λ l. l.name) ls) c.args.limits.now.given.now) (sym listed) ∙ c.in_ok-wanted_of.ensures in
    elim c.match-branch-2.branch [
      | in-Some-2 w ↦ rw w.result-is (all (Some w.in-Some-2.field-0.items) (named ∙ ap items_of w.in-Some-2.is))
      | in-None w ↦ rw w.result-is (all None (named ∙ ap items_of w.in-None.is))
    ]
