-- Where the graph is that of the tables, what it says of carriers is what the tables say.
use Rattle.std.proofs.Common.{◌≡◌, ℕ, ◌&&◌, Bool, true, false, List, [], ◌∷◌, length, refl, ap, sym, ◌∙◌}
use Rattle.std.specs.Prelude.{Some, None, Option, slice_get}
use Rattle.std.specs.Option.{option_map_or}
use Rattle.attr_graph.specs.Reach.{Shape}
use Rattle.cf_types.specs.declared.tables.Place.{Place}
use Rattle.cf_types.specs.declared.tables.Place.TheVariants.{Root, At}
use Rattle.config_rules.specs.Declared.{Declared}
use Rattle.config_rules.specs.Select.{AreRooted, Inst, LeadsToRoot, RootedInsts, carries, carries_at, is_at_root_at, is_parent, offered_by, offers_place}
use Rattle.attr_graph.specs.Graphs.{IsGraphOf}
use Rattle.attr_graph.proofs.GraphLaws.{graph_offers}
use Rattle.cf_select.specs.Carried.{RootedIn, offered_in}

place_alike : (f g : ℕ → ℕ → Bool) → ((d a : ℕ) → f d a ≡ g d a) → (device : ℕ) (place : Place) → offers_place f device place ≡ offers_place g device place
place_alike f g same device Root = refl
place_alike f g same device (At a) = same device a

carried_alike : (f g : ℕ → ℕ → Bool) → ((d a : ℕ) → f d a ≡ g d a) → (j i : Option Inst)
    → option_map_or (λ x. option_map_or (λ y. carries f x y) i false) j false ≡ option_map_or (λ x. option_map_or (λ y. carries g x y) i false) j false
carried_alike f g same None i = refl
carried_alike f g same (Some x) None = refl
carried_alike f g same (Some x) (Some y) = ap (λ b. b && option_map_or (λ p. is_parent p x) y.parent true) (place_alike f g same x.device y.place)

leads_along : (at_root : ℕ → Bool) (f g : ℕ → ℕ → Bool) (n : ℕ) → ((j i : ℕ) → f j i ≡ g j i) → (i : ℕ) (chain : List ℕ) → LeadsToRoot at_root f n i chain → LeadsToRoot at_root g n i chain
leads_along at_root f g n same i [] h = h
leads_along at_root f g n same i (j ∷ chain) h = (h.0, sym (same j i) ∙ h.1, leads_along at_root f g n same j chain h.2)

rooted_along : (at_root : ℕ → Bool) (f g : ℕ → ℕ → Bool) (n : ℕ) (marks : List Bool) → ((j i : ℕ) → f j i ≡ g j i) → AreRooted at_root f n marks → AreRooted at_root g n marks
rooted_along at_root f g n marks same h = record {
  as_many = h.as_many;
  sound = λ i lt m. let r = h.sound i lt m in (r.0, leads_along at_root f g n same i r.0 r.1);
  complete = λ i r. h.complete i (r.0, leads_along at_root g f n (λ j k. sym (same j k)) i r.0 r.1);
}

-- what is rooted in the graph is rooted in the tables
pub rooted_in_tables : (d : Declared) (graph : Shape) (insts : List Inst) (marks : List Bool) → IsGraphOf d graph → RootedIn graph insts marks → RootedInsts d insts marks
rooted_in_tables d graph insts marks h r =
    rooted_along (is_at_root_at insts) (carries_at (offered_in graph) insts) (carries_at (offered_by d) insts) (length insts) marks
    (λ j i. carried_alike (offered_in graph) (offered_by d) (graph_offers d graph h) (slice_get insts j) (slice_get insts i)) r
