-- Lists of rows by their places: one row more.
use Rattle.std.proofs.Common.{◌≡◌, ℕ, ◌+◌, ◌<◌, Bool, true, false, ◌==◌, List, [], ◌∷◌, ◌++◌, length, get_or, slice_get, slice_set, Some, refl, subst, sym, ◌∙◌, ap, inl, inr, eq-eqb, arith}
use Rattle.std.specs.Global.{Global}
use Rattle.std.specs.Prelude.{Vec}
use Rattle.std.proofs.lemmas.Bool.{cases_lt, eqb-true, false≢true}
use Rattle.std.proofs.lemmas.List.{get_or-set_other, get_or-set_same, length-map}
use Rattle.std.proofs.lemmas.Option.{same_Some, slice_get_read, slice_get_within}
use Rattle.cf_types.specs.declared.tables.Place.{Place}
use Rattle.cf_types.specs.declared.tables.Place.TheVariants.{Root, At}
use Rattle.cf_types.specs.declared.tables.Row.{Row}
use Rattle.cf_types.specs.Gather.{is_in}
use Rattle.match_search.specs.declared.lists.PlaceLists.{PlaceLists}
use Rattle.match_search.specs.Fixed.{lists_of}
use Rattle.match_search.specs.Lists.{AreListed, HasRow, IsListed, rows_in}
use Rattle.match_search.proofs.FixedLaws.{lists_set, self_in}
use Rattle.match_search.proofs.PlacedLaws.{in_left}

-- ---- one row more in the list of an attribute

pub attr_more : (old new : PlaceLists) (a n : ℕ) (list : Vec ℕ Global) → a < length old.attrs.items → list.items ≡ get_or (lists_of old.attrs.items) a old.root.items ++ n ∷ []
    → new.root.items ≡ old.root.items → new.attrs.items ≡ slice_set old.attrs.items a list → HasRow old new (At a) n
attr_more old new a n list lt more root set = record {
  kept = kept;
  there = ap (is_in n) here ∙ ap (is_in n) more ∙ self_in n (get_or lists a all);
}
  where
    all : List ℕ
    all = old.root.items

    lists : List (List ℕ)
    lists = lists_of old.attrs.items

    is : (b : ℕ) → rows_in new (At b) ≡ get_or (slice_set lists a list.items) b all
    is b = ap (λ ls. get_or (lists_of ls) b new.root.items) set ∙ ap (get_or (lists_of (slice_set old.attrs.items a list)) b) root ∙ ap (λ ls. get_or ls b all) (lists_set old.attrs.items a list)

    here : rows_in new (At a) ≡ list.items
    here = is a ∙ get_or-set_same lists a list.items all (omega (arith, length-map old.attrs.items (λ (v : Vec ℕ Global). v.items), lt))

    at : (r b : ℕ) (same : Bool) → (a == b) ≡ same → is_in r (get_or lists b all) ≡ true → is_in r (rows_in new (At b)) ≡ true
    at r b true e h =
        let it : a ≡ b = eqb-true a b e in
        ap (λ i. is_in r (rows_in new (At i))) (sym it) ∙ ap (is_in r) (here ∙ more)
        ∙ in_left r (get_or lists a all) (n ∷ []) (ap (λ i. is_in r (get_or lists i all)) it ∙ h)
    at r b false e h = ap (is_in r) (is b ∙ get_or-set_other lists a b list.items all (λ q. false≢true (sym e ∙ eq-eqb a b (sym q)))) ∙ h

    kept : (p : Place) (r : ℕ) → is_in r (rows_in old p) ≡ true → is_in r (rows_in new p) ≡ true
    kept Root r h = ap (is_in r) root ∙ h
    kept (At b) r h = at r b (a == b) refl h

-- ---- all rows

-- one row more is in its list
pub one_listed : (rows : List Row) (n : ℕ) (row : Row) (old new : PlaceLists) → n < length rows → row ≡ get_or rows n row
    → ((r : ℕ) → r < n → IsListed rows old r) → HasRow old new row.place n → (r : ℕ) → r < n + 1 → IsListed rows new r
one_listed rows n row old new lt at before more r less = elim (cases_lt r n) [
  | inl under ↦ λ here is. more.kept here.place r (before r under here is)
  | inr above ↦ λ here is.
      let same : r ≡ n = omega arith in
      let read : slice_get rows n ≡ Some row = slice_get_read rows (length rows) n row refl lt at in
      let this : row ≡ here = same_Some row here (sym read ∙ ap (slice_get rows) (sym same) ∙ is) in
      subst (λ (it : Row). is_in r (rows_in new it.place) ≡ true) this (ap (λ i. is_in i (rows_in new row.place)) same ∙ more.there)
]

-- all rows are
pub all_listed : (rows : List Row) (n : ℕ) (lists : PlaceLists) → n ≡ length rows → ((r : ℕ) → r < n → IsListed rows lists r) → AreListed rows lists
all_listed rows n lists end listed r row is = listed r (omega (arith, end, slice_get_within rows r row is)) row is
