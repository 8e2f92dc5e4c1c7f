-- Which items stand, by kind and name, and the negations that take back nothing.
use Rattle.std.specs.Prelude.{◌≡◌, ℕ, Bool, true, false, not, List, [], map, filter, if◌then◌else◌}
use Rattle.std.specs.Option.{unwrap_or}
use Rattle.std.specs.HashMap.{HashMap, get_by}
use Rattle.std.specs.Str.{bytes_eq}
use Rattle.cf_types.specs.declared.stmt.ItemKind.{ItemKind}
use Rattle.cf_types.specs.declared.stmt.ItemKind.TheVariants as of_kind
use Rattle.cf_types.specs.declared.stmt.Stmt.{Stmt}
use Rattle.cf_types.specs.declared.stmt.Stmt.TheVariants as stmt
use Rattle.cf_options.specs.Last.{is_dropped}
use Rattle.cf_options.specs.declared.standing.Flags.{Flags}
use denote.Ref.{Bor}

-- what a map has for a name, or false
abbrev pub flag_of : {S : Type 0} → HashMap (Bor (List ℕ)) Bool S → List ℕ → Bool
flag_of flags name = unwrap_or (get_by (λ k. bytes_eq name k.now) flags) false

-- of the names that are negated behind a place, those that pass the test got this value, and the others have what they had
abbrev pub Sets : {S T : Type 0} → HashMap (Bor (List ℕ)) ℕ S → ℕ → (List ℕ → Bool) → Bool → HashMap (Bor (List ℕ)) Bool T → HashMap (Bor (List ℕ)) Bool T → Type 0
Sets last place test value old new = (q : List ℕ) → is_dropped last place q ≡ true → flag_of new q ≡ (if test q then value else flag_of old q)

-- an item of the kind and name stands
abbrev pub stands_in : Flags → ItemKind → List ℕ → Bool
stands_in flags of_kind.Options name = flag_of flags.options name
stands_in flags of_kind.MakeOptions name = flag_of flags.makeoptions name
stands_in flags of_kind.PseudoDevice name = flag_of flags.pseudos name
stands_in flags of_kind.FileSystem name = flag_of flags.file_systems name

-- a place, once for each of the names of which nothing stands
abbrev pub idle_places : (List ℕ → Bool) → List (List ℕ) → ℕ → List ℕ
idle_places stands names place = map (λ name. place) (filter (λ name. not (stands name)) names)

-- the place of a negation, once for each of its names of which nothing stands
abbrev pub idle_of : (ItemKind → List ℕ → Bool) → Stmt → ℕ → List ℕ
idle_of stands (stmt.NoItems kind names) place = idle_places (stands kind) names place
idle_of stands _ place = []
