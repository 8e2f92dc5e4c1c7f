-- The paths of prefixes in one text, in which what a prefix adds to the one below it stands behind that.
use Rattle.std.specs.Prelude.{◌≡◌, ℕ, ◌≤◌, ◌<◌, Bool, true, false, ◌==◌, if◌then◌else◌, List, [], ◌∷◌, ◌++◌, Option, Some, None, length, take, drop, slice_index}
use Rattle.cf_expand.specs.declared.prefixes.PathSpan.{PathSpan}

-- the path that stands there
abbrev pub path_at : List ℕ → PathSpan → List ℕ
path_at text s = drop s.start (take s.end text)

-- where a prefix ends, 0 where there is none
abbrev pub end_of : Option PathSpan → ℕ
end_of None = 0
end_of (Some s) = s.end

-- the top one of these
abbrev pub top_of : List PathSpan → Option PathSpan
top_of [] = None
top_of (s ∷ spans) = Some s

-- each begins before it ends, and ends within what the one above it leaves
abbrev pub AreNested : ℕ → List PathSpan → Type 0
AreNested n [] = 0 ≤ n
AreNested n (s ∷ spans) = (s.start ≤ s.end) × (s.end ≤ n) × AreNested s.end spans

-- a path behind a prefix and one `/`, or a path that begins with `/` alone
abbrev pub behind : List ℕ → Option PathSpan → List ℕ → List ℕ
behind text None path = path
behind text (Some top) path = if slice_index path 0 == 47 then path else path_at text top ++ 47 ∷ path

-- the top one went, or there is none
abbrev pub PopsTop : List (List ℕ) → Bool → List (List ℕ) → Type 0
PopsTop old true new = (0 < length old) × (new ≡ drop 1 old)
PopsTop old false new = (old ≡ []) × (new ≡ old)
