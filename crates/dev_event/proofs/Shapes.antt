-- What names and numbers lack, and that they are read from what they spell.
use Rattle.std.proofs.Common.{◌≡◌, ℕ, ◌+◌, ◌*◌, ◌/◌, ◌%◌, ◌^◌, ◌<◌, ◌≤◌, ◌==◌, Bool, true, false, ◌&&◌, not, nat_le, List, [], ◌∷◌, ◌++◌, length, decimal, Some, refl, sym, ap, ◌∙◌, arith}
use Rattle.std.specs.Prelude.{bytes_eq}
use Rattle.std.specs.List.{list_all}
use Rattle.std.proofs.lemmas.Bool.{and_parts, ne_eqb}
use Rattle.std.proofs.lemmas.Bool.Decides.{nat_tests}
use Rattle.std.proofs.lemmas.Fmt.{decimal_by_steps}
use Rattle.std.proofs.lemmas.List.Sums.{fold-append}
use Rattle.cf_text.specs.Shapes.{begins_name, continues_name, ends_with_digit, is_name, is_written}
use Rattle.run_rules.specs.Lines.{IsDeviceName, IsFormedName, IsSpotName, is_known_name}
use Rattle.run_rules.specs.World.{root_name}
use Rattle.run_rules.proofs.NameParts.{AllDigits, IsDigit, all_digits}
use Rattle.dev_event.specs.Reading.{name_in, number_in}
use Rattle.dev_event.proofs.Cuts.{Lacks}

-- ---- names

-- a byte that passes a test is none that does not
apart : (p : ℕ → Bool) (m c : ℕ) → p m ≡ false → p c ≡ true → (c == m) ≡ false
apart p m c not_m is_c = ne_eqb c m (λ same. let never : true ≡ false = sym is_c ∙ ap p same ∙ not_m in absurd cc)

all_apart : (m : ℕ) (cs : List ℕ) → continues_name m ≡ false → list_all continues_name cs ≡ true → Lacks m cs
all_apart m [] not_m all = tt
all_apart m (c ∷ cs) not_m all =
    let parts = and_parts (continues_name c) (list_all continues_name cs) all in (apart continues_name m c not_m parts.0, all_apart m cs not_m parts.1)

name_lacks : (m : ℕ) (name : List ℕ) → begins_name m ≡ false → continues_name m ≡ false → is_name name ≡ true → Lacks m name
name_lacks m [] not_first not_more is = absurd cc
name_lacks m (c ∷ cs) not_first not_more is =
    let parts = and_parts (begins_name c) (list_all continues_name cs) is in (apart begins_name m c not_first parts.0, all_apart m cs not_more parts.1)

known_is_name : (name : List ℕ) → IsFormedName name → is_name name ≡ true
known_is_name name known = (and_parts (is_name name) (nat_le (length name) 80) known).0

pub no_blank : (name : List ℕ) → IsFormedName name → Lacks 32 name
no_blank name known = name_lacks 32 name refl refl (known_is_name name known)

pub no_colon : (name : List ℕ) → IsFormedName name → Lacks 58 name
no_colon name known = name_lacks 58 name refl refl (known_is_name name known)

pub name_read : (name : List ℕ) → IsFormedName name → name_in name ≡ Some name
name_read name known = rw known refl

both_true : (a b : Bool) → a ≡ true → b ≡ true → (a && b) ≡ true
both_true a b x y = rw (x, y) refl

longer : (n : ℕ) → nat_le n 63 ≡ true → nat_le n 80 ≡ true
longer n h = grind (arith, nat_tests, h)

pub spot_known : (name : List ℕ) → IsSpotName name → IsFormedName name
spot_known name spot =
    let written = and_parts (nat_le (length name) 63) (is_name name) (and_parts (is_written name) (not (bytes_eq name root_name)) spot).0 in
    both_true (is_name name) (nat_le (length name) 80) written.1 (longer (length name) written.0)

-- a device's name is no word that ends otherwise
pub device_is_not : (name word : List ℕ) → IsDeviceName name → ends_with_digit word ≡ false → name ≡ word → ⊥
device_is_not name word device plain same =
    let digit : ends_with_digit name ≡ true = (and_parts (is_known_name name) (ends_with_digit name) device).1 in
    let never : true ≡ false = sym digit ∙ ap ends_with_digit same ∙ plain in
    absurd cc

-- a name does not begin with this byte
pub name_begins : (m c : ℕ) (cs : List ℕ) → begins_name m ≡ false → IsFormedName (c ∷ cs) → (c == m) ≡ false
name_begins m c cs not_first known = apart begins_name m c not_first (and_parts (begins_name c) (list_all continues_name cs) (known_is_name (c ∷ cs) known)).0

pub name_there : (name : List ℕ) → IsFormedName name → name ≡ [] → ⊥
name_there [] known none = absurd cc
name_there (c ∷ cs) known none = absurd cc

-- ---- numbers

digits_lack : (m : ℕ) (ds : List ℕ) → ((b : ℕ) → IsDigit b → b ≡ m → ⊥) → AllDigits ds → Lacks m ds
digits_lack m [] other all = tt
digits_lack m (d ∷ ds) other all = (ne_eqb d m (other d all.0), digits_lack m ds other all.1)

pub digits_no_blank : (n : ℕ) → n < 2 ^ 32 → Lacks 32 (decimal n)
digits_no_blank n fits = digits_lack 32 (decimal n) (λ b digit same. absurd (omega arith)) (all_digits n (omega arith))

pub digits_no_dot : (n : ℕ) → n < 2 ^ 32 → Lacks 46 (decimal n)
digits_no_dot n fits = digits_lack 46 (decimal n) (λ b digit same. absurd (omega arith)) (all_digits n (omega arith))

pub digits_no_colon : (n : ℕ) → n < 2 ^ 32 → Lacks 58 (decimal n)
digits_no_colon n fits = digits_lack 58 (decimal n) (λ b digit same. absurd (omega arith)) (all_digits n (omega arith))

step : ℕ → ℕ → ℕ
step n c = (n * 10 + c % 16) % 2 ^ 32

abbrev Reads : ℕ → List ℕ → Type 0
Reads n ds = n < 2 ^ 32 → number_in ds ≡ n

reads_one : (n : ℕ) → n < 10 → Reads n ((48 + n) ∷ [])
reads_one n lt fits = omega arith

reads_more : (n : ℕ) (ds : List ℕ) → 10 ≤ n → Reads (n / 10) ds → Reads n (ds ++ ((48 + n % 10) ∷ []))
reads_more n ds big so_far fits =
    let front : number_in ds ≡ n / 10 = so_far (omega arith) in
    fold-append (λ (m c : ℕ). (m * 10 + c % 16) % 2 ^ 32) 0 ds ((48 + n % 10) ∷ [])
    ∙ ap (λ m. (m * 10 + (48 + n % 10) % 16) % 2 ^ 32) front
    ∙ last n fits
  where
    last : (n : ℕ) → n < 2 ^ 32 → (n / 10 * 10 + (48 + n % 10) % 16) % 2 ^ 32 ≡ n
    last n fits =
        let digit : (48 + n % 10) % 16 ≡ n % 10 = omega arith in
        let whole : n / 10 * 10 + n % 10 ≡ n = omega arith in
        ap (λ d. (n / 10 * 10 + d) % 2 ^ 32) digit ∙ ap (λ m. m % 2 ^ 32) whole ∙ omega arith

pub number_read : (n : ℕ) → n < 2 ^ 32 → number_in (decimal n) ≡ n
number_read n fits = decimal_by_steps Reads reads_one reads_more n (omega arith) fits
