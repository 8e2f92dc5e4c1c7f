-- Words for small configurations, and for what the definitions say of them.
use Rattle.std.specs.Prelude.{◌≡◌, ℕ, zero, suc, Bool, true, not, if◌then◌else◌, Option, Some, None, Result, Ok, Err, List, [], ◌∷◌, ◌++◌, length, map, filter, flat_map, bytes_eq, codes}
use Rattle.std.proofs.Common.{refl}
use Rattle.cf_types.specs.declared.stmt.Token.{Token}
use Rattle.cf_types.specs.declared.tables.Refusal.{Refusal}
use Rattle.config_rules.specs.Cut.{cut_of, is_stop, pieces}
use Rattle.config_rules.specs.Form.{form_fault}
use Rattle.config_rules.specs.Reading.{Files, reading}
use Rattle.config_rules.specs.Declared.{declared}
use Rattle.config_rules.specs.Fault.{first_fault, stmts_of}
use Rattle.config_rules.specs.Select.{Inst, is_at_root_at, carries_at, offered_by}
use Rattle.config_rules.specs.Meaning.{inst_of, surviving, tables_of, Means}
use Rattle.config_rules.specs.Listing.{listing}
use Rattle.cf_types.specs.declared.stmt.Stmt.{Stmt}
use Rattle.cf_types.specs.declared.tables.Tables.{Tables}
use Rattle.config_rules.proofs.RootedLaws.{are_marks, rooted_by}

-- a text of these lines
abbrev pub text : List (List ℕ) → List ℕ
text lines = flat_map (λ line. line ++ 10 ∷ []) lines

-- so many bytes `a`
abbrev pub many : ℕ → List ℕ
many zero = []
many (suc n) = 97 ∷ many n

-- files by their names
abbrev pub files : List (List ℕ × List ℕ) → Files
files [] name = None
files (f ∷ fs) name = if bytes_eq f.0 name then Some f.1 else files fs name

-- the code of the form of one line
abbrev pub form_code : List ℕ → Option ℕ
form_code line = form_fault (pieces line (tokens (cut_of line)))
  where
    tokens : Result (List Token) (ℕ × ℕ) → List Token
    tokens (Ok ts) = filter (λ t. not (is_stop t)) ts
    tokens (Err fault) = []

abbrev pub refusal_at : List ℕ → ℕ → ℕ → Refusal
refusal_at file line code = record { file = file; line = line; code = code }

-- the files, read from `conf` on, have their first fault in this file, at this line
abbrev pub RefusedIn : List (List ℕ × List ℕ) → List ℕ → ℕ → ℕ → Type 0
RefusedIn fs file line code = first_fault (files fs) (codes "conf") ≡ Some (refusal_at file line code)

-- they have none
abbrev pub TakenIn : List (List ℕ × List ℕ) → Type 0
TakenIn fs = first_fault (files fs) (codes "conf") ≡ None

-- the one file `conf` of these lines is refused
abbrev pub Refused : List (List ℕ) → ℕ → ℕ → Type 0
Refused lines line code = RefusedIn ((codes "conf", text lines) ∷ []) (codes "conf") line code

-- it is accepted
abbrev pub Taken : List (List ℕ) → Type 0
Taken lines = TakenIn ((codes "conf", text lines) ∷ [])

-- what matters of its surviving instances, and what they were declared with
abbrev pub stmts_in : Files → List Stmt
stmts_in fs = stmts_of (reading fs (codes "conf")).placed

abbrev pub insts_in : Files → List Inst
insts_in fs = map inst_of (surviving [] (stmts_in fs))

-- these of the surviving instances are rooted, each by a chain of such places
abbrev pub Roots : Files → List Bool → List (List ℕ) → Type 0
Roots fs rooted chains =
    are_marks (is_at_root_at (insts_in fs)) (carries_at (offered_by (declared (stmts_in fs))) (insts_in fs)) (length (insts_in fs)) rooted chains ≡ true

-- the files are accepted, and this is the listing of the tables that they mean
abbrev pub ListsIn : List (List ℕ × List ℕ) → List Bool → List (List ℕ) → List (List ℕ) → Type 0
ListsIn fs rooted chains shown =
    TakenIn fs × (length rooted ≡ length (insts_in (files fs))) × Roots (files fs) rooted chains
    × (listing (tables_of (reading (files fs) (codes "conf")) rooted) ≡ text shown)

-- the same of the one file `conf` of these lines
abbrev pub Lists : List (List ℕ) → List Bool → List (List ℕ) → List (List ℕ) → Type 0
Lists lines rooted chains shown = ListsIn ((codes "conf", text lines) ∷ []) rooted chains shown

-- some tables with this listing are what the files mean
pub record MeansListing (fs : List (List ℕ × List ℕ)) (shown : List (List ℕ)) : Type 0 where
  pub tables : Tables
  pub meant : Means (files fs) (codes "conf") tables
  pub listed : listing tables ≡ text shown

-- so the words above say what they should
pub lists_means : (fs : List (List ℕ × List ℕ)) (rooted : List Bool) (chains shown : List (List ℕ)) → ListsIn fs rooted chains shown → MeansListing fs shown
lists_means fs rooted chains shown h =
    let insts = insts_in (files fs) in
    record {
      tables = tables_of (reading (files fs) (codes "conf")) rooted;
      meant = record {
        accepted = h.0;
        marks = rooted;
        rooted = rooted_by (is_at_root_at insts) (carries_at (offered_by (declared (stmts_in (files fs)))) insts) (length insts) rooted chains h.1 h.2;
        shown = refl;
      };
      listed = h.3;
    }
