-- A configuration selects its sources or has a first fault, and never both.
use Rattle.std.proofs.Common.{◌≡◌, ℕ, arith, Bool, true, false, Option, Some, None, List, [], ◌∷◌, ◌++◌, inl, inr, refl, ap, sym, subst, ◌∙◌}
use Rattle.std.specs.Prelude.{nat_lt}
use Rattle.std.specs.List.{cons_option}
use Rattle.std.specs.Option.{option_map_or}
use Rattle.std.proofs.lemmas.Bool.Decides.{nat_tests}
use Rattle.cf_types.specs.declared.stmt.Piece.{Piece}
use Rattle.cf_types.specs.declared.stmt.Placed.{Placed}
use Rattle.cf_types.specs.declared.tables.Refusal.{Refusal}
use Rattle.config_rules.specs.Reading.{Files}
use Rattle.file_rules.specs.Condition.{Cond, Disjunction, nesting}
use Rattle.file_rules.specs.Sources.{AreSources, HasCode, IsCondition, IsFirstFault, IsSource, Selects, Source, condition_in, depth_of, file_pieces, files_in}
use Rattle.file_select.specs.Steps.{State, run}
use Rattle.file_select.proofs.TreeLemmas.{run_of}

no_names : List ℕ → Bool
no_names name = false

-- no pieces are no condition
none_spelled : (ps : List Piece) (d : Disjunction) → ps ≡ [] → ¬ Cond ps d
unfolding run
none_spelled ps d none spelled =
    let read = run_of no_names [] d (subst (λ (qs : List Piece). Cond qs d) none spelled) in
    let wants : true ≡ false = ap (λ (o : Option State). option_map_or (λ (s : State). s.wants) o true) read in
    absurd (cc)

-- pieces nest too deep or they don't, whichever tree they are read as
deep_alike : (ps : List Piece) (d e : Disjunction) → Cond ps d → Cond ps e → nat_lt 64 (nesting d) ≡ nat_lt 64 (nesting e)
deep_alike ps d e first second =
    ap (λ (o : Option State). option_map_or (λ (s : State). s.deep) o false) (sym (run_of no_names ps d first) ∙ run_of no_names ps e second)

depths_alike : (ps : List Piece) (c e : Option Disjunction) → IsCondition ps c → IsCondition ps e → nat_lt 64 (option_map_or nesting c 0) ≡ nat_lt 64 (option_map_or nesting e 0)
depths_alike ps None None first second = refl
depths_alike ps (Some d) (Some e) first second = deep_alike ps d e first second
depths_alike ps None (Some e) first second = absurd (none_spelled ps e first second)
depths_alike ps (Some d) None first second = absurd (none_spelled ps d second first)

-- a statement that says something has no code
no_code : (ps : List Piece) (s : Source) (code : ℕ) → IsSource ps s → ¬ HasCode ps code
no_code ps s code source (inl (is, lacks)) = let path = source.form.path in absurd (cc)
no_code ps s code source (inr (inl (is, (has, none)))) = none s source.form
no_code ps s code source (inr (inr (is, (t, form, deep)))) =
    let alike : nat_lt 64 (depth_of s) ≡ nat_lt 64 (depth_of t) = depths_alike (condition_in ps) s.condition t.condition source.form.condition form.condition in
    let shallow = source.depth in
    grind (arith, nat_tests, alike, shallow, deep)

-- where all `file` statements say something, each of them does
said_at : (before : List Placed) (bad : Placed) (after : List Placed) (sources : List Source) (ps : List Piece) → AreSources (files_in (before ++ bad ∷ after)) sources
    → file_pieces bad.stmt ≡ Some ps → (s : Source) × IsSource ps s
said_at [] bad after sources ps read is = first sources (subst (λ (o : Option (List Piece)). AreSources (cons_option o (files_in after)) sources) is read)
  where
    first : (sources : List Source) → AreSources (ps ∷ files_in after) sources → (s : Source) × IsSource ps s
    first [] read = absurd read
    first (s ∷ sources) read = (s, read.0)
said_at (p ∷ before) bad after sources ps read is = later (file_pieces p.stmt) sources read (λ more rest. said_at before bad after more ps rest is)
  where
    later : (o : Option (List Piece)) (sources : List Source) → AreSources (cons_option o (files_in (before ++ bad ∷ after))) sources
        → ((more : List Source) → AreSources (files_in (before ++ bad ∷ after)) more → (s : Source) × IsSource ps s) → (s : Source) × IsSource ps s
    later None sources read next = next sources read
    later (Some qs) [] read next = absurd read
    later (Some qs) (s ∷ sources) read next = next sources read.1

-- a configuration that selects paths has no first fault
pub selects_or_fails : (files : Files) (name : List ℕ) (paths : List (List ℕ)) (r : Refusal) → Selects files name paths → ¬ IsFirstFault files name r
selects_or_fails files name paths r selects (inl fault) = let accepted = selects.means.accepted in absurd (cc)
selects_or_fails files name paths r selects (inr (accepted, bad)) =
    let read = subst (λ (placed : List Placed). AreSources (files_in placed) selects.selects.sources) bad.parts selects.selects.read in
    let said = said_at bad.before bad.bad bad.after selects.selects.sources bad.pieces read bad.file in
    no_code bad.pieces said.0 bad.code said.1 bad.has_code
