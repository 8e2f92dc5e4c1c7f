-- A file that is read, from its text on.
use Rattle.std.proofs.Common.{◌≡◌, ℕ, ◌+◌, ◌==◌, List, [], ◌∷◌, ◌++◌, length, true, refl, ap, sym, ◌∙◌, subst, add-one}
use Rattle.std.specs.Prelude.{Ok, Err}
use Rattle.config_rules.specs.Cut.{Cut, cut_of}
use Rattle.config_rules.specs.Reading.{Files, Here, Reading, statements_in, read_cut, reader, refused}
use Rattle.cf_expand.specs.Levels.{read_statements}
use Rattle.cf_grammar.proofs.CutWithin.{within_cut}
use Rattle.cf_lexer.specs.Rest.{MayRest, all_tokens, is_closed}
use Rattle.cf_lexer.specs.declared.rest.Cutting.{Cutting}
use Rattle.cf_expand.specs.Steps.{IsCutting}
use Rattle.cf_expand.proofs.ItemLaws.{items_read}

abbrev pub first_here : ℕ → ℕ → List ℕ → Reading → Here
first_here n around name r = record { file = name; number = length r.files; around = around; deepest = n == 0 }

abbrev pub with_file : List ℕ → Reading → Reading
with_file name r = record r { files = r.files ++ name ∷ [] }

pub reader_more : (n : ℕ) (files : Files) (around : ℕ) (name text : List ℕ) (r : Reading) → reader (n + 1) files around name text r ≡ read_cut files (reader n files) (first_here n around name r) text (cut_of text) (with_file name r)
unfolding reader
reader_more n files around name text r = rw add-one refl

-- a text that was cut, also by another name
pub cutting_is : (a b : List ℕ) (c : Cutting) → a ≡ b → Cut a (all_tokens a c) → is_closed c.tokens ≡ true → MayRest a c.rest → IsCutting b c
cutting_is a b c e cut closed rest =
    subst (λ (x : List ℕ). IsCutting x c) e (record { within = within_cut a (all_tokens a c) cut; closed = closed; rest = rest })

-- a file that was cut
pub opened_reads : (n : ℕ) (files : Files) (around : ℕ) (name text shown lent listed : List ℕ) (c : Cutting) (number : ℕ) (old new : Reading) → number ≡ length old.files → shown ≡ text → lent ≡ text → listed ≡ name
    → new ≡ with_file listed old → cut_of lent ≡ Ok (all_tokens lent c)
    → read_statements files (reader n files) (record { file = name; number = number; around = around; deepest = n == 0 }) [] (statements_in shown (all_tokens shown c)) new ≡ reader (n + 1) files around name text old
opened_reads n files around name text shown lent listed c number old new ek es el en ew ec =
    let whole : reader (n + 1) files around name text old ≡ read_statements files (reader n files) (first_here n around name old) [] (statements_in text (all_tokens text c)) (with_file name old) =
    reader_more n files around name text old ∙ ap (λ made. read_cut files (reader n files) (first_here n around name old) text made (with_file name old)) (ap cut_of (sym el) ∙ ec ∙ ap (λ (x : List ℕ). Ok (all_tokens x c)) el)
    ∙ sym (items_read files (reader n files) (first_here n around name old) (statements_in text (all_tokens text c)) (with_file name old)) in
    rw (ek, es, ew, en) (sym whole)

-- a file that can't be cut
pub uncut_reads : (n : ℕ) (files : Files) (around : ℕ) (name text lent listed again : List ℕ) (line code : ℕ) (old between new : Reading) → lent ≡ text → listed ≡ name → again ≡ name
    → between ≡ with_file listed old → cut_of lent ≡ Err (line, code) → new ≡ refused again line code between
    → new ≡ reader (n + 1) files around name text old
uncut_reads n files around name text lent listed again line code old between new el en ea ew ec er =
    let whole : reader (n + 1) files around name text old ≡ refused name line code (with_file name old) =
    reader_more n files around name text old ∙ ap (λ c. read_cut files (reader n files) (first_here n around name old) text c (with_file name old)) (ap cut_of (sym el) ∙ ec) in
    rw (er, ew, en, ea) (sym whole)
