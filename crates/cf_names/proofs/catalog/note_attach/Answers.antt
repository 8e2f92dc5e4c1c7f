use Rattle.std.proofs.Common.{ℕ, List, ◌++◌, ◌∷◌, [], ap, sym, refl, subst, ◌∙◌}
use Rattle.std.specs.Prelude.{◌==◌, if◌then◌else◌, IfSome}
use Rattle.cf_types.specs.declared.tables.Attach.{Attach}
use Rattle.cf_names.specs.Attaches.{attaches_of}
use Rattle.cf_names.specs.Spots.{AreSpots, all_spots}
use Rattle.cf_names.proofs.AttachLemmas.{attaches_push}
use Rattle.cf_names.proofs.NumberLemmas.{numbers_push}
use Rattle.cf_names.proofs.catalog.note_attach.Goals as goal

pub returns : goal.returns
returns c =
    let attaches = c.args.lists.now.attaches in
    let attach = c.args.attach.now in
    record {
      of_attrs = c.requires.of_attrs;
      of_device_names = c.requires.of_device_names;
      of_attach_names = numbers_push (λ (a : Attach). a.name) attaches (attaches ++ attach ∷ []) attach attach.name c.len-number.result c.args.index.now.attaches c.add_name.new.numbers
          c.requires.of_attach_names refl c.len-number.ensures refl c.in_ok-add_name.ensures;
      of_attaches = λ q.
          c.in_ok-add_number.ensures q
          ∙ ap (λ (numbers : List ℕ). numbers ++ (if attach.device == q then c.len-number.result ∷ [] else [])) (c.requires.of_attaches q)
          ∙ ap (λ (n : ℕ). attaches_of attaches q ++ (if attach.device == q then n ∷ [] else [])) c.len-number.ensures
          ∙ sym (attaches_push attaches attach q);
      of_spots = subst (λ (xs : List Attach). IfSome c.note_spots.new.noted (λ spots. AreSpots spots (all_spots (xs ++ attach ∷ [])))) c.items-attaches.ensures c.in_ok-note_spots.ensures;
    }
