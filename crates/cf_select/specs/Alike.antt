-- Keys that are the same are hashed alike: what the impls of `Hash` cite.
use Rattle.std.proofs.Common.{◌≡◌, ℕ, ◌&&◌, ◌==◌, ◌++◌, ◌∷◌, true, List, Bor, refl, ap, ◌∙◌}
use Rattle.std.specs.Prelude.{Option, Some, None, bytes_eq}
use Rattle.std.specs.Option.{option_eq}
use Rattle.std.specs.Hash as fed
use Rattle.std.specs.Hash.{HashWrites}
use Rattle.std.specs.Cmp.{first_so, second_so}
use Rattle.std.specs.Cmp.Lexicographic.{bytes_decides}
use Rattle.std.proofs.lemmas.Bool.{eqb-true, false≢true}
use Rattle.cf_select.specs.Hashed.{attachment_input, key_input, unit_number}
use Rattle.cf_select.specs.contracts.named.AttachmentPartialEq.TheImpl as attached_block
use Rattle.cf_select.specs.contracts.named.NamedPartialEq.TheImpl as block
use Rattle.cf_select.specs.declared.named.Attachment.{Attachment}
use Rattle.cf_select.specs.declared.named.Attachment.TheVariants as attached
use Rattle.cf_select.specs.declared.named.Named.{Named}
use Rattle.cf_select.specs.declared.named.Named.TheVariants as named

same_units : (u v : Option ℕ) → option_eq (λ x y. x == y) u v ≡ true → u ≡ v
same_units None None h = refl
same_units None (Some v) h = absurd (false≢true h)
same_units (Some u) None h = absurd (false≢true h)
same_units (Some u) (Some v) h = ap Some (eqb-true u v h)

same_writes : (a b : Bor (List ℕ)) (u v : Option ℕ) → bytes_eq a.now b.now ≡ true → option_eq (λ x y. x == y) u v ≡ true
    → (a.now ∷ fed.u32 (unit_number u)) ≡ (b.now ∷ fed.u32 (unit_number v))
same_writes a b u v bytes units =
    ap (λ (name : List ℕ). name ∷ fed.u32 (unit_number u)) ((bytes_decides a.now b.now).0 bytes)
    ∙ ap (λ (unit : Option ℕ). b.now ∷ fed.u32 (unit_number unit)) (same_units u v units)

same_pair : (a b : Bor (List ℕ)) (u v : Option ℕ) → (bytes_eq a.now b.now && option_eq (λ x y. x == y) u v) ≡ true
    → (a.now ∷ fed.u32 (unit_number u)) ≡ (b.now ∷ fed.u32 (unit_number v))
same_pair a b u v h =
    let bytes = bytes_eq a.now b.now in
    let units = option_eq (λ x y. x == y) u v in
    same_writes a b u v (first_so bytes units h) (second_so bytes units h)

pub attachments_alike : (a b : Attachment) → attached_block.ghosts.eq a b ≡ true → attachment_input a ≡ attachment_input b
attachments_alike attached.Root attached.Root h = refl
attachments_alike attached.Root (attached.Named b v) h = absurd (false≢true h)
attachments_alike (attached.Named a u) attached.Root h = absurd (false≢true h)
attachments_alike (attached.Named a u) (attached.Named b v) h = same_pair a b u v h

pub keys_alike : (a b : Named) → block.ghosts.eq a b ≡ true → key_input a ≡ key_input b
keys_alike (named.Unit a u) (named.Unit b v) h = same_pair a b u v h
keys_alike (named.Unit a u) (named.UnitAt b v at) h = absurd (false≢true h)
keys_alike (named.Unit a u) (named.At at) h = absurd (false≢true h)
keys_alike (named.UnitAt a u at) (named.Unit b v) h = absurd (false≢true h)
keys_alike (named.UnitAt a u at) (named.UnitAt b v other) h =
    let bytes = bytes_eq a.now b.now in
    let units = option_eq (λ x y. x == y) u v in
    let ats = attached_block.ghosts.eq at other in
    let behind : (units && ats) ≡ true = second_so bytes (units && ats) h in
    ap (λ (writes : HashWrites). writes ++ attachment_input at) (same_writes a b u v (first_so bytes (units && ats) h) (first_so units ats behind))
    ∙ ap (λ (writes : HashWrites). (b.now ∷ fed.u32 (unit_number v)) ++ writes) (attachments_alike at other (second_so units ats behind))
keys_alike (named.UnitAt a u at) (named.At other) h = absurd (false≢true h)
keys_alike (named.At at) (named.Unit b v) h = absurd (false≢true h)
keys_alike (named.At at) (named.UnitAt b v other) h = absurd (false≢true h)
keys_alike (named.At at) (named.At other) h = attachments_alike at other h
