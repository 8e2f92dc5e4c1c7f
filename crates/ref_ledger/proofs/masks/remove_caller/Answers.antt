use Rattle.std.proofs.Common.{◌≡◌, ℕ, List, ap, sym, subst, ◌∙◌, w16, bit_and, arith}
use Rattle.std.specs.Prelude.{remove, slice_set}
use Rattle.std.specs.Int.{bit_not}
use Rattle.std.proofs.lemmas.Nat.{and_le_l}
use Rattle.ref_ledger.specs.declared.masks.Mask.{Mask}
use Rattle.ref_ledger.specs.Masks.{IsGap, IsOwn, IsWritten, bit_of, mask_in, without_caller}
use Rattle.ref_ledger.proofs.PlaceLaws.{mask_here, mask_none, written_none, written_remove, written_set}
use Rattle.ref_ledger.proofs.masks.remove_caller.Goals as goal

pub returns-then-callers-eq0 : goal.returns-then-callers-eq0
returns-then-callers-eq0 c =
    let masks : List Mask = c.args.masks.now.items in
    let s : ℕ = c.args.serial in
    let seen : Mask = c.index.result.now in
    let own : IsOwn masks s c.in-Ok.place = rw (← c.deref.ensures.value) c.in-Ok.ensures in
    let was : seen.callers ≡ mask_in masks s =
    ap (λ (m : Mask). m.callers) c.index.ensures ∙ sym (mask_here masks s c.in-Ok.place seen c.requires.order own.within (own.own seen)) in
    let none : 0 ≡ without_caller (mask_in masks s) c.args.caller = sym c.if-callers-eq0.true ∙ ap (λ n. without_caller n c.args.caller) was in
    rw c.remove.ensures.items
    (subst (λ (n : ℕ). IsWritten masks s n (remove masks c.in-Ok.place)) none (written_remove masks c.in-Ok.place s seen c.requires.order own.within (own.own seen)))

pub returns-else-callers-eq0 : goal.returns-else-callers-eq0
returns-else-callers-eq0 c =
    let masks : List Mask = c.args.masks.now.items in
    let s : ℕ = c.args.serial in
    let seen : Mask = c.index.result.now in
    let own : IsOwn masks s c.in-Ok.place = rw (← c.deref.ensures.value) c.in-Ok.ensures in
    let was : seen.callers ≡ mask_in masks s =
    ap (λ (m : Mask). m.callers) c.index.ensures ∙ sym (mask_here masks s c.in-Ok.place seen c.requires.order own.within (own.own seen)) in
    let new : Mask = record { serial = s; callers = bit_and seen.callers (bit_not w16 (bit_of c.args.caller)) } in
    subst (λ (n : ℕ). IsWritten masks s (without_caller n c.args.caller) (slice_set masks c.in-Ok.place new)) was
    (written_set masks c.in-Ok.place new seen c.requires.order own.within (own.own seen))

pub returns-in-Err : goal.returns-in-Err
returns-in-Err c =
    let masks : List Mask = c.args.masks.now.items in
    let s : ℕ = c.args.serial in
    let gap : IsGap masks s c.in-Err.field-0 = rw (← c.deref.ensures.value) c.in-Err.ensures in
    let none : mask_in masks s ≡ 0 = mask_none masks s c.in-Err.field-0 gap in
    let left : without_caller 0 c.args.caller ≡ 0 = omega (arith, and_le_l 0 (bit_not w16 (bit_of c.args.caller))) in
    subst (λ (n : ℕ). IsWritten masks s n masks) (sym (ap (λ n. without_caller n c.args.caller) none ∙ left)) (written_none masks s c.requires.order none)
