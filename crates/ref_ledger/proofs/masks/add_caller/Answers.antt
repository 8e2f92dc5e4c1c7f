use Rattle.std.proofs.Common.{◌≡◌, ℕ, List, ap, sym, subst, ◌∙◌, bit_or}
use Rattle.std.specs.Prelude.{insert, slice_set}
use Rattle.std.specs.Int.Bits.{or_zero_l}
use Rattle.ref_ledger.specs.declared.masks.Mask.{Mask}
use Rattle.ref_ledger.specs.Masks.{IsGap, IsOwn, IsWritten, bit_of, mask_in, with_caller}
use Rattle.ref_ledger.proofs.PlaceLaws.{mask_here, mask_none, written_insert, written_set}
use Rattle.ref_ledger.proofs.masks.add_caller.Goals as goal

pub returns-in-Ok : goal.returns-in-Ok
returns-in-Ok c =
    let masks : List Mask = c.args.masks.now.items in
    let s : ℕ = c.args.serial in
    let seen : Mask = c.index.result.now in
    let own : IsOwn masks s c.in-Ok.place = rw (← c.deref.ensures.value) c.in-Ok.ensures in
    let was : seen.callers ≡ mask_in masks s =
    ap (λ (m : Mask). m.callers) c.index.ensures ∙ sym (mask_here masks s c.in-Ok.place seen c.requires.order own.within (own.own seen)) in
    let new : Mask = record { serial = s; callers = bit_or seen.callers (bit_of c.args.caller) } in
    subst (λ (n : ℕ). IsWritten masks s (with_caller n c.args.caller) (slice_set masks c.in-Ok.place new)) was
    (written_set masks c.in-Ok.place new seen c.requires.order own.within (own.own seen))

pub returns-in-Err : goal.returns-in-Err
returns-in-Err c =
    let masks : List Mask = c.args.masks.now.items in
    let s : ℕ = c.args.serial in
    let new : Mask = record { serial = s; callers = bit_of c.args.caller } in
    let gap : IsGap masks s c.in-Err.place = rw (← c.deref.ensures.value) c.in-Err.ensures in
    let none : with_caller (mask_in masks s) c.args.caller ≡ bit_of c.args.caller =
    ap (λ n. with_caller n c.args.caller) (mask_none masks s c.in-Err.place gap) ∙ or_zero_l (bit_of c.args.caller) in
    rw c.put_at.ensures
    (subst (λ (n : ℕ). IsWritten masks s n (insert masks c.in-Err.place new)) (sym none) (written_insert masks c.in-Err.place new c.requires.order gap))
