-- A stack's list, whose last item is the top.
use Rattle.std.proofs.Common.{◌≡◌, ◌<◌, ◌-◌, ℕ, Bool, true, false, ◌||◌, ◌==◌, List, [], ◌∷◌, ◌++◌, length, map, reverse, slice_set, get_or, refl, sym, ap, ◌∙◌, subst, arith}
use Rattle.std.specs.List.{list_any}
use Rattle.std.proofs.lemmas.List.{get_or_push, reverse-append, reverse-reverse, length-append}
use Rattle.std.proofs.Math.Seq.{set-append_seam}
use Rattle.std.proofs.lemmas.List.Folds.{list_any-append}
use Rattle.run_rules.specs.declared.world.Frame.{Frame}
use Rattle.run_rules.specs.declared.world.Frame.TheVariants.{Scan, Finaliser}
use Rattle.run_rules.specs.declared.world.Position.{Position}
use Rattle.run_rules.specs.After.{moved_top}
use Rattle.run_rules.specs.World.{frame_serial, has}
use Rattle.scan_engine.specs.Frames.{moved}

turned : (a b : Bool) → (a || (b || false)) ≡ (b || a)
turned true true = refl
turned true false = refl
turned false true = refl
turned false false = refl

-- a test of any item does not care for the order
pub any_reversed : {A : Type 0} (p : A → Bool) (xs : List A) → list_any p (reverse xs) ≡ list_any p xs
any_reversed p [] = refl
any_reversed p (x ∷ xs) =
    ap (list_any p) (reverse-append (x ∷ []) xs) ∙ list_any-append p (reverse xs) (x ∷ []) ∙ turned (list_any p (reverse xs)) (p x)
    ∙ ap (λ b. p x || b) (any_reversed p xs)

moved_is : (to : Position) (frame : Frame) (frames : List Frame) → moved to frame ∷ frames ≡ moved_top to (frame ∷ frames)
moved_is to (Scan serial only filter position) frames = refl
moved_is to (Finaliser serial) frames = refl

-- the last item is the top, and moves
at_end : (to : Position) (xs : List Frame) (y frame now : Frame) → frame ≡ get_or (xs ++ y ∷ []) (length (xs ++ y ∷ []) - 1) frame → now ≡ moved to frame
    → reverse (slice_set (xs ++ y ∷ []) (length (xs ++ y ∷ []) - 1) now) ≡ moved_top to (reverse (xs ++ y ∷ []))
at_end to xs y frame now is moves =
    let long : length (xs ++ y ∷ []) - 1 ≡ length xs = omega (arith, length-append xs (y ∷ [])) in
    let same : frame ≡ y = (rw long at is) ∙ get_or_push xs y frame (length xs) refl in
    rw (long, set-append_seam xs y [] now, reverse-append xs (now ∷ []), reverse-append xs (y ∷ []), moves, same) (moved_is to y (reverse xs))

pub top_moved : (to : Position) (items : List Frame) (n : ℕ) (frame now : Frame) → n ≡ length items → 0 < length items → frame ≡ get_or items (n - 1) frame → now ≡ moved to frame
    → reverse (slice_set items (n - 1) now) ≡ moved_top to (reverse items)
top_moved to items n frame now long some is moves =
    rw long (cases (reverse items) items (reverse-reverse items) some (rw long at is))
  where
    cases : (ys xs : List Frame) → reverse ys ≡ xs → 0 < length xs → frame ≡ get_or xs (length xs - 1) frame → reverse (slice_set xs (length xs - 1) now) ≡ moved_top to (reverse xs)
    cases [] xs e l there = absurd (omega (arith, ap length e, l))
    cases (y ∷ ys) xs e l there =
        let whole : reverse ys ++ y ∷ [] ≡ xs = sym (reverse-append (y ∷ []) ys) ∙ e in
        subst (λ zs. frame ≡ get_or zs (length zs - 1) frame → reverse (slice_set zs (length zs - 1) now) ≡ moved_top to (reverse zs)) whole
        (λ at. at_end to (reverse ys) y frame now at moves) there

-- without an item nothing moves
pub none_moved : (to : Position) (items : List Frame) (n : ℕ) → n ≡ length items → (0 < n → ⊥) → reverse items ≡ moved_top to (reverse items)
none_moved to [] n long none = refl
none_moved to (x ∷ xs) n long none = absurd (none (omega (arith, long)))

any_serial : (s : ℕ) (frames : List Frame) → has (map frame_serial frames) s ≡ list_any (λ f. frame_serial f == s) frames
any_serial s [] = refl
any_serial s (f ∷ fs) = ap (λ b. frame_serial f == s || b) (any_serial s fs)

-- the serials of these frames are there too
pub serials_more : (old new : List ℕ) (frames : List Frame) (s : ℕ) → new ≡ old ++ map frame_serial frames → has new s ≡ (has old s || list_any (λ f. frame_serial f == s) frames)
serials_more old new frames s e =
    ap (λ xs. has xs s) e ∙ list_any-append (λ x. x == s) old (map frame_serial frames) ∙ ap (λ b. has old s || b) (any_serial s frames)
