-- How long interface lists get with one more attribute or device.
use Rattle.std.proofs.Common.{◌≡◌, ℕ, ◌+◌, ◌<◌, ◌≤◌, Bool, true, false, cond, List, [], ◌∷◌, ◌++◌, length, refl, ap, sym, ◌∙◌, subst, append-nil, length-append, arith}
use Rattle.std.specs.Prelude.{filter, if◌then◌else◌}
use Rattle.std.specs.List.{All}
use Rattle.std.proofs.lemmas.List.Elements.{filter-append}
use Rattle.cf_types.specs.Gather.{is_in, with_new, with_all}
use Rattle.cf_types.specs.Offers.{Node, AreEarlier, itself, is_interface_node, walk, walks, firsts, interfaces_of}
use Rattle.cf_types.proofs.OfferLemmas.{with_all-firsts, gathered_is, interfaces_new}

-- a number that is added adds at most one
length_if : (b : Bool) (xs : List ℕ) (y : ℕ) → length (cond b xs (xs ++ y ∷ [])) ≤ length xs + 1
length_if true xs y = omega arith
length_if false xs y = omega (arith, length-append xs (y ∷ []))

-- numbers that are added add at most as many
length_with_all : (xs ys : List ℕ) → length (with_all xs ys) ≤ length xs + length ys
length_with_all xs [] = omega arith
length_with_all xs (y ∷ ys) = omega (arith, length_with_all (with_new xs y) ys, length_if (is_in y xs) xs y)

-- first appearances in two lists
length-firsts : (xs ys : List ℕ) → length (firsts (xs ++ ys)) ≤ length (firsts xs) + length (firsts ys)
length-firsts xs ys =
    let e : with_all (firsts xs) (firsts ys) ≡ firsts (xs ++ ys) = with_all-firsts (firsts xs) ys ∙ gathered_is xs ys in
    subst (λ (zs : List ℕ). length zs ≤ length (firsts xs) + length (firsts ys)) e (length_with_all (firsts xs) (firsts ys))

-- an attribute beside others
pub offers_with : (nodes : List Node) (a : ℕ) (names : List ℕ) → length (interfaces_of nodes (a ∷ names)) ≤ length (interfaces_of nodes (a ∷ [])) + length (interfaces_of nodes names)
unfolding interfaces_of
offers_with nodes a names =
    let own = walk (length nodes) nodes a in
    let one : filter (is_interface_node nodes) (own ++ []) ≡ filter (is_interface_node nodes) own = ap (filter (is_interface_node nodes)) (append-nil own) in
    let both : filter (is_interface_node nodes) (own ++ walks nodes names) ≡ filter (is_interface_node nodes) own ++ filter (is_interface_node nodes) (walks nodes names) = filter-append (is_interface_node nodes) own (walks nodes names) in
    subst (λ (zs : List ℕ). length (firsts zs) ≤ length (firsts (filter (is_interface_node nodes) (own ++ []))) + length (firsts (filter (is_interface_node nodes) (walks nodes names)))) (sym both)
    (subst (λ (zs : List ℕ). length (firsts (filter (is_interface_node nodes) own ++ filter (is_interface_node nodes) (walks nodes names))) ≤ length (firsts zs) + length (firsts (filter (is_interface_node nodes) (walks nodes names)))) (sym one)
    (length-firsts (filter (is_interface_node nodes) own) (filter (is_interface_node nodes) (walks nodes names))))

-- at most one itself
length_itself : (x : Node) (a : ℕ) → length (firsts (itself x a)) ≡ (if x.iface then 1 else 0)
unfolding firsts
length_itself x a = by_iface x.iface
  where
    by_iface : (b : Bool) → length (firsts (if b then a ∷ [] else [])) ≡ (if b then 1 else 0)
    by_iface true = refl
    by_iface false = refl

-- what a new attribute offers: itself, where it is an interface attribute, and what those that it names offer
pub offers_new : (nodes : List Node) → AreEarlier nodes → (x : Node) → All (λ b. b < length nodes) x.needs
    → length (interfaces_of (nodes ++ x ∷ []) (length nodes ∷ [])) ≤ (if x.iface then 1 else 0) + length (interfaces_of nodes x.needs)
unfolding interfaces_of
offers_new nodes e x h =
    let rest = filter (is_interface_node nodes) (walks nodes x.needs) in
    let n = length nodes in
    subst (λ (zs : List ℕ). length zs ≤ (if x.iface then 1 else 0) + length (firsts rest)) (sym (interfaces_new nodes e x h))
    (subst (λ (k : ℕ). length (firsts (itself x n ++ rest)) ≤ k + length (firsts rest)) (length_itself x n) (length-firsts (itself x n) rest))
