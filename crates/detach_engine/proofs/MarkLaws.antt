-- The marks of a world tell what is in the way there.
use Rattle.std.proofs.Common.{◌≡◌, ℕ, Bool, true, false, not, ◌&&◌, ◌||◌, List, [], ◌∷◌, refl, ap, ◌∙◌}
use Rattle.std.specs.Prelude.{IsTrue}
use Rattle.std.specs.List.{AllByRecursion}
use Rattle.run_rules.proofs.Each.{find_alike}
use Rattle.run_rules.specs.declared.world.Dev.{Dev}
use Rattle.run_rules.specs.World.{World, has, is_under, is_condemned, is_pinned, is_held, policy_of}
use Rattle.run_rules.specs.Next.{hindered, is_hindrance}
use Rattle.detach_engine.specs.Hindrance.{Marked, AreMarksOf, hindrance, stands_in_way}

same_test : (under forced nodetach marked pinned busy condemned held : Bool) → (IsTrue (not forced) → IsTrue under → marked ≡ nodetach) → (IsTrue under → busy ≡ pinned)
    → (under && ((not forced && marked) || busy || condemned || held)) ≡ (under && ((not forced && nodetach) || pinned || condemned || held))
same_test false forced nodetach marked pinned busy condemned held f g = refl
same_test true true nodetach marked pinned busy condemned held f g = ap (λ b. b || condemned || held) (g refl)
same_test true false nodetach marked pinned busy condemned held f g = ap (λ b. b || busy || condemned || held) (f refl refl) ∙ ap (λ b. nodetach || b || condemned || held) (g refl)

agree : (w : World) (m : Marked) (s k : ℕ) (forced : Bool) (ds : List Dev)
    → AllByRecursion (λ d. IsTrue (is_under w.live s d.serial) → has m.pinned d.serial ≡ is_pinned w d.serial) ds
    → (IsTrue (not forced) → AllByRecursion (λ d. IsTrue (is_under w.live s d.serial) → has m.undetachable d.serial ≡ (policy_of w.setup d.row).nodetach) ds)
    → AllByRecursion (λ d. stands_in_way w.live w.refs m s k forced d ≡ is_hindrance w s k forced d) ds
agree w m s k forced [] h g = tt
agree w m s k forced (d ∷ ds) h g = (
  same_test (is_under w.live s d.serial) forced (policy_of w.setup d.row).nodetach (has m.undetachable d.serial) (is_pinned w d.serial) (has m.pinned d.serial) (is_condemned d) (is_held w k d.serial) (λ f. (g f).0) h.0,
  agree w m s k forced ds h.1 (λ f. (g f).1),
)

pub hindered_is : (w : World) (m : Marked) (s k : ℕ) (forced : Bool) → AreMarksOf w s forced m → hindrance w.live w.refs m s k forced ≡ hindered w s k forced
unfolding hindrance hindered
hindered_is w m s k forced h =
    find_alike (stands_in_way w.live w.refs m s k forced) (is_hindrance w s k forced) w.live (agree w m s k forced w.live h.pinned h.undetachable)
