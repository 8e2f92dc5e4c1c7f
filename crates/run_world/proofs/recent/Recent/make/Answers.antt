use Rattle.std.proofs.Common.{◌≡◌, IfSome, List, [], ◌∷◌, Option, None}
use Rattle.std.specs.List.{AllByRecursion}
use Rattle.run_world.specs.Recent.{name_called, act_telling}
use Rattle.run_world.proofs.recent.Recent.make.Goals as goal

none_kept : {T : Type 0} (P : T → Type 0) (kept : List (Option T)) → AllByRecursion (λ place. place ≡ None) kept → AllByRecursion (λ place. IfSome place P) kept
none_kept P [] h = tt
none_kept P (place ∷ more) h = (rw h.0 tt, none_kept P more h.1)

pub returns : goal.returns
returns c = λ s. record {
  acts = none_kept (λ k. k.act ≡ act_telling s k.telling) c.in_ok-acts.acts.items c.in_ok-acts.ensures;
  names = none_kept (λ k. k.name ≡ name_called s k.of) c.in_ok-names.names.items c.in_ok-names.ensures;
}
