-- A struct of one field, as a walk makes it from the value of that field.
use Rattle.std.proofs.Common.{List, [], ◌∷◌, refl}
use seplogic.Ra.Ura.{Ura}
use mir.Val.{Val, vstruct, vcons, vnil}
use types.Logic.{Logic}
use types.Kit.{Goal, Step, step, Item, ‵, ◌$◌, move, fjoin, fpack, feq_i}
use denote.RattleType.{RattleType, Valss}
use denote.Steps.{nothing}
use denote.Struct.Struct.{Struct, within}

-- the struct of this field alone, without its name, which is nothing that it owns
abbrev bare : RattleType → RattleType
bare R = Struct (record { name = []; args = []; types = []; fields = R ∷ [] })

abbrev pub empty : Val
empty = vstruct vnil

abbrev pub holding : Val → Val
holding u = vstruct (vcons u vnil)

module _ {M : Type 1} {𝓤 : Ura M} {𝓛 : Logic 𝓤} {K : Type 0} {Γ : List (Item 𝓤)} {G : Goal 𝓤 𝓛.H} where
  pub holds : K → (R : RattleType) (x : R.Denot) (u : Val) → Step K 𝓛 (‵ ((bare R).own_val (x, tt) (holding u ∷ [])) ∷ Γ) G (‵ (R.own_val x (u ∷ [])) ∷ Γ) G
  holds t R x u = step (λ rest.
      nothing t $ move t (1 ∷ 0 ∷ []) $ fjoin t $
      feq_i t (List Val) (holding u ∷ []) (holding u ∷ []) refl $ fjoin t $
      fpack t (Valss (R ∷ [])) (within (record { name = []; args = []; types = []; fields = R ∷ [] }) (x, tt) (holding u ∷ [])) (u ∷ [], tt) $ rest)
