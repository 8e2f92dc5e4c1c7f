-- What a call leaves where a call in it stopped.
use Rattle.std.proofs.Common.{◌≡◌, ℕ, ap, sym, ◌∙◌, Result, Err, subst}
use Rattle.machine_text.specs.declared.stop.LineStop.{LineStop}
use Rattle.machine_text.specs.declared.stop.LineStop.TheVariants.{Code, Memory}
use Rattle.script_text.specs.Left.{Leaves}

stopped : {A B : Type 0} (whole : Result A ℕ) (next : Result B ℕ) (stop : LineStop) → Leaves whole (Err stop) → ((code : ℕ) → whole ≡ Err code → next ≡ Err code) → Leaves next (Err stop)
stopped whole next (Code code) h pass = pass code h
stopped whole next Memory h pass = tt

-- the exit of a `?`
pub ends_with : {A : Type 0} (P : Result A LineStop → Type 0) (stop : LineStop) (r : Result A LineStop) → (y : LineStop) × (r ≡ Err y) × (y ≡ stop) → P (Err stop) → P r
ends_with P stop r e h = subst P (sym (e.1 ∙ ap Err e.2)) h

-- the same where the words give what they give at the end
pub carried : {A B : Type 0} (whole : Result A ℕ) (next : Result B ℕ) (stop : LineStop) (r : Result B LineStop) → Leaves whole (Err stop) → (y : LineStop) × (r ≡ Err y) × (y ≡ stop)
    → ((code : ℕ) → whole ≡ Err code → next ≡ Err code) → Leaves next r
carried whole next stop r h e pass = ends_with (λ x. Leaves next x) stop r e (stopped whole next stop h pass)
