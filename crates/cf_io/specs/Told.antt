-- What a sink took: what its stream got, and what is still held back behind that.
use Rattle.std.specs.Prelude.{◌≡◌, ℕ, ◌⊎◌, Option, option_map, List, [], ◌++◌}
use Rattle.cf_io.specs.Faults.{Rises}

-- what the stream has, where it tells, what it is still to get, and how often writing has failed
pub record Told : Type 0 where
  pub stream : Option (List ℕ)
  pub held : List ℕ
  pub faults : ℕ

-- the bytes with more behind them, where they are told
abbrev pub appended : Option (List ℕ) → List ℕ → Option (List ℕ)
appended stream more = option_map (λ bytes. bytes ++ more) stream

-- more was taken: of what was held and of this a front went to the stream, and the rest is held
pub record Grows (more : List ℕ) (old new : Told) : Type 0 where
  pub sent : List ℕ
  pub moved : old.held ++ more ≡ sent ++ new.held
  pub grew : new.stream ≡ appended old.stream sent

-- a front of a text was taken
pub record TakesFront (text : List ℕ) (old new : Told) : Type 0 where
  pub front : List ℕ
  pub rest : List ℕ
  pub parts : text ≡ front ++ rest
  pub taken : Grows front old new

-- the stream got what was held and the text behind it, and nothing is held any longer
pub record Delivers (text : List ℕ) (old new : Told) : Type 0 where
  pub grew : new.stream ≡ appended old.stream (old.held ++ text)
  pub empty : new.held ≡ []

-- the stream got the text; or a front of it was taken, and the count of faults rose
abbrev pub Takes : List ℕ → Told → Told → Type 0
Takes text old new =
    (Delivers text old new × (new.faults ≡ old.faults)) ⊎ (TakesFront text old new × Rises old.faults new.faults)
