use Rattle.std.proofs.Common.{◌≡◌, List, ℕ, refl}
use Rattle.sha2.specs.Sha512.{sha512}
use Rattle.cf_names.specs.Hash.{hash_of}
use Rattle.cf_names.proofs.hash.HashKey.hash.Goals as goal

pub returns : goal.returns
unfolding hash_of
returns c = λ taken held. let e : ◌≡◌ {A = List ℕ} c.finalize-key.result (sha512 taken) = c.finalize-key.ensures taken held in rw (c.write-2.ensures, c.write.ensures, c.default-round.ensures, e) refl
