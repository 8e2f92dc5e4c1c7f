-- The hash of names, by a key that is the digest of all of them.
use Rattle.std.specs.Prelude.{ℕ, List, [], ◌∷◌, ◌++◌}
use Rattle.std.specs.Hash.FoldHasher as folding
use Rattle.std.specs.Hash.{le_bytes}
use Rattle.sha2.specs.Hashers.{Holds512}
use Rattle.sha2.specs.Sha512.{sha512}
use Rattle.cf_names.specs.declared.hash.HashKey.{HashKey}
use Rattle.cf_names.specs.declared.hash.NameHash.{NameHash}
use Rattle.cf_names.specs.declared.hash.NameHasher.{NameHasher}

-- these bytes were taken
abbrev pub Holds : HashKey → List ℕ → Type 0
Holds key taken = Holds512 key.digest taken

-- a name as the key takes it: with a newline behind it
abbrev pub line_of : List ℕ → List ℕ
line_of name = name ++ 10 ∷ []

-- bytes go through the first round
abbrev pub write : NameHasher → List ℕ → NameHasher
write h bytes = record h { round = folding.write h.round bytes }

-- what the first round answers goes through the last
abbrev pub finish : NameHasher → ℕ
finish h = folding.finish (folding.write h.last (le_bytes 8 (folding.finish h.round)))

-- the hasher whose first round has read the SHA-512 of these bytes once, and the last one twice
unfoldable pub hash_of : List ℕ → NameHash
hash_of taken =
    let round = folding.write folding.initial (sha512 taken) in
    record { keyed = record { round = round; last = folding.write round (sha512 taken) } }
