use Rattle.std.proofs.Common.{rules, ◌≡◌, ◌≤◌, ◌+◌, ℕ, List, Option, Some, None, IfSome, length, take, ap, ◌∙◌, arith}
use Rattle.std.proofs.lemmas.List.{length-take, take_all}
use Rattle.std.specs.Prelude.{min, option_map}
use Rattle.cf_io.specs.declared.files.TheConstants.{MAX_FILE}
use Rattle.cf_io.proofs.host.read_whole.Goals as goal

-- what was read of the first n + 1 bytes is all where it is no more than n
all_read : (left : Option (List ℕ)) (n : ℕ) (into : List ℕ) → IfSome (option_map (take (n + 1)) left) (λ bytes. into ≡ bytes) → length into ≤ n → IfSome left (λ bytes. into ≡ bytes)
all_read None n into h few = tt
all_read (Some bytes) n into h few =
    let size : length into ≡ min (n + 1) (length bytes) = ap length h ∙ length-take (n + 1) bytes in
    h ∙ take_all (n + 1) bytes (omega (arith, size, few))

pub returns-in-Ok-2 : goal.returns-in-Ok-2
returns-in-Ok-2 g c =
    let few : length c.read_to_end.new.buf.items ≤ MAX_FILE = search rules in
    (few, all_read (g.F.Read.remaining c.args.file) MAX_FILE _ (rw (c.take.ensures.limit, c.take.ensures.inner, c.requires) at c.in-Ok-2.ensures.bytes) few)
