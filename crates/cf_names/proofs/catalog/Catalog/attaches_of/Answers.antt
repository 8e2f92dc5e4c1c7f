use Rattle.std.proofs.Common.{◌≡◌, ℕ, ◌<◌, List, length, All, subst, sym, rules}
use Rattle.cf_names.specs.Attaches.{attaches_of}
use Rattle.cf_names.proofs.AttachLemmas.{numbers_within}
use Rattle.cf_names.proofs.catalog.Catalog.attaches_of.Goals as goal

pub returns-in-Some-clause-within : goal.returns-in-Some-clause-within
returns-in-Some-clause-within c =
    let same : c.items.result.now ≡ attaches_of c.args.self.now.attaches c.args.device = search rules in
    subst (λ (numbers : List ℕ). All (λ n. n < length c.args.self.now.attaches) numbers) (sym same) (numbers_within c.args.self.now.attaches c.args.device)
