use Rattle.std.proofs.Common.{◌∙◌, sym, Bool, Option, false, ap}
use Rattle.std.specs.Prelude.{bytes_eq}
use Rattle.std.specs.HashMap.{get_by}
use Rattle.cf_options.specs.ItemFlags.{flag_of}
use Rattle.std.specs.Option.{unwrap_or}
use Rattle.std.proofs.lemmas.Map.Text.{hash_map_updates_str}
use Rattle.cf_options.proofs.FlagLemmas.{unnoted, unwrap_cond}
use Rattle.cf_options.proofs.standing.set.Goals as goal

pub returns-in-Ok : goal.returns-in-Ok
returns-in-Ok c =
    λ q h. ap (λ (o : Option Bool). unwrap_or o false) (hash_map_updates_str c.args.name.now c.args.flags.now c.insert.new.self _ c.in-Ok.ensures.updates q)
    ∙ unwrap_cond (bytes_eq c.args.name.now q) c.args.stands (get_by (λ k. bytes_eq q k.now) c.args.flags.now)

pub returns-then-not-is_dropped : goal.returns-then-not-is_dropped
returns-then-not-is_dropped c =
    λ q h. unnoted c.args.last.now c.args.place c.args.name.now q c.args.stands (flag_of c.args.flags.now q) (sym c.if-not-is_dropped.ensures) h
