use Rattle.std.proofs.Common.{◌-◌, ◌∙◌, ap, sym, length, take, drop, map, is_some}
use Rattle.run_rules.specs.Next.{wanted_of}
use Rattle.next_deed.proofs.RescanLaws.{by_first, wanted_none, unwanted}
use Rattle.next_deed.proofs.rescan.+are_wanted.Goals as goal

pub returns-in-empty : goal.returns-in-empty
returns-in-empty t c = wanted_none (map (λ l. l.name) c.args.locators.now) c.args.given.now c.in-empty.len_below

pub is_new-requires : goal.is_new-requires
is_new-requires t c = c.are_wanted.ensures ∙ c.if-are_wanted.true

pub returns-then-are_wanted : goal.returns-then-are_wanted
returns-then-are_wanted t c =
    ap (λ gs. is_some (wanted_of (map (λ l. l.name) c.args.locators.now) gs)) (by_first c.args.given.now c.first-item.result c.in-len1-up.len_at_least c.first-item.is) ∙ c.is_new.ensures

pub returns-else-are_wanted : goal.returns-else-are_wanted
returns-else-are_wanted t c =
    let gs = c.args.given.now in
    let names = map (λ l. l.name) c.args.locators.now in
    ap (λ hs. is_some (wanted_of names hs)) (by_first gs c.first-item.result c.in-len1-up.len_at_least c.first-item.is)
    ∙ unwanted names c.first-item.result (take (length gs - 1) (drop 1 gs)) (c.are_wanted.ensures ∙ c.if-are_wanted.false) ∙ sym c.if-are_wanted.false
