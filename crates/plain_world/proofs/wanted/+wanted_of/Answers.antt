use Rattle.std.proofs.Common.{◌≡◌, ◌∙◌, ◌-◌, ap, sym, [], rules, length, take, drop, Some}
use Rattle.run_rules.specs.Next.{wanted_of}
use Rattle.plain_world.specs.Wanted.{names_of, wants}
use Rattle.plain_world.proofs.WantedLaws.{by_first, none_given, rest_unwanted, rest_wanted}
use Rattle.plain_world.proofs.wanted.+wanted_of.Goals as goal

pub returns-in-empty : goal.returns-in-empty
returns-in-empty t c =
    let e : c.new.result.items ≡ [] = search rules in
    none_given (names_of c.args.locators.now) c.args.given.now c.in-empty.len_below ∙ ap Some (sym e)

pub returns-in-None : goal.returns-in-None
returns-in-None t c =
    let names = names_of c.args.locators.now in
    let gs = c.args.given.now in
    let g = c.first-item.result in
    ap (wanted_of names) (by_first gs g c.in-len1-up.len_at_least c.first-item.is)
    ∙ rest_unwanted names g (take (length gs - 1) (drop 1 gs)) (rw c.in-None.is at c.in_ok-wanted_of-in-len1-up.ensures)

pub returns-in-Some : goal.returns-in-Some
returns-in-Some t c =
    let names = names_of c.args.locators.now in
    let gs = c.args.given.now in
    let g = c.first-item.result in
    let all : wanted_of names gs ≡ wants names g c.in-Some.list.items =
    ap (wanted_of names) (by_first gs g c.in-len1-up.len_at_least c.first-item.is)
    ∙ rest_wanted names g (take (length gs - 1) (drop 1 gs)) c.in-Some.list.items (rw c.in-Some.is at c.in_ok-wanted_of-in-len1-up.ensures) in
    rw all c.with_first.ensures
