use Rattle.cf_select.specs.Naming.{names_at, negation_of}
use Rattle.cf_select.specs.Selected.{is_negation}
use Rattle.cf_select.proofs.NamingLemmas.{free_left, idle_flag, key_of_negation, no_key}
use Rattle.cf_select.proofs.StandingLemmas.{without_none}
use Rattle.cf_select.proofs.standing.take_back.Goals as goal

pub returns-in-Some-clause-listed : goal.returns-in-Some-clause-listed
returns-in-Some-clause-listed c = λ stmts listed. c.take_named.ensures.listed (names_at stmts) listed

pub returns-in-Some-clause-free : goal.returns-in-Some-clause-free
returns-in-Some-clause-free c = λ stmts size listed.
    free_left c.args.stmt.now c.in-Some.key stmts c.args.free.now.items c.take_named.new.free.items c.take_named.result (key_of_negation (is_negation c.args.stmt.now) (negation_of c.in-Some.key) c.args.stmt.now c.in-Some.ensures).1
    size c.take_named.ensures.size (c.take_named.ensures.takes (names_at stmts) listed)

pub returns-in-Some-clause-idle : goal.returns-in-Some-clause-idle
returns-in-Some-clause-idle c = λ stmts size listed.
    let is = key_of_negation (is_negation c.args.stmt.now) (negation_of c.in-Some.key) c.args.stmt.now c.in-Some.ensures in
    idle_flag c.args.stmt.now c.in-Some.key stmts c.args.free.now.items c.take_named.new.free.items c.take_named.result is.0 is.1 (c.take_named.ensures.takes (names_at stmts) listed)

pub returns-in-None-clause-free : goal.returns-in-None-clause-free
returns-in-None-clause-free c = λ stmts size listed. without_none c.args.stmt.now stmts c.args.free.now.items (no_key (is_negation c.args.stmt.now) c.args.stmt.now c.in-None.ensures) size
