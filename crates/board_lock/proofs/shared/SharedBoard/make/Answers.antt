use Rattle.std.proofs.Common.{length, sym, ap, ◌∙◌, subst, arith}
use Rattle.run_rules.specs.World.{World}
use Rattle.board_lock.specs.Boards.{scripts_of, spots_of}
use Rattle.board_lock.specs.Carried.{CarriedRun}
use Rattle.board_lock.specs.Tallies.{none_yet, unused}
use Rattle.board_lock.proofs.Carried.{boot_carried}
use Rattle.board_lock.proofs.Opened.{calm_of, first_kept, same_scripts, same_spots, seats_dealt}
use Rattle.board_lock.proofs.Seated.{length_below}
use Rattle.board_lock.proofs.shared.SharedBoard.make.Goals as goal

pub open-books-requires-clause-names : goal.open-books-requires-clause-names
open-books-requires-clause-names g c =
    let names = c.requires.names in
    let is = c.parts.view_is in
    (ap (λ p. p.closings) is ∙ names.closings, ap (λ p. p.dids) is ∙ names.dids, ap (λ p. p.stops) is ∙ names.stops)

pub open-books-requires-clause-closings : goal.open-books-requires-clause-closings
open-books-requires-clause-closings g c =
    ap (λ p. p.seats) c.parts.view_is ∙ (c.requires.fits.seats ∙ same_scripts c.args.board g.N.Naming.opening c.requires.names.opening)

pub open-books-requires-clause-dids : goal.open-books-requires-clause-dids
open-books-requires-clause-dids g c =
    c.parts.invariant.0 ∙ (ap (λ p. p.seats) c.parts.view_is ∙ (c.requires.fits.seats ∙ same_scripts c.args.board g.N.Naming.opening c.requires.names.opening))

pub open-books-requires-clause-stops : goal.open-books-requires-clause-stops
open-books-requires-clause-stops g c =
    c.parts.invariant.1 ∙ (ap (λ p. p.seats) c.parts.view_is ∙ (c.requires.fits.seats ∙ same_scripts c.args.board g.N.Naming.opening c.requires.names.opening))

pub open-books-requires-clause-seats : goal.open-books-requires-clause-seats
open-books-requires-clause-seats g c =
    let same = same_scripts c.args.board g.N.Naming.opening c.requires.names.opening in
    let count = c.callers.ensures in
    let some = c.requires.some in
    (count ∙ same, omega arith)

pub deal_seats-requires-clause-callers : goal.deal_seats-requires-clause-callers
deal_seats-requires-clause-callers g c =
    let n = g.N.Naming in
    ap (λ p. p.callers) c.parts.view_is ∙ seats_dealt n.opening n.closings n.dids n.stops n.table c.args.board c.args.parts c.requires.names c.requires.fits

pub deal_seats-requires-clause-slots : goal.deal_seats-requires-clause-slots
deal_seats-requires-clause-slots g c =
    let same = same_spots c.args.board g.N.Naming.opening c.requires.names.opening in
    let words = ap (λ z. z.words) c.requires.names.table in
    let fit = c.requires.fits.words in
    let spots = c.spots.ensures in
    (spots ∙ same, omega arith)

pub deal_seats-requires-clause-shares : goal.deal_seats-requires-clause-shares
deal_seats-requires-clause-shares g c =
    c.open-books.ensures.shares ∙ ap unused (c.callers.ensures ∙ same_scripts c.args.board g.N.Naming.opening c.requires.names.opening)

pub share-requires-clause-kept : goal.share-requires-clause-kept
share-requires-clause-kept g c =
    let n = g.N.Naming in
    first_kept n.opening n.closings n.dids n.stops n.table c.args.board c.args.parts c.open-books.result.0 c.parts.inside.keeper c.requires.names c.requires.fits c.requires.booted
    (calm_of c.args.board c.stands.ensures.may c.requires.booted)
    (c.open-books.ensures.books ∙ ap none_yet (c.callers.ensures ∙ same_scripts c.args.board n.opening c.requires.names.opening))
    (ap (λ p. p.states) c.parts.view_is)

pub share-requires-clause-carried : goal.share-requires-clause-carried
share-requires-clause-carried g c =
    let n = g.N.Naming in
    let b = c.args.board in
    subst (λ (w : World). CarriedRun n.carried w b.events b.world) c.requires.names.opening (boot_carried n.carried b.world.setup b.events b.world c.stands.ensures.may c.requires.booted.boot)

pub share-requires-clause-table : goal.share-requires-clause-table
share-requires-clause-table g c =
    let table = ap (λ p. p.table) c.parts.view_is ∙ c.requires.names.table in
    (c.parts.invariant.2 ∙ table, c.parts.invariant.3 ∙ table, table)

pub returns-in-Ok-clause-count : goal.returns-in-Ok-clause-count
returns-in-Ok-clause-count g c =
    ap length c.in-Ok.ensures ∙ length_below (spots_of g.N.Naming.opening) (scripts_of g.N.Naming.opening)

pub returns-in-Ok-clause-each : goal.returns-in-Ok-clause-each
returns-in-Ok-clause-each g c =
    ap length c.in-Ok.ensures ∙ (length_below (spots_of g.N.Naming.opening) (scripts_of g.N.Naming.opening)
    ∙ sym (same_scripts c.args.board g.N.Naming.opening c.requires.names.opening))
