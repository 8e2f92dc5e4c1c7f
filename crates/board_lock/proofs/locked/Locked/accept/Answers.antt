use Rattle.std.proofs.Common.{ℕ, sym, ap, ◌∙◌, arith, ◌+◌, subst}
use Rattle.board_lock.specs.Boards.{one_end}
use Rattle.board_lock.specs.Tallies.{Totals}
use Rattle.board_lock.specs.Turning.{EndsTransfer}
use Rattle.board_lock.proofs.Books.{booked, one_more}
use Rattle.board_lock.proofs.Carried.{carried_next, same_ticket}
use Rattle.board_lock.proofs.Posted.{ends_transfer, keeps_leases, posted_is}
use Rattle.board_lock.proofs.locked.Locked.accept.Goals as goal

pub count_event-requires : goal.count_event-requires
count_event-requires g c =
    let b = booked c.args.done.caller c.self.inside.board c.post.new.self c.in-Did.place c.in-Did.told c.event.result.now c.in-Did.ensures.post.3 c.event.ensures in
    let same = c.caller.ensures.caller in
    let is = c.requires.caller in
    let some = c.caller.ensures.range.0 in
    λ z. let at = b.caller in omega arith

pub invariant_of-self-2 : goal.invariant_of-self-2
invariant_of-self-2 g c =
    let e = c.event.result.now in
    let kept = c.self.invariant.0 in
    let b = booked c.args.done.caller c.self.inside.board c.post.new.self c.in-Did.place c.in-Did.told e c.in-Did.ensures.post.3 c.event.ensures in
    let is = c.requires.caller in
    let same = c.caller.ensures.caller in
    let from = c.caller.ensures.range.0 in
    let more = one_more c.args.done.caller c.self.inside.board c.post.new.self c.in-Did.told e b (omega arith) in
    let books = c.count_event.ensures.books in
    let post = c.in-Did.ensures.post in (
      record {
        opening = b.began ∙ kept.opening;
        closings = ap (λ (t : Totals). t.closings) books ∙ (ap (λ n. n + one_end e) kept.closings ∙ sym b.ends);
        dids = ap (λ (t : Totals). t.dids) books ∙ (ap (λ n. n + 1) kept.dids ∙ sym more);
        rights = let stops = b.stops in let left = ap (λ (t : Totals). t.rights) books in let all = kept.rights in omega arith;
        words = kept.words;
        states = kept.states ∙ sym c.post.ensures.slots;
      },
      carried_next g.N.Naming.carried g.N.Naming.opening c.args.done.caller c.in-Did.place c.self.inside.board c.post.new.self c.in-Did.told c.self.invariant.1 post.3
          (λ ticket chosen. subst g.N.Naming.carried (same_ticket c.args.done ticket (sym post.2 ∙ chosen)) c.requires.carried),
    )

pub returns : goal.returns
returns g c =
    let e = c.event.result.now in
    let post = c.in-Did.ensures.post in
    let a = post.3 in
    let old = c.self.inside.board in
    let b = booked c.args.done.caller old c.post.new.self c.in-Did.place c.in-Did.told e a c.event.ensures in
    let ends = ends_transfer c.args.done.caller c.args.done old c.post.new.self c.in-Did.told e b post.2 in (
      e,
      record {
        shows = record { began = ap (λ t. t.began) a.told ∙ c.self.invariant.0.opening; caller = ap (λ t. t.caller) a.told ∙ c.requires.caller };
        answer = ap (λ t. t.answer) a.told;
        shown = b.event;
        by = b.caller ∙ c.requires.caller;
      },
      subst (λ (k : ℕ). EndsTransfer k c.args.done e) c.requires.caller ends,
      keeps_leases c.args.done.caller c.in-Did.place c.args.done old c.post.new.self c.in-Did.told a post.2,
      c.count_event.ensures.seat ∙ posted_is c.args.done.caller c.args.done c.args.seat.now e ends,
    )
