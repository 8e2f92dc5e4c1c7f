use Rattle.std.proofs.Common.{inl, refl, sym}
use Rattle.plain_effect.proofs.CallerLaws.{ok_more}
use Rattle.every_order.specs.declared.known.Met.{Met}
use Rattle.every_order.proofs.known.meet.Goals as goal

pub returns : goal.returns
returns c =
    let one : Met = record { plain = c.args.plain; from = c.args.from; caller = c.args.caller; depth = c.args.depth; print = c.print_of-print.result; earlier = c.head_of-earlier.result } in
    ok_more c.add.result c.add.ensures (λ added. inl (record {
      one = one;
      of_turn = record { world = refl; from_is = refl; caller_is = refl; depth_is = refl };
      printed = λ s. sym (c.print_of-print.ensures s);
      earlier = c.head_of-earlier.ensures;
      fresh = c.if-has_world.ensures.no refl;
      added = added;
    }))
