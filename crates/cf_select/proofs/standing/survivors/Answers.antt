use Rattle.std.proofs.Common.{◌≡◌, ◌∙◌, ◌++◌, sym, ap, arith, [], length, List, Bool, ℕ, false, true, get_or, take}
use Rattle.std.specs.Prelude.{Option}
use Rattle.std.specs.Option.{unwrap_or}
use Rattle.std.proofs.lemmas.List.{length-map, length-take-le}
use Rattle.cf_types.specs.Gather.{is_in}
use Rattle.config_rules.specs.Fault.{stmts_of}
use Rattle.config_rules.specs.Meaning.{idle_insts}
use Rattle.cf_select.proofs.NamingLemmas.{placed_more, short_more}
use Rattle.cf_select.proofs.StandingLemmas.{free_none, free_more, idle_more, idle_ends, length_front, free_all, kept_all, length_free, all_survive, none_idle}
use Rattle.cf_select.proofs.standing.survivors.Goals as goal

pub loop-i-init : goal.loop-i-init
loop-i-init c = record {
  marks = c.in_ok-free.ensures.items ∙ sym free_none;
  short = λ q x h.
      let no_way : false ≡ true = sym (ap (λ (o : Option (List ℕ)). is_in x (unwrap_or o [])) (c.in_ok-lists.ensures q)) ∙ h in
      absurd (cc);
  listed = λ q x h. let no_way : false ≡ true = sym (ap (λ (bs : List Bool). get_or bs x false) c.in_ok-free.ensures.items) ∙ h in absurd (cc);
  places = ap (λ (xs : List ℕ). xs ++ idle_insts [] (stmts_of c.args.placed.now)) (c.from_vec-idle.ensures ∙ c.in_ok-with_capacity.ensures.items);
}

pub loop-i-preserved : goal.loop-i-preserved
loop-i-preserved c =
    let size : length c.loop-i.free.items ≡ length (stmts_of (take c.loop-i.i c.args.placed.now)) =
    length_front c.args.placed.now c.loop-i.i c.loop-i.free.items c.loop-i.invariant.marks ∙ sym (length-map (take c.loop-i.i c.args.placed.now) (λ q. q.stmt)) in
    let now = c.take_back-is_idle.ensures.listed (stmts_of (take c.loop-i.i c.args.placed.now)) c.loop-i.invariant.listed in
    let at : length c.take_back-is_idle.new.free.items ≡ c.loop-i.i = c.take_back-is_idle.ensures.size ∙ length_front c.args.placed.now c.loop-i.i c.loop-i.free.items c.loop-i.invariant.marks ∙ length-take-le c.loop-i.i c.args.placed.now (omega (arith, c.loop-i-test.true)) in
    record {
      marks = free_more c.args.placed.now c.loop-i.i c.index-placed-i.result c.loop-i.free.items c.take_back-is_idle.new.free.items c.push.new.self.items
          c.loop-i-test.true c.index-placed-i.is c.loop-i.invariant.marks (c.take_back-is_idle.ensures.free (stmts_of (take c.loop-i.i c.args.placed.now)) size c.loop-i.invariant.listed) c.in_ok-push.ensures.items;
      short = short_more c.index-placed-i.result.stmt c.take_back-is_idle.new.lists c.put_instance.new.lists c.take_back-is_idle.new.free.items c.push.new.self.items c.loop-i.i
          c.take_back-is_idle.ensures.short at c.in_ok-put_instance.ensures c.in_ok-push.ensures.items;
      listed = placed_more c.args.placed.now c.loop-i.i c.index-placed-i.result c.take_back-is_idle.new.lists c.put_instance.new.lists c.take_back-is_idle.new.free.items c.push.new.self.items
          c.loop-i-test.true c.index-placed-i.is c.take_back-is_idle.ensures.short now (c.take_back-is_idle.ensures.size ∙ size) c.in_ok-put_instance.ensures c.in_ok-push.ensures.items;
      places = idle_more c.args.placed.now c.loop-i.i c.index-placed-i.result c.loop-i.free.items c.take_back-is_idle.result c.loop-i.idle c.push_idle.new.idle _
          c.loop-i-test.true c.index-placed-i.is c.loop-i.invariant.marks (c.take_back-is_idle.ensures.idle (stmts_of (take c.loop-i.i c.args.placed.now)) size c.loop-i.invariant.listed) c.loop-i.invariant.places c.in_ok-push_idle.ensures;
    }

pub keep_instances-requires : goal.keep_instances-requires
keep_instances-requires c =
    ap length (free_all c.args.placed.now c.loop-i.i c.loop-i.free.items c.loop-i-test.false c.loop-i.invariant.marks)
    ∙ length_free (stmts_of c.args.placed.now) ∙ length-map c.args.placed.now (λ q. q.stmt)

pub returns-clause-kept : goal.returns-clause-kept
returns-clause-kept c =
    c.from_vec.ensures ∙ c.keep_instances.ensures
    ∙ kept_all c.args.placed.now c.loop-i.free.items (free_all c.args.placed.now c.loop-i.i c.loop-i.free.items c.loop-i-test.false c.loop-i.invariant.marks)

pub returns-clause-idle : goal.returns-clause-idle
returns-clause-idle c = idle_ends c.args.placed.now c.loop-i.i c.loop-i.idle _ c.loop-i-test.false c.loop-i.invariant.places

pub returns-then-not-negate_instances-clause-kept : goal.returns-then-not-negate_instances-clause-kept
returns-then-not-negate_instances-clause-kept c = c.in_ok-all_instances.ensures ∙ all_survive c.args.placed.now (sym c.if-not-negate_instances.ensures)

pub returns-then-not-negate_instances-clause-idle : goal.returns-then-not-negate_instances-clause-idle
returns-then-not-negate_instances-clause-idle c = c.make.ensures ∙ sym (none_idle c.args.placed.now [] (sym c.if-not-negate_instances.ensures))
