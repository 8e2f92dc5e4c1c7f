use Rattle.std.proofs.Common.{◌≡◌, ◌%◌, ◌^◌, ◌*◌, ℕ, length, sym, refl, ap, ◌∙◌, subst, arith}
use Rattle.std.specs.Prelude.{slice_get, ◌==◌, ◌<◌}
use Rattle.atomic_table.specs.Table.{Allows}
use prog.Atomic.{either}
use Rattle.ref_ledger.specs.declared.state.SlotState.TheVariants.{Condemned}
use Rattle.lease_table.specs.Shown.{states_in}
use Rattle.lease_table.specs.Leases.{Buries, next_generation, slot_at}
use Rattle.lease_table.specs.Words.{said}
use Rattle.lease_table.proofs.Keeps.{peeks, buries, rule}
use Rattle.lease_table.proofs.States.{known_state, none_noticed}
use Rattle.lease_table.proofs.table.LeaseTable.bury.Goals as goal

pub load-word-requires : goal.load-word-requires
load-word-requires c =
    let t = c.self.inside in
    let s = c.keeper.inside.seat in
    let table = ap (λ z. z.table) c.keeper.view_is ∙ (c.requires.table ∙ sym c.self.view_is) in
    let known = known_state s.me.0 c.args.slot Condemned (ap (λ z. slice_get (states_in z.view) c.args.slot) c.keeper.view_is ∙ c.requires.state) in
    let words = ap (λ z. z.words) table in
    let wide = c.self.invariant in
    let many = c.keeper.invariant.1 in
    let inside = known.0 in (
      table,
      omega arith,
      peeks t.table.shared.key t.table.shared.table_id.slots s.id s.me.0 s.me.1 c.args.slot (omega arith) c.keeper.invariant.0,
    )

pub compare_exchange-found-requires : goal.compare_exchange-found-requires
compare_exchange-found-requires c =
    let t = c.self.inside in
    let s = c.keeper.inside.seat in
    let u = c.load-word.new.seat in
    let word = c.load-word.result in
    let table = ap (λ z. z.table) c.keeper.view_is ∙ (c.requires.table ∙ sym c.self.view_is) in
    let known = known_state s.me.0 c.args.slot Condemned (ap (λ z. slice_get (states_in z.view) c.args.slot) c.keeper.view_is ∙ c.requires.state) in
    let words = ap (λ z. z.words) table in
    let wide = c.self.invariant in
    let many = c.keeper.invariant.1 in
    let inside = known.0 in
    let clear : word % 2 ^ 16 ≡ 0 = sym c.low_of-mask.ensures ∙ c.if-mask-ne0.false in
    let same : u.me.0 ≡ s.me.0 = c.load-word.ensures.2.view ∙ none_noticed (word % 2 ^ 16) s.me.0 c.args.slot (said word) clear in
    let long = subst (λ z. c.args.slot < length z.standing.slots) (sym same) inside in
    let next : c.free_word.result ≡ next_generation (slot_at u.me.0.standing c.args.slot).generation * 2 ^ 18 =
    c.free_word.ensures ∙ ap (λ g. next_generation g * 2 ^ 18) (c.load-word.ensures.2.says.generation ∙ ap (λ z. (slot_at z.standing c.args.slot).generation) (sym same)) in (
      c.load-word.ensures.0 ∙ table,
      omega arith,
      subst (λ (k : ℕ). Allows (rule t.table.shared.key) t.table.shared.table_id.slots u.id u.me c.args.slot (λ x. either (x == word) k x) (λ x m. Buries c.args.slot word u.me.0 x m.0)) (sym next)
          (buries t.table.shared.key t.table.shared.table_id.slots u.id u.me.0 u.me.1 c.args.slot word (next_generation (slot_at u.me.0.standing c.args.slot).generation) (omega arith) (ap (λ z. z.standing.keeps) same ∙ c.keeper.invariant.0) long clear refl),
    )
