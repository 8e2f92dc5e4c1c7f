-- What the addition of a group answers.
use Rattle.std.proofs.Common.{◌≡◌, true, false, ℕ, List, refl, sym, ap, subst}
use Rattle.run_rules.specs.World.{has}
use Rattle.live_rules.specs.declared.plan.LiveLine.{LiveLine}
use Rattle.live_rules.specs.declared.plan.LiveReply.TheVariants as reply
use Rattle.live_rules.specs.Laws.{IsSound, IsUndone}
use Rattle.live_rules.specs.Live.{Settled, add, scan, turned_on}
use Rattle.live_rules.proofs.Appends.{append_nil}
use Rattle.live_rules.proofs.Undoes.{add_undone}
use Rattle.live_tables.specs.Answers.{Answers, Leaves}
use Rattle.live_tables.specs.Running.{Running}

pub is_on_already : (r : Running) (g : ℕ) (lines : List LiveLine) → has r.world.on g ≡ true → Answers r r lines lines (add r.site r.world g) reply.OnAlready
unfolding add
is_on_already r g lines on = rw on (record { reply = refl; leaves = record { running = refl; lines = append_nil lines } })

pub is_added : (r v : Running) (g : ℕ) (old new : List LiveLine) → has r.world.on g ≡ false
    → Leaves (record r { world = turned_on r.world g }) v old new (scan r.site (turned_on r.world g)) → Answers r v old new (add r.site r.world g) reply.Ok
unfolding add scan
is_added r v g old new off h = rw off (record { reply = refl; leaves = record { running = h.running; lines = h.lines } })

pub is_undone : (r v : Running) (g : ℕ) (old new : List LiveLine) → IsSound r.site r.world → Answers r v old new (add r.site r.world g) reply.Ok → Settled r.site r.world → IsUndone r.site r.world g v.world
is_undone r v g old new h a settled = subst (IsUndone r.site r.world g) (sym (ap (λ (q : Running). q.world) a.leaves.running)) (add_undone r.site r.world g h settled (sym a.reply))
