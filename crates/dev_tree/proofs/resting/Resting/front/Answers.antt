use Rattle.std.proofs.Common.{◌≤◌, ◌⊎◌, length, inl, inr, arith}
use Rattle.std.proofs.lemmas.Bool.{cases_lt}
use Rattle.dev_tree.proofs.RestLaws.{found_front}
use Rattle.dev_tree.proofs.resting.Resting.front.Goals as goal

pub returns : goal.returns
returns c = λ test fails.
    let near : (c.args.self.asleep_from ≤ c.min.result) ⊎ (length c.args.live.now ≤ c.min.result) =
    elim (cases_lt (length c.args.live.now) c.args.self.asleep_from) [ inl less ↦ inr (omega (arith, less, c.min.ensures)) | inr more ↦ inl (omega (arith, more, c.min.ensures)) ] in
    found_front test c.args.live.now c.min.result c.args.self fails near c.requires
