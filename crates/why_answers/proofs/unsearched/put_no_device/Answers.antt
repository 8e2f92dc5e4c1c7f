use Rattle.std.proofs.Common.{◌≡◌, ◌∙◌, ◌++◌, ℕ, List, ap, subst}
use Rattle.std.specs.Prelude.{codes, OnOk}
use Rattle.run_rules.specs.declared.world.Setup.{Setup}
use Rattle.why_text.specs.WhyText.{spot_text}
use Rattle.why_answers.proofs.Puts.{both}
use Rattle.why_answers.proofs.unsearched.put_no_device.Goals as goal

pub returns : goal.returns
returns c =
    subst (λ (name : List ℕ). OnOk c.put_bytes-2.result (c.put_bytes-2.new.out.items ≡ c.args.out.now.items ++ (codes "no device is on its parent spot " ++ name)))
    (c.spot_name.ensures ∙ ap (λ (s : Setup). spot_text s.machine c.args.above) c.rules.view_is)
    (both c.put_bytes-2.result c.args.out.now.items c.put_bytes.new.out.items c.put_bytes-2.new.out.items (codes "no device is on its parent spot ") c.spot_name.result.now
    c.in_ok-put_bytes.ensures.ok c.put_bytes-2.ensures.ok)
