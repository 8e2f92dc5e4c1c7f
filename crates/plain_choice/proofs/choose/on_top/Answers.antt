use Rattle.std.proofs.Common.{◌≡◌, ◌≤◌, List, [], ◌∷◌, length, get_or, drop, sym, ap, ◌∙◌, arith}
use Rattle.run_rules.specs.declared.world.Frame.{Frame}
use Rattle.run_rules.specs.Next as next
use Rattle.plain_world.specs.Plain.{world_of}
use Rattle.plain_choice.proofs.choose.on_top.Goals as goal

-- the frame on top, and those under it
top_is : (frames : List Frame) (top : Frame) → 1 ≤ length frames → top ≡ get_or frames 0 top → frames ≡ top ∷ drop 1 frames
top_is [] top some is = absurd (omega (arith, some))
top_is (f ∷ frames) top some is = ap (λ (g : Frame). g ∷ frames) (sym is)

pub returns-in-len1-up : goal.returns-in-len1-up
returns-in-len1-up c =
    let stack = sym c.stack.ensures ∙ top_is c.stack.result.now c.frame-item.result (omega (arith, c.in-len1-up.len_at_least)) c.frame-item.is in
    ap (next.on_top (world_of c.args.seeker.now.rules.now c.args.plain.now) c.args.caller) stack ∙ c.next_frame.ensures c.args.caller (drop 1 c.stack.result.now)
