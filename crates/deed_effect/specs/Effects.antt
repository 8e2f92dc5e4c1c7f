-- What a deed of a script needs of the world, and which deeds take no memory.
use Rattle.std.specs.Prelude.{◌≡◌, ⊤, ℕ, Bool, true, false, not, IsTrue, Some, []}
use Rattle.run_rules.specs.World.{World, is_live, is_held, children}
use Rattle.run_rules.specs.declared.deed.Deed.{Deed}
use Rattle.run_rules.specs.declared.deed.Deed.TheVariants.{Search, EndScan, BeginInterrupts, Finalise, Open, Close, Drop, Detach, Unplug, Sleep, Wake, Free, Rescan}
use Rattle.run_rules.specs.References.{MayHold}
use Rattle.ref_ledger.specs.Refs.{IsHolder}

-- the deeds of frames
abbrev pub is_of_frame : Deed → Bool
is_of_frame (Search parent spot moved got) = true
is_of_frame (EndScan of) = true
is_of_frame BeginInterrupts = true
is_of_frame (Finalise of shown got listed anew) = true
is_of_frame _ = false

-- the others that take no memory
abbrev pub is_plain : Deed → Bool
is_plain (Open of sole) = false
is_plain (Rescan of only) = false
is_plain (Unplug spot of) = false
is_plain d = not (is_of_frame d)

-- what such a deed needs of the world: that a device is held or not, lives, or has no children
abbrev pub MayDo : World → ℕ → Deed → Type 0
MayDo w k (Open of sole) = IsHolder k × MayHold w.refs w.sole k of sole
MayDo w k (Close of) = is_held w k of ≡ true
MayDo w k (Drop of) = is_held w k of ≡ true
MayDo w k (Detach of) = IsTrue (is_live w.live of)
MayDo w k (Unplug spot (Some of)) = IsTrue (is_live w.live of)
MayDo w k (Sleep of) = IsTrue (is_live w.live of)
MayDo w k (Wake of) = IsTrue (is_live w.live of)
MayDo w k (Free of) = IsTrue (is_live w.live of) × (children w.live of ≡ [])
MayDo w k _ = ⊤
