-- What a frame's deed changes beside frames and board: a device more that is awake and not condemned, and nothing else.
use Rattle.std.proofs.Common.{◌≡◌, ℕ, not, Bool, true, false, Option, Some, None, refl, ap, ◌∙◌, arith}
use Rattle.std.specs.Prelude.{is_some}
use Rattle.cf_types.specs.declared.machine.Policy.{Policy}
use Rattle.run_rules.specs.declared.world.Arrival.{Arrival}
use Rattle.run_rules.specs.declared.world.Dev.{Dev}
use Rattle.run_rules.specs.declared.world.Placing.{Placing}
use Rattle.run_rules.specs.declared.world.Placing.TheVariants.{Nowhere, Queued, PutOff, Pushed}
use Rattle.run_rules.specs.declared.world.Position.{Position}
use Rattle.run_rules.specs.World.{World, caller_at, has_ended, is_condemned, offered_by, policy_of}
use Rattle.run_rules.specs.After.{after, arrived, attached, finaliser_done, finaliser_placed, finaliser_placing, list_moved, listed, moved_top, new_device, place_finaliser, place_scan, released, scan_placed, scan_placing, show_spot, with_stack}
use Rattle.run_rules.specs.declared.deed.Deed.TheVariants.{Search, EndScan, BeginInterrupts, Finalise, EndCaller}
use Rattle.run_sound.proofs.Comings.{Comes, attached_comes}
use Rattle.progress_laws.specs.Ahead.{condemned_in}
use Rattle.progress_laws.proofs.Turns.{Stirs, count_more}

-- references and the power turn stay
pub record Leaves (w v : World) : Type 0 where
  pub refs : v.refs ≡ w.refs
  pub owner : v.power_owner ≡ w.power_owner

then_leaves : (w u v : World) → Leaves w u → Leaves u v → Leaves w v
then_leaves w u v a b = record { refs = b.refs ∙ a.refs; owner = b.owner ∙ a.owner }

called_leaves : (c : Placing) (w : World) (k s : ℕ) → Leaves w (place_finaliser c w k s)
called_leaves Nowhere w k s = record { refs = refl; owner = refl }
called_leaves Queued w k s = record { refs = refl; owner = refl }
called_leaves PutOff w k s = record { refs = refl; owner = refl }
called_leaves Pushed w k s = record { refs = refl; owner = refl }

scan_leaves : (c : Placing) (w : World) (k parent s : ℕ) → Leaves w (place_scan c w k parent s)
scan_leaves Nowhere w k parent s = record { refs = refl; owner = refl }
scan_leaves Queued w k parent s = record { refs = refl; owner = refl }
scan_leaves PutOff w k parent s = record { refs = refl; owner = refl }
scan_leaves Pushed w k parent s = record { refs = refl; owner = refl }

attached_leaves : (w : World) (k : ℕ) (a : Arrival) (may_defer : Bool) → Leaves w (attached w k a may_defer)
unfolding attached scan_placed finaliser_placed listed
attached_leaves w k a may_defer =
    let p : Policy = policy_of w.setup a.row in
    let u : World = place_finaliser (finaliser_placing p (has_ended (listed w a) 0)) (listed w a) k w.next in
    let called : Leaves (listed w a) u = called_leaves (finaliser_placing p (has_ended (listed w a) 0)) (listed w a) k w.next in
    let scan : Leaves u (attached w k a may_defer) = scan_leaves (scan_placing p (offered_by w.setup a.row) u.interrupts_on may_defer) u k a.parent w.next in
    record { refs = scan.refs ∙ called.refs; owner = scan.owner ∙ called.owner }

-- and of the devices no more are condemned, and one more at most is awake
pub record Side (w v : World) : Type 0 where
  pub leaves : Leaves w v
  pub condemned : condemned_in v.live ≡ condemned_in w.live
  pub stirs : Stirs 1 w v

same_side : (w v : World) → v.live ≡ w.live → v.refs ≡ w.refs → v.power_owner ≡ w.power_owner → Side w v
same_side w v live refs owner = record {
  leaves = record { refs = refs; owner = owner };
  condemned = ap condemned_in live;
  stirs = record { asleep = rw live (omega arith); awake = rw live (omega arith) };
}

-- of the world that has the same devices
side_from : (w u v : World) → u.live ≡ w.live → u.refs ≡ w.refs → u.power_owner ≡ w.power_owner → Side u v → Side w v
side_from w u v live refs owner s = record {
  leaves = record { refs = s.leaves.refs ∙ refs; owner = s.leaves.owner ∙ owner };
  condemned = s.condemned ∙ ap condemned_in live;
  stirs = record { asleep = rw live at s.stirs.asleep; awake = rw live at s.stirs.awake };
}

side_on : (w u v : World) → Side w u → v.live ≡ u.live → v.refs ≡ u.refs → v.power_owner ≡ u.power_owner → Side w v
side_on w u v s live refs owner = record {
  leaves = record { refs = refs ∙ s.leaves.refs; owner = owner ∙ s.leaves.owner };
  condemned = ap condemned_in live ∙ s.condemned;
  stirs = record { asleep = rw live s.stirs.asleep; awake = rw live s.stirs.awake };
}

come_side : (w : World) (k : ℕ) (got : Option Arrival) (may_defer : Bool) → Side w (arrived w k got may_defer)
come_side w k None may_defer = same_side w w refl refl refl
come_side w k (Some a) may_defer =
    let is : Comes w (attached w k a may_defer) a = attached_comes w k a may_defer in
    let d : Dev = new_device w a in
    record {
      leaves = attached_leaves w k a may_defer;
      condemned = rw is.live (omega (arith, count_more is_condemned w.live d));
      stirs = record {
        asleep = rw is.live (omega (arith, count_more (λ x. x.asleep) w.live d));
        awake = rw is.live (omega (arith, count_more (λ x. not x.asleep) w.live d));
      };
    }

done_side : (w u : World) (k : ℕ) (place : Option ℕ) (anew answer : Bool) → Side w u → Side w (finaliser_done (list_moved u place anew answer) k place answer)
done_side w u k (Some place) anew answer s = side_on w u _ s refl refl refl
done_side w u k None anew true s = s
done_side w u k None anew false s = side_on w u _ s refl refl refl

shown_side : (w : World) (spot : Option ℕ) (v : World) → Side (show_spot w spot) v → Side w v
shown_side w None v s = s
shown_side w (Some x) v s = side_from w (show_spot w (Some x)) v refl refl refl s

pub search_side : (w : World) (k p spot : ℕ) (to : Position) (got : Option Arrival) → Side w (after w k (Search p spot to got))
unfolding after
search_side w k p spot to got = side_from w (with_stack w k (moved_top to (caller_at w k).stack)) _ refl refl refl (come_side (with_stack w k (moved_top to (caller_at w k).stack)) k got true)

pub end_side : (w : World) (k p : ℕ) → Side w (after w k (EndScan p))
unfolding after released
end_side w k p = same_side w _ refl refl refl

pub phase_side : (w : World) (k : ℕ) → Side w (after w k BeginInterrupts)
unfolding after released
phase_side w k = same_side w _ refl refl refl

pub finalise_side : (w : World) (k s : ℕ) (spot : Option ℕ) (got : Option Arrival) (place : Option ℕ) (anew : Bool) → Side w (after w k (Finalise s spot got place anew))
unfolding after
finalise_side w k s spot got place anew =
    done_side w (arrived (show_spot w spot) k got false) k place anew (is_some spot) (shown_side w spot _ (come_side (show_spot w spot) k got false))

pub ended_side : (w : World) (k : ℕ) → Side w (after w k EndCaller)
unfolding after
ended_side w k = same_side w _ refl refl refl
