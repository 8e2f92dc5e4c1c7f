-- What one event more changes in the parents of the devices that live.
use Rattle.std.proofs.Common.{◌≡◌, ℕ, Bool, true, false, ◌||◌, cond, List, [], ◌∷◌, ◌++◌, Option, Some, None, refl, sym, ap, ◌∙◌, bytes_eq}
use Rattle.std.specs.Prelude.{option_map, option_and_then}
use Rattle.std.specs.Option.{option_or}
use Rattle.std.specs.HashMap.{HashMap}
use Rattle.run_rules.specs.declared.event.Event.{Event}
use Rattle.run_rules.specs.declared.event.Act.{Act}
use Rattle.run_rules.specs.declared.event.Act.TheVariants as act
use Rattle.run_rules.specs.declared.event.Got.{Got}
use Rattle.run_rules.specs.Laws.{attached_below, attached_name, freed_name, is_name, lives, parent_in}
use Rattle.history_laws.proofs.Grown.{lives_on, parent_on}
use Rattle.history_laws.specs.Always.{FreesLiving}
use Rattle.history_laws.proofs.Names.{bytes_same}
use Rattle.dev_monitor.specs.declared.news.News.{News}
use Rattle.dev_monitor.specs.Notes.{came, news_at, went}
use Rattle.dev_monitor.specs.Parents.{AreParents, KeepsParents, NotesParent, living_parent, news_by, parent_of, parent_then}

-- ---- what an act does to the devices that live

-- it attaches one, or frees one, or neither
pub data Deals (a : Act) : Type 0 where
  attaches : (x : List ℕ) → attached_name a ≡ Some x → freed_name a ≡ None → Deals a
  frees : (x : List ℕ) → attached_name a ≡ None → freed_name a ≡ Some x → Deals a
  neither : attached_name a ≡ None → freed_name a ≡ None → Deals a

pub deals : (a : Act) → Deals a
deals (act.Found parent spot None) = neither refl refl
deals (act.Found parent spot (Some got)) = attaches got.name refl refl
deals (act.Final device None) = neither refl refl
deals (act.Final device (Some shown)) = shows shown.got refl
  where
    shows : (got : Option Got) → shown.got ≡ got → Deals (act.Final device (Some shown))
    shows None is = neither (ap (λ (o : Option Got). option_map (λ g. g.name) o) is) refl
    shows (Some got) is = attaches got.name (ap (λ (o : Option Got). option_map (λ g. g.name) o) is) refl
deals (act.Free device) = frees device refl refl
deals act.Interrupts = neither refl refl
deals act.End = neither refl refl
deals (act.ScanEnd device) = neither refl refl
deals (act.DropRef device) = neither refl refl
deals (act.OpenDev device reply) = neither refl refl
deals (act.OpenSole device reply) = neither refl refl
deals (act.CloseDev device reply) = neither refl refl
deals (act.IoStart device value reply) = neither refl refl
deals (act.IoDone device answer) = neither refl refl
deals (act.Detach device reply) = neither refl refl
deals (act.Rescan device reply) = neither refl refl
deals (act.ListDev device names) = neither refl refl
deals (act.TreeDev device names) = neither refl refl
deals (act.Power kind device reply) = neither refl refl
deals (act.Sleep device) = neither refl refl
deals (act.Wake device) = neither refl refl
deals (act.PowerEnd device reply) = neither refl refl
deals (act.Plug spot reply) = neither refl refl
deals (act.Unplug spot reply) = neither refl refl

-- ---- one event more

abbrev lives_by : Option (List ℕ) → Option (List ℕ) → List ℕ → Bool → Bool
lives_by attached freed x before = cond (is_name attached x || is_name freed x) (is_name attached x) before

abbrev parent_by : Option (List ℕ) → List ℕ → List ℕ → Option (List ℕ) → Option (List ℕ)
parent_by attached below x before = cond (is_name attached x) (Some below) before

abbrev living : Bool → Option (List ℕ) → Option (List ℕ)
living b o = cond b o None

grown : (h : List Event) (e : Event) (x : List ℕ) (attached freed : Option (List ℕ)) → attached_name e.act ≡ attached → freed_name e.act ≡ freed
    → living_parent (h ++ e ∷ []) x ≡ living (lives_by attached freed x (lives h x)) (parent_by attached (attached_below e.act) x (parent_in h x))
grown h e x attached freed came went =
    ap (λ (b : Bool). living b (parent_in (h ++ e ∷ []) x)) (lives_on h e x)
    ∙ ap (λ (o : Option (List ℕ)). living (lives_by (attached_name e.act) (freed_name e.act) x (lives h x)) o) (parent_on h e x)
    ∙ ap (λ (o : Option (List ℕ)). living (lives_by o (freed_name e.act) x (lives h x)) (parent_by o (attached_below e.act) x (parent_in h x))) came
    ∙ ap (λ (o : Option (List ℕ)). living (lives_by attached o x (lives h x)) (parent_by attached (attached_below e.act) x (parent_in h x))) went

-- a device that comes has the parent that is named, and the others as before
came_now : (b live : Bool) (below : List ℕ) (before : Option (List ℕ)) → living (cond (b || false) b live) (cond b (Some below) before) ≡ cond b (Some below) (living live before)
came_now true live below before = refl
came_now false live below before = refl

pub attached_parent : (h : List Event) (e : Event) (d x : List ℕ) → attached_name e.act ≡ Some d → freed_name e.act ≡ None
    → living_parent (h ++ e ∷ []) x ≡ cond (bytes_eq d x) (Some (attached_below e.act)) (living_parent h x)
attached_parent h e d x came went =
    grown h e x (Some d) None came went ∙ came_now (bytes_eq d x) (lives h x) (attached_below e.act) (parent_in h x)

-- a device that goes has none
gone_now : (b live : Bool) (before : Option (List ℕ)) → living (cond (false || b) false live) before ≡ cond b None (living live before)
gone_now true live before = refl
gone_now false live before = refl

pub freed_parent : (h : List Event) (e : Event) (d x : List ℕ) → attached_name e.act ≡ None → freed_name e.act ≡ Some d
    → living_parent (h ++ e ∷ []) x ≡ cond (bytes_eq d x) None (living_parent h x)
freed_parent h e d x came went = grown h e x None (Some d) came went ∙ gone_now (bytes_eq d x) (lives h x) (parent_in h x)

pub same_parent : (h : List Event) (e : Event) (x : List ℕ) → attached_name e.act ≡ None → freed_name e.act ≡ None → living_parent (h ++ e ∷ []) x ≡ living_parent h x
same_parent h e x came went = grown h e x None None came went

-- ---- what is told by the map

abbrev news_from : List ℕ → Option (List ℕ) → (List ℕ → Option (List ℕ)) → Option (List ℕ) → Option News
news_from below attached parent freed =
    option_or (option_map (came below) attached) (option_and_then (λ x. option_map (λ p. went p x) (parent x)) freed)

gone_from : (h : List Event) (e : Event) (x : List ℕ) → lives h x ≡ true → living_parent h x ≡ parent_in h x
gone_from h e x is = ap (λ (b : Bool). living b (parent_in h x)) is

unmapped : (o : Option (List ℕ)) (d : List ℕ) → option_map (λ p. went p d) o ≡ None → o ≡ None
unmapped None d h = refl
unmapped (Some p) d h = absurd (cc)

mapped : (o : Option (List ℕ)) (d : List ℕ) (n : News) → option_map (λ p. went p d) o ≡ Some n → (p : List ℕ) × (n ≡ went p d)
mapped None d n h = absurd (cc)
mapped (Some p) d n h = (p, cc)

module _ {S : Type 0} where
  -- it is what the event tells after those before it
  pub told_by : (h : List Event) (e : Event) (parents : HashMap (List ℕ) (List ℕ) S) → AreParents h parents → FreesLiving h e → news_by parents e.act ≡ news_at h e
  told_by h e parents are living_first = by_freed (freed_name e.act) refl
    where
      by_freed : (freed : Option (List ℕ)) → freed_name e.act ≡ freed → news_by parents e.act ≡ news_at h e
      by_freed None is =
          ap (news_from (attached_below e.act) (attached_name e.act) (parent_of parents)) is
          ∙ sym (ap (news_from (attached_below e.act) (attached_name e.act) (parent_in h)) is)
      by_freed (Some x) is =
          ap (news_from (attached_below e.act) (attached_name e.act) (parent_of parents)) is
          ∙ ap (λ (o : Option (List ℕ)). option_or (option_map (came (attached_below e.act)) (attached_name e.act)) (option_map (λ p. went p x) o)) (are x ∙ gone_from h e x (living_first x is))
          ∙ sym (ap (news_from (attached_below e.act) (attached_name e.act) (parent_in h)) is)

  news_attached : (e : Event) (parents : HashMap (List ℕ) (List ℕ) S) (d : List ℕ) → attached_name e.act ≡ Some d
      → news_by parents e.act ≡ Some (record { attach = true; device = d; parent = attached_below e.act })
  news_attached e parents d came = ap (λ (o : Option (List ℕ)). news_from (attached_below e.act) o (parent_of parents) (freed_name e.act)) came

  news_freed : (e : Event) (parents : HashMap (List ℕ) (List ℕ) S) (d : List ℕ) → attached_name e.act ≡ None → freed_name e.act ≡ Some d
      → news_by parents e.act ≡ option_map (λ p. went p d) (parent_of parents d)
  news_freed e parents d came gone =
      ap (λ (o : Option (List ℕ)). news_from (attached_below e.act) o (parent_of parents) (freed_name e.act)) came ∙ ap (news_from (attached_below e.act) None (parent_of parents)) gone

  news_neither : (e : Event) (parents : HashMap (List ℕ) (List ℕ) S) → attached_name e.act ≡ None → freed_name e.act ≡ None → news_by parents e.act ≡ None
  news_neither e parents came gone =
      ap (λ (o : Option (List ℕ)). news_from (attached_below e.act) o (parent_of parents) (freed_name e.act)) came ∙ ap (news_from (attached_below e.act) None (parent_of parents)) gone

  -- nothing is told where no device came or went
  nothing_new : (h : List Event) (e : Event) (old new : HashMap (List ℕ) (List ℕ) S) → AreParents h old → KeepsParents old new → attached_name e.act ≡ None → freed_name e.act ≡ None
      → AreParents (h ++ e ∷ []) new
  nothing_new h e old new are kept came went x = kept x ∙ are x ∙ sym (same_parent h e x came went)

  -- where the map has nothing to forget, all is as before
  nothing_gone : (h : List Event) (e : Event) (old new : HashMap (List ℕ) (List ℕ) S) (d x : List ℕ) (b : Bool) → AreParents h old → KeepsParents old new → parent_of old d ≡ None → bytes_eq d x ≡ b
      → parent_of new x ≡ cond b None (living_parent h x)
  nothing_gone h e old new d x true are kept none same =
      kept x ∙ ap (parent_of old) (sym (bytes_same d x same)) ∙ none
  nothing_gone h e old new d x false are kept none same = kept x ∙ are x

  pub kept_parents : (h : List Event) (e : Event) (old new : HashMap (List ℕ) (List ℕ) S) → AreParents h old → news_by old e.act ≡ None → KeepsParents old new → AreParents (h ++ e ∷ []) new
  kept_parents h e old new are none kept = by_deal (deals e.act)
    where
      by_deal : Deals e.act → AreParents (h ++ e ∷ []) new
      by_deal (attaches d came went) =
          let told = news_attached e old d came in
          absurd (cc)
      by_deal (frees d came went) = λ x.
          nothing_gone h e old new d x (bytes_eq d x) are kept (unmapped (parent_of old d) d (sym (news_freed e old d came went) ∙ none)) refl ∙ sym (freed_parent h e d x came went)
      by_deal (neither came went) = nothing_new h e old new are kept came went

  pub noted_parents : (h : List Event) (e : Event) (old new : HashMap (List ℕ) (List ℕ) S) (n : News) → AreParents h old → news_by old e.act ≡ Some n → NotesParent n old new → AreParents (h ++ e ∷ []) new
  noted_parents h e old new n are some noted = by_deal (deals e.act)
    where
      by_deal : Deals e.act → AreParents (h ++ e ∷ []) new
      by_deal (attaches d came went) = λ q.
          let told = news_attached e old d came in
          let is : n ≡ record { attach = true; device = d; parent = attached_below e.act } = cc in
          noted q ∙ ap (λ (m : News). cond (bytes_eq m.device q) (parent_then m) (parent_of old q)) is
          ∙ ap (λ (o : Option (List ℕ)). cond (bytes_eq d q) (Some (attached_below e.act)) o) (are q) ∙ sym (attached_parent h e d q came went)
      by_deal (frees d came went) = λ q.
          let is = mapped (parent_of old d) d n (sym (news_freed e old d came went) ∙ some) in
          noted q ∙ ap (λ (m : News). cond (bytes_eq m.device q) (parent_then m) (parent_of old q)) is.1
          ∙ ap (λ (o : Option (List ℕ)). cond (bytes_eq d q) None o) (are q) ∙ sym (freed_parent h e d q came went)
      by_deal (neither came went) =
          let told = news_neither e old came went in
          absurd (cc)
