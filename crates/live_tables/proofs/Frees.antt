-- The lines of the devices that go, from the last one on.
use Rattle.std.proofs.Common.{◌≡◌, ◌≤◌, ℕ, suc, true, false, List, [], ◌∷◌, ◌++◌, length, map, drop, reverse, get_or, sym, ap, ◌∙◌, arith}
use Rattle.std.specs.Prelude.{filter}
use Rattle.std.proofs.lemmas.List.{drop_all, map-append, reverse-append}
use Rattle.run_rules.specs.declared.world.Dev.{Dev}
use Rattle.live_rules.specs.declared.plan.LiveLine.{LiveLine}
use Rattle.live_rules.specs.Live.{doomed, freed, freed_line, is_doomed}
use Rattle.live_rules.proofs.Appends.{append-assoc, append_nil}
use Rattle.live_tables.specs.Going.{Grows}
use Rattle.live_tables.specs.Running.{Running}
use Rattle.live_tables.proofs.Dooms.{filter_hit, filter_miss}

-- the doomed devices from a place on
abbrev pub doomed_from : Running → ℕ → ℕ → List Dev
doomed_from r g i = filter (λ d. is_doomed r.site r.world.live g d.serial) (drop i r.world.live)

-- these have their lines, the last one first
pub record FreedSoFar (r : Running) (g : ℕ) (old new : List LiveLine) (i : ℕ) : Type 0 where
  pub within : i ≤ length r.world.live
  pub lines : new ≡ old ++ map (freed_line r.site) (reverse (doomed_from r g i))

pub none_freed : (r : Running) (g : ℕ) (lines : List LiveLine) → FreedSoFar r g lines lines (length r.world.live)
none_freed r g lines = record {
  within = omega arith;
  lines = append_nil lines ∙ ap (λ (ds : List Dev). lines ++ map (freed_line r.site) (reverse (filter (λ d. is_doomed r.site r.world.live g d.serial) ds))) (sym (drop_all (length r.world.live) r.world.live (omega arith)));
}

pub one_freed : (r : Running) (g : ℕ) (old mid new : List LiveLine) (i : ℕ) (d : Dev) → FreedSoFar r g old mid (suc i) → is_doomed r.site r.world.live g (get_or r.world.live i d).serial ≡ true
    → new ≡ mid ++ freed_line r.site (get_or r.world.live i d) ∷ [] → FreedSoFar r g old new i
one_freed r g old mid new i d h hit more =
    let e : Dev = get_or r.world.live i d in
    record {
      within = omega (arith, h.within);
      lines = more ∙ ap (λ (ls : List LiveLine). ls ++ freed_line r.site e ∷ []) h.lines ∙ append-assoc old (map (freed_line r.site) (reverse (doomed_from r g (suc i)))) (freed_line r.site e ∷ [])
          ∙ ap (λ (ls : List LiveLine). old ++ ls) (sym (map-append (freed_line r.site) (reverse (doomed_from r g (suc i))) (e ∷ [])))
          ∙ ap (λ (ds : List Dev). old ++ map (freed_line r.site) ds)
          (sym (ap reverse (filter_hit (λ (d : Dev). is_doomed r.site r.world.live g d.serial) r.world.live i d (omega (arith, h.within)) hit) ∙ reverse-append (e ∷ []) (doomed_from r g (suc i))));
    }

pub one_spared : (r : Running) (g : ℕ) (old new : List LiveLine) (i : ℕ) (d : Dev) → FreedSoFar r g old new (suc i) → is_doomed r.site r.world.live g (get_or r.world.live i d).serial ≡ false
    → FreedSoFar r g old new i
one_spared r g old new i d h miss = record {
  within = omega (arith, h.within);
  lines = h.lines
      ∙ ap (λ (ds : List Dev). old ++ map (freed_line r.site) (reverse ds)) (sym (filter_miss (λ (d : Dev). is_doomed r.site r.world.live g d.serial) r.world.live i d (omega (arith, h.within)) miss));
}

pub all_freed : (r : Running) (g : ℕ) (old new : List LiveLine) (i : ℕ) → i ≡ 0 → FreedSoFar r g old new i → new ≡ old ++ map (freed_line r.site) (freed r.site r.world g)
unfolding freed doomed
all_freed r g old new i none h = h.lines ∙ ap (λ (k : ℕ). old ++ map (freed_line r.site) (reverse (doomed_from r g k))) none

pub has_grown : (r : Running) (g : ℕ) (old new : List LiveLine) (i : ℕ) → FreedSoFar r g old new i → Grows old new
has_grown r g old new i h = record { more = map (freed_line r.site) (reverse (doomed_from r g i)); lines = h.lines }
