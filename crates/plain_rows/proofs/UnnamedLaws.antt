-- The match values of attachments that no line of a spot's own names.
use Rattle.std.proofs.Common.{◌≡◌, ℕ, Bool, true, false, cond, ◌&&◌, ◌==◌, List, [], ◌∷◌, find, reverse, ◌∙◌, ap, refl, None, Some}
use Rattle.std.specs.List.{list_any}
use Rattle.std.specs.Option.{option_map_or, option_or}
use Rattle.std.proofs.lemmas.Bool.{or_parts}
use Rattle.std.proofs.lemmas.List.{reverse-append}
use Rattle.std.proofs.lemmas.List.Folds.{find-append}
use Rattle.cf_types.specs.declared.machine.MatchLine.{MatchLine}
use Rattle.run_rules.specs.MatchLines.{is_for, last_value}

unfound : (p q : MatchLine → Bool) (lines : List MatchLine) → list_any p lines ≡ false → find (λ line. p line && q line) (reverse lines) ≡ None
unfound p q [] h = refl
unfound p q (x ∷ lines) h =
    let parts = or_parts (p x) (list_any p lines) h in
    ap (find (λ line. p line && q line)) (reverse-append (x ∷ []) lines)
    ∙ find-append (λ line. p line && q line) (reverse lines) (x ∷ [])
    ∙ ap (λ o. option_or o (cond (p x && q x) (Some x) None)) (unfound p q lines parts.1)
    ∙ ap (λ b. cond (b && q x) (Some x) None) parts.0

pub none_named : (x : ℕ) (own : List MatchLine) (a given : ℕ) → list_any (λ line. line.attach == a) own ≡ false → last_value (Some x) own a given ≡ given
none_named x own a given h = ap (λ o. option_map_or (λ line. line.value) o given) (unfound (λ line. line.attach == a) (is_for (Some x)) own h)

pub either : (b : Bool) (everywhere kept value : ℕ) → everywhere ≡ value → (b ≡ false → kept ≡ value) → cond b everywhere kept ≡ value
either true everywhere kept value e k = e
either false everywhere kept value e k = k refl
