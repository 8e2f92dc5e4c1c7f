use Rattle.std.proofs.Common.{◌≡◌, ◌∙◌, ap, map, not, sym, subst, List, ℕ}
use Rattle.std.specs.List.{All}
use Rattle.cf_types.proofs.KeyLemmas.{Key}
use Rattle.config_rules.specs.Select.{has_name}
use Rattle.file_select.specs.Texts.{IsShort, texts_in, with_text}
use Rattle.file_select.proofs.TextLemmas.{has_key, short_more, texts_inserted}
use Rattle.file_select.proofs.texts.TextSet.insert.Goals as goal

pub returns-clause-texts : goal.returns-clause-texts
returns-clause-texts c =
    ap (map (λ (k : Key). k.items)) c.in_ok-added.ensures.keys ∙ texts_inserted c.self.inside.texts.keys c.in_ok-key.key
    ∙ ap (with_text (texts_in c.self.inside.texts)) c.in_ok-key.ensures.items ∙ ap (λ ts. with_text ts c.args.text.now) c.self.view_is

pub returns-clause-short : goal.returns-clause-short
returns-clause-short c =
    let new : texts_in c.insert.new.self ≡ with_text c.args.self.now c.args.text.now =
    ap (map (λ (k : Key). k.items)) c.in_ok-added.ensures.keys ∙ texts_inserted c.self.inside.texts.keys c.in_ok-key.key
    ∙ ap (with_text (texts_in c.self.inside.texts)) c.in_ok-key.ensures.items ∙ ap (λ ts. with_text ts c.args.text.now) c.self.view_is in
    λ short all. subst (λ (ts : List (List ℕ)). All IsShort ts) (sym new) (short_more c.args.self.now c.args.text.now all short)

pub returns-clause-added : goal.returns-clause-added
returns-clause-added c =
    c.in_ok-added.ensures.added
    ∙ ap not (has_key c.in_ok-key.key.items c.self.inside.texts.keys ∙ ap (has_name (texts_in c.self.inside.texts)) c.in_ok-key.ensures.items)
    ∙ ap (λ ts. not (has_name ts c.args.text.now)) c.self.view_is
