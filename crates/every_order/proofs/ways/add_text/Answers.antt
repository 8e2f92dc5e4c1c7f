use Rattle.std.proofs.Common.{◌∙◌, inl, inr, refl, sym, subst}
use Rattle.std.specs.BTreeMap.{is_at}
use Rattle.every_order.proofs.Texts.{HasEntryMore, absent_text, bytes_cmp, equal_bytes, found_text, inserted, same_bytes}
use Rattle.every_order.proofs.ways.add_text.Goals as goal

pub returns-then-contains_key : goal.returns-then-contains_key
returns-then-contains_key c =
    inl (record { among = found_text (is_at (bytes_cmp c.args.text)) c.args.text.items (same_bytes c.args.text) c.args.texts.now.entries (sym c.contains_key.ensures ∙ c.if-contains_key.true); same = refl })

pub returns : goal.returns
returns c =
    let absent = sym c.contains_key.ensures ∙ c.if-contains_key.false in
    inr (record {
      way = record { text = c.args.text; order = c.in_ok-order.order };
      text_is = refl;
      order = c.in_ok-order.ensures;
      absent = absent_text (is_at (bytes_cmp c.args.text)) c.args.text.items (equal_bytes c.args.text) c.args.texts.now.entries absent;
      more =
          subst (HasEntryMore c.args.texts.now.entries c.args.text c.in_ok-order.order) (sym c.in_ok-insert.ensures.entries)
          (inserted bytes_cmp c.args.texts.now.entries c.args.text c.in_ok-order.order absent);
    })
