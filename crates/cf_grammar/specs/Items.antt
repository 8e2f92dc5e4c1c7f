-- The forms of items.
use Rattle.std.specs.Prelude.{Bool, List, Option, Some, option_and_then, option_map}
use Rattle.cf_types.specs.declared.stmt.Item.{Item}
use Rattle.cf_types.specs.declared.stmt.Piece.{Piece}
use Rattle.config_rules.specs.Form.{bytes_of, item, make_item, name_of, option_item}
use Rattle.cf_grammar.specs.declared.item.ItemForm.{ItemForm}
use Rattle.cf_grammar.specs.declared.item.ItemForm.TheVariants as form

-- an item with a value
abbrev pub valued_item : Bool → Piece → Piece → Option Item
valued_item plus name value = option_and_then (λ n. option_map (λ v. item n plus (Some v)) (bytes_of value)) (name_of name)

-- what an item is, by the statement in which it stands
abbrev pub item_form : ItemForm → List Piece → Option Item
item_form form.Options = option_item
item_form form.MakeOptions = make_item
