use Rattle.std.proofs.Common.{◌≡◌, ◌≤◌, length, map, take}
use Rattle.std.specs.Vec.{vec_capacity, vec_len}
use Rattle.config_rules.specs.Cut.{pieces}
use Rattle.cf_words.specs.Words.{piece_of}
use Rattle.cf_grammar.specs.Statement.{are_short}
use Rattle.cf_grammar.proofs.grammar.put_words.Given as goal

abbrev pub invariant-loop-token : goal.invariant-loop-token
invariant-loop-token l = record {
  words : map piece_of l.room.items ≡ pieces l.text (take l.token-index l.tokens);
  short : l.short ≡ are_short (pieces l.text (take l.token-index l.tokens));
  count : vec_len l.room ≡ l.token-index;
  room : length l.tokens ≤ vec_capacity l.room;
}
