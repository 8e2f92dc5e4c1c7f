use Rattle.config_rules.specs.Form.{is_mark}
use Rattle.cf_words.specs.Words.{piece_of}
use Rattle.cf_words.proofs.ListLemmas.{map_before, map_from}
use Rattle.cf_words.proofs.word.split_before.Goals as goal

pub returns-clause-before : goal.returns-clause-before
returns-clause-before c = map_before piece_of (is_mark c.args.mark.now) c.args.words.now _ c.count_before.result c.count_before.ensures c.split_at.ensures.front

pub returns-clause-from : goal.returns-clause-from
returns-clause-from c = map_from piece_of (is_mark c.args.mark.now) c.args.words.now _ c.count_before.result c.count_before.ensures c.split_at.ensures.back
