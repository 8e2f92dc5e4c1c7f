use Rattle.std.proofs.Common.{refl, arith}
use Rattle.cf_lexer.specs.Lines.{first_of}
use Rattle.cf_lexer.proofs.QuoteLemmas.{token_fits}
use Rattle.cf_lexer.proofs.LineLemmas.{line_goes_on, line_stops}
use Rattle.cf_lexer.proofs.line.push_rare.Goals as goal

pub returns-in-Err : goal.returns-in-Err
returns-in-Err c = (refl, line_stops c.args.tokens.now.items c.args.line c.args.at c.in-Err.code c.args.first (first_of c.args.more.now) c.in-Err.ensures.front)

pub returns : goal.returns
returns c = (
  c.in-Ok.ensures.within.some,
  omega (arith, c.in-Ok.ensures.within.fits),
  line_goes_on c.args.tokens.now.items c.push_span.new.tokens.items c.args.line c.args.at c.args.first (first_of c.args.more.now) c.in-Ok.front c.in-Ok.ensures.front c.in_ok-push_span.ensures,
)

pub push_span-requires : goal.push_span-requires
push_span-requires c = token_fits c.in-Ok.front c.args.at _ c.args.more.now c.in-Ok.ensures.within c.requires
