-- What is known about a setup before any event.
use Rattle.run_rules.specs.declared.world.Setup.{Setup}
use Rattle.match_search.specs.Fixed.{AreFixed}
use Rattle.match_search.specs.Index.{IsIndexOf}
use Rattle.match_search.specs.Leaders.{AreLeadersOf}
use Rattle.scan_engine.specs.Spans.{AreSpansOf}
use Rattle.scan_engine.specs.Styled.{AreStylesOf}
use Rattle.run_world.specs.declared.site.Known.{Known}

-- it is known about the tables and the machine of the setup
pub record IsKnownOf (s : Setup) (k : Known) : Type 0 where
  pub indexed : IsIndexOf s.tables s.machine k.index
  pub led : AreLeadersOf s.tables k.index k.leaders
  pub rows : AreFixed s.tables.rows k.fixed
  pub spanned : AreSpansOf s.machine k.spans
  pub styled : AreStylesOf s.machine k.styles
