use Rattle.load_maker.specs.Generated as generated
use Rattle.load_maker.proofs.conf.conf_text.Goals as goal

pub returns : goal.returns
unfolding generated.conf_text
returns c = c.copied.ensures
