use Rattle.app_config.specs.Found.{found_text}
use Rattle.app_output.proofs.Ended.{stopped, wrote}
use Rattle.app_config.proofs.top.write_found.Goals as goal

pub returns-in_err-put_found : goal.returns-in_err-put_found
returns-in_err-put_found g c = stopped (found_text c.args.found.now) _ _ c.from_residual.result _ c.from_residual.ensures.1 c.in_err-put_found.ensures

pub returns : goal.returns
returns g c = wrote (found_text c.args.found.now) _ _ _ c.flush.result c.in_ok-put_found.ensures c.flush.ensures
