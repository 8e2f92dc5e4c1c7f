use Rattle.app_config.proofs.Printed.{booted_taken, played_taken, upgraded_taken}
use Rattle.app_config.proofs.laws.printed_taken.Goals as goal

pub returns-clause-boot : goal.returns-clause-boot
returns-clause-boot c = booted_taken

pub returns-clause-play : goal.returns-clause-play
returns-clause-play c = played_taken

pub returns-clause-upgrade : goal.returns-clause-upgrade
returns-clause-upgrade c = upgraded_taken
