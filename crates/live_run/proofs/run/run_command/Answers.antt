use Rattle.std.proofs.Common.{◌≡◌}
use Rattle.live_run.proofs.Tellings.{scan_answers}
use Rattle.live_run.proofs.run.run_command.Goals as goal

pub returns-in_ok-scan-in-Scan : goal.returns-in_ok-scan-in-Scan
returns-in_ok-scan-in-Scan c = rw c.in-Scan.is (scan_answers c.args.live.now c.scan.new.self c.args.lines.now c.scan.new.lines c.in_ok-scan-in-Scan.ensures.ok)
