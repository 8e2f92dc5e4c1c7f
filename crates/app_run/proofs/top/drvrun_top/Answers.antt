use Rattle.std.proofs.Common.{map, refl, string_bytes, subst}
use Rattle.app_words.specs.Words.{drvrun_form}
use Rattle.app_input.specs.SideBySide.{CallsFor, IsRefused}
use Rattle.app_input.proofs.AskedLaws.{inputs_all}
use Rattle.app_output.specs.Headline.{seen}
use Rattle.app_output.specs.Still.{IsStuckStatus}
use Rattle.app_output.proofs.Ended.{due_unfound, faults_refused}
use Rattle.app_output.proofs.Headline.{answers}
use Rattle.app_output.proofs.Still.{due_left, faults_left, left_so, refused_so}
use Rattle.board_lock.specs.Boards.{FinishedShown}
use Rattle.app_run.specs.Asked.{Asks, AsksStuck, IsDueStatus, drvrun_does, left_text}
use Rattle.app_run.specs.Ran.{HaveEnded}
use Rattle.app_run.specs.StuckText.{stuck_text}
use Rattle.app_run.proofs.Bears.{bears}
use Rattle.app_run.proofs.top.drvrun_top.Goals as goal

pub returns-in-Ok : goal.returns-in-Ok
returns-in-Ok g c =
    let words = map string_bytes c.args.words.now in
    let form = drvrun_form words in
    let told = g.F.Files.told c.args.files.now in
    let carried = g.M.Medium.carried in
    let left = c.in-Ok.left in
    let waits = stuck_text left.board.world in
    let text = left_text left in
    let old = seen told (g.F.Files.asked c.args.files.now) (g.F.Files.faults c.args.files.now) (g.S.Sink.told c.args.out.now) (g.E.Sink.told c.args.err.now) in
    let files = c.find.new.files in
    let new = seen (g.F.Files.told files) (g.F.Files.asked files) (g.F.Files.faults files) (g.S.Sink.told c.write_run-written.new.out) (g.E.Sink.told c.report-status.new.err) in
    let written = c.write_run-written.result in
    let status = c.left_status-status.result in
    answers (drvrun_does carried words) old new status status c.report-status.result (bears carried words) (record {
      explained = left_so (Asks carried form told) (AsksStuck carried form told) (IsRefused form told) (HaveEnded left) waits text old.out new.out written status
          c.in-Ok.ensures.found c.write_run-written.ensures c.left_status-status.ensures;
      faults = faults_left (HaveEnded left) waits text old.faults new.faults old.out new.out written status c.in-Ok.ensures.counted c.write_run-written.ensures c.left_status-status.ensures;
      due = due_left told IsStuckStatus (CallsFor form) (HaveEnded left) waits text old.faults new.faults old.out new.out written status (λ never. never) tt
          c.in-Ok.ensures.due c.write_run-written.ensures c.left_status-status.ensures;
      asked = inputs_all form told status old.asked new.asked c.in-Ok.ensures.asked;
      files = c.find.ensures.told;
    }) refl c.report-status.ensures.status c.report-status.ensures.told

pub returns-in-Err : goal.returns-in-Err
returns-in-Err g c =
    let words = map string_bytes c.args.words.now in
    let form = drvrun_form words in
    let told = g.F.Files.told c.args.files.now in
    let carried = g.M.Medium.carried in
    let old = seen told (g.F.Files.asked c.args.files.now) (g.F.Files.faults c.args.files.now) (g.S.Sink.told c.args.out.now) (g.E.Sink.told c.args.err.now) in
    let files = c.find.new.files in
    let new = seen (g.F.Files.told files) (g.F.Files.asked files) (g.F.Files.faults files) old.out (g.E.Sink.told c.report.new.err) in
    let status = c.in-Err.status in
    answers (drvrun_does carried words) old new status status c.report.result (bears carried words) (record {
      explained = refused_so (Asks carried form told) (AsksStuck carried form told) (IsRefused form told) old.out status (λ never. never) (λ never. never) (λ waits never. never)
          c.in-Err.ensures.found;
      faults = faults_refused FinishedShown old.faults new.faults old.out.faults status (λ written. subst (IsRefused form told) written c.in-Err.ensures.found) c.in-Err.ensures.counted;
      due = due_unfound told (IsDueStatus form) old.faults new.faults old.out.faults new.out.faults status c.in-Err.ensures.due;
      asked = c.in-Err.ensures.asked;
      files = c.find.ensures.told;
    }) refl c.report.ensures.status c.report.ensures.told
