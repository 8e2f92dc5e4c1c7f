use Rattle.std.proofs.Common.{[], map, refl, string_bytes, subst}
use Rattle.app_words.specs.Words.{drvall_form, most_worlds}
use Rattle.app_input.specs.SideBySide.{CallsFor}
use Rattle.app_input.proofs.AskedLaws.{inputs_all}
use Rattle.app_output.specs.Headline.{seen}
use Rattle.app_output.proofs.Ended.{due_unfound, faults_refused}
use Rattle.app_output.proofs.Headline.{answers}
use Rattle.app_output.proofs.Still.{due_left, faults_left, left_so, refused_so}
use Rattle.every_order.specs.declared.every.Every.{Every}
use Rattle.app_every.specs.Asked.{AllEnd, Asks, AsksStuck, IsDueStatus, IsFoundStatus, IsRefused, drvall_does}
use Rattle.app_every.specs.EveryText.{every_text}
use Rattle.app_every.proofs.Bears.{bears}
use Rattle.app_every.proofs.Found.{never_ok, never_stuck, never_unwritten}
use Rattle.app_every.proofs.top.drvall_top.Goals as goal

pub returns-in-Ok : goal.returns-in-Ok
returns-in-Ok g c =
    let words = map string_bytes c.args.words.now in
    let most = most_worlds words in
    let form = drvall_form words in
    let told = g.F.Files.told c.args.files.now in
    let every = c.in-Ok.every in
    let text = every_text every in
    let old = seen told (g.F.Files.asked c.args.files.now) (g.F.Files.faults c.args.files.now) (g.S.Sink.told c.args.out.now) (g.E.Sink.told c.args.err.now) in
    let files = c.find.new.files in
    let new = seen (g.F.Files.told files) (g.F.Files.asked files) (g.F.Files.faults files) (g.S.Sink.told c.write_every-written.new.out) (g.E.Sink.told c.report-status.new.err) in
    let written = c.write_every-written.result in
    let status = c.every_status-status.result in
    answers (drvall_does words) old new status status c.report-status.result (bears words) (record {
      explained = left_so (Asks most form told) (AsksStuck most form told) (IsRefused most form told) (AllEnd every) [] text old.out new.out written status
          c.in-Ok.ensures.found c.write_every-written.ensures c.every_status-status.ensures;
      faults = faults_left (AllEnd every) [] text old.faults new.faults old.out new.out written status c.in-Ok.ensures.counted c.write_every-written.ensures c.every_status-status.ensures;
      due = due_left told IsFoundStatus (CallsFor form) (AllEnd every) [] text old.faults new.faults old.out new.out written status (λ never. never) tt
          c.in-Ok.ensures.due c.write_every-written.ensures c.every_status-status.ensures;
      asked = inputs_all form told status old.asked new.asked c.in-Ok.ensures.asked;
      files = c.find.ensures.told;
    }) refl c.report-status.ensures.status c.report-status.ensures.told

pub returns-in-Err : goal.returns-in-Err
returns-in-Err g c =
    let words = map string_bytes c.args.words.now in
    let most = most_worlds words in
    let form = drvall_form words in
    let told = g.F.Files.told c.args.files.now in
    let old = seen told (g.F.Files.asked c.args.files.now) (g.F.Files.faults c.args.files.now) (g.S.Sink.told c.args.out.now) (g.E.Sink.told c.args.err.now) in
    let files = c.find.new.files in
    let new = seen (g.F.Files.told files) (g.F.Files.asked files) (g.F.Files.faults files) old.out (g.E.Sink.told c.report.new.err) in
    let status = c.in-Err.status in
    answers (drvall_does words) old new status status c.report.result (bears words) (record {
      explained = refused_so (Asks most form told) (AsksStuck most form told) (IsRefused most form told) old.out status
          (never_ok most form told) (never_unwritten most form told) (never_stuck most form told) c.in-Err.ensures.found;
      faults = faults_refused Every old.faults new.faults old.out.faults status (λ written. never_unwritten most form told (subst (IsRefused most form told) written c.in-Err.ensures.found)) c.in-Err.ensures.counted;
      due = due_unfound told (IsDueStatus form) old.faults new.faults old.out.faults new.out.faults status c.in-Err.ensures.due;
      asked = c.in-Err.ensures.asked;
      files = c.find.ensures.told;
    }) refl c.report.ensures.status c.report.ensures.told
