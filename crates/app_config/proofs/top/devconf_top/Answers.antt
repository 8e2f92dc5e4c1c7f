use Rattle.std.proofs.Common.{map, refl, string_bytes, subst}
use Rattle.app_words.specs.Words.{devconf_form}
use Rattle.app_output.specs.Ended.{status_after}
use Rattle.app_output.specs.Headline.{seen}
use Rattle.app_output.proofs.Ended.{due_put, due_unfound, explains_refused, explains_written, faults_refused, faults_written}
use Rattle.app_output.proofs.Headline.{answers}
use Rattle.app_config.specs.Asked.{Asks}
use Rattle.app_config.specs.Found.{IsRefused, found_text}
use Rattle.app_config.specs.Run.{IsDueStatus, devconf_does}
use Rattle.app_config.specs.declared.found.Found.{Found}
use Rattle.app_config.proofs.AskedLaws.{files_all}
use Rattle.app_config.proofs.Bears.{bears}
use Rattle.app_config.proofs.Explained.{never_found, never_written}
use Rattle.app_config.proofs.top.devconf_top.Goals as goal

pub returns-in-Ok : goal.returns-in-Ok
returns-in-Ok g c =
    let words = map string_bytes c.args.words.now in
    let form = devconf_form words in
    let told = g.F.Files.told c.args.files.now in
    let text = found_text c.in-Ok.found in
    let old = seen told (g.F.Files.asked c.args.files.now) (g.F.Files.faults c.args.files.now) (g.S.Sink.told c.args.out.now) (g.E.Sink.told c.args.err.now) in
    let files = c.find.new.files in
    let new = seen (g.F.Files.told files) (g.F.Files.asked files) (g.F.Files.faults files) (g.S.Sink.told c.write_found-written.new.out) (g.E.Sink.told c.report-status.new.err) in
    let written = c.write_found-written.result in
    answers (devconf_does words) old new (status_after written) c.status_after.result c.report-status.result (bears words) (record {
      explained = explains_written (Asks form told) (IsRefused form told) text old.out new.out written c.in-Ok.ensures.found c.write_found-written.ensures;
      faults = faults_written text old.faults new.faults old.out new.out written c.in-Ok.ensures.counted c.write_found-written.ensures;
      due = due_put told (IsDueStatus form) text old.faults new.faults old.out new.out written c.in-Ok.ensures.due c.write_found-written.ensures;
      asked = files_all form told (status_after written) old.asked new.asked c.in-Ok.ensures.asked;
      files = c.find.ensures.told;
    }) c.status_after.ensures c.report-status.ensures.status c.report-status.ensures.told

pub returns-in-Err : goal.returns-in-Err
returns-in-Err g c =
    let words = map string_bytes c.args.words.now in
    let form = devconf_form words in
    let told = g.F.Files.told c.args.files.now in
    let old = seen told (g.F.Files.asked c.args.files.now) (g.F.Files.faults c.args.files.now) (g.S.Sink.told c.args.out.now) (g.E.Sink.told c.args.err.now) in
    let files = c.find.new.files in
    let new = seen (g.F.Files.told files) (g.F.Files.asked files) (g.F.Files.faults files) old.out (g.E.Sink.told c.report.new.err) in
    let status = c.in-Err.status in
    answers (devconf_does words) old new status status c.report.result (bears words) (record {
      explained = explains_refused (Asks form told) (IsRefused form told) old.out status (never_found form told) (never_written form told) c.in-Err.ensures.found;
      faults = faults_refused Found old.faults new.faults old.out.faults status (λ written. never_written form told (subst (IsRefused form told) written c.in-Err.ensures.found)) c.in-Err.ensures.counted;
      due = due_unfound told (IsDueStatus form) old.faults new.faults old.out.faults new.out.faults status c.in-Err.ensures.due;
      asked = c.in-Err.ensures.asked;
      files = c.find.ensures.told;
    }) refl c.report.ensures.status c.report.ensures.told
