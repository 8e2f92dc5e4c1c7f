-- What the program says of its own bears that memory runs out while the status is told.
use Rattle.std.proofs.Common.{ℕ, List}
use Rattle.cf_types.specs.declared.machine.Ticket.{Ticket}
use Rattle.app_input.specs.SideBySide.{IsRefused}
use Rattle.app_input.proofs.AskedLaws.{inputs_told}
use Rattle.app_words.specs.Words.{drvrun_form}
use Rattle.app_output.proofs.Headline.{Bears}
use Rattle.app_output.proofs.Still.{told_so}
use Rattle.app_run.specs.Asked.{Asks, AsksStuck, drvrun_does}

pub bears : (P : Ticket → Type 0) (words : List (List ℕ)) → Bears (drvrun_does P words)
bears P words = record {
  explained = λ told. told_so (Asks P (drvrun_form words) told) (AsksStuck P (drvrun_form words) told) (IsRefused (drvrun_form words) told);
  asked = inputs_told (drvrun_form words);
}
