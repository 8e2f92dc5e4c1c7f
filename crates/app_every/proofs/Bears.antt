-- What the program says of its own bears that memory runs out while the status is told.
use Rattle.std.proofs.Common.{ℕ, List}
use Rattle.app_input.proofs.AskedLaws.{inputs_told}
use Rattle.app_words.specs.Words.{drvall_form, most_worlds}
use Rattle.app_output.proofs.Headline.{Bears}
use Rattle.app_output.proofs.Still.{told_so}
use Rattle.app_every.specs.Asked.{Asks, AsksStuck, IsRefused, drvall_does}

pub bears : (words : List (List ℕ)) → Bears (drvall_does words)
bears words =
    let most = most_worlds words in
    let form = drvall_form words in
    record {
      explained = λ told. told_so (Asks most form told) (AsksStuck most form told) (IsRefused most form told);
      asked = inputs_told form;
    }
