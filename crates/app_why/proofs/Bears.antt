-- What the program says of its own bears that memory runs out while the status is told.
use Rattle.std.proofs.Common.{ℕ, List}
use Rattle.app_input.proofs.AskedLaws.{inputs_told}
use Rattle.app_words.specs.Words.{asked_name, devwhy_form}
use Rattle.app_output.proofs.Ended.{explains_told}
use Rattle.app_output.proofs.Headline.{Bears}
use Rattle.app_why.specs.Asked.{Asks, IsRefused, devwhy_does}

pub bears : (words : List (List ℕ)) → Bears (devwhy_does words)
bears words =
    let name = asked_name words in
    let form = devwhy_form words in
    record {
      explained = λ told. explains_told (Asks name form told) (IsRefused name form told);
      asked = inputs_told form;
    }
