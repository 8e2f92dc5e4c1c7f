-- What the program says of its own bears that memory runs out while the status is told.
use Rattle.std.proofs.Common.{ℕ, List}
use Rattle.app_words.specs.Words.{devconf_form}
use Rattle.app_output.proofs.Ended.{explains_told}
use Rattle.app_output.proofs.Headline.{Bears}
use Rattle.app_config.specs.Asked.{Asks}
use Rattle.app_config.specs.Found.{IsRefused}
use Rattle.app_config.specs.Run.{devconf_does}
use Rattle.app_config.proofs.AskedLaws.{files_told}

pub bears : (words : List (List ℕ)) → Bears (devconf_does words)
bears words = record {
  explained = λ told. explains_told (Asks (devconf_form words) told) (IsRefused (devconf_form words) told);
  asked = files_told (devconf_form words);
}
