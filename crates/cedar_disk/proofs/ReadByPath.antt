-- What is read of a file that was opened by its path.
use Rattle.std.specs.Prelude.{IfOk, IfSome, Result, Ok, Err, Option}
use Rattle.std.proofs.Common.{◌≡◌, ℕ, List, [], ◌∷◌}
use Rattle.whole_files.specs.OpenedFiles.{file_to_read, OfFileAt, read_calls}
use Rattle.whole_files.specs.Openings.{opened_to_read}
use Rattle.whole_files.specs.declared.opening.FileToRead.{FileToRead}

pub of_file : {F T X E : Type 0} (remaining : T → Option (List ℕ)) (path : List ℕ) (opened : FileToRead F T) (r : Result X E) (P : X → List ℕ → Type 0) → read_calls opened ≡ opened_to_read path ∷ []
    → IfOk r (λ x. IfSome (remaining (file_to_read opened)) (P x)) → IfOk r (λ x. OfFileAt F remaining path (λ left. IfSome left (P x)))
of_file remaining path opened (Ok x) P noted read = (opened, noted, read)
of_file remaining path opened (Err e) P noted read = tt
