-- What is known of a file that was opened to be read, and of a folder.
use Rattle.std.specs.Prelude.{◌≡◌, ◌∷◌, [], ℕ, List, Option}
use Rattle.whole_files.specs.declared.opening.FileToRead.{FileToRead}
use Rattle.whole_files.specs.declared.opening.Folder.{Folder}
use Rattle.whole_files.specs.Calls.{Call}
use Rattle.whole_files.specs.Openings.{opened_to_read}

-- how a folder was opened
abbrev pub folder_calls : {F G D : Type 0} → Folder F G D → List Call
folder_calls folder = folder.history.calls

-- how a file was opened to be read
abbrev pub read_calls : {F T : Type 0} → FileToRead F T → List Call
read_calls opened = opened.history.calls

-- a file that was opened to be read
abbrev pub file_to_read : {F T : Type 0} → FileToRead F T → T
file_to_read opened = opened.file

-- P holds of what was left to be read of a file that was opened among the files F, at this path, to be read
abbrev pub OfFileAt : {T : Type 0} → (F : Type 0) → (T → Option (List ℕ)) → List ℕ → (Option (List ℕ) → Type 0) → Type 0
OfFileAt {T} F remaining path P = (opened : FileToRead F T) × (read_calls opened ≡ opened_to_read path ∷ []) × P (remaining (file_to_read opened))
