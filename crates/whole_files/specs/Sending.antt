-- What is at a path and isn't a file: the calls on it, and what these show.
use Rattle.std.specs.Prelude.{◌≡◌, ◌==◌, ◌++◌, ◌∷◌, [], if◌then◌else◌, length, ℕ, List}
use Rattle.std.specs.Fs.{file_type, IsFile}
use Rattle.std.specs.declared.fs.attrs.Metadata.{Metadata}
use Rattle.whole_files.specs.Calls.{Call}

-- the system says of something that it isn't a file
abbrev pub IsNoFile : Metadata → Type 0
IsNoFile found = IsFile (file_type found) → ⊥

-- a path behind its length, so that its end is known whatever follows
abbrev pub address : List ℕ → List ℕ
address path = length path ∷ path

-- what the calls on something that isn't a file say: where it was found (`address`, a call of kind 9), and then all
-- bytes that it took, in their order (calls of kind 10)
abbrev pub told_after : List Call → List ℕ
told_after [] = []
told_after (call ∷ earlier) = if call.0 == 9 then address call.3 else if call.0 == 10 then told_after earlier ++ call.3 else told_after earlier

-- what was found at this path, and isn't a file, took exactly these bytes
abbrev pub IsSentTo : List ℕ → List ℕ → List Call → Type 0
IsSentTo path bytes calls = told_after calls ≡ address path ++ bytes
