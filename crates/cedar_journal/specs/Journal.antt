-- What a journal's file is between two calls, and what a crash makes of it.
use Rattle.std.specs.Prelude.{◌≡◌, ◌⊎◌, ℕ, ◌+◌, ◌<◌, List, ◌∷◌, ◌++◌, length}
use Rattle.std.specs.Prelude.{take, drop, Option, Some}
use Rattle.cedar_journal.specs.declared.format.Format.{Format}
use Rattle.cedar_journal.specs.Device.{Only}
use Rattle.cedar_journal.specs.Files.{IsWholeFront, with_payload, file_payloads}
use Rattle.cedar_journal.specs.Formats.{frame_of}

-- the file is a header that names this format, whole records, a closed gate and whatever is behind that, all of it on
-- the disk. The records end at `end`
pub record IsSettled {D : Type 0} (seen : D → List ℕ) (may_leave : D → List ℕ → Type 0) (device : D) (format : Format) (end : ℕ) : Type 0 where
  pub split : seen device ≡ take end (seen device) ++ 0 ∷ drop (end + 1) (seen device)
  pub front : IsWholeFront format (take end (seen device))
  pub durable : Only (seen device) (may_leave device)

-- the file is settled (`IsSettled`), and its closed gate is followed by the rest of a record of this payload, with a
-- closed gate of its own behind it
pub record IsStaged {D : Type 0} (seen : D → List ℕ) (may_leave : D → List ℕ → Type 0) (device : D) (format : Format) (end : ℕ) (payload : List ℕ) : Type 0 where
  pub settled : IsSettled seen may_leave device format end
  pub rest : List ℕ
  pub staged : drop (end + 1) (seen device) ≡ frame_of format payload ++ rest
  pub short : length payload < 4294967296
  pub room : end < 1152921504606846976

-- the file represents what another represents, with one more payload or without it
abbrev pub IsBeforeOrAfter : Option (List (List ℕ)) → List ℕ → List ℕ → Type 0
IsBeforeOrAfter before payload file = (file_payloads file ≡ before) ⊎ (file_payloads file ≡ with_payload payload before)

-- the file represents what another represents, or these payloads
abbrev pub StandsForEither : Option (List (List ℕ)) → List (List ℕ) → List ℕ → Type 0
StandsForEither before payloads file = (file_payloads file ≡ before) ⊎ (file_payloads file ≡ Some payloads)
