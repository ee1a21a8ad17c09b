-- The record of a change in a buffer.
use Rattle.std.specs.Prelude.{◌≡◌, ℕ, ◌+◌, ◌<◌, ◌^◌, List, ◌∷◌, ◌++◌, length, Some}
use Rattle.cedar_journal.specs.declared.format.Format.{Format}
use Rattle.cedar_journal.specs.Formats.{frame_of, opening, overhead}
use Rattle.cedar_store.specs.Changes.{Change, change_of}

-- the first `size` bytes of a buffer are the record of a payload of n bytes that has this change, for a file whose
-- records are of this format and end at `end`
pub record IsRecord (change : Change) (format : Format) (end n size : ℕ) (buffer : List ℕ) : Type 0 where
  pub payload : List ℕ
  pub has : change_of payload ≡ Some change
  pub long : length payload ≡ n
  pub size_is : size ≡ 1 + overhead format + n
  pub short : n < 2 ^ 32
  pub room : end < 2 ^ 60
  pub rest : List ℕ
  pub written : buffer ≡ (opening format ∷ frame_of format payload) ++ rest
