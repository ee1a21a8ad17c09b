-- What is said of a watched reader and a watched writer, each by what its device reports.
use Rattle.std.specs.Prelude.{◌≡◌, ℕ, ◌<◌, ◌^◌, Bool, ◌||◌, List, length, Option, IfSome}
use Rattle.std.specs.Io.KnownBytes.{Consumes}
use Rattle.cedarwood.specs.Words.{Watched}
use Rattle.cedarwood.specs.WatchedDevice.{device_of, has_failed}
use Rattle.cedar_cli.specs.Lines.{HasNoNewline}

-- what a writer holds, or what is left in a reader, if its device reports that
abbrev pub held_by : {D : Type 0} → (D → Option (List ℕ)) → Watched D → Option (List ℕ)
held_by contents watched = contents (device_of watched)

-- P holds of what a writer held before and holds afterwards, if its device reports that
abbrev pub OnWriter : {D : Type 0} → (D → Option (List ℕ)) → Watched D → Watched D → (Option (List ℕ) → Option (List ℕ) → Type 0) → Type 0
OnWriter contents before after P = P (held_by contents before) (held_by contents after)

-- a reader has failed exactly if it had before, and a writer if it had, or if a flush has failed
abbrev pub OnlyFlushFails : {D E : Type 0} → Bool → Watched D → Watched D → Watched E → Watched E → Type 0
OnlyFlushFails flush reader reader_after writer writer_after = (has_failed reader_after ≡ has_failed reader) × (has_failed writer_after ≡ (flush || has_failed writer))

-- P holds of the input that a reader has, if that is known and shorter than 2^63 bytes
abbrev pub OnInput : {D : Type 0} → (D → Option (List ℕ)) → Watched D → (List ℕ → Type 0) → Type 0
OnInput remaining reader P = IfSome (held_by remaining reader) (λ input. length input < 2 ^ 63 → P input)

-- P holds of the bytes that came from a reader whose input is known, and of the begun line behind the last byte 10
abbrev pub OnComing : {D : Type 0} → (D → Option (List ℕ)) → Watched D → Watched D → (List ℕ → List ℕ → Type 0) → Type 0
OnComing remaining before after P = IfSome (held_by remaining before) (λ input.
    (came : List ℕ) × (line : List ℕ) × Consumes (held_by remaining before) (held_by remaining after) came × HasNoNewline line × P came line)

-- if a writer had failed exactly if a flush of a run had, or if it had before the run, then this is so afterwards
abbrev pub IsToldOn : Bool → Bool → Bool → Bool → Type 0
IsToldOn flush_before before flush_after after = (first : Bool) → before ≡ (flush_before || first) → after ≡ (flush_after || first)
