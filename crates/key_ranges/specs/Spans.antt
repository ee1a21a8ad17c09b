-- Ranges of byte strings in their order, and their ends.
use Rattle.std.specs.Prelude.{◌≡◌, ℕ, ◌+◌, ◌==◌, Bool, true, not, ◌&&◌, if◌then◌else◌, List, [], ◌∷◌}
use Rattle.std.specs.Prelude.{filter, nat_eq, None, Option, Some}
use Rattle.std.specs.Coded.{Coded, code_by, coded×, coded_ℕ, coded_list, coded_option}
use Rattle.std.specs.Cmp.Lexicographic.{slice_cmp}
use Rattle.std.specs.Ordering.{is_ge, is_gt, is_le, is_lt, nat_cmp}
use Rattle.std.specs.declared.ops.Bound.{Bound}
use Rattle.std.specs.declared.ops.Bound.TheVariants.{Excluded, Included, Unbounded}
use Rattle.std.proofs.Common.{refl}
use Rattle.std.specs.List.{starts_with}
use Rattle.cedar_tree.specs.Queries.{Entry, walk}
use Rattle.cedar_tree.specs.Tree.{IsPath, Tree}

-- where a range begins, and what it ends before, if it has an end
pub record KeySpan : Type 0 where
  pub from : List ℕ
  pub to : Option (List ℕ)

-- it serves `impl Model` alone
abbrev pub span_code : Coded KeySpan
span_code = code_by (List ℕ × Option (List ℕ)) (coded× (coded_list coded_ℕ) (coded_option (coded_list coded_ℕ))) (λ s. (s.from, s.to)) (λ p. record { from = p.0; to = p.1 }) (λ _. refl)

-- whether a byte string comes before an end, if there is one
abbrev pub ends_before : Option (List ℕ) → List ℕ → Bool
ends_before None w = true
ends_before (Some to) w = is_lt (slice_cmp nat_cmp w to)

-- whether a byte string is in a range
abbrev pub holds : KeySpan → List ℕ → Bool
holds span w = is_ge (slice_cmp nat_cmp w span.from) && ends_before span.to w

-- whether a byte string doesn't come before the start of a range
abbrev pub follows_start : Bound (List ℕ) → List ℕ → Bool
follows_start (Included key) w = is_ge (slice_cmp nat_cmp w key)
follows_start (Excluded key) w = is_gt (slice_cmp nat_cmp w key)
follows_start Unbounded w = true

-- whether a byte string doesn't come behind the end of a range
abbrev pub precedes_stop : Bound (List ℕ) → List ℕ → Bool
precedes_stop (Included key) w = is_le (slice_cmp nat_cmp w key)
precedes_stop (Excluded key) w = is_lt (slice_cmp nat_cmp w key)
precedes_stop Unbounded w = true

-- a range holds what comes neither before its start nor behind its end
abbrev pub HoldsBetween : Bound (List ℕ) → Bound (List ℕ) → KeySpan → Type 0
HoldsBetween start end span = (w : List ℕ) → holds span w ≡ (follows_start start w && precedes_stop end w)

-- the entries of a tree whose keys are in a range
abbrev pub entries_within : Tree → KeySpan → List Entry
entries_within t span = filter (λ e. holds span e.0) (walk t)

-- a range holds what another one holds that comes behind a byte string
abbrev pub HoldsBehind : KeySpan → KeySpan → List ℕ → Type 0
HoldsBehind old new key = (w : List ℕ) → holds new w ≡ (holds old w && is_gt (slice_cmp nat_cmp w key))

-- a range holds what another one holds that comes before a byte string
abbrev pub HoldsBefore : KeySpan → KeySpan → List ℕ → Type 0
HoldsBefore old new key = (w : List ℕ) → holds new w ≡ (holds old w && is_lt (slice_cmp nat_cmp w key))

-- a range holds the paths that begin with a prefix
abbrev pub HoldsPrefixed : KeySpan → List ℕ → Type 0
HoldsPrefixed span prefix = (w : List ℕ) → IsPath w → holds span w ≡ starts_with nat_eq w prefix

-- a byte ahead of what comes behind all that begin with the bytes behind it; where nothing does, the byte is raised by one, unless it
-- is the highest
abbrev pub raise_last : ℕ → Option (List ℕ) → Option (List ℕ)
raise_last byte None = if byte == 255 then None else Some ((byte + 1) ∷ [])
raise_last byte (Some rest) = Some (byte ∷ rest)

-- the first byte string behind all that begin with a prefix, if there is one: the prefix without the highest bytes at its end, and with the
-- byte before them raised by one
abbrev pub successor : List ℕ → Option (List ℕ)
successor [] = None
successor (byte ∷ prefix) = raise_last byte (successor prefix)

-- whether a byte string comes behind all that begin with a prefix
abbrev pub follows_prefix : List ℕ → List ℕ → Bool
follows_prefix prefix w = not (ends_before (successor prefix) w)

-- a range holds what another one holds that comes behind all that begin with a prefix
abbrev pub HoldsPast : KeySpan → KeySpan → List ℕ → Type 0
HoldsPast old new prefix = (w : List ℕ) → holds new w ≡ (holds old w && follows_prefix prefix w)
