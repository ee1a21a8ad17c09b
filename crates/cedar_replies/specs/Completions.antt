-- What is asked for completions.
use Rattle.std.specs.Prelude.{ℕ, ◌&&◌, Bool, true, false, List, [], ◌∷◌, ◌≡◌, filter}
use Rattle.std.specs.Prelude.{Err, None, Ok, Option, Result, Some}
use Rattle.std.specs.declared.ops.Bound.{Bound}
use Rattle.std.specs.declared.ops.Bound.TheVariants.{Excluded, Included, Unbounded}
use Rattle.byte_automata.specs.Distances.{is_near}
use Rattle.byte_automata.specs.Fronts.{has_front}
use Rattle.cedarwood.specs.Queries.{Entry, walk}
use Rattle.cedarwood.specs.Tree.{Tree}
use Rattle.cedarwood.specs.declared.error.CedarError.{CedarError}
use Rattle.cedarwood.specs.declared.error.CedarError.TheVariants.{Memory}
use Rattle.cedar_complete.specs.declared.error.RangeError.{RangeError}
use Rattle.cedar_complete.specs.declared.error.RangeError.TheVariants as range_error
use Rattle.key_ranges.specs.Spans.{follows_start, precedes_stop}
use Rattle.cedar_replies.specs.declared.ends.KeyEnds.{KeyEnds}

-- an end at a byte string, which is included or left out; an open one if that has no byte
abbrev pub end_at : Bool → List ℕ → Bound (List ℕ)
end_at included [] = Unbounded
end_at true (b ∷ at) = Included (b ∷ at)
end_at false (b ∷ at) = Excluded (b ∷ at)

-- whether a byte string is behind one and before another one, each of which is included or left out, or no end if it has no byte
abbrev pub comes_between : List ℕ → List ℕ → Bool → List ℕ → Bool → Bool
comes_between w from from_included to to_included = follows_start (end_at from_included from) w && precedes_stop (end_at to_included to) w

-- whether a byte string is between two ends
abbrev pub is_between_ends : KeyEnds → List ℕ → Bool
is_between_ends ends w = comes_between w ends.from.now ends.from_included ends.to.now ends.to_included

-- of the walk the entries whose keys are between two ends
abbrev pub entries_between_ends : Tree → KeyEnds → List Entry
entries_between_ends t ends = filter (λ e. is_between_ends ends e.0) (walk t)

-- the first of some entries, or none
abbrev pub first_of_list : List Entry → Option Entry
first_of_list [] = None
first_of_list (e ∷ es) = Some e

-- the last of some entries, or what is given if there is none of them
abbrev pub last_or_given : Option Entry → List Entry → Option Entry
last_or_given given [] = given
last_or_given given (e ∷ es) = last_or_given (Some e) es

-- the last of some entries, or none
abbrev pub last_of_list : List Entry → Option Entry
last_of_list es = last_or_given None es

-- one edit, or two
abbrev pub edits_counted : Bool → ℕ
edits_counted false = 1
edits_counted true = 2

-- whether a key is so many edits at most away from a text, or begins with what is
abbrev pub is_close : Bool → ℕ → List ℕ → List ℕ → Bool
is_close false edits text = is_near text edits
is_close true edits text = has_front (is_near text edits)

-- what was found in a range, and nothing if labels don't ascend; or there was no memory
abbrev pub where_ascending : {X : Type 0} → Result X RangeError → Result (Option X) CedarError
where_ascending (Ok x) = Ok (Some x)
where_ascending (Err range_error.NotAscending) = Ok None
where_ascending (Err range_error.Memory) = Err Memory

-- what is told where labels ascend, and else nothing
abbrev pub if_ascending : {X : Type 0} → Bool → X → Option X
if_ascending true x = Some x
if_ascending false x = None

-- the same ends, wherever their bytes lie
abbrev pub AreSameEnds : KeyEnds → KeyEnds → Type 0
AreSameEnds m n = (m.from.now ≡ n.from.now) × (m.from_included ≡ n.from_included) × (m.to.now ≡ n.to.now) × (m.to_included ≡ n.to_included)
