-- A list with blanks behind it.
use Rattle.std.proofs.Common.{arith, refl, subst, ◌∙◌, Bool, true, false, ◌≡◌, ℕ, ◌+◌, ◌<◌, ◌≤◌, ◌++◌, length, replicate, slice_set, take, ◌-◌, List, length-append}
use Rattle.std.proofs.lemmas.List.{append_assoc, length-replicate, length-set, replicate-append-replicate, set-append_left, take_all}
use Rattle.std.specs.Prelude.{if◌then◌else◌}
use Rattle.cedar_slots.specs.Padded.{with_blanks}

-- a write into the front is one into the whole
pub padded-set : {T : Type 0} (blank : T) (len : ℕ) (xs : List T) (i : ℕ) (x : T) → i < length xs → with_blanks blank len (slice_set xs i x) ≡ slice_set (with_blanks blank len xs) i x
padded-set blank len xs i x within = rw (set-append_left xs (replicate (len - length xs) blank) i x within, length-set xs i x) refl

-- a greater length is more blanks behind the whole
pub padded-more : {T : Type 0} (blank : T) (len more : ℕ) (xs : List T) → length xs ≤ len → with_blanks blank (len + more) xs ≡ with_blanks blank len xs ++ replicate more blank
padded-more blank len more xs within =
    let sum : len + more - length xs ≡ len - length xs + more = omega arith in
    rw (append_assoc xs (replicate (len - length xs) blank) (replicate more blank), replicate-append-replicate (len - length xs) more blank, sum) refl

-- blanks that are written change nothing
pub padded-filled : {T : Type 0} (blank : T) (len more : ℕ) (xs : List T) → length xs + more ≤ len → with_blanks blank len (xs ++ replicate more blank) ≡ with_blanks blank len xs
padded-filled blank len more xs within =
    let sum : more + (len - (length xs + more)) ≡ len - length xs = omega arith in
    rw (length-append xs (replicate more blank), length-replicate more blank, append_assoc xs (replicate more blank) (replicate (len - (length xs + more)) blank), replicate-append-replicate more (len - (length xs + more)) blank, sum) refl

-- whether they are written or not
pub padded-resized : {T : Type 0} (blank : T) (len used : ℕ) (xs : List T) (ok : Bool) → length xs ≤ used → used ≤ len → with_blanks blank len (if ok then take used xs ++ replicate (used - length xs) blank else xs) ≡ with_blanks blank len xs
padded-resized blank len used xs true more within =
    let sum : length xs + (used - length xs) ≤ len = omega arith in
    rw (take_all used xs more) (padded-filled blank len (used - length xs) xs sum)
padded-resized blank len used xs false more within = refl

-- the whole has the length that was asked for
pub le-padded : {T : Type 0} (blank : T) (len used : ℕ) (xs : List T) → length xs ≤ len → used ≤ length (with_blanks blank len xs) → used ≤ len
le-padded blank len used xs more within =
    let front : length (with_blanks blank len xs) ≡ length xs + (len - length xs) = rw (length-append xs (replicate (len - length xs) blank), length-replicate (len - length xs) blank) refl in
    let sum : length xs + (len - length xs) ≡ len = omega arith in
    subst (λ n. used ≤ n) (front ∙ sum) within

-- the same where a call has its own words for the blank and for how many were written
pub padded-resized_by : {T : Type 0} (blank written : T) (len used n : ℕ) (xs : List T) (ok : Bool) → written ≡ blank → n ≡ length xs → length xs ≤ used → used ≤ len → with_blanks blank len (if ok then take used xs ++ replicate (used - n) written else xs) ≡ with_blanks blank len xs
padded-resized_by blank written len used n xs ok is_blank counted more within = rw (is_blank, counted) (padded-resized blank len used xs ok more within)
