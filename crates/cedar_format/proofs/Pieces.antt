-- Records that are written piece by piece.
use Rattle.std.proofs.Common.{◌≡◌, ℕ, ◌+◌, ◌-◌, List, ◌++◌, append-nil, length, replicate, take, drop, slice_range, Option, arith, sym, ap, ◌∙◌, subst}
use Rattle.std.proofs.lemmas.Grind.{flat_map-append}
use Rattle.std.proofs.lemmas.List.{replicate-append-replicate}
use Rattle.std.proofs.lemmas.List.Elements.{All-append}
use Rattle.std.proofs.Math.Seq.{take-add}
use Rattle.std.specs.Prelude.{All}
use Rattle.std.specs.List.{flat_map}
use Rattle.std.specs.Io.KnownBytes.{Appends}
use Rattle.std.proofs.KnownBytes.{Appends-trans}

-- a front, and the piece behind it
take_piece : {X : Type 0} (xs : List X) (done count : ℕ) → take (done + count) xs ≡ take done xs ++ slice_range xs done (done + count)
take_piece xs done count =
    let same : count ≡ (done + count) - done = omega arith in
    take-add done count xs ∙ ap (λ n. take done xs ++ take n (drop done xs)) same

-- a piece more was written
pub written_more : {X : Type 0} (f : X → List ℕ) (xs : List X) (done count : ℕ) (a b c : Option (List ℕ)) → Appends a b (flat_map f (take done xs)) → Appends b c (flat_map f (slice_range xs done (done + count)))
    → Appends a c (flat_map f (take (done + count) xs))
written_more f xs done count a b c before now =
    let whole = ap (flat_map f) (take_piece xs done count) ∙ flat_map-append f (take done xs) (slice_range xs done (done + count)) in
    subst (Appends a c) (sym whole) (Appends-trans a b c _ _ before now)

pub fits_more : {X : Type 0} (Fits : X → Type 0) (xs : List X) (done count : ℕ) → All Fits (take done xs) → All Fits (slice_range xs done (done + count)) → All Fits (take (done + count) xs)
fits_more Fits xs done count before here =
    subst (All Fits) (sym (take_piece xs done count)) (All-append Fits (take done xs) (slice_range xs done (done + count)) before here)

-- where a front ends, in another spelling
pub ends_at : (m n : ℕ) (bytes front : List ℕ) → take n bytes ≡ front → n ≡ m → take m bytes ≡ front
ends_at m n bytes front is same = subst (λ k. take k bytes ≡ front) same is

-- ---- blanks behind a list

pub blanks_more : {X : Type 0} (f : X → List ℕ) (x : X) (done count : ℕ) (a b c : Option (List ℕ)) → Appends a b (flat_map f (replicate done x)) → Appends b c (flat_map f (replicate count x))
    → Appends a c (flat_map f (replicate (done + count) x))
blanks_more f x done count a b c before now =
    let whole = ap (flat_map f) (sym (replicate-append-replicate done count x)) ∙ flat_map-append f (replicate done x) (replicate count x) in
    subst (Appends a c) (sym whole) (Appends-trans a b c _ _ before now)

pub blanks_fit : {X : Type 0} (Fits : X → Type 0) (x : X) (done count : ℕ) → All Fits (replicate done x) → All Fits (replicate count x) → All Fits (replicate (done + count) x)
blanks_fit Fits x done count before here =
    subst (All Fits) (replicate-append-replicate done count x) (All-append Fits (replicate done x) (replicate count x) before here)

-- a blank more was put behind those before it
pub blank_put : {X : Type 0} (f : X → List ℕ) (x : X) (k : ℕ) (front taken : List ℕ) → front ≡ flat_map f (replicate k x) → taken ≡ front ++ f x → taken ≡ flat_map f (replicate (k + 1) x)
blank_put f x k front taken before is =
    let one : flat_map f (replicate 1 x) ≡ f x = append-nil (f x) in
    let whole = ap (flat_map f) (sym (replicate-append-replicate k 1 x)) ∙ flat_map-append f (replicate k x) (replicate 1 x) in
    is ∙ ap (λ bytes. bytes ++ f x) before ∙ ap (λ bytes. flat_map f (replicate k x) ++ bytes) (sym one) ∙ sym whole

-- a list was written, and then the blanks behind it, up to a length
pub written_filled : {X : Type 0} (f : X → List ℕ) (xs : List X) (x : X) (len count : ℕ) (a b c : Option (List ℕ)) → count ≡ len - length xs → Appends a b (flat_map f xs) → Appends b c (flat_map f (replicate count x))
    → Appends a c (flat_map f (xs ++ replicate (len - length xs) x))
written_filled f xs x len count a b c missing before now =
    subst (λ k. Appends a c (flat_map f (xs ++ replicate k x))) missing (subst (Appends a c) (sym (flat_map-append f xs (replicate count x))) (Appends-trans a b c _ _ before now))

pub filled_fits : {X : Type 0} (Fits : X → Type 0) (xs : List X) (x : X) (len count : ℕ) → count ≡ len - length xs → All Fits xs → All Fits (replicate count x) → All Fits (xs ++ replicate (len - length xs) x)
filled_fits Fits xs x len count missing before now =
    subst (λ k. All Fits (xs ++ replicate k x)) missing (All-append Fits xs (replicate count x) before now)
