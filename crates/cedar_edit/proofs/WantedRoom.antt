-- Where a list has room for some labels and one more, it has room for the next one that is written.
use Rattle.std.proofs.Common.{◌≡◌, ℕ, ◌+◌, ◌<◌, ◌≤◌, Bool, true, false, cond, List, length, subst, arith}
use Rattle.cedar_model.proofs.RelocationLemmas.WantedLabels.{BeforeLabel, Writing}

one_more : (i n : ℕ) (placed : Bool) → n ≤ i + cond placed 1 0 → n ≤ i + 1
one_more i n true h = h
one_more i n false h = omega arith

pub room_before : (o : Bool) (l most : ℕ) (labels items : List ℕ) (i : ℕ) (placed : Bool) → i < length labels → length labels < most → BeforeLabel o l labels items i placed → length items < most
room_before o l most labels items i placed h few w = omega (arith, one_more i (length items) placed w.few)

pub room_at_end : (o : Bool) (l most : ℕ) (labels items : List ℕ) (i : ℕ) (placed : Bool) → i ≤ length labels → length labels < most → placed ≡ false → Writing o l labels items i placed → length items < most
room_at_end o l most labels items i placed upto few before w =
    let short : length items ≤ i + cond false 1 0 = subst (λ p. length items ≤ i + cond p 1 0) before w.few in
    omega (arith, short)
