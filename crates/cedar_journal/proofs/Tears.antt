-- Writes and cuts that a crash cuts short.
use Rattle.std.specs.Prelude.{min}
use Rattle.std.proofs.Common.{◌≡◌, ⊎_elim, ℕ, ◌+◌, ◌-◌, ◌<◌, ◌≤◌, List, ◌++◌, length, take, drop, refl, sym, ◌∙◌, ap, subst, arith, append_assoc, length-append, length-drop, length-take-le}
use Rattle.std.proofs.lemmas.Bool.{cases_lt}
use Rattle.std.proofs.lemmas.List.{take_at, drop_at, drop-drop, take-take, take_all}
use Rattle.cedar_journal.specs.Device.{Cut, Holds, Torn}

-- ---- the front that a write leaves

front_within : (at : ℕ) (file c : List ℕ) → at ≤ length file → take (min at (length file)) c ≡ take at c
front_within at file c within =
    let all : min at (length file) ≡ at = omega (arith, within) in
    ap (λ (k : ℕ). take k c) all

front_same : (at : ℕ) (file : List ℕ) → take (min at (length file)) file ≡ take at file
front_same at file =
    ⊎_elim
    (λ (low : at < length file). front_within at file file (omega (arith, low)))
    (λ (high : length file ≤ at).
    let all : min at (length file) ≡ length file = omega (arith, high) in
    ap (λ (k : ℕ). take k file) all ∙ take_all (length file) file (omega arith) ∙ sym (take_all at file high))
    (cases_lt at (length file))

-- where the write began within the file
pub torn_front : (at n : ℕ) (file c : List ℕ) → at ≤ length file → Torn at n file c → take at c ≡ take at file
torn_front at n file c within torn = sym (front_within at file c within) ∙ torn.before

-- ---- writes

pub torn_same : (at n : ℕ) (file : List ℕ) → Torn at n file file
torn_same at n file = record { before = front_same at file; after = refl; no_shorter = omega arith; no_longer = omega arith }

-- one that is there as a whole
pub torn_held : (at : ℕ) (bytes file c : List ℕ) → at ≤ length file → Holds file at bytes c → Torn at (length bytes) file c
torn_held at bytes file c within holds =
    let rest = drop (at + length bytes) file in
    let new = take at file ++ bytes ++ rest in
    let front : length (take at file) ≡ at = length-take-le at file within in
    let sum : length (take at file ++ bytes) ≡ at + length bytes = omega (arith, length-append (take at file) bytes, front) in
    let size : length new ≡ at + length bytes + length rest = omega (arith, sum, length-append (take at file ++ bytes) rest) in
    let tail = length-drop (at + length bytes) file in
    subst (λ (l : List ℕ). Torn at (length bytes) file l) (sym holds) (record {
      before =
          front_within at file new within ∙ ap (λ (l : List ℕ). take at l) (append_assoc (take at file) bytes rest)
          ∙ take_at (take at file) (bytes ++ rest) at front;
      after = drop_at (take at file ++ bytes) rest (at + length bytes) sum;
      no_shorter = omega (arith, size, tail);
      no_longer = omega (arith, size, tail);
    })

-- one behind another, within its range
pub torn_then : (at size from n : ℕ) (a b c : List ℕ) → at ≤ from → from + n ≤ at + size → Torn at size a b → Torn from n b c → Torn at size a c
torn_then at size from n a b c low high s t =
    let k = at + size - (from + n) in
    let end : from + n + k ≡ at + size = omega (arith, high) in
    let on : (l : List ℕ) → drop (at + size) l ≡ drop k (drop (from + n) l) = λ l. ap (λ (j : ℕ). drop j l) (sym end) ∙ sym (drop-drop k (from + n) l) in
    let m = min at (length a) in
    let few : m ≤ min from (length b) = omega (arith, low, s.no_shorter) in
    let fewer : m ≤ from = omega (arith, low) in
    record {
      before = sym (take-take m (min from (length b)) c few) ∙ ap (λ (l : List ℕ). take m l) t.before ∙ take-take m from b fewer ∙ s.before;
      after = on c ∙ ap (λ (l : List ℕ). drop k l) t.after ∙ sym (on b) ∙ s.after;
      no_shorter = omega (arith, s.no_shorter, t.no_shorter);
      no_longer = omega (arith, s.no_longer, t.no_longer, low, high);
    }

-- ---- cuts

pub cut_taken : (n : ℕ) (file : List ℕ) → n ≤ length file → Cut n file (take n file)
cut_taken n file within =
    let size : length (take n file) ≡ n = length-take-le n file within in
    record { no_shorter = omega (arith, size); front = ap (λ (k : ℕ). take k file) size }

pub cut_same : (n : ℕ) (file : List ℕ) → Cut n file file
cut_same n file = record { no_shorter = omega arith; front = take_all (length file) file (omega arith) }
