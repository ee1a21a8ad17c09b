-- Keywords in a text, by the fronts of what is left of it.
use Rattle.std.proofs.Common.{◌≡◌, ℕ, ◌+◌, ◌-◌, ◌<◌, ◌≤◌, true, false, List, [], ◌∷◌, length, take, drop, Option, Some, None, IsSome, is_some, MatchOption, refl, sym, subst, arith}
use Rattle.std.specs.List.{Contains}
use Rattle.std.specs.Prelude.{ℤ}
use Rattle.std.proofs.lemmas.Bool.{false≢true, true≢false}
use borrow.Author.Count.{below_more}
use Rattle.std.proofs.Math.ListN.{length-drop}
use Rattle.cedarwood.specs.Tree.{Tree, number_at}
use Rattle.cedarwood.specs.Queries.{front}
use Rattle.cedarwood.proofs.FrontLemmas.{front_from_held, held_from_front}
use Rattle.uses.specs.Keywords.{HasKeyword}

-- where a walk gives a key, the text has it
pub key_begins : (t : Tree) (text : List ℕ) (place : ℕ) (found : ℤ × ℕ) (later : List (ℤ × ℕ)) → place < length text → front t (drop place text) ≡ found ∷ later → HasKeyword t text
key_begins t text place found later here is =
    let first : Contains (front t (drop place text)) found = subst (λ xs. Contains xs found) (sym is) (0, omega arith, refl) in
    let held = held_from_front t (drop place text) found.0 found.1 first in
    let left : found.1 < length (drop place text) = held.0 in
    let within : place + (found.1 + 1) ≤ length text = omega (arith, length-drop place text) in
    (place, found.1 + 1, omega arith, within, subst (λ o. IsSome o) (sym held.1) refl)

value_of : {X : Type 0} (o : Option X) → IsSome o → (v : X) × (o ≡ Some v)
value_of None h = absurd (false≢true h)
value_of (Some v) h = (v, refl)

in_none : (x : ℤ × ℕ) → Contains [] x → ⊥
in_none x h = omega (arith, h.1)

-- where no walk gives one, it has none
pub none_begins : (t : Tree) (text : List ℕ) → ((k : ℕ) → k < length text → front t (drop k text) ≡ []) → HasKeyword t text → ⊥
none_begins t text none h =
    let place = h.0 in
    let rest = drop place text in
    let n : ℕ = h.1 - 1 in
    let some : 0 < h.1 = h.2 in
    let within : place + h.1 ≤ length text = h.3 in
    let len : h.1 ≡ n + 1 = omega arith in
    let v = value_of (number_at t (take h.1 rest)) h.4 in
    let held : number_at t (take (n + 1) rest) ≡ Some v.0 = subst (λ m. number_at t (take m rest) ≡ Some v.0) len v.1 in
    let left : n < length rest = omega (arith, length-drop place text) in
    in_none (v.0, n) (subst (λ xs. Contains xs (v.0, n)) (none place (omega arith)) (front_from_held t rest v.0 n left held))

-- what a walk gave first is the first of what it had
pub has_first : (has later : List (ℤ × ℕ)) (given : Option (ℤ × ℕ)) → is_some given ≡ true → MatchOption given ((has ≡ []) × (later ≡ [])) (λ x. has ≡ x ∷ later) → (x : ℤ × ℕ) × (has ≡ x ∷ later)
has_first has later None some h = absurd (false≢true some)
has_first has later (Some x) some h = (x, h)

pub has_none : (has later : List (ℤ × ℕ)) (given : Option (ℤ × ℕ)) → is_some given ≡ false → MatchOption given ((has ≡ []) × (later ≡ [])) (λ x. has ≡ x ∷ later) → has ≡ []
has_none has later None none h = h.0
has_none has later (Some x) none h = absurd (true≢false none)

-- no key begins before the next position
pub none_before : (t : Tree) (text : List ℕ) (place : ℕ) → ((k : ℕ) → k < place → front t (drop k text) ≡ []) → front t (drop place text) ≡ [] → (k : ℕ) → k < place + 1 → front t (drop k text) ≡ []
none_before t text place before here = below_more (λ k. front t (drop k text) ≡ []) place before here
