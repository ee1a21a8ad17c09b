-- The updates of a batch that are linked by the places of their keys.
use Rattle.std.specs.Prelude.{nat_eq, cond, set, replicate}
use Rattle.std.specs.Cmp.Lexicographic.{bytes_decides, pointwise}
use Rattle.std.proofs.Common.{◌≡◌, ℕ, true, false, ℤ, suc, zero, ◌+◌, add-one, ◌-◌, ◌≤◌, ◌<◌, inl, inr, List, length, drop, get_or, refl, sym, ◌∙◌, ap, subst, arith}
use Rattle.std.proofs.lemmas.Bool.{true≢false, false≢true, cases_Bool, cases_eq, eq-eqb, eqb-true}
use Rattle.std.proofs.lemmas.List.{get_or-replicate, get_or-set_other, get_or-set_same, length-replicate, length-set}
use Rattle.std.proofs.lemmas.Nat.{mod_below}
use Rattle.cedar_store.specs.Batches.{change_at, is_put_by, puts}
use Rattle.cedar_store.specs.Changes.{Change, put_at, erase_at}
use Rattle.cedar_store.specs.Links.{AreLinkedPuts, heads_with, links_with, last_put, key_place, puts_in}
use Rattle.cedar_store.proofs.Late.{one_less}

no_match : (a b : ℕ) → (a ≡ b → ⊥) → nat_eq a b ≡ false
no_match a b apart = elim (cases_Bool (nat_eq a b)) [
  | inl same ↦ absurd (apart (eqb-true a b same))
  | inr differs ↦ differs
]

pub place_is_inside : (places : ℕ) (key : List ℕ) → 0 < places → key_place places key < places
unfolding key_place
place_is_inside places key some = mod_below _ places some

-- an update whose key has another place puts no value at this key
pub other_place : (places : ℕ) (key : List ℕ) (c : Change) → puts_in places (key_place places key) c ≡ false → puts key c ≡ false
other_place places key (erase_at k) apart = refl
other_place places key (put_at k v) apart = elim (cases_Bool (pointwise nat_eq key k)) [
  | inl same ↦
      absurd (true≢false (sym (eq-eqb (key_place places k) (key_place places key) (ap (key_place places) (sym ((bytes_decides key k).0 same)))) ∙ apart))
  | inr differs ↦ differs
]

module _ (places place : ℕ) (changes : List Change) where
  -- one change more
  pub last_here : (i : ℕ) → puts_in places place (change_at changes i) ≡ true → last_put places place changes (i + 1) ≡ i + 1
  last_here i here = ap (last_put places place changes) (add-one i) ∙ ap (λ b. cond b (suc i) (last_put places place changes i)) here ∙ sym (add-one i)

  pub last_stays : (i : ℕ) → puts_in places place (change_at changes i) ≡ false → last_put places place changes (i + 1) ≡ last_put places place changes i
  last_stays i other = ap (last_put places place changes) (add-one i) ∙ ap (λ b. cond b (suc i) (last_put places place changes i)) other

  pub last_is_low : (n : ℕ) → last_put places place changes n ≤ n
  last_is_low zero = omega arith
  last_is_low (suc i) = elim (cases_Bool (puts_in places place (change_at changes i))) [
    | inl here ↦ let is = ap (λ b. cond b (suc i) (last_put places place changes i)) here in omega (arith, is)
    | inr other ↦ let is = ap (λ b. cond b (suc i) (last_put places place changes i)) other in let ih = last_is_low i in omega (arith, is, ih)
  ]

  -- what is before the number of changes that ends at an update with this place
  abbrev pub EndsInPlace : ℕ → Type 0
  EndsInPlace n = 0 < n → puts_in places place (change_at changes (n - 1)) ≡ true

  pub last_is_in_place : (n : ℕ) → EndsInPlace (last_put places place changes n)
  last_is_in_place zero = λ some. absurd (omega (arith, some))
  last_is_in_place (suc i) = elim (cases_Bool (puts_in places place (change_at changes i))) [
    | inl here ↦
        let is = ap (λ b. cond b (suc i) (last_put places place changes i)) here in
        λ _. ap (λ k. puts_in places place (change_at changes k)) (omega (arith, is)) ∙ here
    | inr other ↦ subst EndsInPlace (sym (ap (λ b. cond b (suc i) (last_put places place changes i)) other)) (last_is_in_place i)
  ]

module _ (places : ℕ) (key : List ℕ) (changes : List Change) where
  -- from the last update with the key's place on, none puts the key
  pub none_from_last : (n : ℕ) → n ≤ length changes → is_put_by key (drop n changes) ≡ false
      → is_put_by key (drop (last_put places (key_place places key) changes n) changes) ≡ false
  none_from_last zero low lacks = lacks
  none_from_last (suc i) low lacks = elim (cases_Bool (puts_in places (key_place places key) (change_at changes i))) [
    | inl here ↦ subst (λ k. is_put_by key (drop k changes) ≡ false) (sym (ap (λ b. cond b (suc i) (last_put places (key_place places key) changes i)) here)) lacks
    | inr other ↦
        let behind : is_put_by key (drop (i + 1) changes) ≡ false = subst (λ k. is_put_by key (drop k changes) ≡ false) (sym (add-one i)) lacks in
        let still = one_less key changes i (omega (arith, low)) (other_place places key (change_at changes i) other) behind in
        subst (λ k. is_put_by key (drop k changes) ≡ false) (sym (ap (λ b. cond b (suc i) (last_put places (key_place places key) changes i)) other))
        (none_from_last i (omega (arith, low)) still)
  ]

-- a search for an update of a key has come so far: it goes on at 1 + the index of an update with the key's place, or
-- has ended, and no change from there on puts the key
pub record HasCome (places : ℕ) (key : List ℕ) (changes : List Change) (at : ℕ) : Type 0 where
  pub in_place : EndsInPlace places (key_place places key) changes at
  pub none_behind : is_put_by key (drop at changes) ≡ false

pub comes_to : (places : ℕ) (key : List ℕ) (changes : List Change) (at n : ℕ) → at ≡ last_put places (key_place places key) changes n → n ≤ length changes
    → is_put_by key (drop n changes) ≡ false → HasCome places key changes at
comes_to places key changes at n is low lacks = record {
  in_place = subst (EndsInPlace places (key_place places key) changes) (sym is) (last_is_in_place places (key_place places key) changes n);
  none_behind = subst (λ k. is_put_by key (drop k changes) ≡ false) (sym is) (none_from_last places key changes n low lacks);
}

-- ---- the updates linked one after another

pub none_linked : (heads links : List ℕ) (changes : List Change) (count : ℕ) → heads ≡ replicate count 0 → length links ≡ length changes
    → AreLinkedPuts heads links changes 0
none_linked heads links changes count blank many = record {
  many = many;
  last = λ place low.
      let many_heads : length heads ≡ count = ap length blank ∙ length-replicate {A = ℕ} count 0 in
      ap (λ l. get_or l place 0) blank ∙ get_or-replicate count place 0 0 (omega (arith, low, many_heads));
  before = λ i place low here. absurd (omega (arith, low));
}

module _ (heads links : List ℕ) (changes : List Change) (n : ℕ) (linked : AreLinkedPuts heads links changes n) (low : n < length changes) where
  put_linked : (key : List ℕ) (v : ℤ) → change_at changes n ≡ put_at key v → 0 < length heads
      → AreLinkedPuts (heads_with heads n (put_at key v)) (links_with heads links n (put_at key v)) changes (n + 1)
  put_linked key v is some =
      let places = length heads in
      let here = key_place places key in
      let inside : here < places = place_is_inside places key some in
      let same_length : length (set heads here (n + 1)) ≡ places = length-set heads here (n + 1) in
      let head : ℕ = get_or heads here 0 in
      let is_here : puts_in places here (change_at changes n) ≡ true = ap (puts_in places here) is ∙ eq-eqb here here refl in
      record {
        many = length-set links n head ∙ linked.many;
        last = λ place in_range.
            subst (λ m. get_or (set heads here (n + 1)) place 0 ≡ last_put m place changes (n + 1)) (sym same_length)
            (elim (cases_eq place here) [
              | inl same ↦
                  ap (λ p. get_or (set heads here (n + 1)) p 0) same ∙ get_or-set_same heads here (n + 1) 0 inside
                  ∙ sym (last_here places here changes n is_here) ∙ ap (λ p. last_put places p changes (n + 1)) (sym same)
              | inr apart ↦
                  get_or-set_other heads here place (n + 1) 0 apart ∙ linked.last place (omega (arith, in_range, same_length))
                  ∙ sym (last_stays places place changes n (ap (puts_in places place) is ∙ no_match here place (λ e. apart (sym e))))
            ]);
        before = λ i place early.
            subst (λ m. puts_in m place (change_at changes i) ≡ true → get_or (set links n head) i 0 ≡ last_put m place changes i) (sym same_length)
            (λ there. elim (cases_eq i n) [
              | inl same ↦
                  let agrees : here ≡ place = eqb-true here place (sym (ap (puts_in places place) (ap (change_at changes) same ∙ is)) ∙ there) in
                  ap (λ k. get_or (set links n head) k 0) same ∙ get_or-set_same links n head 0 (omega (arith, low, linked.many))
                  ∙ linked.last here inside ∙ (λ k. last_put places (agrees k) changes (sym same k))
              | inr apart ↦
                  get_or-set_other links n i head 0 apart ∙ linked.before i place (omega (arith, early, apart)) there
            ]);
      }

  erase_linked : (key : List ℕ) → change_at changes n ≡ erase_at key → AreLinkedPuts heads links changes (n + 1)
  erase_linked key is =
      let places = length heads in
      record {
        many = linked.many;
        last = λ place in_range. linked.last place in_range ∙ sym (last_stays places place changes n (ap (puts_in places place) is));
        before = λ i place early there. elim (cases_eq i n) [
          | inl same ↦ absurd (false≢true (sym (ap (puts_in places place) (ap (change_at changes) same ∙ is)) ∙ there))
          | inr apart ↦ linked.before i place (omega (arith, early, apart)) there
        ];
      }

  pub one_linked : (c : Change) → change_at changes n ≡ c → 0 < length heads → AreLinkedPuts (heads_with heads n c) (links_with heads links n c) changes (n + 1)
  one_linked (put_at key v) is some = put_linked key v is some
  one_linked (erase_at key) is some = erase_linked key is

-- linking a change leaves as many heads
pub heads_stay : (heads : List ℕ) (n : ℕ) (c : Change) → length (heads_with heads n c) ≡ length heads
heads_stay heads n (put_at key v) = length-set heads (key_place (length heads) key) (n + 1)
heads_stay heads n (erase_at key) = refl
