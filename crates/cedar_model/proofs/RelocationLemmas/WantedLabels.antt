-- The list of a node's labels with a new one among them.
use Rattle.std.proofs.Common.{◌≡◌, ℕ, suc, ◌+◌, ◌<◌, ◌≤◌, Bool, true, false, cond, List, [], ◌∷◌, ◌++◌, length, get_or, drop, sym, ◌∙◌, ap, refl, subst, inl, inr, arith, append_assoc, length-append, drop-cons}
use Rattle.std.proofs.lemmas.List.{append-nil, drop_all}
use Rattle.std.proofs.lemmas.Bool.{cases_Bool, cond-false, cond-true}
use Rattle.cedar_model.specs.Meaning.Family.{Among}
use Rattle.cedar_model.specs.Relocation.Wanted.{goes_before, with_label}

-- ---- what the list has

pub with_length : (o : Bool) (l : ℕ) (ms : List ℕ) → length (with_label o l ms) ≡ length ms + 1
with_length o l [] = omega arith
with_length o l (m ∷ ms) = elim (cases_Bool (goes_before o l m)) [
  | inl goes ↦ ap length (cond-true _ (l ∷ m ∷ ms) (m ∷ with_label o l ms) goes) ∙ omega arith
  | inr other ↦ ap length (cond-false _ (l ∷ m ∷ ms) (m ∷ with_label o l ms) other) ∙ (let rest = with_length o l ms in omega (arith, rest))
]

pub with_new : (o : Bool) (l : ℕ) (ms : List ℕ) → Among (with_label o l ms) l
with_new o l [] = inl refl
with_new o l (m ∷ ms) = elim (cases_Bool (goes_before o l m)) [
  | inl goes ↦ subst (λ v. Among v l) (sym (cond-true _ (l ∷ m ∷ ms) (m ∷ with_label o l ms) goes)) (inl refl)
  | inr other ↦ subst (λ v. Among v l) (sym (cond-false _ (l ∷ m ∷ ms) (m ∷ with_label o l ms) other)) (inr (with_new o l ms))
]

pub with_old : (o : Bool) (l : ℕ) (ms : List ℕ) (x : ℕ) → Among ms x → Among (with_label o l ms) x
with_old o l [] x a = absurd a
with_old o l (m ∷ ms) x a = elim (cases_Bool (goes_before o l m)) [
  | inl goes ↦ subst (λ v. Among v x) (sym (cond-true _ (l ∷ m ∷ ms) (m ∷ with_label o l ms) goes)) (inr a)
  | inr other ↦ subst (λ v. Among v x) (sym (cond-false _ (l ∷ m ∷ ms) (m ∷ with_label o l ms) other)) (elim a [ inl e ↦ inl e | inr b ↦ inr (with_old o l ms x b) ])
]

-- ---- a walk over the labels that puts the new one in

-- what a walk that has the labels ms before it is to write, the new label with them unless it is there already
abbrev pub to_come : Bool → Bool → ℕ → List ℕ → List ℕ
to_come o true l ms = ms
to_come o false l ms = with_label o l ms

-- the walk has written `items`, and comes to label number i
pub record Writing (o : Bool) (l : ℕ) (labels items : List ℕ) (i : ℕ) (placed : Bool) : Type 0 where
  pub listed : with_label o l labels ≡ items ++ to_come o placed l (drop i labels)
  pub few : length items ≤ i + cond placed 1 0

-- label number i is next
pub record BeforeLabel (o : Bool) (l : ℕ) (labels items : List ℕ) (i : ℕ) (placed : Bool) : Type 0 where
  pub listed : with_label o l labels ≡ items ++ get_or labels i 0 ∷ to_come o placed l (drop (suc i) labels)
  pub few : length items ≤ i + cond placed 1 0

pub writing_none : (o : Bool) (l : ℕ) (labels items : List ℕ) → items ≡ [] → Writing o l labels items 0 false
writing_none o l labels items e = record { listed = ap (λ v. v ++ with_label o l labels) (sym e); few = omega (arith, ap length e) }

-- the new label is written
pub put_new : (o : Bool) (l : ℕ) (labels items more : List ℕ) (i : ℕ) (placed now t : Bool) → i < length labels → placed ≡ false → t ≡ goes_before o l (get_or labels i 0) → t ≡ true → more ≡ items ++ l ∷ [] → now ≡ true → Writing o l labels items i placed → BeforeLabel o l labels more i now
put_new o l labels items more i placed now t h before test goes is placed_now w =
    let m : ℕ = get_or labels i 0 in
    let rest : List ℕ = drop (suc i) labels in
    let split : drop i labels ≡ m ∷ rest = drop-cons labels i 0 h in
    let first : with_label o l (m ∷ rest) ≡ l ∷ m ∷ rest = cond-true _ (l ∷ m ∷ rest) (m ∷ with_label o l rest) (sym test ∙ goes) in
    let few : length items ≤ i + cond false 1 0 = subst (λ p. length items ≤ i + cond p 1 0) before w.few in
    let size : length more ≡ length items + length (l ∷ []) = ap length is ∙ length-append items (l ∷ []) in
    record {
      listed = w.listed
          ∙ ap (λ p. items ++ to_come o p l (drop i labels)) before
          ∙ ap (λ v. items ++ with_label o l v) split
          ∙ ap (λ v. items ++ v) first
          ∙ sym (append_assoc items (l ∷ []) (m ∷ rest))
          ∙ ap (λ v. v ++ m ∷ rest) (sym is)
          ∙ ap (λ p. more ++ m ∷ to_come o p l rest) (sym placed_now);
      few = subst (λ p. length more ≤ i + cond p 1 0) (sym placed_now) (omega (arith, few, size));
    }

-- the new label comes later
pub put_later : (o : Bool) (l : ℕ) (labels items more : List ℕ) (i : ℕ) (placed now t : Bool) → i < length labels → placed ≡ false → t ≡ goes_before o l (get_or labels i 0) → t ≡ false → more ≡ items → now ≡ placed → Writing o l labels items i placed → BeforeLabel o l labels more i now
put_later o l labels items more i placed now t h before test other is placed_now w =
    let m : ℕ = get_or labels i 0 in
    let rest : List ℕ = drop (suc i) labels in
    let split : drop i labels ≡ m ∷ rest = drop-cons labels i 0 h in
    let later : with_label o l (m ∷ rest) ≡ m ∷ with_label o l rest = cond-false _ (l ∷ m ∷ rest) (m ∷ with_label o l rest) (sym test ∙ other) in
    record {
      listed = w.listed
          ∙ ap (λ p. items ++ to_come o p l (drop i labels)) before
          ∙ ap (λ v. items ++ with_label o l v) split
          ∙ ap (λ v. items ++ v) later
          ∙ ap (λ v. v ++ m ∷ with_label o l rest) (sym is)
          ∙ ap (λ p. more ++ m ∷ to_come o p l rest) (sym (placed_now ∙ before));
      few = subst (λ p. length more ≤ i + cond p 1 0) (sym placed_now) (subst (λ v. length v ≤ i + cond placed 1 0) (sym is) w.few);
    }

-- the new label is there already
pub put_before : (o : Bool) (l : ℕ) (labels items more : List ℕ) (i : ℕ) (placed now : Bool) → i < length labels → placed ≡ true → more ≡ items → now ≡ placed → Writing o l labels items i placed → BeforeLabel o l labels more i now
put_before o l labels items more i placed now h before is placed_now w =
    let m : ℕ = get_or labels i 0 in
    let rest : List ℕ = drop (suc i) labels in
    let split : drop i labels ≡ m ∷ rest = drop-cons labels i 0 h in
    record {
      listed = w.listed
          ∙ ap (λ p. items ++ to_come o p l (drop i labels)) before
          ∙ ap (λ v. items ++ v) split
          ∙ ap (λ v. v ++ m ∷ rest) (sym is)
          ∙ ap (λ p. more ++ m ∷ to_come o p l rest) (sym (placed_now ∙ before));
      few = subst (λ p. length more ≤ i + cond p 1 0) (sym placed_now) (subst (λ v. length v ≤ i + cond placed 1 0) (sym is) w.few);
    }

-- label number i is written
pub written : (o : Bool) (l x : ℕ) (labels items more : List ℕ) (i : ℕ) (placed : Bool) → x ≡ get_or labels i 0 → more ≡ items ++ x ∷ [] → BeforeLabel o l labels items i placed → Writing o l labels more (i + 1) placed
written o l x labels items more i placed at is w =
    let m : ℕ = get_or labels i 0 in
    let next : suc i ≡ i + 1 = omega arith in
    let rest : List ℕ = to_come o placed l (drop (suc i) labels) in
    let size : length more ≡ length items + length (x ∷ []) = ap length is ∙ length-append items (x ∷ []) in
    record {
      listed = w.listed
          ∙ sym (append_assoc items (m ∷ []) rest)
          ∙ ap (λ y. (items ++ y ∷ []) ++ rest) (sym at)
          ∙ ap (λ v. v ++ rest) (sym is)
          ∙ ap (λ k. more ++ to_come o placed l (drop k labels)) next;
      few = omega (arith, w.few, size);
    }

-- ---- all labels are written

pub all_placed : (o : Bool) (l : ℕ) (labels items : List ℕ) (i : ℕ) (placed : Bool) → length labels ≤ i → placed ≡ true → Writing o l labels items i placed → items ≡ with_label o l labels
all_placed o l labels items i placed done before w =
    sym (w.listed ∙ ap (λ p. items ++ to_come o p l (drop i labels)) before ∙ ap (λ v. items ++ v) (drop_all i labels done) ∙ append-nil items)

pub all_last : (o : Bool) (l : ℕ) (labels items more : List ℕ) (i : ℕ) (placed : Bool) → length labels ≤ i → placed ≡ false → more ≡ items ++ l ∷ [] → Writing o l labels items i placed → more ≡ with_label o l labels
all_last o l labels items more i placed done before is w =
    is ∙ sym (w.listed ∙ ap (λ p. items ++ to_come o p l (drop i labels)) before ∙ ap (λ v. items ++ with_label o l v) (drop_all i labels done))
