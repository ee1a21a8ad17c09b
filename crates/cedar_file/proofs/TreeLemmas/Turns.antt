-- The steps of a walk over the nodes, one after another.
use Rattle.std.proofs.Common.{◌≡◌, ◌≢◌, ℕ, zero, suc, ◌+◌, ◌<◌, ◌≤◌, sym, ◌∙◌, ap, refl, subst, inl, inr, arith, Bool, true, false, cond, is_some, Result, Ok, Err}
use Rattle.std.specs.Prelude.{IfOk, OnErr, pos}
use Rattle.cedar_file.specs.declared.check.tree.Walk.{Walk}
use Rattle.cedar_model.specs.Table.Cells.{Cells}
use Rattle.cedar_file.specs.TreeWalk.{ComesBack, GoesDown, GoesOn, GoesUp, number_count_at, slots_at, walk_down, walk_up}
use Rattle.cedar_model.specs.Meaning.Family.{base_of, below}
use Rattle.cedar_model.specs.Meaning.Reading.{has_number_slot, number_in}
use Rattle.cedar_model.proofs.MeaningLemmas.ExclusiveOr.{pos_injective}

slots_few : (T : Cells) (s : ℕ) → slots_at T s ≤ 2
slots_few T s = by_test (has_number_slot T s)
  where
    by_test : (b : Bool) → 1 + cond {A = ℕ} b 1 0 ≤ 2
    by_test true = omega arith
    by_test false = omega arith

numbers_few : (T : Cells) (s : ℕ) → number_count_at T s ≤ 1
numbers_few T s = by_test (is_some (number_in T s))
  where
    by_test : (b : Bool) → cond {A = ℕ} b 1 0 ≤ 1
    by_test true = omega arith
    by_test false = omega arith

-- a walk on its way: its node is in use, and its counts are small
pub record IsOnWay (size : ℕ) (T : Cells) (w : Walk) (steps : ℕ) : Type 0 where
  pub inside : w.node < size
  pub base : w.base ≡ base_of T w.node
  pub met : w.met ≤ 1 + (steps + steps)
  pub numbers : w.numbers ≤ steps

module _ (size : ℕ) (ordered : Bool) (T : Cells) where
  pub still_on_way : (w next : Walk) (steps : ℕ) → ((q c : ℕ) → T.check q ≡ pos c → q < size) → IsOnWay size T w steps → GoesOn size ordered T w next → IsOnWay size T next (steps + 1)
  still_on_way w next steps active on (inl down) =
      let s : ℕ = below T w.node w.label in
      subst (λ x. IsOnWay size T x (steps + 1)) (sym down.1) (record {
        inside = active s w.node down.0.owned;
        base = refl;
        met = omega (arith, on.met, slots_few T s);
        numbers = omega (arith, on.numbers, numbers_few T s);
      })
  still_on_way w next steps active on (inr up) =
      subst (λ x. IsOnWay size T x (steps + 1)) (sym up.2) (record { inside = up.1.inside; base = refl; met = omega (arith, on.met); numbers = omega (arith, on.numbers) })

  pub one_step : (w a b : Walk) → GoesOn size ordered T w a → GoesOn size ordered T w b → a ≡ b
  one_step w a b (inl h) (inl k) = h.1 ∙ sym k.1
  one_step w a b (inl h) (inr k) = absurd (omega (arith, h.0.positive, k.1.ended))
  one_step w a b (inr h) (inl k) = absurd (omega (arith, k.0.positive, h.1.ended))
  one_step w a b (inr h) (inr k) =
      let same : h.0 ≡ k.0 = pos_injective _ _ (sym h.1.owner ∙ k.1.owner) in
      h.2 ∙ ap (walk_up T w) same ∙ sym k.2

  pub ends_back : (n : ℕ) (w : Walk) → 0 < n → w.label ≡ 0 → w.node ≡ 0 → ComesBack n size ordered T w w.met w.numbers
  unfolding ComesBack
  ends_back zero w some ended root = absurd (omega arith)
  ends_back (suc n) w some ended root = inl (record { ended = ended; root = root; met = refl; numbers = refl })

  -- a walk ends as it does from its next step on, if it isn't back at the root
  pub ends_on : (n k : ℕ) (w next : Walk) (m e : ℕ) → n ≡ suc k → GoesOn size ordered T w next → ComesBack k size ordered T next m e → ComesBack n size ordered T w m e
  unfolding ComesBack
  ends_on n k w next m e is on h = subst (λ x. ComesBack x size ordered T w m e) (sym is) (inr (next, on, h))

  further : (k : ℕ) (w next : Walk) (m e : ℕ) → (w.label ≡ 0 → w.node ≢ 0) → GoesOn size ordered T w next → ComesBack (suc k) size ordered T w m e → ComesBack k size ordered T next m e
  unfolding ComesBack
  further k w next m e away on (inl back) = absurd (away back.ended back.root)
  further k w next m e away on (inr there) = subst (λ x. ComesBack k size ordered T x m e) (one_step w there.0 next there.1 on) there.2

  pub ends_further : (n k : ℕ) (w next : Walk) (m e : ℕ) → n ≡ suc k → (w.label ≡ 0 → w.node ≢ 0) → GoesOn size ordered T w next → ComesBack n size ordered T w m e → ComesBack k size ordered T next m e
  ends_further n k w next m e is away on h = further k w next m e away on (subst (λ x. ComesBack x size ordered T w m e) is h)

  -- a walk that can't go on doesn't end, unless it is back at the root
  pub stuck : (n : ℕ) (w : Walk) (m e : ℕ) → (w.label ≡ 0 → w.node ≢ 0) → ((next : Walk) → GoesOn size ordered T w next → ⊥) → ComesBack n size ordered T w m e → ⊥
  unfolding ComesBack
  stuck zero w m e away none_on h = h
  stuck (suc n) w m e away none_on (inl back) = away back.ended back.root
  stuck (suc n) w m e away none_on (inr there) = none_on there.0 there.1

  pub none_left : (w : Walk) (m e : ℕ) → ComesBack 0 size ordered T w m e → ⊥
  unfolding ComesBack
  none_left w m e h = h

  pub up_faulty : (w : Walk) {E : Type 0} (r : Result Walk E) → w.label ≡ 0 → OnErr r ((c : ℕ) → GoesUp size ordered T w c → ⊥) → OnErr r ((next : Walk) → GoesOn size ordered T w next → ⊥)
  up_faulty w (Ok next) ended faulty = tt
  up_faulty w (Err error) ended faulty = λ next on. elim on [ inl down ↦ omega (arith, down.0.positive, ended) | inr up ↦ faulty up.0 up.1 ]

  pub up_on : (w : Walk) {E : Type 0} (r : Result Walk E) → IfOk r (λ next. (c : ℕ) × GoesUp size ordered T w c × (next ≡ walk_up T w c)) → IfOk r (GoesOn size ordered T w)
  up_on w (Ok next) up = inr up
  up_on w (Err error) up = tt

  pub down_faulty : (w : Walk) {E : Type 0} (r : Result Walk E) → 0 < w.label → OnErr r (GoesDown size T w → ⊥) → OnErr r ((next : Walk) → GoesOn size ordered T w next → ⊥)
  down_faulty w (Ok next) positive faulty = tt
  down_faulty w (Err error) positive faulty = λ next on. elim on [ inl down ↦ faulty down.0 | inr up ↦ omega (arith, up.1.ended, positive) ]

  pub down_on : (w : Walk) {E : Type 0} (r : Result Walk E) → IfOk r (λ next. GoesDown size T w × (next ≡ walk_down T w)) → IfOk r (GoesOn size ordered T w)
  down_on w (Ok next) down = inl down
  down_on w (Err error) down = tt
