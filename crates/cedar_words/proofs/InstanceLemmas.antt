-- That a cut where a key costs its number, and each byte without one what is said of its position, is the best by that model.
use Rattle.std.proofs.Common.{◌≡◌, ℕ, zero, suc, ◌+◌, ◌-◌, ◌<◌, ◌≤◌, inl, inr, ℤ, unsigned_abs, List, [], ◌∷◌, length, take, drop, None, refl, sym, ap, subst, ◌∙◌, arith}
use Rattle.std.proofs.lemmas.Bool.{le-leb, lt-leb}
use Rattle.std.proofs.lemmas.Bool.Decides.{leb_tells}
use Rattle.cedarwood.specs.Tree.{Tree}
use Rattle.cedarwood.specs.Queries.{front}
use Rattle.cedar_words.specs.Models.{IsBestCut, run_len}
use Rattle.cedar_words.specs.ModelSteps.{AreCostsBy, best_by, best_priced, or_run, step_by}
use Rattle.cedar_words.specs.Runs.{byte_run}
use Rattle.cedar_words.specs.Steps.{AreCosts, best_cut, best_from, best_of, better_of, cut_along, key_step, step_at, step_over}
use Rattle.cedar_words.specs.declared.costs.Step.{Step}
use Rattle.cedar_words.proofs.ModelCutLemmas.{steps_best}
use Rattle.cedar_words.proofs.ModelStepLemmas.{or_tells}

takes : (a b : Step) → b.cost ≤ a.cost → better_of a b ≡ b
takes a b low = rw (le-leb b.cost a.cost low) refl

keeps : (a b : Step) → a.cost < b.cost → better_of a b ≡ a
keeps a b high = rw (lt-leb b.cost a.cost high) refl

better_assoc : (a b c : Step) → better_of (better_of a b) c ≡ better_of a (better_of b c)
better_assoc a b c = elim (leb_tells b.cost a.cost) [
  | inl low ↦ elim (leb_tells c.cost b.cost) [
    | inl least ↦
        let one = low.1 in
        let two = least.1 in
        ap (λ s. better_of s c) (takes a b one) ∙ takes b c two ∙ sym (ap (better_of a) (takes b c two) ∙ takes a c (omega (arith, one, two)))
    | inr more ↦ ap (λ s. better_of s c) (takes a b low.1) ∙ keeps b c more.1 ∙ sym (ap (better_of a) (keeps b c more.1) ∙ takes a b low.1)
  ]
  | inr high ↦ elim (leb_tells c.cost b.cost) [
    | inl least ↦ ap (λ s. better_of s c) (keeps a b high.1) ∙ sym (ap (better_of a) (takes b c least.1))
    | inr more ↦
        let one = high.1 in
        let two = more.1 in
        ap (λ s. better_of s c) (keeps a b one) ∙ keeps a c (omega (arith, one, two)) ∙ sym (ap (better_of a) (keeps b c two) ∙ keeps a b one)
  ]
]

better_some : (a b : Step) → 0 < a.len → 0 < b.len → 0 < (better_of a b).len
better_some a b one two = elim (leb_tells b.cost a.cost) [
  | inl low ↦ subst (λ (s : Step). 0 < s.len) (sym (takes a b low.1)) two
  | inr high ↦ subst (λ (s : Step). 0 < s.len) (sym (keeps a b high.1)) one
]

-- one byte is held against a key before or after it, which is the same, as no key is shorter
or_same : (byte s : Step) → byte.len ≡ 1 → 0 < s.len → better_of byte s ≡ or_run s byte
or_same byte s one some = elim (or_tells s byte) [
  | inl is ↦ takes byte s is.1 ∙ sym is.0
  | inr is ↦ elim (leb_tells s.cost byte.cost) [
    | inl low ↦ let short = is.2 low.1 in absurd (omega (arith, one, some, short))
    | inr high ↦ keeps byte s high.1 ∙ sym is.0
  ]
]

from_start : (later : List ℕ) (byte s : Step) (fronts : List (ℤ × ℕ)) → byte.len ≡ 1 → 0 < s.len → best_from later (better_of byte s) fronts ≡ or_run (best_priced unsigned_abs later s fronts) byte
from_start later byte s [] one some = or_same byte s one some
from_start later byte s (found ∷ fronts) one some =
    ap (λ x. best_from later x fronts) (better_assoc byte s (key_step later found))
    ∙ from_start later byte (better_of s (key_step later found)) fronts one (better_some s (key_step later found) some (omega arith))

one_byte : (u n : ℕ) → 1 ≡ run_len n (byte_run u)
one_byte u n = omega arith

best_alike : (u : ℕ) (later : List ℕ) (fronts : List (ℤ × ℕ)) → best_of u later fronts ≡ best_by unsigned_abs later (byte_run u) fronts
best_alike u later [] = ap (λ n. step_over later u n None) (one_byte u (length later))
best_alike u later (found ∷ fronts) =
    from_start later (step_over later u 1 None) (key_step later found) fronts refl (omega arith)
    ∙ ap (λ n. or_run (best_priced unsigned_abs later (key_step later found) fronts) (step_over later u n None)) (one_byte u (length later))

step_alike : (t : Tree) (u : ℕ → ℕ) (text costs : List ℕ) (left : ℕ) → step_at t u text costs left ≡ step_by t unsigned_abs (λ p. byte_run (u p)) text costs left
step_alike t u text costs left = best_alike (u (length text - left)) (take left costs) (front t (drop (length text - left) text))

along_alike : (f g : ℕ → Step) → ((n : ℕ) → f n ≡ g n) → (k place left : ℕ) → cut_along f k place left ≡ cut_along g k place left
along_alike f g same k place zero = refl
along_alike f g same (suc k) place (suc left) = along_alike f g same k (place + 1) left
along_alike f g same zero place (suc left) =
    ap (λ (s : Step). (place, s.len, s.value) ∷ cut_along f (s.len - 1) (place + 1) left) (same (suc left))
    ∙ ap (λ ts. (place, (g (suc left)).len, (g (suc left)).value) ∷ ts) (along_alike f g same ((g (suc left)).len - 1) (place + 1) left)

costs_alike : (t : Tree) (u : ℕ → ℕ) (text costs : List ℕ) → AreCosts t u text costs → AreCostsBy t unsigned_abs (λ p. byte_run (u p)) text costs
costs_alike t u text costs are = (
  are.0,
  record { begin = are.1.begin; best = λ left some low. are.1.best left some low ∙ ap (λ (s : Step). s.cost) (step_alike t u text costs left) },
)

pub found_best : (t : Tree) (u : ℕ → ℕ) (text costs : List ℕ) → AreCosts t u text costs → IsBestCut t unsigned_abs (λ p. byte_run (u p)) text (best_cut t u text costs)
found_best t u text costs are =
    subst (IsBestCut t unsigned_abs (λ p. byte_run (u p)) text)
    (sym (along_alike (step_at t u text costs) (step_by t unsigned_abs (λ p. byte_run (u p)) text costs) (step_alike t u text costs) 0 0 (length text)))
    (steps_best t unsigned_abs (λ p. byte_run (u p)) text costs (costs_alike t u text costs are))
