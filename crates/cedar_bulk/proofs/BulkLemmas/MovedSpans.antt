-- Spans whose slots begin at 0 till their node has a base.
use Rattle.std.proofs.Common.{◌≡◌, ℕ, zero, suc, ◌+◌, ◌-◌, ◌<◌, ◌≤◌, ◌∙◌, sym, ap, refl, subst, arith, List, [], ◌∷◌, ◌++◌, map, length, take, drop, get_or, set, length-append}
use Rattle.std.proofs.lemmas.List.{get_or-map, length-map, map-set}
use Rattle.std.specs.Int.Bits.{xor_zero_l}
use Rattle.std.specs.Prelude.{bit_xor}
use Rattle.cedar_model.specs.Tree.{child, Forest, none}
use Rattle.cedar_bulk.specs.declared.spans.Span.{Span}
use Rattle.cedar_bulk.specs.Spans.{based_at, Covers, Part, part_of, parts_of}

-- so many spans behind the first n have moved to a base
abbrev pub moved : ℕ → ℕ → ℕ → List Part → List Part
moved zero zero base ps = ps
moved zero (suc m) base [] = []
moved zero (suc m) base (p ∷ ps) = based_at base p ∷ moved zero m base ps
moved (suc n) m base [] = []
moved (suc n) m base (p ∷ ps) = p ∷ moved n m base ps

pub moved_none : (n base : ℕ) (ps : List Part) → moved n 0 base ps ≡ ps
moved_none zero base ps = refl
moved_none (suc n) base [] = refl
moved_none (suc n) base (p ∷ ps) = ap (λ qs. p ∷ qs) (moved_none n base ps)

-- one more, the j-th
pub moved_more : (n m base : ℕ) (ps : List Part) (d : Part) (j : ℕ) → j ≡ n + m → j < length ps
    → set (moved n m base ps) j (based_at base (get_or (moved n m base ps) j d)) ≡ moved n (suc m) base ps
moved_more zero zero base [] d j e h = absurd (omega (arith, h))
moved_more zero zero base (p ∷ ps) d zero e h = refl
moved_more zero zero base (p ∷ ps) d (suc j) e h = absurd (omega (arith, e))
moved_more zero (suc m) base [] d j e h = absurd (omega (arith, h))
moved_more zero (suc m) base (p ∷ ps) d zero e h = absurd (omega (arith, e))
moved_more zero (suc m) base (p ∷ ps) d (suc j) e h = ap (λ qs. based_at base p ∷ qs) (moved_more zero m base ps d j (omega (arith, e)) (omega (arith, h)))
moved_more (suc n) m base [] d j e h = absurd (omega (arith, h))
moved_more (suc n) m base (p ∷ ps) d zero e h = absurd (omega (arith, e))
moved_more (suc n) m base (p ∷ ps) d (suc j) e h = ap (λ qs. p ∷ qs) (moved_more n m base ps d j (omega (arith, e)) (omega (arith, h)))

-- all that there are
all_moved : (m base : ℕ) (ps : List Part) → length ps ≡ m → moved zero m base ps ≡ map (based_at base) ps
all_moved zero base [] e = refl
all_moved zero base (p ∷ ps) e = absurd (omega (arith, e))
all_moved (suc m) base [] e = absurd (omega (arith, e))
all_moved (suc m) base (p ∷ ps) e = ap (λ qs. based_at base p ∷ qs) (all_moved m base ps (omega (arith, e)))

pub moved_all : (n m base : ℕ) (ps : List Part) → length ps ≡ n + m → moved n m base ps ≡ take n ps ++ map (based_at base) (drop n ps)
moved_all zero m base ps e = all_moved m base ps (omega (arith, e))
moved_all (suc n) m base [] e = refl
moved_all (suc n) m base (p ∷ ps) e = ap (λ qs. p ∷ qs) (moved_all n m base ps (omega (arith, e)))

-- the spans of some children, once their node has a base
pub covers_moved : (base : ℕ) (spans : List Part) (f todo : Forest) → Covers 0 spans f todo → Covers base (map (based_at base) spans) f todo
covers_moved base [] f todo c = c
covers_moved base (s ∷ ss) none todo c = c
covers_moved base (s ∷ ss) (child l n u rest) todo c = (ap (bit_xor base) (c.0 ∙ xor_zero_l l), c.1, covers_moved base ss rest todo c.2)

-- those behind the ones that were there
pub taken_front : (old spans : List Part) → take (length old) (old ++ spans) ≡ old
taken_front [] spans = refl
taken_front (p ∷ ps) spans = ap (λ qs. p ∷ qs) (taken_front ps spans)

pub dropped_front : (old spans : List Part) → drop (length old) (old ++ spans) ≡ spans
dropped_front [] spans = refl
dropped_front (p ∷ ps) spans = dropped_front ps spans

module _ {K : Type 0} (bytes : K → List ℕ) where
  -- a turn of the loop
  pub moved_on : (spans : List (Span K)) (ps : List Part) (n i base : ℕ) (x : Span K) → n ≤ i → i < length spans → length spans ≡ length ps → parts_of bytes spans ≡ moved n (i - n) base ps → x ≡ get_or spans i x
      → parts_of bytes (set spans i (record { node = bit_xor base x.node; depth = x.depth; pairs = x.pairs })) ≡ moved n (i + 1 - n) base ps
  moved_on spans ps n i base x from inside many is same =
      let m : ℕ = i - n in
      let d : Part = part_of bytes x in
      let at : i ≡ n + m = omega (arith, from) in
      let there : get_or (parts_of bytes spans) i d ≡ d = get_or-map (part_of bytes) spans i x d inside ∙ ap (part_of bytes) (sym same) in
      let found : get_or (moved n m base ps) i d ≡ d = subst (λ qs. get_or qs i d ≡ d) is there in
      map-set (part_of bytes) spans i _ ∙ ap (λ qs. set qs i (based_at base d)) is ∙ ap (λ q. set (moved n m base ps) i (based_at base q)) (sym found)
      ∙ moved_more n m base ps d i at (omega (arith, inside, many)) ∙ ap (λ k. moved n k base ps) (omega (arith, from))

  pub many_parts : (spans : List (Span K)) → length (parts_of bytes spans) ≡ length spans
  many_parts spans = length-map spans (part_of bytes)

  -- the first ones stay
  pub front_inside : (old new : List (Span K)) (spans : List Part) (n : ℕ) → n ≡ length old → parts_of bytes new ≡ parts_of bytes old ++ spans → n ≤ length new
  front_inside old new spans n e is = omega (arith, e, sym (many_parts new) ∙ ap length is ∙ length-append (parts_of bytes old) spans, many_parts old)

  -- and those behind them move
  pub spans_moved : (old : List (Span K)) (spans : List Part) (n base : ℕ) → n ≡ length old → (listed moved : List Part) → listed ≡ parts_of bytes old ++ spans → moved ≡ take n listed ++ map (based_at base) (drop n listed)
      → moved ≡ parts_of bytes old ++ map (based_at base) spans
  spans_moved old spans n base e listed moved is then =
      let many : n ≡ length (parts_of bytes old) = e ∙ sym (many_parts old) in
      then ∙ ap (λ qs. take n qs ++ map (based_at base) (drop n qs)) is ∙ ap (λ m. take m (parts_of bytes old ++ spans) ++ map (based_at base) (drop m (parts_of bytes old ++ spans))) many
      ∙ ap (λ qs. qs ++ map (based_at base) (drop (length (parts_of bytes old)) (parts_of bytes old ++ spans))) (taken_front (parts_of bytes old) spans)
      ∙ ap (λ qs. parts_of bytes old ++ map (based_at base) qs) (dropped_front (parts_of bytes old) spans)
