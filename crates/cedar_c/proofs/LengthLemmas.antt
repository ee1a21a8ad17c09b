-- The lengths of keys that a walk finds.
use Rattle.std.proofs.Common.{◌≡◌, ℕ, suc, ◌+◌, ◌-◌, ◌<◌, ◌≤◌, ◌^◌, List, [], ◌∷◌, ◌++◌, ◌*◌, length, length-append, map, drop, zero, Bool, true, false, cond, ◌==◌, ◌&&◌, Option, Some, None, refl, arith, subst, sym}
use Rattle.std.specs.Prelude.{ℤ, nat_eq}
use Rattle.std.specs.List.{count_by, filter, range_with_len, starts_with}
use Rattle.std.proofs.lemmas.Bool.{false≢true}
use Rattle.std.proofs.lemmas.List.{length-map}
use Rattle.cedarwood.specs.Tree.{Forest, none, child, Tree}
use Rattle.cedarwood.specs.Queries.{Entry, own_entry, under, walk_forest, walk, predict, prefixes_forest, prefixes}
use Rattle.std.proofs.lemmas.List.Sums.{count_by-le-length}
use Rattle.std.proofs.lemmas.List.FromFn.{length-range_with_len}
use Rattle.cedarwood.specs.Cells.{is_held}
use Rattle.cedarwood.specs.Marks.{marks}
use Rattle.cedarwood.specs.WellFormed.{cells_in, IsWellFormed, tree_of}
use Rattle.cedarwood.specs.TableFields.{Fields, size_of}
use Rattle.cedarwood.proofs.HeldCount.{count_is_marked}
use Rattle.cedarwood.specs.Dictionary.{Dictionary}
use Rattle.cedarwood.specs.OnTable.{IsOnTable}
use Rattle.cedar_c.specs.Matches.{all_longer, Fit, predicted_keys}

-- no entry's key has more bytes than this
abbrev Within : ℕ → List Entry → Type 0
Within n [] = Unit {0}
Within n (e ∷ es) = (length e.0 ≤ n) × Within n es

within_all : (n : ℕ) (xs ys : List Entry) → Within n xs → Within n ys → Within n (xs ++ ys)
within_all n [] ys h k = k
within_all n (x ∷ xs) ys h k = (h.0, within_all n xs ys h.1 k)

within_more : (n m : ℕ) (xs : List Entry) → n ≤ m → Within n xs → Within m xs
within_more n m [] le h = tt
within_more n m (x ∷ xs) le h = (omega (arith, le, h.0), within_more n m xs le h.1)

within_under : (l n : ℕ) (xs : List Entry) → Within n xs → Within (suc n) (map (under l) xs)
within_under l n [] h = tt
within_under l n (x ∷ xs) h = (omega (arith, h.0), within_under l n xs h.1)

within_own : (n : ℕ) (o : Option ℤ) → Within n (own_entry o)
within_own n None = tt
within_own n (Some v) = (omega arith, tt)

-- a key has no more bytes than there are nodes
within_forest : (f : Forest) → Within (length (prefixes_forest f)) (walk_forest f)
within_forest none = tt
within_forest (child l n below rest) =
    let b = length (prefixes_forest below) in
    let r = length (prefixes_forest rest) in
    let mapped : length (map (λ p. l ∷ p) (prefixes_forest below)) ≡ b = length-map (prefixes_forest below) (λ p. l ∷ p) in
    let joined = length-append (map (λ p. l ∷ p) (prefixes_forest below)) (prefixes_forest rest) in
    let all = length (prefixes_forest (child l n below rest)) in
    let deeper : suc b ≤ all = omega (arith, mapped, joined) in
    let beside : r ≤ all = omega (arith, mapped, joined) in
    let own = own_entry n in
    within_all all (map (under l) (own ++ walk_forest below)) (walk_forest rest)
    (within_more (suc b) all (map (under l) (own ++ walk_forest below)) deeper
    (within_under l b (own ++ walk_forest below) (within_all b own (walk_forest below) (within_own b n) (within_forest below))))
    (within_more r all (walk_forest rest) beside (within_forest rest))

within_walk : (t : Tree) → Within (length (prefixes t)) (walk t)
within_walk t = let n = length (prefixes t) in within_all n (own_entry t.number) (walk_forest t.children) (within_own n t.number) (within_forest t.children)

module _ (q : List ℕ) where
  abbrev begins : Entry → Bool
  begins e = starts_with nat_eq e.0 q

  abbrev behind : Entry → ℤ × ℕ
  behind e = (e.1, length e.0 - length q)

  abbrev whole : Entry → ℤ × ℕ
  whole e = (e.1, length e.0)

  fit_behind : (n : ℕ) (es : List Entry) → n < 2 ^ 64 → length q < 2 ^ 64 → Within n es → Fit (length q) (map behind (filter begins es))
  fit_behind n [] small short h = tt
  fit_behind n (e ∷ es) small short h =
      let later : Fit (length q) (map behind (filter begins es)) = fit_behind n es small short h.1 in
      let fits : length e.0 - length q + length q < 2 ^ 64 = omega (arith, small, short, h.0) in
      elim (begins e) as (λ b. Fit (length q) (map behind (cond b (e ∷ filter begins es) (filter begins es)))) [
        | true ↦ (fits, later)
        | false ↦ later
      ]

-- what begins with some bytes has as many at least
begins_short : (p q : List ℕ) → starts_with nat_eq p q ≡ true → length q ≤ length p
begins_short p [] h = omega arith
begins_short [] (m ∷ q) h = absurd (false≢true h)
begins_short (l ∷ p) (m ∷ q) h =
    (elim (m == l) as (λ b. (b && starts_with nat_eq p q) ≡ true → length (m ∷ q) ≤ length (l ∷ p)) [
      | true ↦ λ rest. let less : length q ≤ length p = begins_short p q rest in omega (arith, less)
      | false ↦ λ wrong. absurd (false≢true wrong)
    ]) h

-- the bytes of a prefix and those behind it are all bytes of a key
whole_keys : (q : List ℕ) (es : List Entry) → all_longer (length q) (map (behind q) (filter (begins q) es)) ≡ map (whole q) (filter (begins q) es)
whole_keys q [] = refl
whole_keys q (e ∷ es) =
    let ih : all_longer (length q) (map (behind q) (filter (begins q) es)) ≡ map (whole q) (filter (begins q) es) = whole_keys q es in
    (elim (begins q e) as (λ b. begins q e ≡ b
    → all_longer (length q) (map (behind q) (cond b (e ∷ filter (begins q) es) (filter (begins q) es))) ≡ map (whole q) (cond b (e ∷ filter (begins q) es) (filter (begins q) es))) [
      | true ↦ λ is.
          let short : length q ≤ length e.0 = begins_short e.0 q is in
          let all : length e.0 - length q + length q ≡ length e.0 = omega (arith, short) in
          λ i. (e.1, all i) ∷ ih i
      | false ↦ λ is. ih
    ]) refl

pub predicted_whole : (t : Tree) (q : List ℕ) → all_longer (length q) (predict t q) ≡ predicted_keys t q
predicted_whole t q = whole_keys q (walk t)

pub predicted_fit : (t : Tree) (q : List ℕ) → length (prefixes t) < 2 ^ 64 → length q < 2 ^ 64 → Fit (length q) (predict t q)
predicted_fit t q small short = fit_behind q (length (prefixes t)) (walk t) small short (within_walk t)

-- each nonempty prefix of a key has a slot, and there are 2 ^ 30 at most
prefixes_have_slots : (slots : ℕ) (T : Fields) → IsWellFormed slots T → length (prefixes (tree_of T)) < 2 ^ 64
prefixes_have_slots slots T w =
    let held : List ℕ = range_with_len 0 (size_of T) in
    let named : count_by (is_held (cells_in T)) held ≡ 1 + length (prefixes (tree_of T)) + length (walk (marks T)) = count_is_marked slots T w in
    let most : count_by (is_held (cells_in T)) held ≤ length held = count_by-le-length (is_held (cells_in T)) held in
    let len : length held ≡ size_of T = length-range_with_len 0 (size_of T) in
    let active : T.places.blocks.active ≤ length T.places.blocks.records = w.table.sound.shaped.blocks.active_in in
    let within : 256 * length T.places.blocks.records ≤ slots = w.table.within in
    let limit : slots ≤ 2 ^ 30 = w.table.limit.most in
    omega (arith, named, most, len, active, within, limit)

pub prefixes_are_few : (slots : ℕ) (d : Dictionary) → IsOnTable slots d → length (prefixes d.state.tree) < 2 ^ 64
prefixes_are_few slots d on = subst (λ s. length (prefixes s.tree) < 2 ^ 64) (sym on.state) (prefixes_have_slots slots d.table on.formed)

-- what is left of keys that fit
pub fit_drop : (more n : ℕ) (xs : List (ℤ × ℕ)) → Fit more xs → Fit more (drop n xs)
fit_drop more zero xs h = h
fit_drop more (suc n) [] h = tt
fit_drop more (suc n) (x ∷ xs) h = fit_drop more n xs h.1
