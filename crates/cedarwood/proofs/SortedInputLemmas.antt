-- What pairs without a fault are, and where the first fault comes.
use Rattle.std.proofs.Common.{◌≡◌, ℕ, zero, suc, ◌+◌, ◌<◌, ◌≤◌, ◌∙◌, ◌==◌, cond, ltb, sym, ap, subst, refl, arith, false, true, List, [], ◌∷◌, map, length, ◌++◌, take, drop, drop-cons, get_or, ◌-◌, Option, option_map, Some, None, IfSome, Err, Result}
use Rattle.std.specs.Prelude.{IsOk, nat_lt, ℤ}
use Rattle.std.proofs.lemmas.List.{get_or-map, length-map, take_more}
use Rattle.std.proofs.lemmas.Bool.Decides.{nat_tests}
use Rattle.std.proofs.lemmas.List.Sums.{position_or_len_is}
use Rattle.std.specs.List.{AllByRecursion, position_or_len}
use Rattle.std.specs.List.Sorted.{IsStrictlySortedBy}
use Rattle.std.specs.Cmp.Lexicographic.{slice_cmp}
use Rattle.std.specs.Ordering.{nat_cmp, ordering_then}
use Rattle.std.specs.declared.cmp.Ordering.{Ordering}
use Rattle.std.specs.declared.cmp.Ordering.TheVariants.{Equal, Greater, Less}
use Rattle.std.proofs.lemmas.Cmp.{nat_list_cmp_total}
use Rattle.cedar_tree.specs.Queries.{Entry}
use Rattle.cedar_tree.specs.Laws.{ArePathsAscending, ArePathsKeys}
use Rattle.cedar_tree.specs.Tree.{IsKey, IsPath}
use Rattle.cedarwood.specs.declared.error.CedarError.{CedarError}
use Rattle.cedarwood.specs.declared.error.CedarError.TheVariants.{DuplicateKey, KeysNotSorted, NulByte}
use Rattle.cedar_model.specs.Meaning.WellFormed.{is_value}
use Rattle.cedar_bulk.specs.Sorted.{entries_by}
use Rattle.cedarwood.specs.Fault.{fault, IsInRange, key_fault, or_else, value_fault}
use Rattle.cedarwood.specs.SortedInput.{AreBytes, fault_behind, fault_from, fault_of_order, HasNoNul, key_at}
use Rattle.cedarwood.proofs.DictionaryLemmas.{is_value_of}
use Rattle.cedarwood.proofs.FaultLemmas.{in_range_of, key_of, key_part}

some_none : (e : CedarError) → ◌≡◌ {A = Option CedarError} (Some e) None → ⊥
some_none e h = cc

-- ---- no fault

below_next : (index : ℕ) (o : Ordering) → fault_of_order index o ≡ None → o ≡ Less
below_next index Less h = refl
below_next index Equal h = absurd (some_none (DuplicateKey index) h)
below_next index Greater h = absurd (some_none (KeysNotSorted index) h)

-- what holds of pairs behind a key, if they have no fault
pub record Sorted (before : List ℕ) (ps : List Entry) : Type 0 where
  pub keys : ArePathsKeys ps
  pub values : AllByRecursion (λ e. is_value e.1 ≡ true) ps
  pub above : AllByRecursion (λ y. slice_cmp nat_cmp before y ≡ Less) (map (λ e. e.0) ps)
  pub sorted : ArePathsAscending ps

all_above : (b k : List ℕ) (ys : List (List ℕ)) → slice_cmp nat_cmp b k ≡ Less → AllByRecursion (λ y. slice_cmp nat_cmp k y ≡ Less) ys → AllByRecursion (λ y. slice_cmp nat_cmp b y ≡ Less) ys
all_above b k [] less all = tt
all_above b k (y ∷ ys) less all = (nat_list_cmp_total.trans b k y less all.0, all_above b k ys less all.1)

pub sorted_from : (index : ℕ) (before : List ℕ) (ps : List Entry) → AreBytes ps → fault_from index before ps ≡ None → Sorted before ps
unfolding IsStrictlySortedBy
sorted_from index before [] bytes h = record { keys = tt; values = tt; above = tt; sorted = tt }
sorted_from index before (p ∷ ps) bytes h =
    let parts = key_part (fault_behind index before p.0 p.1) (fault_from (index + 1) p.0 ps) h in
    let here = key_part (fault p.0 p.1) (fault_of_order index (slice_cmp nat_cmp before p.0)) parts.0 in
    let less = below_next index (slice_cmp nat_cmp before p.0) here.1 in
    let k = sorted_from (index + 1) p.0 ps bytes.1 parts.1 in record {
      keys = (key_of p.0 p.1 here.0 bytes.0, k.keys);
      values = (is_value_of p.1 (in_range_of p.0 p.1 here.0), k.values);
      above = (less, all_above before p.0 (map (λ e. e.0) ps) less k.above);
      sorted = (k.above, k.sorted);
    }

-- ---- the test, one pair after another

pub key_at_last : (before : List ℕ) (ps : List Entry) (i : ℕ) (d : Entry) → i < length ps → key_at before ps (suc i) ≡ (get_or ps i d).0
key_at_last before [] i d h = absurd (omega (arith, h))
key_at_last before (p ∷ ps) zero d h = refl
key_at_last before (p ∷ ps) (suc i) d h = key_at_last p.0 ps i d (omega (arith, h))

pub key_at_index : (before : List ℕ) (ps : List Entry) (i : ℕ) (d : Entry) → (i ≡ 0 → ⊥) → i ≤ length ps → (get_or ps (i - 1) d).0 ≡ key_at before ps i
key_at_index before ps i d some h =
    let next : suc (i - 1) ≡ i = omega (arith, some) in
    sym (key_at_last before ps (i - 1) d (omega (arith, some, h))) ∙ ap (key_at before ps) next

-- the fault of the pairs from an index on is that of its pair, or that of the later ones
pub fault_step : (ps : List Entry) (i : ℕ) (d : Entry) → i < length ps
    → fault_from i (key_at [] ps i) (drop i ps) ≡ or_else (fault_behind i (key_at [] ps i) (get_or ps i d).0 (get_or ps i d).1) (fault_from (i + 1) (key_at [] ps (i + 1)) (drop (i + 1) ps))
fault_step ps i d h =
    let next : suc i ≡ i + 1 = omega arith in
    let cut : drop i ps ≡ get_or ps i d ∷ drop (i + 1) ps = drop-cons ps i d h ∙ ap (λ n. get_or ps i d ∷ drop n ps) next in
    let key : (get_or ps i d).0 ≡ key_at [] ps (i + 1) = sym (key_at_last [] ps i d h) ∙ ap (key_at [] ps) next in
    ap (fault_from i (key_at [] ps i)) cut ∙ ap (λ k. or_else (fault_behind i (key_at [] ps i) (get_or ps i d).0 (get_or ps i d).1) (fault_from (i + 1) k (drop (i + 1) ps))) key

pub after_sound : (first rest : Option CedarError) → first ≡ None → or_else first rest ≡ rest
after_sound first rest e = ap (λ o. or_else o rest) e

pub not_both : {X : Type 0} (r : Result X CedarError) (e : CedarError) → IsOk r → r ≡ Err e → ⊥
not_both r e ok was = let apart : false ≡ true = subst IsOk was ok in cc

pub first_fault : {X : Type 0} (f rest whole : Option CedarError) (r r' : Result X CedarError) (e : CedarError) → whole ≡ or_else f rest → IfSome f (λ x. r ≡ Err x) → (f ≡ None → IsOk r) → r ≡ Err e → r ≡ r' → IfSome whole (λ x. r' ≡ Err x)
first_fault None rest whole r r' e is faulty sound was same = absurd (not_both r e (sound refl) was)
first_fault (Some x) rest whole r r' e is faulty sound was same = subst (λ o. IfSome o (λ y. r' ≡ Err y)) (sym is) (sym same ∙ faulty)

-- a fault that a test returned is handed on
pub fault_handed_on : {X Y : Type 0} (f : Option CedarError) (r : Result X CedarError) (r' : Result Y CedarError) (e : CedarError) → IfSome f (λ x. r ≡ Err x) → (f ≡ None → IsOk r) → r ≡ Err e → r' ≡ Err e → IfSome f (λ x. r' ≡ Err x)
fault_handed_on None r r' e faulty sound was is = absurd (not_both r e (sound refl) was)
fault_handed_on (Some x) r r' e faulty sound was is = let same : e ≡ x = cc in subst (λ y. r' ≡ Err y) same is

pub faultless : {X : Type 0} (f : Option CedarError) (r : Result X CedarError) → f ≡ None → IfSome f (λ x. r ≡ Err x)
faultless f r e = subst (λ o. IfSome o (λ x. r ≡ Err x)) (sym e) tt

-- ---- the quick test

-- two keys are in order if what they share ends where the first one ends, or where its byte is lower
pub less_at : (xs ys : List ℕ) (n : ℕ) → ((i : ℕ) → i < n → get_or xs i 0 ≡ get_or ys i 0) → n ≤ length xs → n < length ys → (n < length xs → get_or xs n 0 < get_or ys n 0) → slice_cmp nat_cmp xs ys ≡ Less
less_at [] [] n same h l lower = absurd (omega (arith, l))
less_at [] (y ∷ ys) n same h l lower = refl
less_at (x ∷ xs) [] n same h l lower = absurd (omega (arith, l))
less_at (x ∷ xs) (y ∷ ys) zero same h l lower =
    let less : x < y = lower (omega arith) in
    let test : nat_lt x y ≡ true = grind (arith, nat_tests) in
    ap (λ b. ordering_then (cond b Less (cond (x == y) Equal Greater)) (slice_cmp nat_cmp xs ys)) test
less_at (x ∷ xs) (y ∷ ys) (suc n) same h l lower =
    let first : x ≡ y = same 0 (omega arith) in
    let test : nat_lt x y ≡ false = grind (arith, nat_tests) in
    let equal : (x == y) ≡ true = grind (arith, nat_tests) in
    ap (λ b. ordering_then (cond b Less (cond (x == y) Equal Greater)) (slice_cmp nat_cmp xs ys)) test
    ∙ ap (λ b. ordering_then (cond b Equal Greater) (slice_cmp nat_cmp xs ys)) equal
    ∙ less_at xs ys n (λ i k. same (suc i) (omega (arith, k))) (omega (arith, h)) (omega (arith, l)) (λ k. lower (omega (arith, k)))

-- bytes without a 0, of which there is one, are no fault
pub clean_key : (key : List ℕ) → HasNoNul key → 0 < length key → key_fault key ≡ None
clean_key [] clean some = absurd (omega (arith, some))
clean_key (b ∷ rest) clean some =
    let key : List ℕ = b ∷ rest in
    let none : (k : ℕ) → k < length key → (get_or key k 0 == 0) ≡ false = λ k h. let other = clean k h in grind (arith, nat_tests) in
    let all : position_or_len (λ c. c == 0) key ≡ length key = position_or_len_is (λ c. c == 0) key (length key) 0 (omega arith) none (λ h. absurd (omega (arith, h))) in
    let past : ltb (length key) (length key) ≡ false = grind (arith, nat_tests) in
    ap (λ n. option_map NulByte (cond (ltb n (length key)) (Some n) None)) all
    ∙ ap (λ t. option_map NulByte (cond t (Some (length key)) None)) past

-- nor is a pair of them in order
pub no_fault_behind : (index : ℕ) (before key : List ℕ) (v : ℤ) → slice_cmp nat_cmp before key ≡ Less → HasNoNul key → 0 < length key → IsInRange v → fault_behind index before key v ≡ None
no_fault_behind index before key v less clean some range =
    ap (λ f. or_else (or_else f (value_fault v)) (fault_of_order index (slice_cmp nat_cmp before key))) (clean_key key clean some)
    ∙ ap (λ f. or_else f (fault_of_order index (slice_cmp nat_cmp before key))) range
    ∙ ap (fault_of_order index) less

pub path_clean : (key : List ℕ) → IsPath key → HasNoNul key
path_clean [] path i h = absurd (omega (arith, h))
path_clean (b ∷ key) path zero h = λ e. omega (arith, path.0, e)
path_clean (b ∷ key) path (suc i) h = path_clean key path.2 i (omega (arith, h))

pub key_clean : (key : List ℕ) → IsKey key → HasNoNul key
key_clean [] is = absurd is
key_clean (b ∷ key) is = path_clean (b ∷ key) is

-- a key without a fault has no byte 0
pub clean_behind : (index : ℕ) (before key : List ℕ) (v : ℤ) → fault_behind index before key v ≡ None → ((i : ℕ) → get_or key i 0 < 256) → HasNoNul key
clean_behind index before key v sound bytes =
    key_clean key (key_of key v (key_part (fault key v) (fault_of_order index (slice_cmp nat_cmp before key)) sound).0 bytes)

bytes_last : (xs : List Entry) (p : Entry) → AreBytes xs → ((i : ℕ) → get_or p.0 i 0 < 256) → AreBytes (xs ++ p ∷ [])
bytes_last [] p all here = (here, tt)
bytes_last (x ∷ xs) p all here = (all.0, bytes_last xs p all.1 here)

pub bytes_more : (ps : List Entry) (i : ℕ) (d : Entry) → i < length ps → AreBytes (take i ps) → ((j : ℕ) → get_or (get_or ps i d).0 j 0 < 256) → AreBytes (take (i + 1) ps)
bytes_more ps i d h all here = subst AreBytes (sym (take_more ps i d h)) (bytes_last (take i ps) (get_or ps i d) all here)

-- ---- pairs whose keys lend bytes

module _ {K : Type 0} (bytes : K → List ℕ) where
  pub entry_there : (pairs : List (K × ℤ)) (i : ℕ) (p : K × ℤ) → i < length pairs → p ≡ get_or pairs i p → get_or (entries_by bytes pairs) i (bytes p.0, p.1) ≡ (bytes p.0, p.1)
  entry_there pairs i p h is = get_or-map (λ (q : K × ℤ). (bytes q.0, q.1)) pairs i p (bytes p.0, p.1) h ∙ ap (λ (q : K × ℤ). (bytes q.0, q.1)) (sym is)

  pub as_many : (pairs : List (K × ℤ)) → length (entries_by bytes pairs) ≡ length pairs
  as_many pairs = length-map pairs (λ (q : K × ℤ). (bytes q.0, q.1))
