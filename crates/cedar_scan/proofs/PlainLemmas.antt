-- That a scan finds what a plain search does, in another order.
use Rattle.std.proofs.Common.{◌≡◌, ℕ, ◌+◌, ◌-◌, ◌<◌, ◌≤◌, ℤ, List, [], ◌∷◌, ◌++◌, add-one, append_assoc, drop, get_or, length, length-append, map, take, Option, Some, None, option_map, refl, sym, ap, subst, ◌∙◌, arith}
use Rattle.std.specs.List.{cons_option}
use Rattle.std.specs.List.Sorted.{IsPermutation}
use Rattle.std.proofs.Math.Seq.{drop-cons, take-suc}
use Rattle.std.proofs.lemmas.List.{append-nil, length-drop, length-take-le}
use Rattle.std.proofs.lemmas.List.Sorted.{IsPermutation-append_comm, IsPermutation-append_left, IsPermutation-append_right, IsPermutation-refl, IsPermutation-trans}
use Rattle.cedar_tree.specs.Queries.{front}
use Rattle.cedar_tree.specs.Tree.{number_at, Tree}
use Rattle.cedar_tree.specs.Walks.{front_from}
use Rattle.cedar_tree.proofs.FrontFromLemmas.{front_begins, front_ends, front_more}
use Rattle.cedar_scan.specs.Plain.{occurrence_beginning, all_beginning}
use Rattle.cedar_scan.specs.Suffixes.{keys_ending, Occurrence, occurrence_ending, all_ending}

-- a key of these bytes, if there is one
abbrev own : ℕ → List ℕ → Option ℤ → List Occurrence
own start w n = cons_option (option_map (λ v. (start, length w, v)) n) []

-- the keys that begin with some bytes, from a position on, and go on among the others
abbrev longer : Tree → ℕ → List ℕ → List ℕ → List Occurrence
longer t start w [] = []
longer t start w (b ∷ rest) = own start (w ++ b ∷ []) (number_at t (w ++ b ∷ [])) ++ longer t start (w ++ b ∷ []) rest

-- the keys that begin among some bytes, from a position on, and go on among the others
abbrev opens : Tree → ℕ → List ℕ → List ℕ → List Occurrence
opens t start [] rest = []
opens t start (c ∷ w) rest = longer t start (c ∷ w) rest ++ opens t (start + 1) w rest

opens_none : (t : Tree) (start : ℕ) (w : List ℕ) → opens t start w [] ≡ []
opens_none t start [] = refl
opens_none t start (c ∷ w) = opens_none t (start + 1) w

-- ---- what begins at a position

cons_map : (place n : ℕ) (o : Option ℤ) (fs : List (ℤ × ℕ)) (w : List ℕ) → length w ≡ n + 1
    → own place w o ++ map (occurrence_beginning place) fs ≡ map (occurrence_beginning place) (cons_option (option_map (λ v. (v, n)) o) fs)
cons_map place n None fs w e = refl
cons_map place n (Some v) fs w e = ap (λ (m : ℕ). (place, m, v) ∷ map (occurrence_beginning place) fs) e

some_left : (q : List ℕ) (p b : ℕ) (rest : List ℕ) → drop p q ≡ b ∷ rest → p < length q
some_left q p b rest e = let len = ap length e in let left = length-drop p q in omega (arith, len, left)

none_left : (q : List ℕ) (p : ℕ) → drop p q ≡ [] → length q ≤ p
none_left q p e = let len = ap length e in let left = length-drop p q in omega (arith, len, left)

head_is : (q : List ℕ) (p b : ℕ) (rest : List ℕ) → drop p q ≡ b ∷ rest → get_or q p 0 ≡ b
head_is q p b rest e = ap (λ w. get_or w 0 0) (sym (drop-cons q p 0 (some_left q p b rest e)) ∙ e)

tail_is : (q : List ℕ) (p b : ℕ) (rest : List ℕ) → drop p q ≡ b ∷ rest → drop (p + 1) q ≡ rest
tail_is q p b rest e = ap (λ n. drop n q) (add-one p) ∙ ap (drop 1) (sym (drop-cons q p 0 (some_left q p b rest e)) ∙ e)

longer_is : (t : Tree) (place : ℕ) (q : List ℕ) (p : ℕ) (rest : List ℕ) → p ≤ length q → drop p q ≡ rest → longer t place (take p q) rest ≡ map (occurrence_beginning place) (front_from t q p)
longer_is t place q p [] low e =
    let past = none_left q p e in
    let all : length q ≡ p = omega (arith, low, past) in
    ap (map (occurrence_beginning place)) (sym (ap (front_from t q) (sym all) ∙ front_ends t q))
longer_is t place q p (b ∷ rest) low e =
    let less = some_left q p b rest e in
    let more : take p q ++ b ∷ [] ≡ take (p + 1) q = ap (λ x. take p q ++ x ∷ []) (sym (head_is q p b rest e)) ∙ sym (take-suc q p 0 less) ∙ ap (λ n. take n q) (sym (add-one p)) in
    let long : length (take (p + 1) q) ≡ p + 1 = length-take-le (p + 1) q (omega (arith, less)) in
    ap (λ w. own place w (number_at t w) ++ longer t place w rest) more
    ∙ ap (λ (spots : List Occurrence). own place (take (p + 1) q) (number_at t (take (p + 1) q)) ++ spots) (longer_is t place q (p + 1) rest (omega (arith, less)) (tail_is q p b rest e))
    ∙ cons_map place p (number_at t (take (p + 1) q)) (front_from t q (p + 1)) (take (p + 1) q) long
    ∙ ap (map (occurrence_beginning place)) (sym (front_more t q p less))

longer_begins : (t : Tree) (place : ℕ) (q : List ℕ) → longer t place [] q ≡ map (occurrence_beginning place) (front t q)
longer_begins t place q = longer_is t place q 0 q (omega arith) refl ∙ ap (map (occurrence_beginning place)) (front_begins t q)

-- ---- what ends at a position

ending_cons : (end start : ℕ) (w : List ℕ) (o : Option ℤ) (fs : List (ℤ × ℕ)) → end ≡ start + length w
    → map (occurrence_ending end) (cons_option (option_map (λ v. (v, length w)) o) fs) ≡ own start w o ++ map (occurrence_ending end) fs
ending_cons end start w None fs e = refl
ending_cons end start w (Some v) fs e = let begin : end - length w ≡ start = omega (arith, e) in ap (λ (s : ℕ). (s, length w, v) ∷ map (occurrence_ending end) fs) begin

swap_middle : {X : Type 0} (a e k o : List X) → IsPermutation ((a ++ e) ++ (k ++ o)) ((a ++ k) ++ (e ++ o))
swap_middle a e k o =
    let first : (a ++ e) ++ (k ++ o) ≡ a ++ ((e ++ k) ++ o) = append_assoc a e (k ++ o) ∙ ap (λ x. a ++ x) (sym (append_assoc e k o)) in
    let last : a ++ ((k ++ e) ++ o) ≡ (a ++ k) ++ (e ++ o) = ap (λ x. a ++ x) (append_assoc k e o) ∙ sym (append_assoc a k (e ++ o)) in
    subst (λ x. IsPermutation x ((a ++ k) ++ (e ++ o))) (sym first)
    (subst (IsPermutation (a ++ ((e ++ k) ++ o))) last
    (IsPermutation-append_right a ((e ++ k) ++ o) ((k ++ e) ++ o) (IsPermutation-append_left o (e ++ k) (k ++ e) (IsPermutation-append_comm e k))))

-- with one byte more, what begins before it and goes on, and what begins at it, is what ends at it, and what goes on behind it
one_byte : (t : Tree) (start : ℕ) (w : List ℕ) (b : ℕ) (rest : List ℕ) (place : ℕ) → place ≡ start + length w
    → IsPermutation (opens t start w (b ∷ rest) ++ longer t place [] (b ∷ rest)) (map (occurrence_ending (place + 1)) (keys_ending t (w ++ b ∷ [])) ++ opens t start (w ++ b ∷ []) rest)
one_byte t start [] b rest place e =
    let begin : place ≡ start = omega (arith, e) in
    let end : place + 1 ≡ place + length (b ∷ []) = omega arith in
    let same : longer t place [] (b ∷ rest) ≡ map (occurrence_ending (place + 1)) (keys_ending t (b ∷ [])) ++ opens t start (b ∷ []) rest =
    ap (λ (x : List Occurrence). x ++ longer t place (b ∷ []) rest) (sym (append-nil (own place (b ∷ []) (number_at t (b ∷ [])))) ∙ sym (ending_cons (place + 1) place (b ∷ []) (number_at t (b ∷ [])) [] end))
    ∙ ap (λ (x : List Occurrence). map (occurrence_ending (place + 1)) (keys_ending t (b ∷ [])) ++ x) (ap (λ p. longer t p (b ∷ []) rest) begin ∙ sym (append-nil (longer t start (b ∷ []) rest))) in
    subst (IsPermutation (longer t place [] (b ∷ rest))) same (IsPermutation-refl (longer t place [] (b ∷ rest)))
one_byte t start (c ∷ w) b rest place e =
    let long = length-append w (b ∷ []) in
    let next : place ≡ start + 1 + length w = omega (arith, e) in
    let end : place + 1 ≡ start + length (c ∷ (w ++ b ∷ [])) = omega (arith, e, long) in
    let a : List Occurrence = own start (c ∷ (w ++ b ∷ [])) (number_at t (c ∷ (w ++ b ∷ []))) in
    let go : List Occurrence = longer t start (c ∷ (w ++ b ∷ [])) rest in
    let keys : List Occurrence = map (occurrence_ending (place + 1)) (keys_ending t (w ++ b ∷ [])) in
    let more : List Occurrence = opens t (start + 1) (w ++ b ∷ []) rest in
    let before : List Occurrence = opens t (start + 1) w (b ∷ rest) in
    let here : List Occurrence = longer t place [] (b ∷ rest) in
    let ih : IsPermutation (before ++ here) (keys ++ more) = one_byte t (start + 1) w b rest place next in
    let left : ((a ++ go) ++ before) ++ here ≡ (a ++ go) ++ (before ++ here) = append_assoc (a ++ go) before here in
    let right : (a ++ keys) ++ (go ++ more) ≡ map (occurrence_ending (place + 1)) (keys_ending t (c ∷ (w ++ b ∷ []))) ++ (go ++ more) =
    ap (λ (x : List Occurrence). x ++ (go ++ more)) (sym (ending_cons (place + 1) start (c ∷ (w ++ b ∷ [])) (number_at t (c ∷ (w ++ b ∷ []))) (keys_ending t (w ++ b ∷ [])) end)) in
    subst (λ x. IsPermutation x (map (occurrence_ending (place + 1)) (keys_ending t (c ∷ (w ++ b ∷ []))) ++ (go ++ more))) (sym left)
    (subst (IsPermutation ((a ++ go) ++ (before ++ here))) right
    (IsPermutation-trans ((a ++ go) ++ (before ++ here)) ((a ++ go) ++ (keys ++ more)) ((a ++ keys) ++ (go ++ more))
    (IsPermutation-append_right (a ++ go) (before ++ here) (keys ++ more) ih) (swap_middle a go keys more)))

-- what begins among the bytes that were read and what begins behind them is what ends behind them
all_spots : (t : Tree) (rest : List ℕ) (start : ℕ) (w : List ℕ) (place : ℕ) → place ≡ start + length w
    → IsPermutation (opens t start w rest ++ all_beginning t place rest) (all_ending t w place rest)
all_spots t [] start w place e =
    subst (λ x. IsPermutation x []) (sym (ap (λ (x : List Occurrence). x ++ []) (opens_none t start w))) (IsPermutation-refl [])
all_spots t (b ∷ rest) start w place e =
    let long = length-append w (b ∷ []) in
    let next : place + 1 ≡ start + length (w ++ b ∷ []) = omega (arith, e, long) in
    let before : List Occurrence = opens t start w (b ∷ rest) in
    let here : List Occurrence = longer t place [] (b ∷ rest) in
    let later : List Occurrence = all_beginning t (place + 1) rest in
    let keys : List Occurrence = map (occurrence_ending (place + 1)) (keys_ending t (w ++ b ∷ [])) in
    let more : List Occurrence = opens t start (w ++ b ∷ []) rest in
    let behind : List Occurrence = all_ending t (w ++ b ∷ []) (place + 1) rest in
    let left : before ++ (map (occurrence_beginning place) (front t (b ∷ rest)) ++ later) ≡ (before ++ here) ++ later =
    ap (λ (x : List Occurrence). before ++ (x ++ later)) (sym (longer_begins t place (b ∷ rest))) ∙ sym (append_assoc before here later) in
    subst (λ x. IsPermutation x (keys ++ behind)) (sym left)
    (IsPermutation-trans ((before ++ here) ++ later) ((keys ++ more) ++ later) (keys ++ behind)
    (IsPermutation-append_left later (before ++ here) (keys ++ more) (one_byte t start w b rest place e))
    (subst (λ x. IsPermutation x (keys ++ behind)) (sym (append_assoc keys more later))
    (IsPermutation-append_right keys (more ++ later) behind (all_spots t rest start (w ++ b ∷ []) (place + 1) next))))

pub ends_permute : (t : Tree) (text : List ℕ) → IsPermutation (all_beginning t 0 text) (all_ending t [] 0 text)
ends_permute t text = all_spots t text 0 [] 0 refl
