-- The walk and the prefixes of a tree: what they hold, each once, and in which order.
use Rattle.std.proofs.Common.{◌≡◌, ℕ, Less, ◌<◌, Bool, true, false, cond, ◌==◌, ◌&&◌, ltb, ℤ, List, [], ◌∷◌, ◌++◌, map, Option, Some, None, refl, sym, ap, ◌∙◌, arith, eq-eqb}
use Rattle.std.specs.List.{filter, AllByRecursion}
use Rattle.std.specs.Cmp.Lexicographic.{slice_cmp}
use Rattle.std.specs.Ordering.{nat_cmp}
use Rattle.std.specs.List.Sorted.{IsStrictlySortedBy}
use Rattle.std.proofs.lemmas.Bool.{ltb-true, eqb-true, eqb-false, ne_eqb, lt-ltb}
use Rattle.std.proofs.lemmas.List.{append-nil, map-append}
use Rattle.std.proofs.lemmas.List.Elements.{filter-append}
use Rattle.cedar_tree.specs.Tree.{Forest, none, child, Tree, subtree, number_at, is_bare, IsSoundBelow, AllAbove, IsAscending}
use Rattle.cedar_tree.specs.Queries.{Entry, own_entry, under, walk_forest, walk, prefixes_forest, prefixes, node_at, entry_at, is_path, IsFront}
use Rattle.cedar_tree.proofs.TreeLemmas.{subtree_absent, number_at-empty}
use Rattle.cedar_tree.proofs.OrderLemmas.{node_at-empty, front_of_key, node_of_front}

pub nat_lt_itself : (l : ℕ) → ltb l l ≡ false
nat_lt_itself l = (elim (ltb l l) as (λ b. ltb l l ≡ b → b ≡ false) [ true ↦ λ e. let h : l < l = ltb-true l l e in absurd (omega arith) | false ↦ λ _. refl ]) refl

pub filter-map : {X Y : Type 0} (f : X → Y) (p : Y → Bool) (xs : List X) → filter p (map f xs) ≡ map f (filter (λ x. p (f x)) xs)
filter-map f p [] = refl
filter-map f p (x ∷ xs) =
    elim (p (f x)) as (λ b. cond b (f x ∷ filter p (map f xs)) (filter p (map f xs)) ≡ map f (cond b (x ∷ filter (λ z. p (f z)) xs) (filter (λ z. p (f z)) xs))) [
      | true ↦ ap (λ r. f x ∷ r) (filter-map f p xs)
      | false ↦ filter-map f p xs
    ]

pub eqb_turned : (m l : ℕ) → (m == l) ≡ false → (l == m) ≡ false
eqb_turned m l e = ne_eqb l m (λ h. eqb-false m l e (sym h))

pub filter-none : {X : Type 0} (p : X → Bool) (xs : List X) → ((x : X) → p x ≡ false) → filter p xs ≡ []
filter-none p [] h = refl
filter-none p (x ∷ xs) h = rw (h x) (filter-none p xs h)

-- no entry below siblings is at the empty path
walk_at-empty : (f : Forest) → filter (λ e. is_path [] e.0) (walk_forest f) ≡ []
walk_at-empty none = refl
walk_at-empty (child l n below rest) =
    let w : List Entry = own_entry n ++ walk_forest below in
    filter-append (λ (e : Entry). is_path [] e.0) (map (under l) w) (walk_forest rest)
    ∙ ap (λ (x : List Entry). x ++ filter (λ (e : Entry). is_path [] e.0) (walk_forest rest)) (filter-map (under l) (λ (e : Entry). is_path [] e.0) w ∙ ap (map (under l)) (filter-none (λ (e : Entry). is_path [] (under l e).0) w (λ e. refl)))
    ∙ walk_at-empty rest

under-entry_at : (l : ℕ) (q : List ℕ) (o : Option ℤ) → map (under l) (entry_at q o) ≡ entry_at (l ∷ q) o
under-entry_at l q None = refl
under-entry_at l q (Some v) = refl

own-empty : (n : Option ℤ) → filter (λ e. is_path [] e.0) (own_entry n) ≡ entry_at [] n
own-empty None = refl
own-empty (Some v) = refl

own-longer : (m : ℕ) (q : List ℕ) (n : Option ℤ) → filter (λ e. is_path (m ∷ q) e.0) (own_entry n) ≡ []
own-longer m q None = refl
own-longer m q (Some v) = refl

walk_at_forest : (m : ℕ) (q : List ℕ)
    → ((t : Tree) → IsSoundBelow t.children → filter (λ e. is_path q e.0) (walk t) ≡ entry_at q (number_at t q))
    → (f : Forest) → IsSoundBelow f → filter (λ e. is_path (m ∷ q) e.0) (walk_forest f) ≡ entry_at (m ∷ q) (number_at (subtree f m) q)
walk_at_forest m q ih none s = ap (entry_at (m ∷ q)) (sym (number_at-empty q))
walk_at_forest m q ih (child l n below rest) s =
    let t : Tree = record { number = n; children = below } in
    let p : Entry → Bool = λ e. is_path (m ∷ q) e.0 in
    let later : filter p (walk_forest rest) ≡ entry_at (m ∷ q) (number_at (subtree rest m) q) = walk_at_forest m q ih rest s.5 in
    filter-append p (map (under l) (walk t)) (walk_forest rest)
    ∙ ap (λ (x : List Entry). x ++ filter p (walk_forest rest)) (filter-map (under l) p (walk t))
    ∙ (elim (m == l) as (λ b. (m == l) ≡ b → map (under l) (filter (λ e. b && is_path q e.0) (walk t)) ++ filter p (walk_forest rest) ≡ entry_at (m ∷ q) (number_at (subtree (child l n below rest) m) q)) [
      | true ↦ λ e.
          let label : m ≡ l = eqb-true m l e in
          let others : filter p (walk_forest rest) ≡ [] = later ∙ ap (entry_at (m ∷ q)) (ap (λ (u : Tree). number_at u q) (subtree_absent rest m (rw label s.2)) ∙ number_at-empty q) in
          ap (λ (x : List Entry). map (under l) (filter (λ e. is_path q e.0) (walk t)) ++ x) others
          ∙ append-nil (map (under l) (filter (λ e. is_path q e.0) (walk t)))
          ∙ ap (map (under l)) (ih t s.4)
          ∙ under-entry_at l q (number_at t q)
          ∙ rw (label, eq-eqb l l refl) refl
      | false ↦ λ e.
          let apart : (l == m) ≡ false = eqb_turned m l e in
          ap (λ (x : List Entry). map (under l) x ++ filter p (walk_forest rest)) (filter-none (λ (x : Entry). false) (walk t) (λ _. refl))
          ∙ rw apart later
    ]) refl

-- the walk of a sound tree has just the number that is held at a path, once
pub walk_at : (t : Tree) (k : List ℕ) → IsSoundBelow t.children → filter (λ e. is_path k e.0) (walk t) ≡ entry_at k (number_at t k)
walk_at t [] s =
    filter-append (λ (e : Entry). is_path [] e.0) (own_entry t.number) (walk_forest t.children)
    ∙ ap (λ (x : List Entry). filter (λ (e : Entry). is_path [] e.0) (own_entry t.number) ++ x) (walk_at-empty t.children)
    ∙ append-nil (filter (λ (e : Entry). is_path [] e.0) (own_entry t.number))
    ∙ own-empty t.number
walk_at t (m ∷ q) s =
    filter-append (λ (e : Entry). is_path (m ∷ q) e.0) (own_entry t.number) (walk_forest t.children)
    ∙ ap (λ (x : List Entry). x ++ filter (λ (e : Entry). is_path (m ∷ q) e.0) (walk_forest t.children)) (own-longer m q t.number)
    ∙ walk_at_forest m q (λ u su. walk_at u q su) t.children s

prefixes_at-empty : (f : Forest) → filter (is_path []) (prefixes_forest f) ≡ []
prefixes_at-empty none = refl
prefixes_at-empty (child l n below rest) =
    filter-append (is_path []) (map (λ p. l ∷ p) (prefixes_forest below)) (prefixes_forest rest)
    ∙ ap (λ (x : List (List ℕ)). x ++ filter (is_path []) (prefixes_forest rest))
    (filter-map (λ p. l ∷ p) (is_path []) (prefixes_forest below) ∙ ap (map (λ p. l ∷ p)) (filter-none (λ (p : List ℕ). is_path [] (l ∷ p)) (prefixes_forest below) (λ p. refl)))
    ∙ prefixes_at-empty rest

-- a path alone where the node at it is there
abbrev alone : Bool → List ℕ → List (List ℕ)
alone bare p = cond bare [] (p ∷ [])

under-alone : (l : ℕ) (b : Bool) (p : List ℕ) → map (λ x. l ∷ x) (alone b p) ≡ alone b (l ∷ p)
under-alone l true p = refl
under-alone l false p = refl

prefixes_at_forest : (m : ℕ) (q : List ℕ)
    → ((n : Option ℤ) (f : Forest) → IsSoundBelow f → is_bare (record { number = n; children = f }) ≡ false
    → filter (is_path q) ([] ∷ prefixes_forest f) ≡ alone (is_bare (node_at (record { number = n; children = f }) q)) q)
    → (f : Forest) → IsSoundBelow f → filter (is_path (m ∷ q)) (prefixes_forest f) ≡ alone (is_bare (node_at (subtree f m) q)) (m ∷ q)
prefixes_at_forest m q ih none s = ap (λ (u : Tree). alone (is_bare u) (m ∷ q)) (sym (node_at-empty q))
prefixes_at_forest m q ih (child l n below rest) s =
    let t : Tree = record { number = n; children = below } in
    let own : List (List ℕ) = [] ∷ prefixes_forest below in
    let later : filter (is_path (m ∷ q)) (prefixes_forest rest) ≡ alone (is_bare (node_at (subtree rest m) q)) (m ∷ q) = prefixes_at_forest m q ih rest s.5 in
    filter-append (is_path (m ∷ q)) (map (λ x. l ∷ x) own) (prefixes_forest rest)
    ∙ ap (λ (x : List (List ℕ)). x ++ filter (is_path (m ∷ q)) (prefixes_forest rest)) (filter-map (λ x. l ∷ x) (is_path (m ∷ q)) own)
    ∙ (elim (m == l) as (λ b. (m == l) ≡ b → map (λ x. l ∷ x) (filter (λ x. b && is_path q x) own) ++ filter (is_path (m ∷ q)) (prefixes_forest rest) ≡ alone (is_bare (node_at (subtree (child l n below rest) m) q)) (m ∷ q)) [
      | true ↦ λ e.
          let label : m ≡ l = eqb-true m l e in
          let others : filter (is_path (m ∷ q)) (prefixes_forest rest) ≡ [] =
          later ∙ ap (λ (u : Tree). alone (is_bare u) (m ∷ q)) (ap (λ (u : Tree). node_at u q) (subtree_absent rest m (rw label s.2)) ∙ node_at-empty q) in
          ap (λ (x : List (List ℕ)). map (λ x. l ∷ x) (filter (is_path q) own) ++ x) others
          ∙ append-nil (map (λ x. l ∷ x) (filter (is_path q) own))
          ∙ ap (map (λ x. l ∷ x)) (ih n below s.4 s.3)
          ∙ under-alone l (is_bare (node_at t q)) q
          ∙ rw (label, eq-eqb l l refl) refl
      | false ↦ λ e.
          let apart : (l == m) ≡ false = eqb_turned m l e in
          ap (λ (x : List (List ℕ)). map (λ x. l ∷ x) x ++ filter (is_path (m ∷ q)) (prefixes_forest rest)) (filter-none (λ (x : List ℕ). false) own (λ _. refl))
          ∙ rw apart later
    ]) refl

prefixes_below : (q : List ℕ) (n : Option ℤ) (f : Forest) → IsSoundBelow f → is_bare (record { number = n; children = f }) ≡ false
    → filter (is_path q) ([] ∷ prefixes_forest f) ≡ alone (is_bare (node_at (record { number = n; children = f }) q)) q
prefixes_below [] n f s b = ap (λ (x : List (List ℕ)). [] ∷ x) (prefixes_at-empty f) ∙ rw b refl
prefixes_below (m ∷ q) n f s b = prefixes_at_forest m q (λ k g. prefixes_below q k g) f s

prefixes_at : (t : Tree) (m : ℕ) (q : List ℕ) → IsSoundBelow t.children → filter (is_path (m ∷ q)) (prefixes t) ≡ alone (is_bare (node_at t (m ∷ q))) (m ∷ q)
prefixes_at t m q s = prefixes_at_forest m q (λ k g. prefixes_below q k g) t.children s

-- the prefixes of a sound tree have each front of a key, but the empty one, once
pub prefixes_have : (t : Tree) (p : List ℕ) → IsSoundBelow t.children → IsFront t p → filter (is_path p) (prefixes t) ≡ p ∷ []
prefixes_have t [] s front = absurd (omega (arith, front.0))
prefixes_have t (m ∷ q) s front = prefixes_at t m q s ∙ rw (node_of_front t (m ∷ q) front.1 front.2 front.3) refl

-- and nothing else
pub prefixes_lack : (t : Tree) (p : List ℕ) → IsSoundBelow t.children → (IsFront t p → ⊥) → filter (is_path p) (prefixes t) ≡ []
prefixes_lack t [] s other = prefixes_at-empty t.children
prefixes_lack t (m ∷ q) s other =
    prefixes_at t m q s
    ∙ (elim (is_bare (node_at t (m ∷ q))) as (λ b. is_bare (node_at t (m ∷ q)) ≡ b → alone b (m ∷ q) ≡ []) [
      | true ↦ λ _. refl
      | false ↦ λ e. let front = front_of_key t (m ∷ q) s e in absurd (other (omega arith, front.0, front.1, front.2))
    ]) refl

-- The walk in order. A path is before another where `slice_cmp` says `Less`.
abbrev path_of : Entry → List ℕ
path_of e = e.0

abbrev IsBefore : List ℕ → List ℕ → Type 0
IsBefore p q = slice_cmp nat_cmp p q ≡ Less

abbrev Ascends : List (List ℕ) → Type 0
Ascends [] = Unit {0}
Ascends (p ∷ ps) = AllByRecursion (IsBefore p) ps × Ascends ps

before_under : (l : ℕ) (p q : List ℕ) → IsBefore p q → IsBefore (l ∷ p) (l ∷ q)
before_under l p q h = rw (nat_lt_itself l, eq-eqb l l refl) h

before_first : (l m : ℕ) (p q : List ℕ) → l < m → IsBefore (l ∷ p) (m ∷ q)
before_first l m p q h = rw (lt-ltb l m h) refl

all_under : (l : ℕ) (p : List ℕ) (qs : List (List ℕ)) → AllByRecursion (IsBefore p) qs → AllByRecursion (IsBefore (l ∷ p)) (map (λ q. l ∷ q) qs)
all_under l p [] a = tt
all_under l p (q ∷ qs) a = (before_under l p q a.0, all_under l p qs a.1)

ascends_under : (l : ℕ) (ps : List (List ℕ)) → Ascends ps → Ascends (map (λ q. l ∷ q) ps)
ascends_under l [] a = tt
ascends_under l (p ∷ ps) a = (all_under l p ps a.0, ascends_under l ps a.1)

all-append : (P : List ℕ → Type 0) (ps qs : List (List ℕ)) → AllByRecursion P ps → AllByRecursion P qs → AllByRecursion P (ps ++ qs)
all-append P [] qs a b = b
all-append P (p ∷ ps) qs a b = (a.0, all-append P ps qs a.1 b)

-- the paths below siblings, each child's own path before those below it
abbrev own_path : Option ℤ → List (List ℕ)
own_path None = []
own_path (Some v) = [] ∷ []

abbrev paths : Forest → List (List ℕ)
paths none = []
paths (child l n below rest) = map (λ p. l ∷ p) (own_path n ++ paths below) ++ paths rest

path_of-under : (l : ℕ) (es : List Entry) → map path_of (map (under l) es) ≡ map (λ p. l ∷ p) (map path_of es)
path_of-under l [] = refl
path_of-under l (e ∷ es) = ap (λ (r : List (List ℕ)). (l ∷ e.0) ∷ r) (path_of-under l es)

path_of-own : (n : Option ℤ) → map path_of (own_entry n) ≡ own_path n
path_of-own None = refl
path_of-own (Some v) = refl

paths_of_walk : (f : Forest) → map path_of (walk_forest f) ≡ paths f
paths_of_walk none = refl
paths_of_walk (child l n below rest) =
    map-append path_of (map (under l) (own_entry n ++ walk_forest below)) (walk_forest rest)
    ∙ ap (λ (x : List (List ℕ)). x ++ map path_of (walk_forest rest)) (path_of-under l (own_entry n ++ walk_forest below))
    ∙ ap (λ (x : List (List ℕ)). map (λ p. l ∷ p) x ++ map path_of (walk_forest rest)) (map-append path_of (own_entry n) (walk_forest below))
    ∙ ap (λ (x : List (List ℕ)). map (λ p. l ∷ p) (x ++ map path_of (walk_forest below)) ++ map path_of (walk_forest rest)) (path_of-own n)
    ∙ ap (λ (x : List (List ℕ)). map (λ p. l ∷ p) (own_path n ++ x) ++ map path_of (walk_forest rest)) (paths_of_walk below)
    ∙ ap (λ (x : List (List ℕ)). map (λ p. l ∷ p) (own_path n ++ paths below) ++ x) (paths_of_walk rest)

-- a path that begins with a lower label comes before all of them
all_later : (l m : ℕ) (p : List ℕ) (qs : List (List ℕ)) → l < m → AllByRecursion (IsBefore (l ∷ p)) (map (λ q. m ∷ q) qs)
all_later l m p [] h = tt
all_later l m p (q ∷ qs) h = (before_first l m p q h, all_later l m p qs h)

all_above : (l : ℕ) (p : List ℕ) (f : Forest) → AllAbove l f → AllByRecursion (IsBefore (l ∷ p)) (paths f)
all_above l p none a = tt
all_above l p (child m n below rest) a =
    all-append (IsBefore (l ∷ p)) (map (λ q. m ∷ q) (own_path n ++ paths below)) (paths rest) (all_later l m p (own_path n ++ paths below) a.0) (all_above l p rest a.1)

ascends_before : (l : ℕ) (ps : List (List ℕ)) (f : Forest) → AllAbove l f → Ascends (map (λ p. l ∷ p) ps) → Ascends (paths f) → Ascends (map (λ p. l ∷ p) ps ++ paths f)
ascends_before l [] f a b c = c
ascends_before l (p ∷ ps) f a b c =
    (all-append (IsBefore (l ∷ p)) (map (λ q. l ∷ q) ps) (paths f) b.0 (all_above l p f a), ascends_before l ps f a b.1 c)

-- the empty path comes before each other
nonempty_later : (m : ℕ) (qs : List (List ℕ)) → AllByRecursion (IsBefore []) (map (λ q. m ∷ q) qs)
nonempty_later m [] = tt
nonempty_later m (q ∷ qs) = (refl, nonempty_later m qs)

all_nonempty : (f : Forest) → AllByRecursion (IsBefore []) (paths f)
all_nonempty none = tt
all_nonempty (child m n below rest) =
    all-append (IsBefore []) (map (λ q. m ∷ q) (own_path n ++ paths below)) (paths rest) (nonempty_later m (own_path n ++ paths below)) (all_nonempty rest)

ascends_own : (n : Option ℤ) (f : Forest) → Ascends (paths f) → Ascends (own_path n ++ paths f)
ascends_own None f a = a
ascends_own (Some v) f a = (all_nonempty f, a)

ascends_paths : (f : Forest) → IsAscending f → Ascends (paths f)
ascends_paths none a = tt
ascends_paths (child l n below rest) a =
    ascends_before l (own_path n ++ paths below) rest a.0
    (ascends_under l (own_path n ++ paths below) (ascends_own n below (ascends_paths below a.1)))
    (ascends_paths rest a.2)

sorted : (ps : List (List ℕ)) → Ascends ps → IsStrictlySortedBy (slice_cmp nat_cmp) ps
unfolding IsStrictlySortedBy
sorted [] a = tt
sorted (p ∷ ps) a = (a.0, sorted ps a.1)

-- the paths of a walk ascend where the labels do
pub walk_ascends : (t : Tree) → IsAscending t.children → IsStrictlySortedBy (slice_cmp nat_cmp) (map (λ e. e.0) (walk t))
walk_ascends t a =
    rw (map-append path_of (own_entry t.number) (walk_forest t.children), path_of-own t.number, paths_of_walk t.children)
    (sorted (own_path t.number ++ paths t.children) (ascends_own t.number t.children (ascends_paths t.children a)))
