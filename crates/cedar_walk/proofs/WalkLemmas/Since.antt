-- The entries at a path and at those after it: what a walk in ascending order has left there.
use Rattle.std.proofs.Common.{◌≡◌, inl, inr, ℕ, ◌<◌, ◌≤◌, Less, Equal, Greater, Bool, true, false, cond, ltb, ◌==◌, ◌||◌, ℤ, List, [], ◌∷◌, ◌++◌, map, Option, Some, None, option_map, refl, sym, ap, subst, ◌∙◌, arith, eq-eqb, append_assoc}
use Rattle.std.specs.List.{cons_option, filter}
use Rattle.std.specs.Cmp.Lexicographic.{slice_cmp}
use Rattle.std.specs.Ordering.{is_ge, nat_cmp, ordering_then}
use Rattle.std.proofs.lemmas.Bool.{ltb-true, ltb-false, ne_eqb, le-ltb, lt-ltb}
use Rattle.std.proofs.lemmas.Bool.Decides.{eqb_tells}
use Rattle.std.proofs.lemmas.List.{append-nil, map-append}
use Rattle.std.proofs.lemmas.List.Elements.{filter-append, filter_map-append}
use Rattle.cedar_model.specs.Tree.{Forest, none, child, Tree, has_label, subtree, IsAscending, IsSoundBelow, AllAbove}
use Rattle.cedar_model.specs.Edits.{HasPath}
use Rattle.cedar_model.specs.Queries.{Entry, own_entry, under, walk_forest, walk, node_at}
use Rattle.cedar_model.specs.Walks.{Visit, behind, visited_entries, forwards, node_up, visit_from, visits_after, visits_below, visits_left}
use Rattle.cedar_model.proofs.OrderLemmas.{ascending_subtree, all_above_more}
use Rattle.cedar_model.proofs.PredictLemmas.{map-after}
use Rattle.cedar_model.proofs.VisitLemmas.{goes_down, goes_right, has_behind, has_here, next_behind, node_up_is, subtree_here, behind_here, entries_below}
use Rattle.cedar_model.proofs.WalkLemmas.{filter-map, filter-none, nat_lt_itself}
use Rattle.cedar_walk.specs.Visits.{first_sibling_label}
use Rattle.cedar_walk.specs.RangePlaces.{AboveFrom, AreLast}
use Rattle.cedar_walk.specs.Ranges.{behind_path, entries_since, siblings_above}
use Rattle.cedar_model.proofs.GeneralLemmas.{filter-same}

abbrev since : List ℕ → Entry → Bool
since q e = is_ge (slice_cmp nat_cmp e.0 q)

-- ---- at the first byte

cmp_same : (l : ℕ) → nat_cmp l l ≡ Equal
cmp_same l = rw (nat_lt_itself l, eq-eqb l l refl) refl

pub cmp_below : (l m : ℕ) → l < m → nat_cmp l m ≡ Less
cmp_below l m h = rw (lt-ltb l m h) refl

pub cmp_above : (l m : ℕ) → m < l → nat_cmp l m ≡ Greater
cmp_above l m h = rw (le-ltb l m (omega arith), ne_eqb l m (λ e. omega (arith, e))) refl

filter_all : {X : Type 0} (p : X → Bool) (xs : List X) → ((x : X) → p x ≡ true) → filter p xs ≡ xs
filter_all p [] h = refl
filter_all p (x ∷ xs) h = rw (h x) (ap (λ r. x ∷ r) (filter_all p xs h))

-- the entries under a label, beside a path that begins with it, with a greater one and with a smaller one
under_same : (m : ℕ) (q : List ℕ) (es : List Entry) → filter (since (m ∷ q)) (map (under m) es) ≡ map (under m) (filter (since q) es)
under_same m q es =
    filter-map (under m) (since (m ∷ q)) es
    ∙ ap (map (under m)) (filter-same (λ e. since (m ∷ q) (under m e)) (since q) es (λ e. ap (λ o. is_ge (ordering_then o (slice_cmp nat_cmp e.0 q))) (cmp_same m)))

under_lower : (l m : ℕ) (q : List ℕ) (es : List Entry) → l < m → filter (since (m ∷ q)) (map (under l) es) ≡ []
under_lower l m q es h =
    filter-map (under l) (since (m ∷ q)) es
    ∙ ap (map (under l)) (filter-none (λ e. since (m ∷ q) (under l e)) es (λ e. ap (λ o. is_ge (ordering_then o (slice_cmp nat_cmp e.0 q))) (cmp_below l m h)))

under_higher : (l m : ℕ) (q : List ℕ) (es : List Entry) → m < l → filter (since (m ∷ q)) (map (under l) es) ≡ map (under l) es
under_higher l m q es h =
    filter-map (under l) (since (m ∷ q)) es
    ∙ ap (map (under l)) (filter_all (λ e. since (m ∷ q) (under l e)) es (λ e. ap (λ o. is_ge (ordering_then o (slice_cmp nat_cmp e.0 q))) (cmp_above l m h)))

-- ---- among siblings

all_higher : (m : ℕ) (q : List ℕ) (f : Forest) → AllAbove m f → filter (since (m ∷ q)) (walk_forest f) ≡ walk_forest f
all_higher m q none a = refl
all_higher m q (child l n below rest) a =
    let es : List Entry = own_entry n ++ walk_forest below in
    filter-append (since (m ∷ q)) (map (under l) es) (walk_forest rest)
    ∙ ap (λ (x : List Entry). x ++ filter (since (m ∷ q)) (walk_forest rest)) (under_higher l m q es a.0)
    ∙ ap (λ (x : List Entry). map (under l) es ++ x) (all_higher m q rest a.1)

above_has : (low : ℕ) (f : Forest) (m : ℕ) → AllAbove low f → has_label f m ≡ true → low < m
above_has low none m a h = absurd (cc)
above_has low (child l n below rest) m a h = elim (eqb_tells l m) [
  | inl e ↦ omega (arith, a.0, e.1)
  | inr e ↦ above_has low rest m a.1 (subst (λ b. (b || has_label rest m) ≡ true) e.0 h)
]

-- under a label that they have: what lies there, and then the later siblings
since_has : (m : ℕ) (q : List ℕ) (f : Forest) → IsAscending f → has_label f m ≡ true
    → filter (since (m ∷ q)) (walk_forest f) ≡ map (under m) (filter (since q) (walk (subtree f m))) ++ walk_forest (behind f m)
since_has m q none s h = absurd (cc)
since_has m q (child l n below rest) s h =
    let t : Tree = record { number = n; children = below } in
    filter-append (since (m ∷ q)) (map (under l) (walk t)) (walk_forest rest)
    ∙ (elim (eqb_tells l m) as (λ _. filter (since (m ∷ q)) (map (under l) (walk t)) ++ filter (since (m ∷ q)) (walk_forest rest) ≡ map (under m) (filter (since q) (walk (subtree (child l n below rest) m))) ++ walk_forest (behind (child l n below rest) m)) [
      | inl e ↦
          ap (λ (x : List Entry). filter (since (m ∷ q)) (map (under l) (walk t)) ++ x) (all_higher m q rest (subst (λ x. AllAbove x rest) e.1 s.0))
          ∙ ap (λ (x : List Entry). x ++ walk_forest rest) (ap (λ x. filter (since (m ∷ q)) (map (under x) (walk t))) e.1 ∙ under_same m q (walk t))
          ∙ sym (ap (λ b. map (under m) (filter (since q) (walk (cond b t (subtree rest m)))) ++ walk_forest (cond b rest (behind rest m))) e.0)
      | inr e ↦
          let later : has_label rest m ≡ true = subst (λ b. (b || has_label rest m) ≡ true) e.0 h in
          ap (λ (x : List Entry). x ++ filter (since (m ∷ q)) (walk_forest rest)) (under_lower l m q (walk t) (above_has l rest m s.0 later))
          ∙ since_has m q rest s.2 later
          ∙ sym (ap (λ b. map (under m) (filter (since q) (walk (cond b t (subtree rest m)))) ++ walk_forest (cond b rest (behind rest m))) e.0)
    ])

-- under one that they haven't: those above it
since_lacks : (m : ℕ) (q : List ℕ) (f : Forest) → IsAscending f → has_label f m ≡ false → filter (since (m ∷ q)) (walk_forest f) ≡ walk_forest (siblings_above f m)
since_lacks m q none s h = refl
since_lacks m q (child l n below rest) s h =
    (elim (ltb m l) as (λ b. ltb m l ≡ b → filter (since (m ∷ q)) (walk_forest (child l n below rest)) ≡ walk_forest (cond b (child l n below rest) (siblings_above rest m))) [
      | true ↦ λ e. let higher : m < l = ltb-true m l e in all_higher m q (child l n below rest) (higher, all_above_more m l rest higher s.0)
      | false ↦ λ e.
          let most : l ≤ m = ltb-false m l e in
          (elim (eqb_tells l m) as (λ _. filter (since (m ∷ q)) (walk_forest (child l n below rest)) ≡ walk_forest (siblings_above rest m)) [
            | inl same ↦ absurd (let z : true ≡ false = sym (ap (λ b. b || has_label rest m) same.0) ∙ h in cc)
            | inr apart ↦
                filter-append (since (m ∷ q)) (map (under l) (own_entry n ++ walk_forest below)) (walk_forest rest)
                ∙ ap (λ (x : List Entry). x ++ filter (since (m ∷ q)) (walk_forest rest)) (under_lower l m q (own_entry n ++ walk_forest below) (let far = apart.1 in strictly l m most far))
                ∙ since_lacks m q rest s.2 (subst (λ b. (b || has_label rest m) ≡ false) apart.0 h)
          ])
    ]) refl
  where
    strictly : (a b : ℕ) → a ≤ b → (a ≡ b → ⊥) → a < b
    strictly a b le ne = (elim (ltb a b) as (λ t. ltb a b ≡ t → a < b) [ true ↦ λ e. ltb-true a b e | false ↦ λ e. let k : b ≤ a = ltb-false a b e in absurd (ne (omega arith)) ]) refl

own_since : (m : ℕ) (q : List ℕ) (n : Option ℤ) → filter (since (m ∷ q)) (own_entry n) ≡ []
own_since m q None = refl
own_since m q (Some v) = refl

tree_since : (m : ℕ) (q : List ℕ) (t : Tree) → filter (since (m ∷ q)) (walk t) ≡ filter (since (m ∷ q)) (walk_forest t.children)
tree_since m q t =
    filter-append (since (m ∷ q)) (own_entry t.number) (walk_forest t.children)
    ∙ ap (λ (x : List Entry). x ++ filter (since (m ∷ q)) (walk_forest t.children)) (own_since m q t.number)

pub since_none : (es : List Entry) → filter (since []) es ≡ es
since_none es = filter_all (since []) es (λ e. by_path e.0)
  where
    by_path : (p : List ℕ) → is_ge (slice_cmp nat_cmp p []) ≡ true
    by_path [] = refl
    by_path (l ∷ p) = refl

-- ---- at the end of a path

pub behind_none : (es : List Entry) → es ≡ map (behind_path []) es
behind_none [] = refl
behind_none (e ∷ es) = ap (λ r. e ∷ r) (behind_none es)

seen_entries : (p : List ℕ) (vs : List Visit) → visited_entries (map (visit_from p) vs) ≡ map (behind_path p) (visited_entries vs)
seen_entries p [] = refl
seen_entries p (v ∷ vs) =
    elim v.1 as (λ o. cons_option (option_map (λ (x : ℤ). (p ++ v.0, x)) o) (visited_entries (map (visit_from p) vs)) ≡ map (behind_path p) (cons_option (option_map (λ (x : ℤ). (v.0, x)) o) (visited_entries vs))) [
      | None ↦ seen_entries p vs
      | Some x ↦ ap (λ (r : List Entry). (p ++ v.0, x) ∷ r) (seen_entries p vs)
    ]

-- siblings at the end of a path, and what follows them
level : (p : List ℕ) (f : Forest) (later : List Visit) → visited_entries (map (visit_from p) (visits_below f) ++ later) ≡ map (behind_path p) (walk_forest f) ++ visited_entries later
level p f later =
    filter_map-append (λ (v : Visit). option_map (λ (x : ℤ). (v.0, x)) v.1) (map (visit_from p) (visits_below f)) later
    ∙ ap (λ (x : List Entry). x ++ visited_entries later) (seen_entries p (visits_below f) ∙ ap (map (behind_path p)) (entries_below f))

has_last : (t : Tree) (w : List ℕ) (l : ℕ) → HasPath t (w ++ l ∷ []) → HasPath t w × (has_label (node_at t w).children l ≡ true)
has_last t [] l h = (tt, h.0)
has_last t (m ∷ w) l h = let later = has_last (subtree t.children m) w l h.1 in ((h.0, later.0), later.1)

pub ascending_at : (t : Tree) (w : List ℕ) → IsAscending t.children → IsAscending (node_at t w).children
ascending_at t [] s = s
ascending_at t (l ∷ w) s = ascending_at (subtree t.children l) w (ascending_subtree t.children l s)

pub at_up : (t : Tree) (up : List ℕ) → (node_at t (forwards up)).children ≡ (node_up t up).children
at_up t up = ap (λ (u : Tree). u.children) (sym (node_up_is t up))

since_path : (t : Tree) (up q : List ℕ) → IsAscending t.children → HasPath t (forwards up)
    → filter (since (forwards up ++ q)) (walk t) ≡ map (behind_path (forwards up)) (filter (since q) (walk (node_up t up))) ++ visited_entries (visits_after t up)
since_path t [] q s on = behind_none (filter (since q) (walk t)) ∙ sym (append-nil (map (behind_path []) (filter (since q) (walk t))))
since_path t (l ∷ up) q s on =
    let p : List ℕ = forwards up in
    let f : Forest = (node_up t up).children in
    let last = has_last t p l on in
    let has : has_label f l ≡ true = ap (λ g. has_label g l) (sym (at_up t up)) ∙ last.1 in
    let ascends : IsAscending f = subst IsAscending (at_up t up) (ascending_at t p s) in
    let here : List Entry = filter (since q) (walk (subtree f l)) in
    let after : List Entry = visited_entries (visits_after t up) in
    ap (λ w. filter (since w) (walk t)) (append_assoc p (l ∷ []) q)
    ∙ since_path t up (l ∷ q) s last.0
    ∙ ap (λ (x : List Entry). map (behind_path p) x ++ after) (tree_since l q (node_up t up) ∙ since_has l q f ascends has)
    ∙ ap (λ (x : List Entry). x ++ after) (map-append (behind_path p) (map (under l) here) (walk_forest (behind f l)))
    ∙ append_assoc (map (behind_path p) (map (under l) here)) (map (behind_path p) (walk_forest (behind f l))) after
    ∙ ap (λ (x : List Entry). x ++ (map (behind_path p) (walk_forest (behind f l)) ++ after)) (map-after (behind_path p) (under l) (behind_path (p ++ l ∷ [])) here (λ e. ap (λ w. (w, e.1)) (sym (append_assoc p (l ∷ []) e.0))))
    ∙ ap (λ (x : List Entry). map (behind_path (p ++ l ∷ [])) here ++ x) (sym (level p (behind f l) (visits_after t up)))

own_level : (p : List ℕ) (n : Option ℤ) (f : Forest) (later : List Visit) → map (behind_path p) (own_entry n ++ walk_forest f) ++ visited_entries later ≡ visited_entries ((p, n) ∷ (map (visit_from p) (visits_below f) ++ later))
own_level p None f later = sym (level p f later)
own_level p (Some v) f later = ap (λ w. (w, v) ∷ (map (behind_path p) (walk_forest f) ++ visited_entries later)) (append-nil p) ∙ ap (λ r. (p, v) ∷ r) (sym (level p f later))

-- at a node the entries from its path on are its own and those that a walk has left there
pub since_node : (t : Tree) (up : List ℕ) → IsAscending t.children → HasPath t (forwards up) → entries_since t (forwards up) ≡ visited_entries ((forwards up, (node_up t up).number) ∷ visits_left t up)
since_node t up s on =
    ap (λ w. filter (since w) (walk t)) (sym (append-nil (forwards up)))
    ∙ since_path t up [] s on
    ∙ ap (λ (x : List Entry). map (behind_path (forwards up)) x ++ visited_entries (visits_after t up)) (since_none (walk (node_up t up)))
    ∙ own_level (forwards up) (node_up t up).number (node_up t up).children (visits_after t up)

-- below a node without a child under the next byte they begin with its children above that byte
pub since_missing : (t : Tree) (up : List ℕ) (m : ℕ) (q : List ℕ) → IsAscending t.children → HasPath t (forwards up) → has_label (node_up t up).children m ≡ false
    → entries_since t (forwards up ++ m ∷ q) ≡ visited_entries (map (visit_from (forwards up)) (visits_below (siblings_above (node_up t up).children m)) ++ visits_after t up)
since_missing t up m q s on lacks =
    let p : List ℕ = forwards up in
    let f : Forest = (node_up t up).children in
    since_path t up (m ∷ q) s on
    ∙ ap (λ (x : List Entry). map (behind_path p) x ++ visited_entries (visits_after t up)) (tree_since m q (node_up t up) ∙ since_lacks m q f (subst IsAscending (at_up t up) (ascending_at t p s)) lacks)
    ∙ sym (level p (siblings_above f m) (visits_after t up))

-- ---- from sibling to sibling, to the first above a label

last_first : (f g : Forest) (c : ℕ) (n : Option ℤ) (below rest : Forest) → IsSoundBelow f → AreLast f g → g ≡ child c n below rest
    → (has_label f c ≡ true) × (subtree f c ≡ record { number = n; children = below }) × (behind f c ≡ rest)
last_first f g c n below rest s (inl all) is =
    let e : f ≡ child c n below rest = sym all ∙ is in
    (has_here f c n below rest e, ap (λ x. subtree x c) e ∙ subtree_here c n below rest, ap (λ x. behind x c) e ∙ behind_here c n below rest)
last_first f g c n below rest s (inr behind_one) is =
    let e : behind f behind_one.0 ≡ child c n below rest = sym behind_one.2 ∙ is in
    let next = next_behind f behind_one.0 c n below rest s e in
    (has_behind f behind_one.0 c n below rest e, next.0, next.1)

ascending_behind : (f : Forest) (l : ℕ) → IsAscending f → IsAscending (behind f l)
ascending_behind none l s = tt
ascending_behind (child m n below rest) l s = elim (m == l) as (λ b. IsAscending (cond b rest (behind rest l))) [ true ↦ s.2 | false ↦ ascending_behind rest l s.2 ]

last_ascend : (f g : Forest) → IsAscending f → AreLast f g → IsAscending g
last_ascend f g s (inl all) = subst IsAscending (sym all) s
last_ascend f g s (inr behind_one) = subst IsAscending (sym behind_one.2) (ascending_behind f behind_one.0 s)

pub above_label : (f : Forest) (m next : ℕ) → IsSoundBelow f → AboveFrom f m next → (next ≡ 0 → ⊥) → has_label f next ≡ true
above_label f m next s a some = by_rest a.rest refl
  where
    by_rest : (g : Forest) → a.rest ≡ g → has_label f next ≡ true
    by_rest none e = absurd (some (a.first ∙ ap first_sibling_label e))
    by_rest (child c n below rest) e = ap (has_label f) (a.first ∙ ap first_sibling_label e) ∙ (last_first f a.rest c n below rest s a.last e).0

-- a label that isn't above is passed
pub above_on : (f : Forest) (m next : ℕ) → IsSoundBelow f → IsAscending f → AboveFrom f m next → (next ≡ 0 → ⊥) → next ≤ m
    → AboveFrom f m (first_sibling_label (behind f next)) × ((first_sibling_label (behind f next) ≡ 0 → ⊥) → next < first_sibling_label (behind f next))
above_on f m next s ascends a some most = by_rest a.rest refl
  where
    next_above : (low : ℕ) (g : Forest) → AllAbove low g → (first_sibling_label g ≡ 0 → ⊥) → low < first_sibling_label g
    next_above low none h more = absurd (more refl)
    next_above low (child c n below rest) h more = h.0

    by_rest : (g : Forest) → a.rest ≡ g → AboveFrom f m (first_sibling_label (behind f next)) × ((first_sibling_label (behind f next) ≡ 0 → ⊥) → next < first_sibling_label (behind f next))
    by_rest none e = absurd (some (a.first ∙ ap first_sibling_label e))
    by_rest (child c n below rest) e =
        let is : next ≡ c = a.first ∙ ap first_sibling_label e in
        let found = last_first f a.rest c n below rest s a.last e in
        let behind_is : behind f next ≡ rest = ap (behind f) is ∙ found.2 in
        let up : IsAscending (child c n below rest) = subst IsAscending e (last_ascend f a.rest ascends a.last) in
        let passed : siblings_above (child c n below rest) m ≡ siblings_above rest m = ap (λ b. cond b (child c n below rest) (siblings_above rest m)) (le-ltb m c (omega (arith, most, is))) in (
          record {
            rest = behind f next;
            last = inr (next, ap (has_label f) is ∙ found.0, refl);
            same = a.same ∙ ap (λ g. siblings_above g m) e ∙ passed ∙ ap (λ g. siblings_above g m) (sym behind_is);
            first = refl;
          },
          subst (λ (g : Forest). (first_sibling_label g ≡ 0 → ⊥) → next < first_sibling_label g) (sym behind_is) (subst (λ x. (first_sibling_label rest ≡ 0 → ⊥) → x < first_sibling_label rest) (sym is) (next_above c rest up.0)),
        )

-- where none is left, none is above
pub above_none : (f : Forest) (m next : ℕ) → IsSoundBelow f → AboveFrom f m next → next ≡ 0 → siblings_above f m ≡ none
above_none f m next s a z = a.same ∙ ap (λ g. siblings_above g m) (by_rest a.rest refl)
  where
    positive : (c : ℕ) (n : Option ℤ) (below rest : Forest) → a.rest ≡ child c n below rest → c ≡ 0 → ⊥
    positive c n below rest e zero_label =
        let has : has_label f c ≡ true = (last_first f a.rest c n below rest s a.last e).0 in
        no_zero f s (ap (has_label f) (sym zero_label) ∙ has)
      where
        no_zero : (g : Forest) → IsSoundBelow g → has_label g 0 ≡ true → ⊥
        no_zero none sound h = cc
        no_zero (child l n below rest) sound h = elim (eqb_tells l 0) [
          | inl same ↦ omega (arith, sound.0, same.1)
          | inr apart ↦ no_zero rest sound.5 (subst (λ b. (b || has_label rest 0) ≡ true) apart.0 h)
        ]

    by_rest : (g : Forest) → a.rest ≡ g → a.rest ≡ none
    by_rest none e = e
    by_rest (child c n below rest) e = absurd (positive c n below rest e (sym (a.first ∙ ap first_sibling_label e) ∙ z))

-- the first above it is what a walk comes to
pub above_first : (t : Tree) (up : List ℕ) (m next : ℕ) → IsSoundBelow (node_up t up).children → AboveFrom (node_up t up).children m next → m < next
    → map (visit_from (forwards up)) (visits_below (siblings_above (node_up t up).children m)) ++ visits_after t up
    ≡ (forwards (next ∷ up), (subtree (node_up t up).children next).number) ∷ visits_left t (next ∷ up)
above_first t up m next s a higher = by_rest a.rest refl
  where
    f : Forest
    f = (node_up t up).children

    by_rest : (g : Forest) → a.rest ≡ g → map (visit_from (forwards up)) (visits_below (siblings_above (node_up t up).children m)) ++ visits_after t up ≡ (forwards (next ∷ up), (subtree (node_up t up).children next).number) ∷ visits_left t (next ∷ up)
    by_rest none e = let z : next ≡ 0 = a.first ∙ ap first_sibling_label e in absurd (omega (arith, z, higher))
    by_rest (child c n below rest) e =
        let is : next ≡ c = a.first ∙ ap first_sibling_label e in
        let found = last_first (node_up t up).children a.rest c n below rest s a.last e in
        let kept : siblings_above (child c n below rest) m ≡ child c n below rest = ap (λ b. cond b (child c n below rest) (siblings_above rest m)) (lt-ltb m c (omega (arith, higher, is))) in
        let all : siblings_above (node_up t up).children m ≡ a.rest = a.same ∙ ap (λ g. siblings_above g m) e ∙ kept ∙ sym e in
        let number : n ≡ (subtree (node_up t up).children next).number = ap (λ (u : Tree). u.number) (sym found.1) ∙ ap (λ x. (subtree (node_up t up).children x).number) (sym is) in
        ap (λ g. map (visit_from (forwards up)) (visits_below g) ++ visits_after t up) all
        ∙ by_last a.last
        ∙ ap (λ (o : Option ℤ). (forwards (c ∷ up), o) ∷ visits_left t (c ∷ up)) number
        ∙ ap (λ x. (forwards (x ∷ up), (subtree (node_up t up).children next).number) ∷ visits_left t (x ∷ up)) (sym is)
      where
        by_last : AreLast (node_up t up).children a.rest → map (visit_from (forwards up)) (visits_below a.rest) ++ visits_after t up ≡ (forwards (c ∷ up), n) ∷ visits_left t (c ∷ up)
        by_last (inl every) = ap (λ g. map (visit_from (forwards up)) (visits_below g) ++ visits_after t up) every ∙ goes_down t up c n below rest (sym every ∙ e)
        by_last (inr behind_one) = ap (λ g. map (visit_from (forwards up)) (visits_below g) ++ visits_after t up) behind_one.2 ∙ goes_right t up behind_one.0 c n below rest s (sym behind_one.2 ∙ e)
