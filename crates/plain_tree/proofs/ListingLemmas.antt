-- What a loop over a node's children has listed, child by child.
use Rattle.std.proofs.Common.{◌≡◌, ℕ, ◌+◌, ◌<◌, ◌≤◌, ℤ, List, [], ◌∷◌, ◌++◌, length, map, take, get_or, Option, Some, Vec, refl, sym, ap, ◌∙◌}
use Rattle.std.proofs.lemmas.List.{append-nil, append_assoc, map-append, map-id, take_more, take_all}
use Rattle.cedar_tree.specs.Tree.{Tree}
use Rattle.cedar_tree.specs.Queries.{Entry, own_entry, under, walk_forest, walk, prefixes_forest, prefixes}
use Rattle.plain_tree.specs.Children.{forest_of}
use Rattle.plain_tree.specs.Listing.{beneath, vector_entries, paths_of}

walk_forest-push : (cs : List (ℕ × Tree)) (c : ℕ × Tree) → walk_forest (forest_of (cs ++ c ∷ [])) ≡ walk_forest (forest_of cs) ++ map (under c.0) (walk c.1)
walk_forest-push [] c = append-nil (map (under c.0) (walk c.1))
walk_forest-push (b ∷ cs) c =
    ap (λ (r : List Entry). map (under b.0) (walk b.1) ++ r) (walk_forest-push cs c)
    ∙ sym (append_assoc (map (under b.0) (walk b.1)) (walk_forest (forest_of cs)) (map (under c.0) (walk c.1)))

-- entries under a label, seen from the path to its parent
beneath-under : (path : List ℕ) (l : ℕ) (es : List Entry) → map (beneath (path ++ l ∷ [])) es ≡ map (beneath path) (map (under l) es)
beneath-under path l [] = refl
beneath-under path l (e ∷ es) =
    rw (append_assoc path (l ∷ []) e.0) (ap (λ (r : List Entry). (path ++ l ∷ e.0, e.1) ∷ r) (beneath-under path l es))

-- one more child is walked
pub walk_more : (path : List ℕ) (cs : List (ℕ × Tree)) (i : ℕ) (c : ℕ × Tree) → i < length cs → c ≡ get_or cs i c
    → (before now later : List Entry) → now ≡ before ++ map (beneath path) (walk_forest (forest_of (take i cs)))
    → later ≡ now ++ map (beneath (path ++ c.0 ∷ [])) (walk c.1)
    → later ≡ before ++ map (beneath path) (walk_forest (forest_of (take (i + 1) cs)))
walk_more path cs i c within is before now later held step =
    let listed = walk_forest (forest_of (take i cs)) in
    let more : take (i + 1) cs ≡ take i cs ++ c ∷ [] = take_more cs i c within ∙ ap (λ (x : ℕ × Tree). take i cs ++ x ∷ []) (sym is) in
    step
    ∙ ap (λ (es : List Entry). es ++ map (beneath (path ++ c.0 ∷ [])) (walk c.1)) held
    ∙ append_assoc before (map (beneath path) listed) (map (beneath (path ++ c.0 ∷ [])) (walk c.1))
    ∙ ap (λ (es : List Entry). before ++ es) (
    ap (λ (es : List Entry). map (beneath path) listed ++ es) (beneath-under path c.0 (walk c.1))
    ∙ sym (map-append (beneath path) listed (map (under c.0) (walk c.1)))
    ∙ ap (map (beneath path)) (sym (walk_forest-push (take i cs) c) ∙ ap (λ (xs : List (ℕ × Tree)). walk_forest (forest_of xs)) (sym more)))

-- all children of a node are walked, and its own number before them
pub walk_all : (path : List ℕ) (n : Option ℤ) (cs : List (ℕ × Tree)) (t : Tree) → ◌≡◌ {A = Tree} (record { number = n; children = forest_of cs }) t
    → (i : ℕ) → length cs ≤ i
    → (before own after : List Entry) → own ≡ before ++ map (beneath path) (own_entry n)
    → after ≡ own ++ map (beneath path) (walk_forest (forest_of (take i cs)))
    → after ≡ before ++ map (beneath path) (walk t)
walk_all path n cs t seen i end before own after first rest =
    rw (← seen) (
    rest
    ∙ ap (λ (xs : List (ℕ × Tree)). own ++ map (beneath path) (walk_forest (forest_of xs))) (take_all i cs end)
    ∙ ap (λ (es : List Entry). es ++ map (beneath path) (walk_forest (forest_of cs))) first
    ∙ append_assoc before (map (beneath path) (own_entry n)) (map (beneath path) (walk_forest (forest_of cs)))
    ∙ ap (λ (es : List Entry). before ++ es) (sym (map-append (beneath path) (own_entry n) (walk_forest (forest_of cs)))))

prefixes_forest-push : (cs : List (ℕ × Tree)) (c : ℕ × Tree) → prefixes_forest (forest_of (cs ++ c ∷ [])) ≡ prefixes_forest (forest_of cs) ++ ((c.0 ∷ []) ∷ map (λ p. c.0 ∷ p) (prefixes c.1))
prefixes_forest-push [] c = append-nil ((c.0 ∷ []) ∷ map (λ p. c.0 ∷ p) (prefixes c.1))
prefixes_forest-push (b ∷ cs) c =
    ap (λ (r : List (List ℕ)). (b.0 ∷ []) ∷ map (λ p. b.0 ∷ p) (prefixes b.1) ++ r) (prefixes_forest-push cs c)
    ∙ sym (append_assoc ((b.0 ∷ []) ∷ map (λ p. b.0 ∷ p) (prefixes b.1)) (prefixes_forest (forest_of cs)) ((c.0 ∷ []) ∷ map (λ p. c.0 ∷ p) (prefixes c.1)))

longer-under : (path : List ℕ) (l : ℕ) (ps : List (List ℕ)) → map (λ p. (path ++ l ∷ []) ++ p) ps ≡ map (λ p. path ++ p) (map (λ p. l ∷ p) ps)
longer-under path l [] = refl
longer-under path l (p ∷ ps) =
    rw (append_assoc path (l ∷ []) p) (ap (λ (r : List (List ℕ)). (path ++ l ∷ p) ∷ r) (longer-under path l ps))

-- one more child's path is listed, and the paths below it
pub prefixes_more : (path : List ℕ) (cs : List (ℕ × Tree)) (i : ℕ) (c : ℕ × Tree) → i < length cs → c ≡ get_or cs i c
    → (before now pushed later : List (List ℕ)) → now ≡ before ++ map (λ p. path ++ p) (prefixes_forest (forest_of (take i cs)))
    → pushed ≡ now ++ (path ++ c.0 ∷ []) ∷ []
    → later ≡ pushed ++ map (λ p. (path ++ c.0 ∷ []) ++ p) (prefixes c.1)
    → later ≡ before ++ map (λ p. path ++ p) (prefixes_forest (forest_of (take (i + 1) cs)))
prefixes_more path cs i c within is before now pushed later held own step =
    let listed = prefixes_forest (forest_of (take i cs)) in
    let below = map (λ (p : List ℕ). (path ++ c.0 ∷ []) ++ p) (prefixes c.1) in
    let more : take (i + 1) cs ≡ take i cs ++ c ∷ [] = take_more cs i c within ∙ ap (λ (x : ℕ × Tree). take i cs ++ x ∷ []) (sym is) in
    step
    ∙ ap (λ (ps : List (List ℕ)). ps ++ below) (own ∙ ap (λ (ps : List (List ℕ)). ps ++ (path ++ c.0 ∷ []) ∷ []) held)
    ∙ append_assoc (before ++ map (λ p. path ++ p) listed) ((path ++ c.0 ∷ []) ∷ []) below
    ∙ append_assoc before (map (λ p. path ++ p) listed) ((path ++ c.0 ∷ []) ∷ below)
    ∙ ap (λ (ps : List (List ℕ)). before ++ ps) (
    ap (λ (ps : List (List ℕ)). map (λ p. path ++ p) listed ++ (path ++ c.0 ∷ []) ∷ ps) (longer-under path c.0 (prefixes c.1))
    ∙ sym (map-append (λ (p : List ℕ). path ++ p) listed ((c.0 ∷ []) ∷ map (λ p. c.0 ∷ p) (prefixes c.1)))
    ∙ ap (map (λ (p : List ℕ). path ++ p)) (sym (prefixes_forest-push (take i cs) c) ∙ ap (λ (xs : List (ℕ × Tree)). prefixes_forest (forest_of xs)) (sym more)))

-- the paths below all children are listed
pub prefixes_all : (path : List ℕ) (n : Option ℤ) (cs : List (ℕ × Tree)) (t : Tree) → ◌≡◌ {A = Tree} (record { number = n; children = forest_of cs }) t
    → (i : ℕ) → length cs ≤ i
    → (before after : List (List ℕ)) → after ≡ before ++ map (λ p. path ++ p) (prefixes_forest (forest_of (take i cs)))
    → after ≡ before ++ map (λ p. path ++ p) (prefixes t)
prefixes_all path n cs t seen i end before after rest =
    rw (← seen) (rest ∙ ap (λ (xs : List (ℕ × Tree)). before ++ map (λ p. path ++ p) (prefixes_forest (forest_of xs))) (take_all i cs end))

-- a node's own number is listed at its path
pub own_listed : {Z : Type 0} (path : List ℕ) (n : Option ℤ) (v w : ℤ) (copy : Vec ℕ Z) (entries after : List (Vec ℕ Z × ℤ)) → n ≡ Some v → w ≡ v → copy.items ≡ path
    → after ≡ entries ++ (copy, w) ∷ [] → vector_entries after ≡ vector_entries entries ++ map (beneath path) (own_entry n)
own_listed path n v w copy entries after held same whole pushed =
    rw (pushed, held, same) (map-append (λ e. (e.0.items, e.1)) entries ((copy, v) ∷ [])
    ∙ ap (λ (p : List ℕ). vector_entries entries ++ (p, v) ∷ []) (whole ∙ sym (append-nil path)))

-- one more path is listed
pub path_listed : {Z : Type 0} (path : Vec ℕ Z) (is : List ℕ) (paths after : List (Vec ℕ Z)) → path.items ≡ is
    → after ≡ paths ++ path ∷ [] → paths_of after ≡ paths_of paths ++ is ∷ []
path_listed path is paths after whole pushed =
    ap paths_of pushed ∙ map-append (λ p. p.items) paths (path ∷ []) ∙ ap (λ (p : List ℕ). paths_of paths ++ p ∷ []) whole

-- what is listed from the root on is the whole
pub walk_whole : (before : List Entry) (t u : Tree) → before ≡ [] → t ≡ u → before ++ map (beneath []) (walk t) ≡ walk u
walk_whole before t u none same = rw (none, same) (map-id (walk u))

pub prefixes_whole : (before : List (List ℕ)) (t u : Tree) → before ≡ [] → t ≡ u → before ++ map (λ p. [] ++ p) (prefixes t) ≡ prefixes u
prefixes_whole before t u none same = rw (none, same) (map-id (prefixes u))
