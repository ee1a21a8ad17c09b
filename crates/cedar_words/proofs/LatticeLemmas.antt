-- Edges of a lattice, by the walk over the keys at a position.
use Rattle.std.proofs.Common.{◌≡◌, ℕ, zero, suc, ◌+◌, ◌-◌, ◌<◌, ◌≤◌, inl, inr, nat_lt, cond, true, false, ℤ, List, [], ◌∷◌, ◌++◌, length, map, drop, take, ◌↔◌, MatchOption, Option, Some, None, refl, sym, ap, subst, ◌∙◌, arith}
use Rattle.std.proofs.lemmas.Bool.{le-ltb, lt-ltb}
use Rattle.std.specs.List.{Contains}
use Rattle.std.proofs.lemmas.List.{length-drop}
use Rattle.std.proofs.lemmas.List.Elements.{Contains-append_cases, Contains-append_left, Contains-append_right}
use Rattle.cedarwood.specs.Tree.{Tree, number_at}
use Rattle.cedarwood.specs.Queries.{front}
use Rattle.cedarwood.proofs.FrontLemmas.{front_from_held, held_from_front}
use Rattle.cedarwood.proofs.MemberLemmas.{contains_first_or_later, contains_here, contains_none, either_part, from_map, into_map}
use Rattle.cedar_words.specs.Lattice.{edges_at, edges_from, edges_left, IsEdgeOf, IsStop, key_edge, keys_left, own_run, run_by, run_edge, run_edges}
use Rattle.cedar_words.specs.Models.{IsPieceBy, MayRun, price_by, run_len}
use Rattle.cedar_words.specs.Steps.{AreWithin}
use Rattle.cedar_words.specs.declared.edges.Edge.{Edge}
use Rattle.cedar_words.specs.declared.edges.Stop.{Stop}
use Rattle.cedar_words.specs.declared.models.UnknownRun.{UnknownRun}
use Rattle.cedar_words.proofs.StepLemmas.{fronts_within}
use Rattle.cedar_words.proofs.TokenLemmas.{drop_one}

-- nothing begins where no byte is left
no_edges : (t : Tree) (key : ℤ → ℕ) (run : ℕ → UnknownRun) (place : ℕ) (q : List ℕ) → length q ≡ 0 → edges_from t key run place q ≡ []
no_edges t key run place [] h = refl
no_edges t key run place (b ∷ q) h = absurd (omega (arith, h))

-- all edges from a position on are those there, and those from the next position on
pub edges_here : (t : Tree) (key : ℤ → ℕ) (run : ℕ → UnknownRun) (text : List ℕ) (place : ℕ)
    → edges_from t key run place (drop place text) ≡ edges_left t key run text place (front t (drop place text)) (run_by run text place (front t (drop place text)))
edges_here t key run text place = at (drop place text) refl
  where
    at : (q : List ℕ) → drop place text ≡ q → edges_from t key run place q ≡ edges_left t key run text place (front t q) (run_by run text place (front t q))
    at [] is =
        let len = ap length is in
        let left = length-drop place text in
        let here : nat_lt place (length text) ≡ false = le-ltb place (length text) (omega (arith, len, left)) in
        let short : length (drop (place + 1) text) ≡ 0 = omega (arith, len, left, length-drop (place + 1) text) in
        rw here (sym (no_edges t key run (place + 1) (drop (place + 1) text) short))
    at (b ∷ rest) is =
        let len = ap length is in
        let left = length-drop place text in
        let here : nat_lt place (length text) ≡ true = lt-ltb place (length text) (omega (arith, len, left)) in
        let many : length (b ∷ rest) ≡ length text - place = sym len ∙ left in
        let fronts : List (ℤ × ℕ) = front t (b ∷ rest) in
        rw here
        (ap (λ n. map (key_edge key place) fronts ++ (run_edges place n (own_run (run place) fronts) ++ edges_from t key run (place + 1) rest)) many
        ∙ ap (λ q. map (key_edge key place) fronts ++ (run_edges place (length text - place) (own_run (run place) fronts) ++ edges_from t key run (place + 1) q)) (sym (drop_one place text rest b is)))

-- a new position, by what is to come there
pub edges_new : (t : Tree) (key : ℤ → ℕ) (run : ℕ → UnknownRun) (text : List ℕ) (place : ℕ) (stop : Stop) (walk all : List (ℤ × ℕ)) → stop.place ≡ place → keys_left stop.key walk ≡ all → stop.run ≡ run_by run text place all
    → all ≡ front t (drop place text) → edges_at t key run text (stop, walk) ≡ edges_from t key run place (drop place text)
edges_new t key run text place stop walk all at keys own is =
    ap (λ p. edges_left t key run text p (keys_left stop.key walk) stop.run) at
    ∙ ap (λ f. edges_left t key run text place f stop.run) keys
    ∙ ap (λ o. edges_left t key run text place all o) own
    ∙ ap (λ f. edges_left t key run text place f (run_by run text place f)) is
    ∙ sym (edges_here t key run text place)

pub stop_new : (t : Tree) (run : ℕ → UnknownRun) (text : List ℕ) (place : ℕ) (stop : Stop) (walk all : List (ℤ × ℕ)) → place ≤ length text → stop.place ≡ place → keys_left stop.key walk ≡ all → stop.run ≡ run_by run text place all
    → all ≡ front t (drop place text) → IsStop text (stop, walk)
stop_new t run text place stop walk all within at keys own is = (
  omega (arith, at, within),
  subst (AreWithin (length text - stop.place)) (sym (keys ∙ is)) (subst (λ n. AreWithin n (front t (drop place text))) (length-drop place text ∙ ap (λ p. length text - p) (sym at)) (fronts_within t (drop place text))),
  λ end. own ∙ ap (λ b. cond b (own_run (run place) all) None) (le-ltb place (length text) (omega (arith, end, at))),
)

-- where neither a key nor a run is to come, what is left is what is behind the position
pub edges_passed : (t : Tree) (key : ℤ → ℕ) (run : ℕ → UnknownRun) (text : List ℕ) (stop : Stop) (walk : List (ℤ × ℕ)) → stop.key ≡ None → stop.run ≡ None
    → edges_at t key run text (stop, walk) ≡ edges_from t key run (stop.place + 1) (drop (stop.place + 1) text)
edges_passed t key run text stop walk no_key no_run =
    ap (λ k. edges_left t key run text stop.place (keys_left k walk) stop.run) no_key ∙ ap (λ o. edges_left t key run text stop.place [] o) no_run

-- the next key of a walk, and those behind it, are those that it had
pub keys_are : (o : Option (ℤ × ℕ)) (old new : List (ℤ × ℕ)) → MatchOption o (old ≡ []) (λ f. old ≡ f ∷ new) → keys_left o new ≡ old
keys_are None old new h = sym h
keys_are (Some f) old new h = sym h

pub run_is : (run : ℕ → UnknownRun) (text : List ℕ) (place : ℕ) (one : UnknownRun) (fronts all : List (ℤ × ℕ)) (own : Option UnknownRun) → place < length text → own ≡ own_run one fronts → one ≡ run place → fronts ≡ all → own ≡ run_by run text place all
run_is run text place one fronts all own here is at same =
    is ∙ ap (λ r. own_run r fronts) at ∙ ap (own_run (run place)) same ∙ ap (λ b. cond b (own_run (run place) all) None) (sym (lt-ltb place (length text) here))

-- an edge whose parts are these is the edge of these parts
parts_edge : (e : Edge) (start len cost : ℕ) (value : Option ℤ) → start ≡ e.start → len ≡ e.len → value ≡ e.value → cost ≡ e.cost → record { start = start; len = len; value = value; cost = cost } ≡ e
parts_edge e start len cost value a b c d =
    ap (λ s. record { start = s; len = len; value = value; cost = cost }) a
    ∙ ap (λ n. record { start = e.start; len = n; value = value; cost = cost }) b
    ∙ ap (λ v. record { start = e.start; len = e.len; value = v; cost = cost }) c
    ∙ ap (λ m. record { start = e.start; len = e.len; value = e.value; cost = m }) d

-- a token of some bytes of a text, so many behind a position
abbrev IsEdgeBehind : Tree → (ℤ → ℕ) → (ℕ → UnknownRun) → ℕ → List ℕ → ℕ → Edge → Type 0
IsEdgeBehind t key run place rest k e =
    (e.start ≡ place + k) × (0 < e.len) × (k + e.len ≤ length rest) × IsPieceBy t (run e.start) (drop k rest) (e.start, e.len, e.value) × (e.cost ≡ price_by key (run e.start).cost e.value)

key_behind : (t : Tree) (key : ℤ → ℕ) (run : ℕ → UnknownRun) (place : ℕ) (rest : List ℕ) (found : ℤ × ℕ) → Contains (front t rest) found → IsEdgeBehind t key run place rest 0 (key_edge key place found)
key_behind t key run place rest found c =
    let held = held_from_front t rest found.0 found.1 c in
    let within = held.0 in
    (omega arith, omega arith, omega (arith, within), held.1, refl)

run_within : (n : ℕ) (r : UnknownRun) → 0 < n → (0 < run_len n r) × (run_len n r ≤ n)
run_within n r h = (omega arith, omega (arith, h))

run_behind : (t : Tree) (key : ℤ → ℕ) (run : ℕ → UnknownRun) (place : ℕ) (rest : List ℕ) → 0 < length rest → MayRun t rest (run place) → IsEdgeBehind t key run place rest 0 (run_edge place (length rest) (run place))
run_behind t key run place rest some may =
    let within = run_within (length rest) (run place) some in
    (omega arith, within.0, omega (arith, within.1), (refl, may), refl)

-- the run among the edges of a position is its own, where it may be
one_run : (run : UnknownRun) (place left : ℕ) (e : Edge) → Contains (run_edge place left run ∷ []) e → run_edge place left run ≡ e
one_run run place left e c = either_part (contains_first_or_later (run_edge place left run) [] e c) (λ same. same) (λ none. absurd (contains_none e none))

run_held : (t : Tree) (run : UnknownRun) (place : ℕ) (rest : List ℕ) (e : Edge) (fronts : List (ℤ × ℕ)) → front t rest ≡ fronts → Contains (run_edges place (length rest) (own_run run fronts)) e
    → (run_edge place (length rest) run ≡ e) × MayRun t rest run
run_held t run place rest e [] is c = (one_run run place (length rest) e c, inr is)
run_held t run place rest e (found ∷ fronts) is c =
    (elim run.beside_keys as (λ b. run.beside_keys ≡ b → Contains (run_edges place (length rest) (cond b (Some run) None)) e → (run_edge place (length rest) run ≡ e) × MayRun t rest run) [
      | true ↦ λ beside here. (one_run run place (length rest) e here, inl beside)
      | false ↦ λ beside here. absurd (contains_none e here)
    ]) refl c

run_there : (t : Tree) (run : UnknownRun) (place : ℕ) (rest : List ℕ) (fronts : List (ℤ × ℕ)) → front t rest ≡ fronts → MayRun t rest run → Contains (run_edges place (length rest) (own_run run fronts)) (run_edge place (length rest) run)
run_there t run place rest [] is may = contains_here (run_edge place (length rest) run) []
run_there t run place rest (found ∷ fronts) is may =
    either_part may
    (λ beside. subst (λ b. Contains (run_edges place (length rest) (cond b (Some run) None)) (run_edge place (length rest) run)) (sym beside) (contains_here (run_edge place (length rest) run) []))
    (λ none. absurd (some_front found fronts (sym is ∙ none)))
  where
    some_front : (f : ℤ × ℕ) (fs : List (ℤ × ℕ)) → f ∷ fs ≡ [] → ⊥
    some_front f fs h = absurd (cc)

-- an edge is a token of the text
edge_held : (t : Tree) (key : ℤ → ℕ) (run : ℕ → UnknownRun) (rest : List ℕ) (place : ℕ) (e : Edge) → Contains (edges_from t key run place rest) e → (k : ℕ) × IsEdgeBehind t key run place rest k e
edge_held t key run [] place e c = absurd (contains_none e c)
edge_held t key run (b ∷ rest) place e c =
    let fronts : List (ℤ × ℕ) = front t (b ∷ rest) in
    let own : List Edge = run_edges place (length (b ∷ rest)) (own_run (run place) fronts) in
    either_part (Contains-append_cases (map (key_edge key place) fronts) (own ++ edges_from t key run (place + 1) rest) e c)
    (λ here.
    let found = from_map (key_edge key place) fronts e here in
    subst (λ (x : Edge). (k : ℕ) × IsEdgeBehind t key run place (b ∷ rest) k x) found.2 (0, key_behind t key run place (b ∷ rest) found.0 found.1))
    (λ behind. either_part (Contains-append_cases own (edges_from t key run (place + 1) rest) e behind)
    (λ here.
    let held = run_held t (run place) place (b ∷ rest) e fronts refl here in
    subst (λ (x : Edge). (k : ℕ) × IsEdgeBehind t key run place (b ∷ rest) k x) held.0 (0, run_behind t key run place (b ∷ rest) (omega arith) held.1))
    (λ later.
    let more = edge_held t key run rest (place + 1) e later in
    let at = more.1.0 in
    let within = more.1.2 in
    (suc more.0, (omega (arith, at), more.1.1, omega (arith, within), more.1.3, more.1.4))))

-- and each token of the text is one
edge_there : (t : Tree) (key : ℤ → ℕ) (run : ℕ → UnknownRun) (rest : List ℕ) (place : ℕ) (e : Edge) (k : ℕ) → IsEdgeBehind t key run place rest k e → Contains (edges_from t key run place rest) e
edge_there t key run [] place e k is = let some = is.1 in let within = is.2 in absurd (omega (arith, some, within))
edge_there t key run (b ∷ rest) place e (suc k) is =
    let fronts : List (ℤ × ℕ) = front t (b ∷ rest) in
    let own : List Edge = run_edges place (length (b ∷ rest)) (own_run (run place) fronts) in
    let at = is.0 in
    let within = is.2 in
    Contains-append_right (map (key_edge key place) fronts) (own ++ edges_from t key run (place + 1) rest) e
    (Contains-append_right own (edges_from t key run (place + 1) rest) e (edge_there t key run rest (place + 1) e k (omega (arith, at), is.1, omega (arith, within), is.3, is.4)))
edge_there t key run (b ∷ rest) place e zero is =
    let here : place ≡ e.start = (let at = is.0 in omega (arith, at)) in
    by e.value refl here
  where
    by : (value : Option ℤ) → e.value ≡ value → place ≡ e.start → Contains (edges_from t key run place (b ∷ rest)) e
    by None none here =
        let parts : (e.len ≡ run_len (length (b ∷ rest)) (run e.start)) × MayRun t (b ∷ rest) (run e.start) = subst (λ v. MatchOption v ((e.len ≡ run_len (length (b ∷ rest)) (run e.start)) × MayRun t (b ∷ rest) (run e.start)) (λ w. number_at t (take e.len (b ∷ rest)) ≡ Some w)) none is.3 in
        let may : MayRun t (b ∷ rest) (run place) = subst (λ p. MayRun t (b ∷ rest) (run p)) (sym here) parts.1 in
        let cost : (run place).cost ≡ e.cost = ap (λ p. (run p).cost) here ∙ sym (is.4 ∙ ap (λ v. price_by key (run e.start).cost v) none) in
        let same : run_edge place (length (b ∷ rest)) (run place) ≡ e = parts_edge e place (run_len (length (b ∷ rest)) (run place)) (run place).cost None here (ap (λ p. run_len (length (b ∷ rest)) (run p)) here ∙ sym parts.0) (sym none) cost in
        subst (Contains (edges_from t key run place (b ∷ rest))) same
        (Contains-append_right (map (key_edge key place) (front t (b ∷ rest))) (run_edges place (length (b ∷ rest)) (own_run (run place) (front t (b ∷ rest))) ++ edges_from t key run (place + 1) rest) (run_edge place (length (b ∷ rest)) (run place))
        (Contains-append_left (run_edges place (length (b ∷ rest)) (own_run (run place) (front t (b ∷ rest)))) (edges_from t key run (place + 1) rest) (run_edge place (length (b ∷ rest)) (run place)) (run_there t (run place) place (b ∷ rest) (front t (b ∷ rest)) refl may)))
    by (Some v) some here =
        let held : number_at t (take e.len (b ∷ rest)) ≡ Some v = subst (λ w. MatchOption w ((e.len ≡ run_len (length (b ∷ rest)) (run e.start)) × MayRun t (b ∷ rest) (run e.start)) (λ x. number_at t (take e.len (b ∷ rest)) ≡ Some x)) some is.3 in
        let go = is.1 in
        let within = is.2 in
        let one : e.len - 1 + 1 ≡ e.len = omega (arith, go) in
        let found = front_from_held t (b ∷ rest) v (e.len - 1) (omega (arith, go, within)) (ap (λ m. number_at t (take m (b ∷ rest))) one ∙ held) in
        let cost : key v ≡ e.cost = sym (is.4 ∙ ap (λ x. price_by key (run e.start).cost x) some) in
        let same : key_edge key place (v, e.len - 1) ≡ e = parts_edge e place (e.len - 1 + 1) (key v) (Some v) here one (sym some) cost in
        subst (Contains (edges_from t key run place (b ∷ rest))) same
        (Contains-append_left (map (key_edge key place) (front t (b ∷ rest))) (run_edges place (length (b ∷ rest)) (own_run (run place) (front t (b ∷ rest))) ++ edges_from t key run (place + 1) rest) (key_edge key place (v, e.len - 1)) (into_map (key_edge key place) (front t (b ∷ rest)) (v, e.len - 1) found))

pub lattice_exact : (t : Tree) (key : ℤ → ℕ) (run : ℕ → UnknownRun) (text : List ℕ) (e : Edge) → Contains (edges_from t key run 0 text) e ↔ IsEdgeOf t key run text e
lattice_exact t key run text e = (
  λ c.
      let held = edge_held t key run text 0 e c in
      let at : held.0 ≡ e.start = (let is = held.1.0 in omega (arith, is)) in
      let within = held.1.2 in
      (held.1.1, omega (arith, within, at), subst (λ p. IsPieceBy t (run e.start) (drop p text) (e.start, e.len, e.value)) at held.1.3, held.1.4),
  λ is. edge_there t key run text 0 e e.start (omega arith, is.0, is.1, is.2, is.3),
)
