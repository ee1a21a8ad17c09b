-- How far a walk by an automaton is, and what it gives.
use Rattle.std.specs.Prelude.{◌≡◌, ℕ, ◌+◌, ◌-◌, ◌<◌, ◌≤◌, ◌&&◌, ℤ, Bool, true, List, []}
use Rattle.std.specs.Prelude.{◌∷◌, ◌++◌, IfNone, length, filter, take, MatchOption, MatchResult}
use Rattle.std.specs.Prelude.{Option, Result}
use Rattle.std.specs.declared.vec.Vec.{Vec}
use Rattle.std.specs.Coded.{Coded, code_by, coded×, coded_ℕ, coded_ℤ, coded_list}
use Rattle.std.proofs.Common.{refl}
use Rattle.cedar_tree.specs.Tree.{Tree}
use Rattle.cedar_tree.specs.Queries.{Entry}
use Rattle.cedar_tree.specs.Walks.{forwards, Visit, visited_entries, visits_after, visits_left}
use Rattle.cedarwood.specs.declared.error.CedarError.{CedarError}
use Rattle.cedarwood.specs.declared.error.CedarError.TheVariants.{Memory}
use Rattle.cedar_match.specs.declared.nodes.Node.{Node}

-- ---- the nodes of a tree, one after another

-- the path of a node that a walk comes to from another one: a front of that one's path, and a label of its own
abbrev pub path_on : List ℕ → Node → List ℕ
path_on path next = take (next.depth - 1) path ++ next.label ∷ []

-- a walk that was at a path and had these nodes left comes to the first of them. `stands path slot` says that the slot is the node at the path
pub record ReachesNode (stands : List ℕ → ℕ → Type 0) (tree : Tree) (left : List Visit) (path : List ℕ) (next : Node) : Type 0 where
  pub there : stands (path_on path next) next.slot
  pub visits : left ≡ (path_on path next, next.number) ∷ visits_left tree (forwards (path_on path next))
  pub deep : (0 < next.depth) × (next.depth ≤ length path + 1)

-- a walk goes from the node in a slot to the first of the nodes that it has left there, if there is one. `left` says which it has left at a
-- path
abbrev pub StepsOn : (List ℕ → ℕ → Type 0) → Tree → (List ℕ → List Visit) → ℕ → ℕ → Option Node → Type 0
StepsOn stands tree left slot depth next =
    (path : List ℕ) → stands path slot → length path ≡ depth → MatchOption next (left path ≡ []) (ReachesNode stands tree (left path) path)

-- the nodes that a walk has left where it has been at the node at a path, and not yet below it
abbrev pub left_from : Tree → List ℕ → List Visit
left_from tree path = visits_left tree (forwards path)

-- the nodes that a walk has left where it has been at the node at a path, but for those below it
abbrev pub left_past : Tree → List ℕ → List Visit
left_past tree path = visits_after tree (forwards path)

-- ---- those that an automaton goes to

-- the entries of some nodes that pass a test of their paths
abbrev pub wanted_entries : (List ℕ → Bool) → List Visit → List Entry
wanted_entries test visits = filter (λ e. test e.0) (visited_entries visits)

-- how many of some nodes have paths that pass a test
abbrev pub visit_count : (List ℕ → Bool) → List Visit → ℕ
visit_count test visits = length (filter (λ v. test v.0) visits)

-- whether an automaton may match after each front of some bytes but all of them: then a walk by it goes to the node at their end
unfoldable pub leads_on : {S : Type 0} → (S → ℕ → S) → (S → Bool) → S → List ℕ → Bool
leads_on after may state [] = true
leads_on after may state (b ∷ bytes) = may state && leads_on after may (after state b) bytes

-- the states after one byte, two, and so on up to all
unfoldable pub states_along : {S : Type 0} → (S → ℕ → S) → S → List ℕ → List S
states_along after state [] = []
states_along after state (b ∷ bytes) = after state b ∷ states_along after (after state b) bytes

-- an automaton goes on to the first of the nodes that are left to which it leads: what is wanted is still to come from there on
pub record MatchLeadsTo (stands : List ℕ → ℕ → Type 0) (tree : Tree) (accepts leads : List ℕ → Bool) (left : List Visit) (path : List ℕ) (next : Node) : Type 0 where
  pub there : stands (path_on path next) next.slot
  pub led : leads (path_on path next) ≡ true
  pub entries : wanted_entries accepts left ≡ wanted_entries accepts ((path_on path next, next.number) ∷ left_from tree (path_on path next))
  pub nodes : visit_count leads left ≡ 1 + visit_count leads (left_from tree (path_on path next))
  pub deep : (0 < next.depth) × (next.depth ≤ length path + 1)

-- an automaton leads to none of the nodes that are left, and none of their entries is wanted
pub record MatchEnds (accepts leads : List ℕ → Bool) (left : List Visit) : Type 0 where
  pub entries : wanted_entries accepts left ≡ []
  pub nodes : visit_count leads left ≡ 0

-- an automaton goes on from a path to the next node to which it leads (`MatchLeadsTo`), or there is none (`MatchEnds`)
abbrev pub MatchLeads : (List ℕ → ℕ → Type 0) → Tree → (List ℕ → Bool) → (List ℕ → Bool) → List ℕ → Option Node → Type 0
MatchLeads stands tree accepts leads path next =
    MatchOption next (MatchEnds accepts leads (left_from tree path)) (MatchLeadsTo stands tree accepts leads (left_from tree path) path)

-- this automaton goes on from the node at a path (`MatchLeads`)
abbrev pub LeadsToNext : {M S : Type 0} → (List ℕ → ℕ → Type 0) → Tree → (M → List ℕ → Bool) → (M → S → ℕ → S) → (M → S → Bool) → (M → S) → M → List ℕ → Option Node → Type 0
LeadsToNext stands tree accepts after may initial automaton path next =
    MatchLeads stands tree (accepts automaton) (leads_on (after automaton) (may automaton) (initial automaton)) path next

-- ---- the walk

-- a walk by an automaton stands at the node at the end of its key: the automaton has led there, and its states on the way are known
pub record IsMatchPlace {S : Type 0} (stands : List ℕ → ℕ → Type 0) (after : S → ℕ → S) (may : S → Bool) (initial : S) (key : List ℕ) (states : List S) (slot : ℕ) : Type 0 where
  pub there : stands key slot
  pub led : leads_on after may initial key ≡ true
  pub along : states ≡ states_along after initial key

-- a walk by this automaton stands there (`IsMatchPlace`)
abbrev pub IsMatchPlaceOf : {M S : Type 0} → (List ℕ → ℕ → Type 0) → (M → S → ℕ → S) → (M → S → Bool) → (M → S) → M → List ℕ → List S → ℕ → Type 0
IsMatchPlaceOf stands after may initial automaton key states slot =
    IsMatchPlace stands (after automaton) (may automaton) (initial automaton) key states slot

-- the entries that a walk by an automaton has left where it is at the node at a path
abbrev pub entries_to_come : Tree → (List ℕ → Bool) → List ℕ → List Entry
entries_to_come tree accepts path = wanted_entries accepts (left_from tree path)

-- how many nodes a walk by an automaton still goes to from the node at a path
abbrev pub nodes_to_come : Tree → (List ℕ → Bool) → List ℕ → ℕ
nodes_to_come tree leads path = visit_count leads (left_from tree path)

-- a walk by an automaton comes from one path to another, whose entry is the first that it had left
pub record ComesToMatch (tree : Tree) (accepts leads : List ℕ → Bool) (before after : List ℕ) (value : ℤ) : Type 0 where
  pub entries : entries_to_come tree accepts before ≡ (after, value) ∷ entries_to_come tree accepts after
  pub nodes : nodes_to_come tree leads after < nodes_to_come tree leads before

-- a walk by an automaton had no entry left, and has none
pub record ComesToEnd (tree : Tree) (accepts : List ℕ → Bool) (before after : List ℕ) : Type 0 where
  pub none_before : entries_to_come tree accepts before ≡ []
  pub none_after : entries_to_come tree accepts after ≡ []

-- a walk by an automaton stops short of a node, and has passed no entry that is wanted
pub record StopsShort (tree : Tree) (accepts leads : List ℕ → Bool) (before after : List ℕ) : Type 0 where
  pub entries : entries_to_come tree accepts before ≡ entries_to_come tree accepts after
  pub nodes : 0 < nodes_to_come tree leads after

-- a walk by this automaton comes from one path to another: to the first of the entries that it had left
-- (`ComesToMatch`), or it had none left (`ComesToEnd`)
abbrev pub GoesToMatch : {M S : Type 0} → Tree → (M → List ℕ → Bool) → (M → S → ℕ → S) → (M → S → Bool) → (M → S) → M → List ℕ → List ℕ → Option ℤ → Type 0
GoesToMatch tree accepts after may initial automaton before path found =
    let leads = leads_on (after automaton) (may automaton) (initial automaton) in
    MatchOption found (ComesToEnd tree (accepts automaton) before path) (ComesToMatch tree (accepts automaton) leads before path)

-- a walk by this automaton stops short of a node (`StopsShort`)
abbrev pub StopsBeforeNode : {M S : Type 0} → Tree → (M → List ℕ → Bool) → (M → S → ℕ → S) → (M → S → Bool) → (M → S) → M → List ℕ → List ℕ → Type 0
StopsBeforeNode tree accepts after may initial automaton before path =
    StopsShort tree (accepts automaton) (leads_on (after automaton) (may automaton) (initial automaton)) before path

-- a walk by this automaton that came from one path to another has no more nodes to go to than it had
abbrev pub HasNoMoreToCome : {M S : Type 0} → Tree → (M → S → ℕ → S) → (M → S → Bool) → (M → S) → M → List ℕ → List ℕ → Type 0
HasNoMoreToCome tree after may initial automaton before path =
    let leads = leads_on (after automaton) (may automaton) (initial automaton) in
    nodes_to_come tree leads path ≤ nodes_to_come tree leads before

-- a walk by this automaton that found no entry, and is at a path now, has no node left to go to
abbrev pub LeavesNoNode : {M S : Type 0} → Tree → (M → S → ℕ → S) → (M → S → Bool) → (M → S) → M → List ℕ → Option ℤ → Type 0
LeavesNoNode tree after may initial automaton path found =
    IfNone found (nodes_to_come tree (leads_on (after automaton) (may automaton) (initial automaton)) path ≡ 0)

-- a walk by this automaton that came from one path to another counted each node that it came to
abbrev pub CountsNodes : {M S : Type 0} → Tree → (M → S → ℕ → S) → (M → S → Bool) → (M → S) → M → List ℕ → List ℕ → ℕ → ℕ → Type 0
CountsNodes tree after may initial automaton before path old new =
    let leads = leads_on (after automaton) (may automaton) (initial automaton) in
    new + nodes_to_come tree leads path ≡ old + nodes_to_come tree leads before

-- what a caller sees of a walk by an automaton: the key that it holds, the entries that it has left, and how many nodes it still goes to at
-- most
pub record MatchWalk : Type 0 where
  pub key : List ℕ
  pub left : List Entry
  pub nodes : ℕ

-- a walk gives the first of the entries that it has left, and then holds its key and has fewer nodes to go to; or none
-- is left
abbrev pub GivesMatch : MatchWalk → MatchWalk → Option ℤ → Type 0
GivesMatch old new found =
    MatchOption found ((old.left ≡ []) × (new.left ≡ [])) (λ value. (old.left ≡ (new.key, value) ∷ new.left) × (new.nodes < old.nodes))

-- a walk gives the first of the entries that it has left (`GivesMatch`), with a copy of its key
abbrev pub GivesCopy : {A : Type 0} → MatchWalk → MatchWalk → Option (Vec ℕ A × ℤ) → Type 0
GivesCopy old new found =
    MatchOption found ((old.left ≡ []) × (new.left ≡ [])) (λ entry. (old.left ≡ (entry.0.items, entry.1) ∷ new.left) × (new.nodes < old.nodes))

-- a walk gives the first of the entries that it has left as an item; if the item fails, then with `Memory`, and it is the last one; or
-- none is left
abbrev pub GivesItem : {A : Type 0} → MatchWalk → Option (Result (Vec ℕ A × ℤ) CedarError) → MatchWalk → Type 0
GivesItem old item new =
    MatchOption item ((old.left ≡ []) × (new.left ≡ [])) (λ found. MatchResult found
    (λ entry. old.left ≡ (entry.0.items, entry.1) ∷ new.left)
    (λ error. (error ≡ Memory) × (new.left ≡ [])))

-- a walk that gives an item counts each node that it comes to. If the item fails, it goes to no other node
abbrev pub CountsItem : {I : Type 0} → MatchWalk → MatchWalk → ℕ → ℕ → Option (Result I CedarError) → Type 0
CountsItem old new before after item =
    let counted = after + new.nodes ≡ before + old.nodes in
    MatchOption item counted (λ found. MatchResult found (λ _. counted) (λ _. (new.nodes ≡ 0) × (after ≤ before + old.nodes)))

-- a walk by an automaton as plain data, for `impl Model` alone
abbrev pub match_walk_code : Coded MatchWalk
match_walk_code =
    code_by (List ℕ × (List (List ℕ × ℤ) × ℕ)) (coded× (coded_list coded_ℕ) (coded× (coded_list (coded× (coded_list coded_ℕ) coded_ℤ)) coded_ℕ))
    (λ c. (c.key, (c.left, c.nodes)))
    (λ p. record { key = p.0; left = p.1.0; nodes = p.1.1 })
    (λ _. refl)
