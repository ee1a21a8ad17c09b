-- What a walk that is under way has left.
use Rattle.std.specs.Prelude.{ℕ, ◌+◌, ◌-◌, ◌==◌, if◌then◌else◌, ℤ, List, [], ◌∷◌, ◌++◌}
use Rattle.std.specs.Prelude.{length, take, map, Option, option_map}
use Rattle.std.specs.List.{filter_map, range_with_len}
use Rattle.cedar_tree.specs.Tree.{Forest, none, child, Tree, subtree, number_at}
use Rattle.cedar_tree.specs.Queries.{Entry}

-- `front` from a position on: for each n from there below the length of q, where the first n + 1 bytes of q are held, their
-- number, and n
abbrev pub front_from : Tree → List ℕ → ℕ → List (ℤ × ℕ)
front_from t q place = filter_map (λ n. option_map (λ v. (v, n)) (number_at t (take (n + 1) q))) (range_with_len place (length q - place))

-- a node that a walk comes to: its path, and its number if it has one
abbrev pub Visit : Type 0
Visit = List ℕ × Option ℤ

-- a node of the tree at a path, as one of the whole tree
abbrev pub visit_from : List ℕ → Visit → Visit
visit_from path visit = (path ++ visit.0, visit.1)

-- all nodes of some siblings: each before its children, children in their order
abbrev pub visits_below : Forest → List Visit
visits_below none = []
visits_below (child l n below rest) = map (visit_from (l ∷ [])) (([], n) ∷ visits_below below) ++ visits_below rest

-- the entries of some nodes: those that have a number
abbrev pub visited_entries : List Visit → List Entry
visited_entries visits = filter_map (λ visit. option_map (λ v. (visit.0, v)) visit.1) visits

-- the siblings after the one with this label
abbrev pub behind : Forest → ℕ → Forest
behind none label = none
behind (child l n below rest) label = if l == label then rest else behind rest label

-- a path that is given from its last label to its first, turned round
abbrev pub forwards : List ℕ → List ℕ
forwards [] = []
forwards (label ∷ up) = forwards up ++ label ∷ []

-- the tree at the end of a path that is given from its last label to its first
abbrev pub node_up : Tree → List ℕ → Tree
node_up t [] = t
node_up t (label ∷ up) = subtree (node_up t up).children label

-- what a walk has left once it is through with the tree at the end of a path, given from its last label to its first
abbrev pub visits_after : Tree → List ℕ → List Visit
visits_after t [] = []
visits_after t (label ∷ up) =
    map (visit_from (forwards up)) (visits_below (behind (node_up t up).children label)) ++ visits_after t up

-- what a walk has left once it has been at the node at the end of a path, given from its last label to its first, and
-- not yet below it
abbrev pub visits_left : Tree → List ℕ → List Visit
visits_left t up = map (visit_from (forwards up)) (visits_below (node_up t up).children) ++ visits_after t up

-- all nodes of a tree, as a walk from its root on visits them
abbrev pub tree_visits : Tree → List Visit
tree_visits t = ([], t.number) ∷ visits_left t []
