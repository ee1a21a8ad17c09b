-- Suffixes of a text that lead to nodes of a tree, and those that are keys.
use Rattle.std.specs.Prelude.{ℕ, ◌+◌, ◌-◌, Bool, true, ◌&&◌, if◌then◌else◌, ℤ, List, []}
use Rattle.std.specs.Prelude.{◌∷◌, ◌++◌, length, map, option_map}
use Rattle.std.specs.List.{cons_option}
use Rattle.cedar_tree.specs.Tree.{has_label, number_at, subtree, Tree}

-- whether a path leads to a node: in a sound tree each front of a key does
abbrev pub is_node : Tree → List ℕ → Bool
is_node t [] = true
is_node t (l ∷ path) = has_label t.children l && is_node (subtree t.children l) path

-- the longest suffix that leads to a node: what a scan stands for that has read a text
abbrev pub held_suffix : Tree → List ℕ → List ℕ
held_suffix t [] = []
held_suffix t (b ∷ text) = if is_node t (b ∷ text) then b ∷ text else held_suffix t text

-- the longest proper suffix of a path that leads to a node: where its node's failure link leads
abbrev pub failure : Tree → List ℕ → List ℕ
failure t [] = []
failure t (b ∷ path) = held_suffix t path

-- the keys that end where a text does, the longest first: for each its number, and how many bytes it has
abbrev pub keys_ending : Tree → List ℕ → List (ℤ × ℕ)
keys_ending t [] = []
keys_ending t (b ∷ text) = cons_option (option_map (λ v. (v, length (b ∷ text))) (number_at t (b ∷ text))) (keys_ending t text)

-- a key in a text: where it begins, how many bytes it has, and its number
abbrev pub Occurrence : Type 0
Occurrence = ℕ × ℕ × ℤ

-- a key that was found to end at a position, by its number and its bytes
abbrev pub occurrence_ending : ℕ → ℤ × ℕ → Occurrence
occurrence_ending end found = (end - found.1, found.1, found.0)

-- the keys that end in the bytes that are left of a text, of which these were read up to a position: end after end, and at each the
-- longest first
abbrev pub all_ending : Tree → List ℕ → ℕ → List ℕ → List Occurrence
all_ending t read place [] = []
all_ending t read place (b ∷ rest) =
    map (occurrence_ending (place + 1)) (keys_ending t (read ++ b ∷ [])) ++ all_ending t (read ++ b ∷ []) (place + 1) rest

-- all keys in a text, by their ends
abbrev pub overlapping : Tree → List ℕ → List Occurrence
overlapping t text = all_ending t [] 0 text
