-- What the results of a dictionary depend on.
use Rattle.std.specs.Prelude.{ℕ, Bool, true, ℤ, List}
use Rattle.std.specs.Coded.{Coded, code_by, coded×, coded_bool}
use Rattle.std.proofs.Common.{refl}
use Rattle.cedar_tree.specs.Tree.{Tree, empty_tree, put, cut}
use Rattle.cedar_tree.specs.Stored.{coded_tree}

-- a tree, and whether the labels of its nodes ascend
pub record State : Type 0 where
  pub tree : Tree
  pub ordered : Bool

-- the state after a put of v at a path
abbrev pub after_put : State → List ℕ → ℤ → State
after_put s path v = record { tree = put s.tree s.ordered path v; ordered = s.ordered }

-- the state after a cut at a path
abbrev pub after_erase : State → List ℕ → State
after_erase s path = record { tree = cut s.tree path; ordered = s.ordered }

-- a state as plain data, by which a proof distinguishes states. It serves `impl Model` alone.
abbrev pub state_code : Coded State
state_code = code_by (Tree × Bool) (coded× coded_tree coded_bool) (λ s. (s.tree, s.ordered)) (λ p. record { tree = p.0; ordered = p.1 }) (λ _. refl)

-- the state of a new dictionary: the empty tree, whose labels ascend
abbrev pub new_state : State
new_state = record { tree = empty_tree; ordered = true }
