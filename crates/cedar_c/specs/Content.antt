-- What a handle has.
use Rattle.std.specs.Prelude.{◌≡◌, ℕ, ℤ, List, Option, None, Some, option_map}
use Rattle.cedarwood.specs.Layouts.{LayoutKind}
use Rattle.cedarwood.specs.Dictionary.{Dictionary}
use Rattle.cedarwood.specs.Erasures.{IsErasedUnder}
use Rattle.cedarwood.specs.State.{State}
use Rattle.cedarwood.specs.Tree.{Tree, empty_tree}
use Rattle.cedar_c.specs.Layouts.{inner_dictionary, inner_layout}
use Rattle.either_layout.specs.declared.any.AnyCedar.{AnyCedar}
use Rattle.cedar_c.specs.declared.handle.Handle.{Handle}

-- the dictionary that a handle has, of either layout, or none if it is closed
abbrev pub content : Handle → Option AnyCedar
content h = h.held.value

-- the layout of a handle's dictionary, if it is open
abbrev pub layout_in : Handle → Option LayoutKind
layout_in h = option_map inner_layout (content h)

-- the state of a handle's dictionary, if it is open
abbrev pub state_in : Handle → Option State
state_in h = option_map (λ a. (inner_dictionary a).state) (content h)

-- the tree of marks of a handle's dictionary, if it is open
abbrev pub marks_in : Handle → Option Tree
marks_in h = option_map (λ a. (inner_dictionary a).marked) (content h)

-- how many failed searches close a block of a handle's dictionary, if it is open
abbrev pub trials_in : Handle → Option ℤ
trials_in h = option_map (λ a. (inner_dictionary a).max_trial) (content h)

-- how many blocks one search for places in a handle's dictionary tries at most, if it is open
abbrev pub search_limit_in : Handle → Option ℕ
search_limit_in h = option_map (λ a. (inner_dictionary a).search_limit) (content h)

-- the tree of what a handle has: the empty tree if it is closed
abbrev pub content_tree : Option AnyCedar → Tree
content_tree None = empty_tree
content_tree (Some a) = (inner_dictionary a).state.tree

-- the tree that a handle's results come from: the empty tree if it is closed
abbrev pub tree_in : Handle → Tree
tree_in h = content_tree (content h)

-- a figure of what a handle has: 0 if it is closed
abbrev pub content_figure : (Dictionary → ℕ) → Option AnyCedar → ℕ
content_figure f None = 0
content_figure f (Some a) = f (inner_dictionary a)

-- a figure of a handle: 0 if it is closed
abbrev pub figure_of : (Dictionary → ℕ) → Handle → ℕ
figure_of f h = content_figure f (content h)

-- how many slots are in use in a handle's dictionary: 0 if it is closed
abbrev pub size_in : Handle → ℕ
size_in = figure_of (λ d. d.size)

-- how many slots there are in a handle's dictionary: 0 if it is closed
abbrev pub capacity_in : Handle → ℕ
capacity_in = figure_of (λ d. d.capacity)

-- all keys that begin with a prefix are erased, and `count` is how many these were
abbrev pub ErasesUnder : List ℕ → ℕ → AnyCedar → AnyCedar → Type 0
ErasesUnder prefix count a b = IsErasedUnder (inner_dictionary a) (inner_dictionary b) prefix count

-- a handle that is open stays open, and its dictionaries before and after are related by P
abbrev pub ChangesBy : (AnyCedar → AnyCedar → Type 0) → Handle → Handle → Type 0
ChangesBy P before after = (a : AnyCedar) × (b : AnyCedar) × (content before ≡ Some a) × (content after ≡ Some b) × P a b
