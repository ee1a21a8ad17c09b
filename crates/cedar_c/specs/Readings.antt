-- What a handle has that only reads.
use Rattle.std.specs.Prelude.{ℕ, Option, option_map}
use Rattle.cedarwood.specs.Layouts.{LayoutKind}
use Rattle.cedarwood.specs.Dictionary.{Dictionary}
use Rattle.cedarwood.specs.Tree.{Tree}
use Rattle.cedar_c.specs.Content.{content_figure, content_tree}
use Rattle.cedar_c.specs.Layouts.{inner_layout}
use Rattle.either_layout.specs.declared.any.AnyCedar.{AnyCedar}
use Rattle.cedar_c.specs.declared.reading.Reading.{Reading}

-- the dictionary of a handle that only reads, of either layout, or none if it is closed
abbrev pub shown_in : Reading → Option AnyCedar
shown_in r = r.shown.value

-- the layout of the dictionary of a handle that only reads, if it is open
abbrev pub shown_layout : Reading → Option LayoutKind
shown_layout r = option_map inner_layout (shown_in r)

-- the tree that the results of a handle that only reads come from: the empty tree if it is closed
abbrev pub shown_tree : Reading → Tree
shown_tree r = content_tree (shown_in r)

-- a figure of a handle that only reads: 0 if it is closed
abbrev pub shown_figure : (Dictionary → ℕ) → Reading → ℕ
shown_figure f r = content_figure f (shown_in r)
