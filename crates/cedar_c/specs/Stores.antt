-- What a call says that stores many pairs.
use Rattle.std.specs.Prelude.{◌≡◌, ◌<◌, ◌≤◌, ℕ, List, length, take, None, option_map}
use Rattle.cedarwood.specs.Tree.{number_at}
use Rattle.cedarwood.specs.Queries.{Entry}
use Rattle.cedarwood.specs.Builds.{all_stored, path_at}
use Rattle.cedarwood.specs.declared.error.CedarError.{CedarError}
use Rattle.cedar_c.specs.Content.{content, state_in, tree_in}
use Rattle.cedar_c.specs.Status.{TellsFault}
use Rattle.cedar_c.specs.declared.handle.Handle.{Handle}

-- the first ones of some entries are stored in a handle's dictionary, and nothing else
abbrev pub HoldsFront : Handle → Handle → List Entry → Type 0
HoldsFront before after entries =
    (m : ℕ) × (m ≤ length entries) × (state_in after ≡ option_map (λ s. all_stored s (take m entries)) (state_in before))

-- the entries before one whose key isn't held then are stored in a handle's dictionary, and nothing else
abbrev pub HoldsPart : Handle → Handle → List Entry → Type 0
HoldsPart before after entries = (m : ℕ) × (m < length entries)
    × (state_in after ≡ option_map (λ s. all_stored s (take m entries)) (state_in before)) × (number_at (tree_in after) (path_at entries m) ≡ None)

-- nothing has changed, and this fault is returned (`TellsFault`). `found` and `told` are the position before and
-- after
abbrev pub RefusesAll : Handle → Handle → ℕ → ℕ → ℕ → CedarError → Type 0
RefusesAll before after found told status e = (content after ≡ content before) × TellsFault found told status e
