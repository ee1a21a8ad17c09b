-- What is at a path once a file was saved there.
use Rattle.std.specs.Prelude.{◌≡◌, Bool, ℕ, List, Some}
use Rattle.cedarwood.specs.Words.{Call, Content, IsPlaced, PathLeaves}

-- at this path a new file of these bytes was given its place by these calls; and whatever was there before them, a
-- crash leaves a file of these bytes there
pub record IsThere (path bytes : List ℕ) (calls : List Call) : Type 0 where
  pub placed : IsPlaced path bytes calls
  pub stays : (before : Content → Bool) (c : Content) → PathLeaves before calls c → c ≡ Some bytes
