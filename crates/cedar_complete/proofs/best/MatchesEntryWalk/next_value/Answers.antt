use Rattle.std.proofs.Common.{◌≡◌, ◌∷◌, ◌<◌, [], ℕ, ℤ, List, None, Option, Some, MatchOption}
use Rattle.cedar_tree.specs.Queries.{Entry}
use Rattle.cedar_complete.proofs.best.MatchesEntryWalk.next_value.Goals as goal

entry_alone : (old new : List Entry) (key : List ℕ) (less more : ℕ) (found : Option ℤ)
    → MatchOption found ((old ≡ []) × (new ≡ [])) (λ value. (old ≡ (key, value) ∷ new) × (less < more)) → MatchOption found (old ≡ []) (λ value. old ≡ (key, value) ∷ new)
entry_alone old new key less more None is = is.0
entry_alone old new key less more (Some value) is = is.0

pub returns-in-Ok : goal.returns-in-Ok
returns-in-Ok g c =
    let old = c.args.self.now.walk in
    let new = c.advance.new.self in
    entry_alone old.left new.left new.key new.nodes old.nodes c.in-Ok.found c.in-Ok.ensures.found
