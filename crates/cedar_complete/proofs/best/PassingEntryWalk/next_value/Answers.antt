use Rattle.std.proofs.Common.{◌≡◌, ◌∷◌, [], ℕ, ℤ, List, None, Option, Some, MatchOption}
use Rattle.cedar_tree.specs.Queries.{Entry}
use Rattle.cedar_complete.proofs.best.PassingEntryWalk.next_value.Goals as goal

first_alone : (old new : List Entry) (key : List ℕ) (found : Option ℤ) → MatchOption found ((old ≡ []) × (new ≡ [])) (λ value. old ≡ (key, value) ∷ new)
    → MatchOption found (old ≡ []) (λ value. old ≡ (key, value) ∷ new)
first_alone old new key None is = is.0
first_alone old new key (Some value) is = is

pub returns-in-Ok : goal.returns-in-Ok
returns-in-Ok g c = first_alone c.args.self.now.cursor.left c.advance.new.self.left c.advance.new.self.key c.in-Ok.found c.in-Ok.ensures.found
