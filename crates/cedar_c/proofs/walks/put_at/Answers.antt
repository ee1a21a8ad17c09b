use Rattle.std.proofs.Common.{rules, ◌≡◌, ◌+◌, ◌++◌, ◌∷◌, List, drop, take, set, subst, sym, w32, FitsSigned}
use Rattle.std.specs.Prelude.{ℤ}
use Rattle.std.proofs.lemmas.Int.{to_z-of_z}
use Rattle.cedar_c.specs.declared.walks.Match.{Match}
use Rattle.cedar_c.specs.Matches.{filled_matches, longer, match_of}
use Rattle.cedar_c.proofs.MatchLemmas.{written}
use Rattle.cedar_c.proofs.walks.put_at.Goals as goal

pub returns-then-place-matches : goal.returns-then-place-matches
returns-then-place-matches c = λ rest.
    let matches = c.args.matches.now in
    let place = c.args.place in
    let found = c.args.found in
    let more = c.args.more in
    let fits : FitsSigned w32 found.0 = search rules in
    subst (λ (v : ℤ). let now : List Match = set matches place (match_of (v, found.1 + more)) in take (place + 1) now ++ filled_matches (drop (place + 1) now) rest ≡ take place matches ++ filled_matches (drop place matches) (longer more found ∷ rest))
    (sym (to_z-of_z w32 found.0 fits)) (written matches place (match_of (longer more found)) (longer more found) rest c.if-place-matches.true)
