use Rattle.std.proofs.Common.{rules, ◌≡◌, ◌∷◌, ◌++◌, [], sym}
use Rattle.uses.proofs.pages.page_behind.Goals as goal

pub returns : goal.returns
returns g c =
    let key : c.deref.result.now ≡ c.args.shown.now ++ 0 ∷ [] = search rules in
    rw (sym key) c.page_from.ensures
