use Rattle.std.proofs.Common.{◌∙◌, ◌++◌, ◌∷◌, [], ℤ, FitsSigned, ap, arith, rules, w32}
use Rattle.std.proofs.lemmas.Int.{to_z-of_z}
use Rattle.cedar_scan.proofs.ListedLemmas.{lists_none, lists_one}
use Rattle.cedar_scan.proofs.build.list_key.Goals as goal

pub returns-in_default : goal.returns-in_default
returns-in_default g c = lists_none c.args.node c.args.shorter c.args.keys.now.items c.in_default.is

pub returns : goal.returns
returns g c =
    let fits : FitsSigned w32 c.in-Some.value = search rules in
    lists_one c.args.node c.args.shorter c.args.keys.now.items c.in-Some.value c.in-Some.is c.in-Ok.index
    (c.in-Ok.ensures.1 ∙ c.len.ensures ∙ (let same = c.args.keys.now.ok in omega (arith, same)))
    c.push.new.self.items
    (c.in_ok-push.ensures.items ∙ ap (λ (v : ℤ). c.args.keys.now.items ++ record { len = c.args.node.depth; value = v; next = c.args.shorter } ∷ []) (to_z-of_z w32 c.in-Some.value fits))
