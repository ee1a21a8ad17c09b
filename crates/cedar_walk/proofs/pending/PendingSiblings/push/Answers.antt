use Rattle.std.proofs.Common.{◌≡◌, ◌<◌, ◌∷◌, ◌∙◌, length, ap, arith, rules}
use Rattle.cedar_walk.specs.Pending.{kept_behind}
use Rattle.cedar_walk.proofs.WalkLemmas.Waiting.{put_free}
use Rattle.cedar_walk.proofs.pending.PendingSiblings.push.Goals as goal

pub returns : goal.returns
returns c =
    let all : length c.self.inside.kept ≡ 16 = search rules in
    let inside : c.self.inside.len < length c.self.inside.kept = omega (arith, all, c.self.invariant, c.if-self-eq-ROOM.false) in
    put_free c.self.inside.kept c.self.inside.len c.args.sibling inside c.if-self-eq-ROOM.false ∙ ap (λ xs. c.args.sibling ∷ kept_behind xs) c.self.view_is
