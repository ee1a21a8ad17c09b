use Rattle.std.proofs.Common.{rules, w32, to_z, of_z, FitsSigned, sym, ◌∙◌, ap}
use Rattle.std.proofs.lemmas.Int.{to_z-of_z}
use Rattle.plain_tree.proofs.QueryLemmas.{front_held, front_not_held}
use Rattle.plain_tree.proofs.tree.PlainTree.front.Goals as goal
use Rattle.plain_tree.proofs.tree.PlainTree.front.Goals.{in-Some+in_ok-push, in_default}

pub loop-last-preserved : goal.loop-last-preserved
loop-last-preserved g c =
    elim c.match-number_at.branch [
      | in-Some+in_ok-push w ↦
          let fits : FitsSigned w32 w.in-Some.number = search rules in
          ap (λ (v : _). v.items) w.found-is
          ∙ front_held c.args.self.now c.args.query.now c.loop-last.last w.in-Some.number (to_z w32 (of_z w32 w.in-Some.number)) c.loop-last.found.items w.push.new.self.items
          (sym c.number_at.ensures ∙ w.in-Some.is) (to_z-of_z w32 w.in-Some.number fits) c.loop-last.invariant w.in_ok-push.ensures.items
      | in_default w ↦
          ap (λ (v : _). v.items) w.found-is
          ∙ front_not_held c.args.self.now c.args.query.now c.loop-last.last c.loop-last.found.items (sym c.number_at.ensures ∙ w.in_default.is) c.loop-last.invariant
    ]
