use Rattle.std.proofs.Common.{◌≡◌, ◌≤ℤ◌, ◌∙◌, ap, FitsSigned, pos, rules, subst, sym, unsigned_abs, w32}
use Rattle.std.proofs.lemmas.Int.{to_z-of_z}
use Rattle.cedar_slots.specs.declared.records.NodeRecord.{NodeRecord}
use Rattle.cedar_slots.specs.Slots.{check_at, blank_node}
use Rattle.cedar_slots.proofs.RingsLemmas.LinkRead.{turned, turned_fits, turned_natural}
use Rattle.cedar_slots.proofs.slots.Slots.next_free.Goals as goal

pub overflow_sub-result : goal.overflow_sub-result
overflow_sub-result g c =
    let fits : FitsSigned w32 c.at.result.check = search rules in
    turned_fits c.from.result (subst (FitsSigned w32) (sym (c.from.ensures ∙ to_z-of_z w32 _ fits)) fits)

pub overflow_cast-result : goal.overflow_cast-result
overflow_cast-result g c =
    let fits : FitsSigned w32 c.at.result.check = search rules in
    let is = c.from.ensures ∙ to_z-of_z w32 _ fits in
    let read : c.at.result.check ≡ check_at c.args.self.now.nodes.items c.args.slot = ap (λ (n : NodeRecord). n.check) (c.at.ensures blank_node) in
    turned_natural c.from.result _ (turned c.from.result (subst (FitsSigned w32) (sym is) fits) (subst (λ z. z ≤ℤ pos 0) (sym (is ∙ read)) c.requires.is_link))

pub returns : goal.returns
returns g c =
    let fits : FitsSigned w32 c.at.result.check = search rules in
    let is = c.from.ensures ∙ to_z-of_z w32 _ fits in
    let read : c.at.result.check ≡ check_at c.args.self.now.nodes.items c.args.slot = ap (λ (n : NodeRecord). n.check) (c.at.ensures blank_node) in
    let t = turned c.from.result (subst (FitsSigned w32) (sym is) fits) (subst (λ z. z ≤ℤ pos 0) (sym (is ∙ read)) c.requires.is_link) in
    ap unsigned_abs t.is ∙ ap unsigned_abs (is ∙ read)
