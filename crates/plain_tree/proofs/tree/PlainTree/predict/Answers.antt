use Rattle.std.proofs.Common.{rules, ◌≡◌, ◌-◌, length, nat_eq, w32, to_z, of_z, FitsSigned, sym, ◌∙◌, ap, arith}
use Rattle.std.specs.List.{starts_with}
use Rattle.std.proofs.lemmas.Int.{to_z-of_z}
use Rattle.plain_tree.specs.Listing.{vector_entries}
use Rattle.plain_tree.proofs.QueryLemmas.{predict_begins, predict_differs, predict_all}
use Rattle.plain_tree.proofs.tree.PlainTree.predict.Goals as goal
use Rattle.plain_tree.proofs.tree.PlainTree.predict.Goals.{then-starts_with+in_ok-push, else-starts_with}

pub loop-path-preserved : goal.loop-path-preserved
loop-path-preserved g c =
    let value : starts_with nat_eq c.loop-path-item.result.0.items c.args.query.now ≡ c.starts_with.result =
    ap (λ (path : _). starts_with nat_eq path c.args.query.now) (sym c.as_slice.ensures.value) ∙ sym c.starts_with.ensures.value in
    elim c.if-starts_with.branch [
      | then-starts_with+in_ok-push w ↦
          let fits : FitsSigned w32 c.loop-path-item.result.1 = search rules in
          let left : w.len.result - length c.args.query.now ≡ length c.loop-path-item.result.0.items - length c.args.query.now = omega (arith, w.len.ensures, c.loop-path-item.result.0.ok.0) in
          ap (λ (v : _). v.items) w.found-is
          ∙ predict_begins c.args.query.now c.deref-path-items.result.now c.loop-path.path-index c.loop-path-item.result c.loop-path-test.true c.loop-path-item.is
          (to_z w32 (of_z w32 c.loop-path-item.result.1)) (w.len.result - length c.args.query.now) c.loop-path.found.items w.push.new.self.items (value ∙ w.if-starts_with.true)
          (to_z-of_z w32 c.loop-path-item.result.1 fits) left c.loop-path.invariant w.in_ok-push.ensures.items
      | else-starts_with w ↦
          ap (λ (v : _). v.items) w.found-is
          ∙ predict_differs c.args.query.now c.deref-path-items.result.now c.loop-path.path-index c.loop-path-item.result c.loop-path-test.true c.loop-path-item.is
          c.loop-path.found.items (value ∙ w.if-starts_with.false) c.loop-path.invariant
    ]

pub returns : goal.returns
returns g c =
    predict_all c.args.query.now c.args.self.now c.deref-path-items.result.now c.loop-path.path-index c.loop-path-test.false
    (ap vector_entries c.deref-path-items.ensures.value ∙ c.in_ok-entries.ensures) c.loop-path.found.items c.loop-path.invariant
