use Rattle.std.proofs.Common.{rules, refl}
use Rattle.cedar_model.proofs.RelocationLemmas.WantedLabels.{all_last, all_placed, BeforeLabel, put_before, put_later, put_new, writing_none, written}
use Rattle.cedar_edit.proofs.WantedRoom.{room_at_end, room_before}
use Rattle.cedar_edit.proofs.relocation.resolve.labels_with.Goals as goal
use Rattle.cedar_edit.proofs.relocation.resolve.labels_with.Goals.{then-not-placed+then-goes_before, else-not-placed, else-not-placed-via-then-not-placed+else-goes_before, else-not-placed-via-else-not-placed}

pub loop-other-init : goal.loop-other-init
loop-other-init g c = writing_none _ _ _ _ c.new-wanted.ensures

pub push-requires : goal.push-requires
push-requires g c =
    (search rules, room_at_end _ _ _ _ _ _ _ c.loop-other.auto.other-index-end c.requires.few c.if-not-placed.true c.loop-other.invariant)

pub push-requires-in-loop-other : goal.push-requires-in-loop-other
push-requires-in-loop-other g c =
    let h = c.loop-other-test.true in
    let w = c.loop-other.invariant in
    let next : BeforeLabel c.args.table.now.ordered c.args.label c.args.labels.now c.if-not-placed.wanted.items c.loop-other.other-index c.if-not-placed.placed = elim c.if-not-placed.branch [
      | then-not-placed+then-goes_before v ↦ put_new _ _ _ _ _ _ _ _ _ h v.if-not-placed.true v.goes_before.ensures v.if-goes_before.true (cc) v.placed-is w
      | else-not-placed v ↦ elim v.else-not-placed.branch [
        | else-not-placed-via-then-not-placed+else-goes_before u ↦ put_later _ _ _ _ _ _ _ _ _ h u.if-not-placed.true u.goes_before.ensures u.if-goes_before.false (cc) v.placed-is w
        | else-not-placed-via-else-not-placed u ↦ put_before _ _ _ _ _ _ _ _ h u.if-not-placed.false (cc) v.placed-is w
      ]
    ] in
    (search rules, room_before _ _ _ _ _ _ _ h c.requires.few next)

pub loop-other-preserved : goal.loop-other-preserved
loop-other-preserved g c =
    let h = c.loop-other-test.true in
    let w = c.loop-other.invariant in
    let next : BeforeLabel c.args.table.now.ordered c.args.label c.args.labels.now c.if-not-placed.wanted.items c.loop-other.other-index c.if-not-placed.placed = elim c.if-not-placed.branch [
      | then-not-placed+then-goes_before v ↦ put_new _ _ _ _ _ _ _ _ _ h v.if-not-placed.true v.goes_before.ensures v.if-goes_before.true (cc) v.placed-is w
      | else-not-placed v ↦ elim v.else-not-placed.branch [
        | else-not-placed-via-then-not-placed+else-goes_before u ↦ put_later _ _ _ _ _ _ _ _ _ h u.if-not-placed.true u.goes_before.ensures u.if-goes_before.false (cc) v.placed-is w
        | else-not-placed-via-else-not-placed u ↦ put_before _ _ _ _ _ _ _ _ h u.if-not-placed.false (cc) v.placed-is w
      ]
    ] in
    written _ _ _ _ _ _ _ _ refl c.push-in-loop-other.ensures.items next

pub push-requires-then-not-placed-2 : goal.push-requires-then-not-placed-2
push-requires-then-not-placed-2 g c =
    (search rules, room_at_end _ _ _ _ _ _ _ c.loop-other.auto.other-index-end c.requires.few c.if-not-placed-2.true c.loop-other.invariant)

pub returns-then-not-placed-2 : goal.returns-then-not-placed-2
returns-then-not-placed-2 g c =
    all_last _ _ _ _ _ _ _ c.loop-other-test.false c.if-not-placed-2.true c.push-then-not-placed-2.ensures.items c.loop-other.invariant

pub returns-else-not-placed-2 : goal.returns-else-not-placed-2
returns-else-not-placed-2 g c = all_placed _ _ _ _ _ _ c.loop-other-test.false c.if-not-placed-2.false c.loop-other.invariant
