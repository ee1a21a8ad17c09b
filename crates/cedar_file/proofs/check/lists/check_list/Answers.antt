use Rattle.std.proofs.Common.{◌≡◌, ◌<◌, [], FitsSigned, ap, arith, of_z, pos, refl, rules, subst, sym, to_z, unsigned_abs, w32, ◌∙◌}
use Rattle.std.proofs.lemmas.Bool.{false≢true}
use Rattle.cedar_slots.proofs.Casts.{bits_of, cast_is, cast_natural, not_negative}
use Rattle.cedar_slots.specs.Blocks.{BlockLink}
use Rattle.cedar_file.specs.PlaceChecks.{HasRing, in_ring, ring_count}
use Rattle.cedar_slots.specs.Views.{blocks_of}
use Rattle.cedar_file.proofs.ChecksLemmas.Outcome.{ok_iff_same}
use Rattle.cedar_file.proofs.ChecksLemmas.Cycle.{passing-le}
use Rattle.cedar_file.proofs.ChecksLemmas.ListsRead.{empty_list, head_here, head_of_empty, list_from_cycle}
use Rattle.cedar_file.proofs.check.lists.check_list.Goals as goal
use Rattle.cedar_file.proofs.check.lists.check_list.Goals.{then-head-lt0-via-then-head-lt0, then-head-lt0-via-else-head-lt0+then-not-belongs_in}

pub returns-then-head-ne0-clause-answer : goal.returns-then-head-ne0-clause-answer
returns-then-head-ne0-clause-answer g c = λ has.
    let blocks = blocks_of c.args.blocks.now in
    let none : ring_count blocks c.args.list ≡ 0 = sym c.count_ring-count.ensures.value ∙ c.if-count-eq0.true in
    let head : c.head-head.result ≡ pos 0 = c.head-head.ensures ∙ head_of_empty blocks c.args.list c.requires.other has.0 has.1 none in
    c.if-head-ne0.true (ap (of_z w32) head)

pub returns-then-count-eq0-clause-answer : goal.returns-then-count-eq0-clause-answer
returns-then-count-eq0-clause-answer g c =
    let blocks = blocks_of c.args.blocks.now in
    let none : ring_count blocks c.args.list ≡ 0 = sym c.count_ring-count.ensures.value ∙ c.if-count-eq0.true in
    let fits : FitsSigned w32 c.head-head.result = search rules in
    let head : c.head-head.result ≡ pos 0 = bits_of w32 _ fits 0 (search rules) c.if-head-ne0.false in
    (([], empty_list blocks c.args.list c.requires.other none (sym c.head-head.ensures ∙ head)), refl)

pub returns-then-head-lt0-clause-answer : goal.returns-then-head-lt0-clause-answer
returns-then-head-lt0-clause-answer g c = λ has.
    let blocks = blocks_of c.args.blocks.now in
    let some : 0 < ring_count blocks c.args.list = omega (arith, c.count_ring-count.ensures.value) in
    let at = head_here blocks c.args.list c.requires.other has.0 has.1 some in
    let head : c.head-head.result ≡ pos at.0 = c.head-head.ensures ∙ at.1 in
    let fits : FitsSigned w32 c.head-head.result = search rules in
    elim c.then-head-lt0.branch [
      | then-head-lt0-via-then-head-lt0 w ↦ not_negative w32 _ fits at.0 head w.if-head-lt0.true
      | then-head-lt0-via-else-head-lt0+then-not-belongs_in w ↦
          let same : at.0 ≡ unsigned_abs (to_z w32 (of_z w32 c.head-head.result)) = sym (cast_is w32 _ fits at.0 head) in
          absurd (false≢true (sym w.if-not-belongs_in.true ∙ w.belongs_in.ensures.value ∙ ap (in_ring blocks c.args.list) (sym same) ∙ at.2))
    ]

pub returns-clause-answer : goal.returns-clause-answer
returns-clause-answer g c =
    let blocks = blocks_of c.args.blocks.now in
    let first = unsigned_abs (to_z w32 (of_z w32 c.head-head.result)) in
    let fits : FitsSigned w32 c.head-head.result = search rules in
    let head = cast_natural w32 _ fits c.if-head-lt0.false in
    let some : 0 < ring_count blocks c.args.list = omega (arith, c.count_ring-count.ensures.value) in
    ok_iff_same c.check_cycle.result tt
    (list_from_cycle blocks c.args.list c.requires.other first (sym c.head-head.ensures ∙ head))
    (λ has.
    let at = head_here blocks c.args.list c.requires.other has.0 has.1 some in
    let there : c.head-head.result ≡ pos at.0 = c.head-head.ensures ∙ at.1 in
    let same : at.0 ≡ unsigned_abs (to_z w32 (of_z w32 c.head-head.result)) = sym (cast_is w32 _ fits at.0 there) in
    subst (HasRing (BlockLink blocks.records) (in_ring blocks c.args.list)) same at.3)
    c.check_cycle.ensures.answer

pub returns-clause-cost : goal.returns-clause-cost
returns-clause-cost g c =
    let few = passing-le (in_ring (blocks_of c.args.blocks.now) c.args.list) 0 c.args.blocks.now.active in
    omega (arith, few, c.count_ring-count.ensures.value)
