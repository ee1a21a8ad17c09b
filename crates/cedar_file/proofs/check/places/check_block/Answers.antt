use Rattle.std.proofs.Common.{[], ◌≡◌, ◌+◌, ◌*◌, ◌/◌, ◌<◌, FitsSigned, ap, arith, cond, eqb, of_z, pos, refl, rules, subst, sym, to_z, unsigned_abs, w32, ◌∙◌}
use Rattle.std.proofs.lemmas.Bool.{and_parts, false≢true}
use Rattle.std.proofs.lemmas.Int.{ints}
use Rattle.cedar_slots.specs.declared.records.BlockRecord.{BlockRecord}
use Rattle.cedar_slots.proofs.Casts.{cast_is, cast_natural, not_negative}
use Rattle.cedar_file.specs.PlaceChecks.{free_count, free_here, HasRing}
use Rattle.cedar_slots.specs.Slots.{is_free, SlotLink}
use Rattle.cedar_slots.specs.Views.{places_of}
use Rattle.cedar_file.proofs.ChecksLemmas.Outcome.{ok_iff_same}
use Rattle.cedar_file.proofs.ChecksLemmas.Cycle.{passing-le}
use Rattle.cedar_file.proofs.ChecksLemmas.PlacesRead.{head_free, none_free, num_free, root-le, some_free}
use Rattle.cedar_file.proofs.ChecksLemmas.RingRead.{here_block}
use Rattle.cedar_file.proofs.check.places.check_block.Goals as goal
use Rattle.cedar_file.proofs.check.places.check_block.Goals.{then-record-lt0-via-then-record-lt0, then-record-lt0-via-else-record-lt0+then-record-block}

pub overflow_cast-count : goal.overflow_cast-count
overflow_cast-count g c =
    let few = passing-le (free_here c.args.places.now.slots.nodes.items c.args.block) (256 * c.args.block) 256 in
    omega (arith, ints, few, c.in_ok-count.ensures.answer.1)

pub overflow_add-count : goal.overflow_add-count
overflow_add-count g c =
    let few = passing-le (free_here c.args.places.now.slots.nodes.items c.args.block) (256 * c.args.block) 256 in
    omega (arith, ints, few, c.in_ok-count.ensures.answer.1, c.root_count.ensures, root-le c.args.block)

pub returns-then-record-count-clause-answer : goal.returns-then-record-count-clause-answer
returns-then-record-count-clause-answer g c = λ has.
    let few = passing-le (free_here c.args.places.now.slots.nodes.items c.args.block) (256 * c.args.block) 256 in
    let num : c.read_block-record.result.num ≡ pos (free_count c.args.places.now.slots.nodes.items c.args.block + cond (eqb c.args.block 0) 1 0) = ap (λ (n : BlockRecord). n.num) c.read_block-record.ensures.value ∙ num_free (places_of c.args.places.now) c.args.block has.0 has.1 in
    omega (arith, ints, few, c.in_ok-count.ensures.answer.1, c.root_count.ensures, root-le c.args.block)

pub returns-then-count-eq0-clause-answer : goal.returns-then-count-eq0-clause-answer
returns-then-count-eq0-clause-answer g c =
    let few = passing-le (free_here c.args.places.now.slots.nodes.items c.args.block) (256 * c.args.block) 256 in
    let same : c.read_block-record.result.num ≡ pos (free_count c.args.places.now.slots.nodes.items c.args.block + cond (eqb c.args.block 0) 1 0) = omega (arith, ints, few, c.in_ok-count.ensures.answer.1, c.root_count.ensures, root-le c.args.block) in
    let num = ap (λ (n : BlockRecord). n.num) (sym c.read_block-record.ensures.value) ∙ same in
    let none : free_count c.args.places.now.slots.nodes.items c.args.block ≡ 0 = sym c.in_ok-count.ensures.answer.1 ∙ c.if-count-eq0.true in
    (([], none_free (places_of c.args.places.now) c.args.block none num), refl)

pub returns-then-record-lt0-clause-answer : goal.returns-then-record-lt0-clause-answer
returns-then-record-lt0-clause-answer g c = λ has.
    let some : 0 < free_count c.args.places.now.slots.nodes.items c.args.block = omega (arith, c.in_ok-count.ensures.answer.1) in
    let at = head_free (places_of c.args.places.now) c.args.block has.0 has.1 some in
    let here : at.0 / 256 ≡ c.args.block = here_block c.args.places.now.slots.nodes.items c.args.block at.0 at.2 in
    let head : c.read_block-record.result.e_head ≡ pos at.0 = ap (λ (n : BlockRecord). n.e_head) c.read_block-record.ensures.value ∙ at.1 in
    let fits : FitsSigned w32 c.read_block-record.result.e_head = search rules in
    elim c.then-record-lt0.branch [
      | then-record-lt0-via-then-record-lt0 w ↦ not_negative w32 _ fits at.0 head w.if-record-lt0.true
      | then-record-lt0-via-else-record-lt0+then-record-block w ↦
          let same : unsigned_abs (to_z w32 (of_z w32 c.read_block-record.result.e_head)) ≡ at.0 = cast_is w32 _ fits at.0 head in
          w.if-record-block.true (ap (λ n. n / 256) same ∙ here)
    ]

pub returns-then-not-read_free-clause-answer : goal.returns-then-not-read_free-clause-answer
returns-then-not-read_free-clause-answer g c = λ has.
    let some : 0 < free_count c.args.places.now.slots.nodes.items c.args.block = omega (arith, c.in_ok-count.ensures.answer.1) in
    let at = head_free (places_of c.args.places.now) c.args.block has.0 has.1 some in
    let head : c.read_block-record.result.e_head ≡ pos at.0 = ap (λ (n : BlockRecord). n.e_head) c.read_block-record.ensures.value ∙ at.1 in
    let same : unsigned_abs (to_z w32 (of_z w32 c.read_block-record.result.e_head)) ≡ at.0 = cast_is w32 _ (search rules) at.0 head in
    absurd (false≢true (sym c.if-not-read_free.true ∙ c.read_free.ensures.value ∙ ap (is_free c.args.places.now.slots.nodes.items) same ∙ (and_parts _ _ at.2).0))

pub returns-clause-answer : goal.returns-clause-answer
returns-clause-answer g c =
    let few = passing-le (free_here c.args.places.now.slots.nodes.items c.args.block) (256 * c.args.block) 256 in
    let same : c.read_block-record.result.num ≡ pos (free_count c.args.places.now.slots.nodes.items c.args.block + cond (eqb c.args.block 0) 1 0) = omega (arith, ints, few, c.in_ok-count.ensures.answer.1, c.root_count.ensures, root-le c.args.block) in
    let num = ap (λ (n : BlockRecord). n.num) (sym c.read_block-record.ensures.value) ∙ same in
    let fits : FitsSigned w32 c.read_block-record.result.e_head = search rules in
    let head = cast_natural w32 _ fits c.if-record-lt0.false in
    let e_head = ap (λ (n : BlockRecord). n.e_head) (sym c.read_block-record.ensures.value) ∙ head in
    let some : 0 < free_count c.args.places.now.slots.nodes.items c.args.block = omega (arith, c.in_ok-count.ensures.answer.1) in
    ok_iff_same c.check_ring.result tt
    (some_free (places_of c.args.places.now) c.args.block (unsigned_abs (to_z w32 (of_z w32 c.read_block-record.result.e_head))) c.in_ok-count.ensures.answer.0 num e_head)
    (λ has.
    let at = head_free (places_of c.args.places.now) c.args.block has.0 has.1 some in
    let there : c.read_block-record.result.e_head ≡ pos at.0 = ap (λ (n : BlockRecord). n.e_head) c.read_block-record.ensures.value ∙ at.1 in
    let same_head : at.0 ≡ unsigned_abs (to_z w32 (of_z w32 c.read_block-record.result.e_head)) = sym (cast_is w32 _ fits at.0 there) in
    subst (HasRing (SlotLink c.args.places.now.slots.nodes.items) (free_here c.args.places.now.slots.nodes.items c.args.block)) same_head at.3)
    c.check_ring.ensures.answer

pub returns-clause-cost : goal.returns-clause-cost
returns-clause-cost g c =
    let few = passing-le (free_here c.args.places.now.slots.nodes.items c.args.block) (256 * c.args.block) 256 in
    omega (arith, few, c.in_ok-count.ensures.answer.1)
