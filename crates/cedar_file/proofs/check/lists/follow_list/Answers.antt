use Rattle.std.proofs.Common.{◌≡◌, ◌<◌, ◌≤◌, ◌^◌, ℕ, FitsSigned, ap, arith, of_z, pos, rules, sym, to_z, unsigned_abs, w32, ◌∙◌}
use Rattle.std.proofs.lemmas.Bool.{false≢true}
use Rattle.cedar_slots.specs.declared.records.BlockRecord.{BlockRecord}
use Rattle.cedar_slots.specs.Blocks.{prev_at}
use Rattle.cedar_slots.proofs.Casts.{bits_of, cast_is, cast_natural, not_negative}
use Rattle.cedar_file.specs.PlaceChecks.{in_ring}
use Rattle.cedar_slots.specs.Views.{blocks_of}
use Rattle.cedar_file.proofs.ChecksLemmas.ListsRead.{in_use}
use Rattle.cedar_file.proofs.check.lists.follow_list.Goals as goal
use Rattle.cedar_file.proofs.check.lists.follow_list.Goals.{then-next-lt0-via-then-next-lt0, then-next-lt0-via-else-next-lt0+then-next-blocks}

not_both : (active n m : ℕ) → n < active → active ≤ m → m ≡ n → ⊥
not_both active n m low high same = absurd (omega arith)

in_half : (b active n : ℕ) → b < active → active ≤ n → n ≤ 2 ^ 22 → b < 2 ^ 31
in_half b active n low within fits = omega arith

pub returns-then-next-lt0-clause-answer : goal.returns-then-next-lt0-clause-answer
returns-then-next-lt0-clause-answer g c = λ next after.
    let link = after.0 in
    let here = after.1 in
    let low = in_use (blocks_of c.args.blocks.now) c.args.list next here in
    let fits : FitsSigned w32 c.read_block-next.result.next = search rules in
    let is : c.read_block-next.result.next ≡ pos next = ap (λ (n : BlockRecord). n.next) c.read_block-next.ensures.value ∙ link.0 in
    elim c.then-next-lt0.branch [
      | then-next-lt0-via-then-next-lt0 w ↦ not_negative w32 _ fits next is w.if-next-lt0.true
      | then-next-lt0-via-else-next-lt0+then-next-blocks w ↦ not_both _ _ _ low w.if-next-blocks.true (cast_is w32 _ fits next is)
    ]

pub returns-then-read_block-block-clause-answer : goal.returns-then-read_block-block-clause-answer
returns-then-read_block-block-clause-answer g c = λ next after.
    let link = after.0 in
    let here = after.1 in
    let records = c.args.blocks.now.records.items in
    let is : c.read_block-next.result.next ≡ pos next = ap (λ (n : BlockRecord). n.next) c.read_block-next.ensures.value ∙ link.0 in
    let fits : FitsSigned w32 c.read_block-next.result.next = search rules in
    let there : unsigned_abs (to_z w32 (of_z w32 c.read_block-next.result.next)) ≡ next = cast_is w32 _ fits next is in
    let prev : c.read_block.result.prev ≡ pos c.args.block = ap (λ (n : BlockRecord). n.prev) c.read_block.ensures.value ∙ ap (prev_at records) there ∙ link.1 in
    c.if-read_block-block.true (ap (of_z w32) prev)

pub returns-then-not-belongs_in-clause-answer : goal.returns-then-not-belongs_in-clause-answer
returns-then-not-belongs_in-clause-answer g c = λ next after.
    let link = after.0 in
    let here = after.1 in
    let is : c.read_block-next.result.next ≡ pos next = ap (λ (n : BlockRecord). n.next) c.read_block-next.ensures.value ∙ link.0 in
    let fits : FitsSigned w32 c.read_block-next.result.next = search rules in
    let there : unsigned_abs (to_z w32 (of_z w32 c.read_block-next.result.next)) ≡ next = cast_is w32 _ fits next is in
    absurd (false≢true (sym c.if-not-belongs_in.true ∙ c.belongs_in.ensures.value ∙ ap (in_ring (blocks_of c.args.blocks.now) c.args.list) there ∙ here))

pub returns-clause-answer : goal.returns-clause-answer
returns-clause-answer g c =
    let records = c.args.blocks.now.records.items in
    let fits : FitsSigned w32 c.read_block-next.result.next = search rules in
    let back : FitsSigned w32 c.read_block.result.prev = search rules in
    let is = cast_natural w32 _ fits c.if-next-lt0.false in
    let low = in_use (blocks_of c.args.blocks.now) c.args.list c.args.block c.requires.here in
    let prev : c.read_block.result.prev ≡ pos c.args.block = bits_of w32 _ back c.args.block (in_half _ _ _ low c.requires.sized.active_in c.requires.sized.fits) c.if-read_block-block.false in (
      (sym (ap (λ (n : BlockRecord). n.next) c.read_block-next.ensures.value) ∙ is, sym (ap (λ (n : BlockRecord). n.prev) c.read_block.ensures.value) ∙ prev),
      sym c.belongs_in.ensures.value ∙ c.if-not-belongs_in.false,
    )
