use Rattle.std.proofs.Common.{◌≡◌, ◌<◌, ◌∙◌, ◌-◌, ◌++◌, ap, arith, refl, rules, subst, sym}
use Rattle.std.specs.Prelude.{bit_xor}
use Rattle.cedar_table.specs.Table.Views.{cells, fields}
use Rattle.cedar_model.specs.Meaning.Family.{base_of, below}
use Rattle.cedar_model.specs.Table.TableFields.{size_of}
use Rattle.cedar_walk.specs.Pending.{IsPending}
use Rattle.cedar_walk.specs.Visits.{owner_of, path_to}
use Rattle.cedar_walk.proofs.WalkLemmas.NextNode.{at_last, climbed_none, short_way}
use Rattle.cedar_walk.proofs.WalkLemmas.Waiting.{base_back, kept_up, put_before, sibling_inside}
use Rattle.cedar_walk.proofs.pending.keep_sibling.Goals as goal

pub next_sibling-next-requires : goal.next_sibling-next-requires
next_sibling-next-requires g c =
    let T = fields c.args.table.now in
    let k = c.requires.well_formed in
    let n = c.args.depth in
    let s = c.args.node in
    let start = c.requires.at.0 in (search rules, record { well_formed = k; at = (start ++ path_to T (n - 1) (owner_of (cells c.args.table.now) s), below (cells c.args.table.now) (owner_of (cells c.args.table.now) s) s, at_last _ T k start n s n s (climbed_none T start n s c.requires.at.1) (λ z. omega (arith, z, c.requires.deep))) })

pub overflow_cast-base : goal.overflow_cast-base
overflow_cast-base g c =
    let T = c.args.table.now in
    let p = owner_of (cells T) c.args.node in
    let base : bit_xor c.args.node c.from.result ≡ base_of (cells T) p = ap (bit_xor c.args.node) (c.from.ensures ∙ c.requires.label) ∙ base_back (cells T) p c.args.node in
    let slot : bit_xor (bit_xor c.args.node c.from.result) c.from-then-next-ne0.result ≡ below (cells T) p c.next_sibling-next.result = ap (λ b. bit_xor b c.from-then-next-ne0.result) base ∙ ap (bit_xor (base_of (cells T) p)) c.from-then-next-ne0.ensures in
    let inside : below (cells T) p c.next_sibling-next.result < size_of (fields T) = sibling_inside _ (fields T) c.requires.well_formed c.args.depth c.args.node c.next_sibling-next.result c.requires.at (λ z. omega (arith, z, c.requires.deep)) c.next_sibling-next.ensures c.if-next-ne0.true in
    omega (arith, slot, inside, T.shaped.blocks.active_in, T.shaped.blocks.fits)

pub overflow_cast-depth : goal.overflow_cast-depth
overflow_cast-depth g c =
    let T = c.args.table.now in
    let short = short_way _ (fields T) c.requires.well_formed c.requires.at.0 c.args.depth c.args.node c.requires.at.1 in
    omega (arith, short, T.shaped.blocks.active_in, T.shaped.blocks.fits)

pub returns-then-next-ne0 : goal.returns-then-next-ne0
returns-then-next-ne0 g c =
    let T = c.args.table.now in
    let p = owner_of (cells T) c.args.node in
    let base : bit_xor c.args.node c.from.result ≡ base_of (cells T) p = ap (bit_xor c.args.node) (c.from.ensures ∙ c.requires.label) ∙ base_back (cells T) p c.args.node in
    let slot : bit_xor (bit_xor c.args.node c.from.result) c.from-then-next-ne0.result ≡ below (cells T) p c.next_sibling-next.result = ap (λ b. bit_xor b c.from-then-next-ne0.result) base ∙ ap (bit_xor (base_of (cells T) p)) c.from-then-next-ne0.ensures in
    subst (λ xs. IsPending (fields T) xs c.args.depth c.args.node) (sym c.push.ensures)
    (put_before _ (fields T) c.requires.well_formed c.args.depth c.args.node c.next_sibling-next.result c.requires.at (λ z. omega (arith, z, c.requires.deep)) c.next_sibling-next.ensures c.if-next-ne0.true c.args.siblings.now c.requires.kept _ slot refl refl)

pub returns-else-next-ne0 : goal.returns-else-next-ne0
returns-else-next-ne0 g c =
    let T = fields c.args.table.now in
    kept_up _ T c.requires.well_formed c.args.depth c.args.node c.next_sibling-next.result c.requires.at (λ z. omega (arith, z, c.requires.deep)) c.next_sibling-next.ensures (search rules) c.args.siblings.now c.requires.kept
