use Rattle.std.proofs.Common.{rules, ◌≢◌, ◌<◌, sym, ◌∙◌, refl, arith, pos, w32, FitsSigned}
use Rattle.std.proofs.lemmas.Int.{to_z-of_z}
use Rattle.cedar_table.specs.Table.Views.{cells, fields}
use Rattle.cedar_model.specs.Table.TableFields.{size_of}
use Rattle.cedar_file.proofs.TreeLemmas.WhatIsRead.{base_low, base_outside, plain_child, plain_looks, plain_walk, same_walk}
use Rattle.cedar_file.proofs.check.tree.meet_based.Goals as goal

pub meet_valued-requires : goal.meet_valued-requires
meet_valued-requires g c =
    let fits : FitsSigned w32 c.read_node-number.result.base = search rules in
    let fits_check : FitsSigned w32 c.read_node-number.result.check = search rules in
    let own = sym (to_z-of_z w32 c.read_node-number.result.check fits_check ∙ c.read_node-number.ensures.check) ∙ c.names.ensures.0 c.if-names.true in
    let inside : c.args.base < size_of (fields c.args.table.now) = omega (arith, c.if-base-size.false, c.size.ensures) in
    (search rules, record { inside = inside; room = c.requires.room; stored = c.requires.stored; owned = own; value = to_z-of_z w32 c.read_node-number.result.base fits ∙ c.read_node-number.ensures.base; child = c.read_info-child.ensures.child })

pub returns-then-base-size-clause-meets : goal.returns-then-base-size-clause-meets
returns-then-base-size-clause-meets g c = record {
  met = tt;
  faulty = base_outside (size_of (fields c.args.table.now)) (cells c.args.table.now) c.args.slot c.args.base c.requires.stored (omega (arith, c.if-base-size.true, c.size.ensures));
}

pub returns-then-child-eq0-clause-meets : goal.returns-then-child-eq0-clause-meets
returns-then-child-eq0-clause-meets g c =
    let T = cells c.args.table.now in
    let fits_check : FitsSigned w32 c.read_node-number.result.check = search rules in
    let other : T.check c.args.base ≢ pos c.args.slot = λ e. (let yes = c.names.ensures.1 (to_z-of_z w32 c.read_node-number.result.check fits_check ∙ c.read_node-number.ensures.check ∙ e) in cc) in record {
      met = tt;
      faulty = λ looks. plain_child (size_of (fields c.args.table.now)) T c.args.slot c.args.base c.requires.stored other (sym c.read_info-child.ensures.child ∙ c.if-child-eq0.true) looks;
    }

pub returns-then-base-lt-BLOCK_SIZE-clause-meets : goal.returns-then-base-lt-BLOCK_SIZE-clause-meets
returns-then-base-lt-BLOCK_SIZE-clause-meets g c = record {
  met = tt;
  faulty = base_low (size_of (fields c.args.table.now)) (cells c.args.table.now) c.args.slot c.args.base c.requires.stored c.if-base-lt-BLOCK_SIZE.true;
}

pub returns-clause-meets : goal.returns-clause-meets
returns-clause-meets g c =
    let T = cells c.args.table.now in
    let size = size_of (fields c.args.table.now) in
    let fits_check : FitsSigned w32 c.read_node-number.result.check = search rules in
    let other : T.check c.args.base ≢ pos c.args.slot = λ e. (let yes = c.names.ensures.1 (to_z-of_z w32 c.read_node-number.result.check fits_check ∙ c.read_node-number.ensures.check ∙ e) in cc) in
    let inside : c.args.base < size = omega (arith, c.if-base-size.false, c.size.ensures) in
    let child : T.child c.args.slot ≢ 0 = λ e. c.if-child-eq0.false (c.read_info-child.ensures.child ∙ e) in record {
      met = (
        plain_looks size T c.args.slot c.args.base c.requires.stored other c.if-base-lt-BLOCK_SIZE.false inside child,
        same_walk c.args.slot _ _ _ _ _ _ _ _ refl c.read_info-child.ensures.child refl refl ∙ plain_walk size T c.args.slot c.args.base c.args.walk c.requires.stored other,
      );
      faulty = tt;
    }
