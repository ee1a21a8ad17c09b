use Rattle.std.proofs.Common.{rules, ◌≡◌, sym, ◌∙◌, ap, refl, true, w32, FitsSigned}
use Rattle.std.proofs.lemmas.Bool.{false≢true}
use Rattle.std.proofs.lemmas.Int.{to_z-of_z}
use Rattle.cedar_table.specs.Table.Views.{cells, fields}
use Rattle.cedar_model.specs.Table.TableFields.{size_of}
use Rattle.cedar_model.specs.Meaning.WellFormed.{is_value}
use Rattle.cedar_file.proofs.TreeLemmas.WhatIsRead.{base_low, same_walk, valued_child, valued_looks, valued_walk}
use Rattle.cedar_file.proofs.check.tree.meet_valued.Goals.{then-child-ne0-via-then-child-ne0, then-child-ne0-via-else-child-ne0+then-info-ne0, then-child-ne0-via-else-child-ne0+else-info-ne0+then-not-is_in_range}
use Rattle.cedar_file.proofs.check.tree.meet_valued.Goals as goal

pub returns-then-child-ne0-clause-meets : goal.returns-then-child-ne0-clause-meets
returns-then-child-ne0-clause-meets g c =
    let fits : FitsSigned w32 c.args.value = search rules in
    let has = valued_child (size_of (fields c.args.table.now)) (cells c.args.table.now) c.args.slot c.args.base c.requires.stored c.requires.owned in record {
      met = tt;
      faulty = λ looks. elim c.then-child-ne0.branch [
        | then-child-ne0-via-then-child-ne0 w ↦ w.if-child-ne0.true (c.requires.child ∙ (has looks).0)
        | then-child-ne0-via-else-child-ne0+then-info-ne0 w ↦ w.if-info-ne0.true (c.read_info-info.ensures.child ∙ (has looks).1)
        | then-child-ne0-via-else-child-ne0+else-info-ne0+then-not-is_in_range w ↦ false≢true (sym w.if-not-is_in_range.true ∙ w.is_in_range.ensures ∙ ap is_value (to_z-of_z w32 c.args.value fits ∙ c.requires.value) ∙ (has looks).2)
      ];
    }

pub returns-then-base-lt-BLOCK_SIZE-clause-meets : goal.returns-then-base-lt-BLOCK_SIZE-clause-meets
returns-then-base-lt-BLOCK_SIZE-clause-meets g c = record {
  met = tt;
  faulty = base_low (size_of (fields c.args.table.now)) (cells c.args.table.now) c.args.slot c.args.base c.requires.stored c.if-base-lt-BLOCK_SIZE.true;
}

pub returns-clause-meets : goal.returns-clause-meets
returns-clause-meets g c =
    let T = cells c.args.table.now in
    let size = size_of (fields c.args.table.now) in
    let fits : FitsSigned w32 c.args.value = search rules in
    let value : is_value (T.base c.args.base) ≡ true = sym (ap is_value (to_z-of_z w32 c.args.value fits ∙ c.requires.value)) ∙ sym c.is_in_range.ensures ∙ c.if-not-is_in_range.false in record {
      met = (
        valued_looks size T c.args.slot c.args.base c.requires.stored c.requires.owned c.if-base-lt-BLOCK_SIZE.false c.requires.inside (sym c.requires.child ∙ c.if-child-ne0.false) (sym c.read_info-info.ensures.child ∙ c.if-info-ne0.false) value,
        same_walk c.args.slot _ _ _ _ _ _ _ _ refl c.read_info-info.ensures.sibling refl refl ∙ valued_walk size T c.args.slot c.args.base c.args.walk c.requires.stored c.requires.owned,
      );
      faulty = tt;
    }
