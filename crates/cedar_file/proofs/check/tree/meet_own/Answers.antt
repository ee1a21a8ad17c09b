use Rattle.std.proofs.Common.{rules, ◌≡◌, sym, ◌∙◌, ap, true, w32, FitsSigned}
use Rattle.std.proofs.lemmas.Bool.{false≢true}
use Rattle.std.proofs.lemmas.Int.{to_z-of_z}
use Rattle.cedar_table.specs.Table.Views.{cells, fields}
use Rattle.cedar_model.specs.Table.TableFields.{size_of}
use Rattle.cedar_model.specs.Meaning.WellFormed.{is_value}
use Rattle.cedar_file.proofs.TreeLemmas.WhatIsRead.{own_looks, own_value, own_walk}
use Rattle.cedar_file.proofs.check.tree.meet_own.Goals as goal

pub returns-then-not-is_in_range-clause-meets : goal.returns-then-not-is_in_range-clause-meets
returns-then-not-is_in_range-clause-meets g c =
    let fits : FitsSigned w32 c.args.value = search rules in
    let value = own_value (size_of (fields c.args.table.now)) (cells c.args.table.now) c.args.slot c.args.value c.requires.root c.requires.stored in record {
      met = tt;
      faulty = λ looks. false≢true (sym c.if-not-is_in_range.true ∙ c.is_in_range.ensures ∙ ap is_value (to_z-of_z w32 c.args.value fits) ∙ value looks);
    }

pub returns-then-info-ne0-clause-meets : goal.returns-then-info-ne0-clause-meets
returns-then-info-ne0-clause-meets g c = record {
  met = tt;
  faulty = λ looks. c.if-info-ne0.true (c.read_info-info.ensures.child ∙ looks.own c.args.value c.requires.stored);
}

pub returns-clause-meets : goal.returns-clause-meets
returns-clause-meets g c =
    let T = cells c.args.table.now in
    let fits : FitsSigned w32 c.args.value = search rules in
    let child = sym c.read_info-info.ensures.child ∙ c.if-info-ne0.false in
    let value : is_value c.args.value ≡ true = sym (ap is_value (to_z-of_z w32 c.args.value fits)) ∙ sym c.is_in_range.ensures ∙ c.if-not-is_in_range.false in record {
      met = (
        own_looks (size_of (fields c.args.table.now)) T c.args.slot c.args.value c.requires.root c.requires.stored value child,
        own_walk (size_of (fields c.args.table.now)) T c.args.slot c.args.value c.args.walk c.requires.root c.requires.stored child,
      );
      faulty = tt;
    }
