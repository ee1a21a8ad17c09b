-- A dictionary over a well-formed table is valid.
use Rattle.std.proofs.Common.{ℕ, ◌*◌, ◌≡◌, ap, arith, refl, subst}
use Rattle.cedar_model.specs.Table.TableFields.{Fields}
use Rattle.cedar_model.specs.Meaning.WellFormed.{IsWellFormed, tree_of}
use Rattle.cedarwood.specs.Dictionary.{Dictionary, IsValid}
use Rattle.cedarwood.proofs.DictionaryLemmas.{is_sound}
use Rattle.cedarwood.proofs.GrowthLemmas.{dictionary_of}
use Rattle.cedarwood.proofs.MarkedLemmas.{is_marked}

pub is_valid : (slots limit : ℕ) (T : Fields) → IsWellFormed slots T → IsValid slots (dictionary_of limit T)
is_valid slots limit T w =
    let s = w.table.sound.shaped.blocks in
    let d = w.table.sound.doubled in record {
      sound = is_sound slots T w;
      ascending = w.ascending;
      marked = is_marked slots T w;
      values = w.values;
      blocks = (T.places.blocks.active, s.some, refl);
      doubled = (d.0, ap (λ n. 256 * n) d.1);
      room = omega (arith, s.active_in);
      within = w.table.within;
    }

-- a dictionary that shows a table has the table's tree, and the table that it shows is well-formed as the table is
module _ (limit : ℕ) (T : Fields) (d : Dictionary) (shows : dictionary_of limit T ≡ d) where
  pub tree_shown : tree_of d.table ≡ d.state.tree
  tree_shown = subst (λ (x : Dictionary). tree_of x.table ≡ x.state.tree) shows refl

  pub formed_shown : (slots : ℕ) → IsWellFormed slots T → IsWellFormed slots d.table
  formed_shown slots formed = subst (λ (x : Dictionary). IsWellFormed slots x.table) shows formed
