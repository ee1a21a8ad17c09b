-- What a call returns that puts a key.
use Rattle.std.proofs.Common.{◌≡◌, ◌+◌, ◌*◌, ◌<◌, ℤ, ℕ, List, arith, Option, Result, Ok, Err, inl, inr, subst, sym}
use Rattle.std.specs.Prelude.{IsErrAnd}
use Rattle.cedar_model.specs.Tree.{number_at}
use Rattle.cedar_slots.specs.declared.shortage.Shortage.{Shortage}
use Rattle.cedar_slots.specs.Places.{MayRefuse}
use Rattle.cedar_model.specs.Edit.KeyWalk.{TakenBack}
use Rattle.cedar_model.specs.Meaning.WellFormed.{tree_of}
use Rattle.cedar_model.specs.Edit.Packing.{joins, StaysSmall}
use Rattle.cedar_model.specs.Table.TableFields.{Fields, size_of}
use Rattle.cedar_model.proofs.UpdateLemmas.Ending.{IsPut}
use Rattle.cedar_edit.specs.Changes.{PutsKey}

-- a key of some bytes that aren't one has two
pub two_bytes : (n : ℕ) → 0 < n → (n ≡ 1 → ⊥) → 1 < n
two_bytes n some apart = grind arith

-- a refusal, from which the way was taken back
pub refused_put : (slots : ℕ) (before after : Fields) (key : List ℕ) (v : ℤ) (r : Result (Option ℤ) Shortage) (e : Shortage) → IsErrAnd r (λ x. x ≡ e) → TakenBack slots before after key e → PutsKey slots before after key v r
refused_put slots before after key v (Ok held) e is back = absurd is
refused_put slots before after key v (Err x) e is back =
    let few = back.blocks.1 in
    record {
      well_formed = back.well_formed;
      put = tt;
      held = tt;
      taken_back = back.tree;
      refused = subst (MayRefuse after.places slots) (sym is) back.refused;
      blocks = (back.blocks.0, omega (arith, few), few, back.blocks.3);
      over = λ held. absurd (back.over held);
      one_byte = λ b only new. inr (back.one_byte b only new);
      packs = tt;
      modes = back.modes;
    }

-- the key is put
pub done_put : (slots : ℕ) (before after : Fields) (key : List ℕ) (v : ℤ) (held : Option ℤ) → held ≡ number_at (tree_of before) key → StaysSmall (size_of before + 256 * joins (tree_of before) key) after → IsPut slots before after key v
    → PutsKey slots before after key v (Ok held)
done_put slots before after key v held had small is = record {
  well_formed = is.well_formed;
  put = is.tree;
  held = had;
  taken_back = tt;
  refused = tt;
  blocks = (is.blocks.0, is.blocks.1, tt, is.blocks.2);
  over = λ o. (tt, is.over o);
  one_byte = λ b only new. elim (is.one_byte b only new) [ inl none ↦ inl (tt, none) | inr full ↦ inr full ];
  packs = inl small;
  modes = is.modes;
}
