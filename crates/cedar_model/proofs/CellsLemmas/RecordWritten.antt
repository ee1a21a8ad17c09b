-- What the tree sees of a held slot whose record was written anew.
use Rattle.std.proofs.Common.{◌≡◌, ℕ, ◌*◌, ◌<◌, length, set, cond, nat_lt, ap, ◌∙◌, arith, negsuc}
use Rattle.std.proofs.lemmas.List.{get_or-set_same, get_or-set_other}
use Rattle.cedar_slots.specs.declared.records.NodeRecord.{NodeRecord}
use Rattle.cedar_slots.specs.declared.records.NInfoRecord.{NInfoRecord}
use Rattle.cedar_slots.specs.Slots.{blank_info, blank_node, check_at, info_at, node_record_at}
use Rattle.cedar_slots.specs.Places.{PlaceFields}
use Rattle.cedar_model.specs.Table.Layouts.{LayoutKind, reading}
use Rattle.cedar_model.specs.Table.Cells.{cells_of, InfoWritten, NodeWritten}
use Rattle.cedar_model.proofs.CellsLemmas.HeldSlots.{active_is}

module _ (k : LayoutKind) (old new : PlaceFields) (q : ℕ) (inside : q < 256 * old.blocks.active) (in_nodes : q < length old.slots.nodes) (in_infos : q < length old.slots.infos) (active : new.blocks.active ≡ old.blocks.active) where
  pub NodeWritten-set : (node : NodeRecord) → new.slots.nodes ≡ set old.slots.nodes q node → new.slots.infos ≡ old.slots.infos → NodeWritten (reading k) (cells_of k old) (cells_of k new) q node.base node.check
  NodeWritten-set node nodes infos =
      let here : node_record_at new.slots.nodes q ≡ node = ap (λ ns. node_record_at ns q) nodes ∙ get_or-set_same old.slots.nodes q node blank_node in_nodes in
      let other : (s : ℕ) → (s ≡ q → ⊥) → node_record_at new.slots.nodes s ≡ node_record_at old.slots.nodes s = λ s away. ap (λ ns. node_record_at ns s) nodes ∙ get_or-set_other old.slots.nodes q s node blank_node away in
      record {
        base_at = ap (λ (n : NodeRecord). n.base) here;
        stored_at = ap (λ (n : NodeRecord). reading k n.base) here;
        check_at = active_is k new q (omega (arith, inside, active)) ∙ ap (λ (n : NodeRecord). n.check) here;
        base = λ s away. ap (λ (n : NodeRecord). n.base) (other s away);
        stored = λ s away. ap (λ (n : NodeRecord). reading k n.base) (other s away);
        check = λ s away. ap (λ a. cond (nat_lt s (256 * a)) (check_at new.slots.nodes s) (negsuc 0)) active ∙ ap (λ (n : NodeRecord). cond (nat_lt s (256 * old.blocks.active)) n.check (negsuc 0)) (other s away);
        sibling = λ s. ap (λ is. (info_at is s).sibling) infos;
        child = λ s. ap (λ is. (info_at is s).child) infos;
      }

  pub InfoWritten-set : (info : NInfoRecord) → new.slots.nodes ≡ old.slots.nodes → new.slots.infos ≡ set old.slots.infos q info → InfoWritten (cells_of k old) (cells_of k new) q info.sibling info.child
  InfoWritten-set info nodes infos =
      let here : info_at new.slots.infos q ≡ info = ap (λ is. info_at is q) infos ∙ get_or-set_same old.slots.infos q info blank_info in_infos in
      let other : (s : ℕ) → (s ≡ q → ⊥) → info_at new.slots.infos s ≡ info_at old.slots.infos s = λ s away. ap (λ is. info_at is s) infos ∙ get_or-set_other old.slots.infos q s info blank_info away in
      record {
        sibling_at = ap (λ (n : NInfoRecord). n.sibling) here;
        child_at = ap (λ (n : NInfoRecord). n.child) here;
        base = λ s. ap (λ ns. (node_record_at ns s).base) nodes;
        stored = λ s. ap (λ ns. reading k (node_record_at ns s).base) nodes;
        check = λ s. ap (λ a. cond (nat_lt s (256 * a)) (check_at new.slots.nodes s) (negsuc 0)) active ∙ ap (λ ns. cond (nat_lt s (256 * old.blocks.active)) (check_at ns s) (negsuc 0)) nodes;
        sibling = λ s away. ap (λ (n : NInfoRecord). n.sibling) (other s away);
        child = λ s away. ap (λ (n : NInfoRecord). n.child) (other s away);
      }
