-- What is written of a table.
use Rattle.std.proofs.Common.{◌≡◌, ℕ, ◌-◌, ◌/◌, ◌+◌, ◌≤◌, ◌++◌, ◌∙◌, List, append-nil, length, replicate, take, arith, ap, inl, inr, sym, subst, length-take-le}
use Rattle.std.proofs.lemmas.Bool.{cases_lt}
use Rattle.std.proofs.lemmas.List.{take-append-le, take-replicate, take_all}
use Rattle.std.proofs.Math.Seq.{take-append-add}
use Rattle.cedar_model.specs.Table.Layouts.{layout_byte}
use Rattle.cedar_slots.specs.declared.records.BlockRecord.{BlockRecord}
use Rattle.cedar_slots.specs.declared.records.NInfoRecord.{NInfoRecord}
use Rattle.cedar_slots.specs.declared.records.NodeRecord.{NodeRecord}
use Rattle.cedar_slots.specs.Blocks.{blank_block}
use Rattle.cedar_slots.specs.Padded.{with_blanks}
use Rattle.cedar_slots.specs.Places.{Shaped}
use Rattle.cedar_slots.specs.Slots.{blank_info, blank_node}
use Rattle.cedar_model.specs.Table.TableFields.{Fields}
use Rattle.cedar_format.specs.declared.header.Header.{Header}
use Rattle.cedar_format.specs.Format.{filled_bytes, filled_list, FitsFilled, FitsHeader, header_bytes}
use Rattle.cedar_format.specs.Records.{body_bytes, FitsBody}
use Rattle.cedar_format.specs.Tables.{header_of, slots_listed, table_bytes, FitsTable}
use Rattle.cedar_format.proofs.OneTable.{listed_fits}

-- the first n items of a list with blanks behind its front
pub listed_front : {X : Type 0} (blank : X) (len n : ℕ) (all front : List X) → all ≡ with_blanks blank len front → n ≤ len → take n all ≡ filled_list blank n (take n front)
listed_front blank len n all front is most = ap (take n) is ∙ elim (cases_lt (length front) n) [
  | inl short ↦
      let k = n - length front in
      let split : n ≡ length front + k = omega (arith, short) in
      let whole : take n front ≡ front = take_all n front (omega (arith, short)) in
      let rest : take k (replicate (len - length front) blank) ≡ replicate k blank = take-replicate k (len - length front) blank (omega (arith, most)) in
      ap (λ m. take m (front ++ replicate (len - length front) blank)) split ∙ take-append-add front (replicate (len - length front) blank) k ∙ ap (λ ys. front ++ ys) rest ∙ sym (ap (filled_list blank n) whole)
  | inr long ↦
      let none : n - length (take n front) ≡ 0 = omega (arith, length-take-le n front long) in
      take-append-le n front (replicate (len - length front) blank) long ∙ sym (ap (λ m. take n front ++ replicate m blank) none ∙ append-nil (take n front))
]

module _ (version : ℕ) (T : Fields) (h : Header) (is : h ≡ header_of version T) (shaped : Shaped T.places) (nodes : List NodeRecord) (infos : List NInfoRecord) (blocks : List BlockRecord)
    (nodes_is : T.places.slots.nodes ≡ with_blanks blank_node (length T.places.slots.nodes) nodes)
    (infos_is : T.places.slots.infos ≡ with_blanks blank_info (length T.places.slots.infos) infos)
    (blocks_is : T.places.blocks.records ≡ with_blanks blank_block (length T.places.blocks.records) blocks) where
  abbrev n : ℕ
  n = slots_listed version T

  nodes_same : take n T.places.slots.nodes ≡ filled_list blank_node n (take n nodes)
  nodes_same = listed_front blank_node (length T.places.slots.nodes) n T.places.slots.nodes nodes nodes_is (omega (arith, listed_fits version T shaped, shaped.nodes))

  infos_same : take n T.places.slots.infos ≡ filled_list blank_info n (take n infos)
  infos_same = listed_front blank_info (length T.places.slots.infos) n T.places.slots.infos infos infos_is (omega (arith, listed_fits version T shaped, shaped.nodes, shaped.infos))

  blocks_same : take (n / 256) T.places.blocks.records ≡ filled_list blank_block (n / 256) (take (n / 256) blocks)
  blocks_same = listed_front blank_block (length T.places.blocks.records) (n / 256) T.places.blocks.records blocks blocks_is (omega (arith, listed_fits version T shaped))

  pub written : header_bytes (layout_byte T.layout) h ++ filled_bytes h.array_len (take h.array_len nodes) (take h.array_len infos) (take h.blocks_len blocks) T.places.reject ≡ table_bytes version T
  written =
      ap (λ k. header_bytes (layout_byte T.layout) k ++ filled_bytes k.array_len (take k.array_len nodes) (take k.array_len infos) (take k.blocks_len blocks) T.places.reject) is
      ∙ sym (ap (λ xs. header_bytes (layout_byte T.layout) (header_of version T) ++ body_bytes xs (take n T.places.slots.infos) (take (n / 256) T.places.blocks.records) T.places.reject) nodes_same
      ∙ ap (λ xs. header_bytes (layout_byte T.layout) (header_of version T) ++ body_bytes (filled_list blank_node n (take n nodes)) xs (take (n / 256) T.places.blocks.records) T.places.reject) infos_same
      ∙ ap (λ xs. header_bytes (layout_byte T.layout) (header_of version T) ++ body_bytes (filled_list blank_node n (take n nodes)) (filled_list blank_info n (take n infos)) xs T.places.reject) blocks_same)

  pub written_fits : FitsHeader h → FitsFilled h.array_len (take h.array_len nodes) (take h.array_len infos) (take h.blocks_len blocks) T.places.reject → FitsTable version T
  written_fits header body =
      let filled : FitsFilled n (take n nodes) (take n infos) (take (n / 256) blocks) T.places.reject = subst (λ k. FitsFilled k.array_len (take k.array_len nodes) (take k.array_len infos) (take k.blocks_len blocks) T.places.reject) is body in
      record {
        header = subst FitsHeader is header;
        body =
            subst (λ xs. FitsBody xs (take n T.places.slots.infos) (take (n / 256) T.places.blocks.records) T.places.reject) (sym nodes_same)
            (subst (λ xs. FitsBody (filled_list blank_node n (take n nodes)) xs (take (n / 256) T.places.blocks.records) T.places.reject) (sym infos_same)
            (subst (λ xs. FitsBody (filled_list blank_node n (take n nodes)) (filled_list blank_info n (take n infos)) xs T.places.reject) (sym blocks_same) filled));
      }
