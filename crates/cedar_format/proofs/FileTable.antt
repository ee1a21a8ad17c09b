-- The table of a file's fields has their bytes.
use Rattle.std.proofs.Common.{◌≡◌, ℕ, ℤ, ◌/◌, ◌^◌, ◌≤◌, List, ◌++◌, length, take, arith, refl, sym, ap, ◌∙◌, subst}
use Rattle.cedar_slots.specs.declared.records.NodeRecord.{NodeRecord}
use Rattle.cedar_slots.specs.declared.records.NInfoRecord.{NInfoRecord}
use Rattle.cedar_slots.specs.declared.records.BlockRecord.{BlockRecord}
use Rattle.cedar_model.specs.Table.Layouts.{LayoutKind, layout_byte}
use Rattle.cedar_slots.specs.Blocks.{blank_block}
use Rattle.cedar_slots.specs.Places.{Shaped}
use Rattle.cedar_slots.specs.Slots.{blank_info, blank_node}
use Rattle.cedar_model.specs.Table.TableFields.{capacity_of, size_of}
use Rattle.cedar_format.specs.declared.header.Header.{Header}
use Rattle.cedar_format.specs.Format.{filled_list, header_bytes, listed_slots, listed_bytes, listed_in, FitsHeader, IsFile, IsHeader}
use Rattle.cedar_format.specs.Records.{FitsBody}
use Rattle.cedar_format.specs.Tables.{file_fields, header_of, slots_listed, table_bytes, FitsTable, IsListed}
use Rattle.cedar_format.proofs.Again.{same_header}
use Rattle.cedar_format.proofs.Sizes.{has_sizes}

same_listed : (minor a b c d : ℕ) → a ≡ b → c ≡ d → listed_slots minor a c ≡ listed_slots minor b d
same_listed minor a b c d p q = cc

module _ (kind : LayoutKind) (slots limit : ℕ) (h : Header) (nodes : List NodeRecord) (infos : List NInfoRecord) (blocks : List BlockRecord) (reject : List ℤ) (file : IsFile slots limit h nodes infos blocks reject) where
  pub file_shaped : slots ≤ 2 ^ 30 → Shaped (file_fields kind h nodes infos blocks reject).places
  file_shaped most =
      let sizes = has_sizes slots limit h file.sizes in
      record {
        blocks = record {
          some = omega (arith, sizes.some, sizes.in_blocks);
          active_in = omega (arith, sizes.in_blocks, sizes.blocks, sizes.size, file.blocks_len);
          fits = omega (arith, sizes.blocks, sizes.capacity, file.blocks_len);
        };
        nodes = omega (arith, sizes.blocks, file.blocks_len, file.nodes_len);
        infos = omega (arith, file.nodes_len, file.infos_len);
      }

  pub file_rejects : length reject ≡ 257
  file_rejects = file.reject_len ∙ (has_sizes slots limit h file.sizes).reject_len

  pub file_header : header_of h.minor (file_fields kind h nodes infos blocks reject) ≡ h
  file_header =
      let sizes = has_sizes slots limit h file.sizes in
      let T = file_fields kind h nodes infos blocks reject in
      let capacity : capacity_of T ≡ h.capacity = omega (arith, sizes.blocks, file.blocks_len) in
      let n : slots_listed h.minor T ≡ listed_in h = same_listed h.minor (capacity_of T) h.capacity (size_of T) h.size capacity sizes.in_blocks in
      same_header (header_of h.minor T) h refl refl refl refl refl refl (n ∙ sym sizes.array_len) (n ∙ sym sizes.n_infos_len) (ap (λ k. k / 256) n ∙ sym sizes.blocks_len) file.reject_len capacity sizes.in_blocks refl

  -- as many slots are listed of the table as of the file
  file_listed : listed_in h ≡ slots_listed h.minor (file_fields kind h nodes infos blocks reject)
  file_listed = sym (ap listed_in file_header)

  file_capacity : h.capacity ≡ capacity_of (file_fields kind h nodes infos blocks reject)
  file_capacity = sym (ap (λ k. k.capacity) file_header)

  pub file_fits : FitsHeader h → FitsTable h.minor (file_fields kind h nodes infos blocks reject)
  file_fits fits = record {
    header = subst FitsHeader (sym file_header) fits;
    body = subst (λ n. FitsBody (take n nodes) (take n infos) (take (n / 256) blocks) reject) file_listed file.numbers;
  }

  -- what the file doesn't list of the table is blank
  pub file_is_listed : slots ≤ 2 ^ 30 → IsListed h.minor (file_fields kind h nodes infos blocks reject)
  file_is_listed most = record {
    shaped = file_shaped most;
    nodes = subst (λ n. nodes ≡ filled_list blank_node (capacity_of (file_fields kind h nodes infos blocks reject)) (take n nodes)) file_listed (subst (λ c. nodes ≡ filled_list blank_node c (take (listed_in h) nodes)) file_capacity file.nodes_filled);
    infos = subst (λ n. infos ≡ filled_list blank_info (capacity_of (file_fields kind h nodes infos blocks reject)) (take n infos)) file_listed (subst (λ c. infos ≡ filled_list blank_info c (take (listed_in h) infos)) file_capacity file.infos_filled);
    blocks = subst (λ n. blocks ≡ filled_list blank_block (capacity_of (file_fields kind h nodes infos blocks reject) / 256) (take (n / 256) blocks)) file_listed (subst (λ c. blocks ≡ filled_list blank_block (c / 256) (take (listed_in h / 256) blocks)) file_capacity file.blocks_filled);
  }

  -- what was read of a file are the bytes of its table
  pub file_spelled : (front : List ℕ) → IsHeader (layout_byte kind) front h → front ++ listed_bytes (listed_in h) nodes infos blocks reject ≡ table_bytes h.minor (file_fields kind h nodes infos blocks reject)
  file_spelled front is =
      ap (λ l. l ++ listed_bytes (listed_in h) nodes infos blocks reject) (is.spelled ∙ ap (header_bytes (layout_byte kind)) (sym file_header))
      ∙ ap (λ n. header_bytes (layout_byte kind) (header_of h.minor (file_fields kind h nodes infos blocks reject)) ++ listed_bytes n nodes infos blocks reject) file_listed
