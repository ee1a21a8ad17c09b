-- The lists of a file, filled up to its tables.
use Rattle.std.proofs.Common.{◌≡◌, ℕ, ℤ, ◌/◌, List, length, take, None, arith, refl, sym, ap, ◌∙◌}
use Rattle.cedar_slots.specs.declared.records.NodeRecord.{NodeRecord}
use Rattle.cedar_slots.specs.declared.records.NInfoRecord.{NInfoRecord}
use Rattle.cedar_slots.specs.declared.records.BlockRecord.{BlockRecord}
use Rattle.cedar_slots.specs.Blocks.{blank_block}
use Rattle.cedar_slots.specs.Slots.{blank_info, blank_node}
use Rattle.cedar_format.specs.declared.header.Header.{Header}
use Rattle.cedar_format.specs.Format.{filled_list, listed_bytes, listed_in, size_refusal, IsFile}
use Rattle.cedar_format.specs.Records.{body_bytes, FitsBody}
use Rattle.cedar_format.proofs.Filled.{filled_again, filled_front, length-filled}
use Rattle.cedar_format.proofs.Sizes.{has_sizes, listed_within}

same_bytes : (a b : List NodeRecord) (c d : List NInfoRecord) (e f : List BlockRecord) (g h : List ℤ) → a ≡ b → c ≡ d → e ≡ f → g ≡ h → body_bytes a c e g ≡ body_bytes b d f h
same_bytes a b c d e f g h p q r s = rw (p, q, r, s) refl

same_fits : (a b : List NodeRecord) (c d : List NInfoRecord) (e f : List BlockRecord) (g h : List ℤ) → a ≡ b → c ≡ d → e ≡ f → g ≡ h → FitsBody b d f h → FitsBody a c e g
same_fits a b c d e f g h p q r s fits = rw (p, q, r, s) fits

module _ (slots limit : ℕ) (h : Header) (sizes : size_refusal slots limit h ≡ None)
    (listed_nodes : List NodeRecord) (listed_infos : List NInfoRecord) (listed_blocks : List BlockRecord) (listed_reject : List ℤ)
    (nodes_read : length listed_nodes ≡ h.array_len) (infos_read : length listed_infos ≡ h.n_infos_len) (blocks_read : length listed_blocks ≡ h.blocks_len) (reject_read : length listed_reject ≡ h.reject_len)
    (nodes : List NodeRecord) (infos : List NInfoRecord) (blocks : List BlockRecord) (reject : List ℤ)
    (nodes_filled : nodes ≡ filled_list blank_node h.capacity listed_nodes) (infos_filled : infos ≡ filled_list blank_info h.capacity listed_infos)
    (blocks_filled : blocks ≡ filled_list blank_block (h.capacity / 256) listed_blocks) (reject_same : reject ≡ listed_reject) where
  nodes_are : length listed_nodes ≡ listed_in h
  nodes_are = nodes_read ∙ (has_sizes slots limit h sizes).array_len

  infos_are : length listed_infos ≡ listed_in h
  infos_are = infos_read ∙ (has_sizes slots limit h sizes).n_infos_len

  blocks_are : length listed_blocks ≡ listed_in h / 256
  blocks_are = blocks_read ∙ (has_sizes slots limit h sizes).blocks_len

  nodes_front : take (listed_in h) nodes ≡ listed_nodes
  nodes_front = filled_front blank_node h.capacity (listed_in h) listed_nodes nodes nodes_are nodes_filled

  infos_front : take (listed_in h) infos ≡ listed_infos
  infos_front = filled_front blank_info h.capacity (listed_in h) listed_infos infos infos_are infos_filled

  blocks_front : take (listed_in h / 256) blocks ≡ listed_blocks
  blocks_front = filled_front blank_block (h.capacity / 256) (listed_in h / 256) listed_blocks blocks blocks_are blocks_filled

  -- what the tables list is what was read
  pub listed_again : body_bytes listed_nodes listed_infos listed_blocks listed_reject ≡ listed_bytes (listed_in h) nodes infos blocks reject
  listed_again = sym (same_bytes (take (listed_in h) nodes) listed_nodes (take (listed_in h) infos) listed_infos (take (listed_in h / 256) blocks) listed_blocks reject listed_reject nodes_front infos_front blocks_front reject_same)

  pub filled_file : FitsBody listed_nodes listed_infos listed_blocks listed_reject → IsFile slots limit h nodes infos blocks reject
  filled_file fits =
      let known = has_sizes slots limit h sizes in
      let within = listed_within slots h known in
      record {
        sizes = sizes;
        nodes_len = length-filled blank_node h.capacity (listed_in h) listed_nodes nodes nodes_are within nodes_filled;
        infos_len = length-filled blank_info h.capacity (listed_in h) listed_infos infos infos_are within infos_filled;
        blocks_len = length-filled blank_block (h.capacity / 256) (listed_in h / 256) listed_blocks blocks blocks_are (omega (arith, within)) blocks_filled;
        reject_len = ap length reject_same ∙ reject_read;
        numbers = same_fits (take (listed_in h) nodes) listed_nodes (take (listed_in h) infos) listed_infos (take (listed_in h / 256) blocks) listed_blocks reject listed_reject nodes_front infos_front blocks_front reject_same fits;
        nodes_filled = filled_again blank_node h.capacity (listed_in h) listed_nodes nodes nodes_are nodes_filled;
        infos_filled = filled_again blank_info h.capacity (listed_in h) listed_infos infos infos_are infos_filled;
        blocks_filled = filled_again blank_block (h.capacity / 256) (listed_in h / 256) listed_blocks blocks blocks_are blocks_filled;
      }
