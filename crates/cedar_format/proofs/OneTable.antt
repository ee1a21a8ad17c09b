-- No two tables share bytes.
use Rattle.std.proofs.Common.{◌≡◌, ℕ, zero, suc, ℤ, ◌/◌, ◌≤◌, Bool, List, [], ◌++◌, length, take, arith, rules, subst, length-take-le, refl, sym, ap, ◌∙◌, length-append, append-nil}
use Rattle.std.specs.List.{flat_map}
use Rattle.cedar_slots.specs.declared.records.NodeRecord.{NodeRecord}
use Rattle.cedar_slots.specs.declared.records.NInfoRecord.{NInfoRecord}
use Rattle.cedar_slots.specs.declared.records.BlockRecord.{BlockRecord}
use Rattle.cedar_model.specs.Table.Layouts.{LayoutKind, default_layout, reduced_layout, layout_byte}
use Rattle.std.specs.Prelude.{slice_index}
use Rattle.cedar_slots.specs.Blocks.{blank_block, BlockFields}
use Rattle.cedar_slots.specs.Places.{PlaceFields, Shaped}
use Rattle.cedar_slots.specs.Slots.{blank_info, blank_node, SlotFields}
use Rattle.cedar_model.specs.Table.TableFields.{capacity_of, size_of, Fields}
use Rattle.cedar_model.specs.Meaning.WellFormed.{IsWellFormed}
use Rattle.cedar_format.specs.Numbers.{i16_bytes, length-i16_bytes, length-i32_bytes, IsI16}
use Rattle.cedar_format.specs.Records.{node_bytes, info_bytes, block_bytes, FitsBlock, FitsInfo, FitsNode}
use Rattle.cedar_format.specs.Format.{filled_list, header_at, header_bytes, listed_bytes}
use Rattle.cedar_format.specs.Tables.{header_of, slots_listed, table_bytes, FitsTable, IsListed}
use Rattle.cedar_format.proofs.Again.{block_again, block_in, header_again, layout_again, node_again, node_in, number_again, number_in}
use Rattle.cedar_format.proofs.Apart.{same_lists, same_rest}
use Rattle.cedar_format.proofs.Filled.{filled_all, filled_blank}
use Rattle.cedar_format.proofs.HeaderSpelling.{length-header_bytes}

one_node : (x y : NodeRecord) → FitsNode x → FitsNode y → node_bytes x ≡ node_bytes y → x ≡ y
one_node x y p q e = sym (node_again x p) ∙ ap node_in e ∙ node_again y q

made_info : (a b c d : ℕ) → a ≡ b → c ≡ d → ◌≡◌ {A = NInfoRecord} (record { sibling = a; child = c }) (record { sibling = b; child = d })
made_info a b c d p q = cc

one_info : (x y : NInfoRecord) → FitsInfo x → FitsInfo y → info_bytes x ≡ info_bytes y → x ≡ y
one_info x y p q e =
    let sibling : x.sibling ≡ y.sibling = cc in
    let child : x.child ≡ y.child = cc in
    made_info x.sibling y.sibling x.child y.child sibling child

one_block : (x y : BlockRecord) → FitsBlock x → FitsBlock y → block_bytes x ≡ block_bytes y → x ≡ y
one_block x y p q e = sym (block_again x p) ∙ ap block_in e ∙ block_again y q

one_number : (x y : ℤ) → IsI16 x → IsI16 y → i16_bytes x ≡ i16_bytes y → x ≡ y
one_number x y p q e = sym (number_again x p) ∙ ap number_in e ∙ number_again y q

same_slots : (a b : List NodeRecord) (c d : List NInfoRecord) → a ≡ b → c ≡ d → ◌≡◌ {A = SlotFields} (record { nodes = a; infos = c }) (record { nodes = b; infos = d })
same_slots a b c d p q = cc

same_blocks : (a b : List BlockRecord) (c d e f g h : ℤ) (i j : ℕ) (k l : ℤ) → a ≡ b → c ≡ d → e ≡ f → g ≡ h → i ≡ j → k ≡ l
    → ◌≡◌ {A = BlockFields} (record { records = a; full_head = c; closed_head = e; open_head = g; active = i; max_trial = k }) (record { records = b; full_head = d; closed_head = f; open_head = h; active = j; max_trial = l })
same_blocks a b c d e f g h i j k l p q r s t u = cc

same_places : (a b : SlotFields) (c d : BlockFields) (e f : List ℤ) → a ≡ b → c ≡ d → e ≡ f → ◌≡◌ {A = PlaceFields} (record { slots = a; blocks = c; reject = e }) (record { slots = b; blocks = d; reject = f })
same_places a b c d e f p q r = cc

same_parts : (a b : LayoutKind) (c d : Bool) (e f : ℕ) (g h : PlaceFields) → a ≡ b → c ≡ d → e ≡ f → g ≡ h
    → ◌≡◌ {A = Fields} (record { layout = a; ordered = c; entries = e; places = g }) (record { layout = b; ordered = d; entries = f; places = h })
same_parts a b c d e f g h p q r s = cc

pub node_len : (n : NodeRecord) → length (node_bytes n) ≡ 8
node_len n = search (rules, length-append, length-i32_bytes)

pub info_len : (i : NInfoRecord) → length (info_bytes i) ≡ 2
info_len i = refl

pub block_len : (b : BlockRecord) → length (block_bytes b) ≡ 20
block_len b = search (rules, length-append, length-i16_bytes, length-i32_bytes)

same_fields : (T U : Fields) → T.layout ≡ U.layout → T.ordered ≡ U.ordered → T.entries ≡ U.entries
    → T.places.slots.nodes ≡ U.places.slots.nodes → T.places.slots.infos ≡ U.places.slots.infos → T.places.blocks.records ≡ U.places.blocks.records
    → T.places.blocks.full_head ≡ U.places.blocks.full_head → T.places.blocks.closed_head ≡ U.places.blocks.closed_head → T.places.blocks.open_head ≡ U.places.blocks.open_head
    → T.places.blocks.active ≡ U.places.blocks.active → T.places.blocks.max_trial ≡ U.places.blocks.max_trial → T.places.reject ≡ U.places.reject → T ≡ U
same_fields T U a b c d e f g h i j k l =
    let slots : T.places.slots ≡ U.places.slots = same_slots T.places.slots.nodes U.places.slots.nodes T.places.slots.infos U.places.slots.infos d e in
    let blocks : T.places.blocks ≡ U.places.blocks =
    same_blocks T.places.blocks.records U.places.blocks.records T.places.blocks.full_head U.places.blocks.full_head T.places.blocks.closed_head U.places.blocks.closed_head T.places.blocks.open_head U.places.blocks.open_head T.places.blocks.active U.places.blocks.active T.places.blocks.max_trial U.places.blocks.max_trial f g h i j k in
    let places : T.places ≡ U.places = same_places T.places.slots U.places.slots T.places.blocks U.places.blocks T.places.reject U.places.reject slots blocks l in
    same_parts T.layout U.layout T.ordered U.ordered T.entries U.entries T.places U.places a b c places

one_layout : (a b : LayoutKind) → layout_byte a ≡ layout_byte b → a ≡ b
one_layout default_layout default_layout e = refl
one_layout default_layout reduced_layout e = absurd (omega arith)
one_layout reduced_layout default_layout e = absurd (omega arith)
one_layout reduced_layout reduced_layout e = refl

-- no more is listed than there is
pub listed_fits : (version : ℕ) (T : Fields) → Shaped T.places → slots_listed version T ≤ capacity_of T
listed_fits zero T shaped = omega arith
listed_fits (suc n) T shaped = omega (arith, shaped.blocks.active_in)

taken : {X : Type 0} (n m : ℕ) (xs ys : List X) → n ≤ length xs → m ≤ length ys → n ≡ m → length (take n xs) ≡ length (take m ys)
taken n m xs ys p q e = omega (arith, length-take-le n xs p, length-take-le m ys q)

abbrev nodes_listed : ℕ → Fields → List NodeRecord
nodes_listed v T = take (slots_listed v T) T.places.slots.nodes

abbrev infos_listed : ℕ → Fields → List NInfoRecord
infos_listed v T = take (slots_listed v T) T.places.slots.infos

abbrev blocks_listed : ℕ → Fields → List BlockRecord
blocks_listed v T = take (slots_listed v T / 256) T.places.blocks.records

abbrev body_listed : ℕ → Fields → List ℕ
body_listed v T = listed_bytes (slots_listed v T) T.places.slots.nodes T.places.slots.infos T.places.blocks.records T.places.reject

-- the bodies of two tables of which as many slots are listed
same_body : (v w : ℕ) (T U : Fields) → FitsTable v T → FitsTable w U → Shaped T.places → Shaped U.places → header_of v T ≡ header_of w U → body_listed v T ≡ body_listed w U
    → (nodes_listed v T ≡ nodes_listed w U) × (infos_listed v T ≡ infos_listed w U) × (blocks_listed v T ≡ blocks_listed w U) × (T.places.reject ≡ U.places.reject)
same_body v w T U p q shaped other heads e =
    let n : slots_listed v T ≡ slots_listed w U = ap (λ h. h.array_len) heads in
    let fits = listed_fits v T shaped in
    let also = listed_fits w U other in
    let nodes_len : length (nodes_listed v T) ≡ length (nodes_listed w U) = taken _ _ T.places.slots.nodes U.places.slots.nodes (omega (arith, shaped.nodes)) (omega (arith, other.nodes)) n in
    let infos_len : length (infos_listed v T) ≡ length (infos_listed w U) = taken _ _ T.places.slots.infos U.places.slots.infos (omega (arith, shaped.nodes, shaped.infos)) (omega (arith, other.nodes, other.infos)) n in
    let blocks_len : length (blocks_listed v T) ≡ length (blocks_listed w U) = taken _ _ T.places.blocks.records U.places.blocks.records (omega arith) (omega arith) (ap (λ k. k / 256) n) in
    let reject_len : length T.places.reject ≡ length U.places.reject = ap (λ h. h.reject_len) heads in
    let rest = λ (u : ℕ) (V : Fields). flat_map block_bytes (blocks_listed u V) ++ flat_map i16_bytes V.places.reject in
    let nodes = same_lists node_bytes 8 FitsNode node_len one_node (nodes_listed v T) (nodes_listed w U) (flat_map info_bytes (infos_listed v T) ++ rest v T) (flat_map info_bytes (infos_listed w U) ++ rest w U) nodes_len p.body.nodes q.body.nodes e in
    let infos = same_lists info_bytes 2 FitsInfo info_len one_info (infos_listed v T) (infos_listed w U) (rest v T) (rest w U) infos_len p.body.infos q.body.infos nodes.1 in
    let blocks = same_lists block_bytes 20 FitsBlock block_len one_block (blocks_listed v T) (blocks_listed w U) (flat_map i16_bytes T.places.reject) (flat_map i16_bytes U.places.reject) blocks_len p.body.blocks q.body.blocks infos.1 in
    let reject = same_lists i16_bytes 2 IsI16 length-i16_bytes one_number T.places.reject U.places.reject [] [] reject_len p.body.reject q.body.reject (append-nil (flat_map i16_bytes T.places.reject) ∙ blocks.1 ∙ sym (append-nil (flat_map i16_bytes U.places.reject))) in
    (nodes.0, infos.0, blocks.0, reject.0)

-- lists that are filled up to one length with one value are the same, if what is listed of them is
same_filled : {X : Type 0} (blank : X) (n m : ℕ) (xs ys listed others : List X) → xs ≡ filled_list blank n listed → ys ≡ filled_list blank m others → n ≡ m → listed ≡ others → xs ≡ ys
same_filled blank n m xs ys listed others p q e f = p ∙ ap (λ k. filled_list blank k listed) e ∙ ap (filled_list blank m) f ∙ sym q

-- no two tables of which all is known share bytes
pub one_table : (v w : ℕ) (T U : Fields) → IsListed v T → IsListed w U → FitsTable v T → FitsTable w U → table_bytes v T ≡ table_bytes w U → (T ≡ U) × (v ≡ w)
one_table v w T U whole also p q e =
    let layout : T.layout ≡ U.layout =
    one_layout T.layout U.layout (sym (layout_again (layout_byte T.layout) (header_of v T) (body_listed v T)) ∙ ap (λ l. slice_index l 13) e ∙ layout_again (layout_byte U.layout) (header_of w U) (body_listed w U)) in
    let heads : header_of v T ≡ header_of w U =
    sym (header_again (layout_byte T.layout) (header_of v T) (body_listed v T) p.header) ∙ ap header_at e ∙ header_again (layout_byte U.layout) (header_of w U) (body_listed w U) q.header in
    let lens : length (header_bytes (layout_byte T.layout) (header_of v T)) ≡ length (header_bytes (layout_byte U.layout) (header_of w U)) = length-header_bytes (layout_byte T.layout) (header_of v T) ∙ sym (length-header_bytes (layout_byte U.layout) (header_of w U)) in
    let (nodes, infos, blocks, reject) = same_body v w T U p q whole.shaped also.shaped heads (same_rest (header_bytes (layout_byte T.layout) (header_of v T)) (header_bytes (layout_byte U.layout) (header_of w U)) (body_listed v T) (body_listed w U) lens e) in
    let capacity : capacity_of T ≡ capacity_of U = ap (λ h. h.capacity) heads in
    let all_nodes = same_filled blank_node _ _ _ _ _ _ whole.nodes also.nodes capacity nodes in
    let all_infos = same_filled blank_info _ _ _ _ _ _ whole.infos also.infos capacity infos in
    let all_blocks = same_filled blank_block _ _ _ _ _ _ whole.blocks also.blocks (ap (λ c. c / 256) capacity) blocks in
    let sizes : size_of T ≡ size_of U = ap (λ h. h.size) heads in
    let active : T.places.blocks.active ≡ U.places.blocks.active = omega arith in (
      same_fields T U layout (ap (λ h. h.ordered) heads) (ap (λ h. h.entries) heads) all_nodes all_infos all_blocks (ap (λ h. h.full_head) heads) (ap (λ h. h.closed_head) heads) (ap (λ h. h.open_head) heads) active (ap (λ h. h.max_trial) heads) reject,
      ap (λ h. h.minor) heads,
    )

-- all is known of a well-formed table: what isn't in use is blank
pub formed_is_listed : (slots version : ℕ) (T : Fields) → IsWellFormed slots T → IsListed version T
formed_is_listed slots zero T formed =
    let shaped = formed.table.sound.shaped in
    let nodes : length T.places.slots.nodes ≡ capacity_of T = shaped.nodes in
    let infos : length T.places.slots.infos ≡ capacity_of T = shaped.infos ∙ nodes in
    let blocks : length T.places.blocks.records ≡ capacity_of T / 256 = omega arith in
    record {
      shaped = shaped;
      nodes = subst (λ n. T.places.slots.nodes ≡ filled_list blank_node n (take (capacity_of T) T.places.slots.nodes)) nodes (filled_all blank_node (capacity_of T) T.places.slots.nodes (omega arith));
      infos = subst (λ n. T.places.slots.infos ≡ filled_list blank_info n (take (capacity_of T) T.places.slots.infos)) infos (filled_all blank_info (capacity_of T) T.places.slots.infos (omega arith));
      blocks = subst (λ n. T.places.blocks.records ≡ filled_list blank_block n (take (capacity_of T / 256) T.places.blocks.records)) blocks (filled_all blank_block (capacity_of T / 256) T.places.blocks.records (omega arith));
    }
formed_is_listed slots (suc minor) T formed =
    let sound = formed.table.sound in
    let shaped = sound.shaped in
    let nodes : length T.places.slots.nodes ≡ capacity_of T = shaped.nodes in
    let infos : length T.places.slots.infos ≡ capacity_of T = shaped.infos ∙ nodes in
    let blocks : length T.places.blocks.records ≡ capacity_of T / 256 = omega arith in
    let active : size_of T / 256 ≡ T.places.blocks.active = omega arith in
    record {
      shaped = shaped;
      nodes = subst (λ n. T.places.slots.nodes ≡ filled_list blank_node n (take (size_of T) T.places.slots.nodes)) nodes (filled_blank blank_node (size_of T) T.places.slots.nodes (omega (arith, shaped.blocks.active_in)) sound.inactive.nodes);
      infos = subst (λ n. T.places.slots.infos ≡ filled_list blank_info n (take (size_of T) T.places.slots.infos)) infos (filled_blank blank_info (size_of T) T.places.slots.infos (omega (arith, shaped.blocks.active_in)) sound.inactive.infos);
      blocks = subst (λ n. T.places.blocks.records ≡ filled_list blank_block n (take (size_of T / 256) T.places.blocks.records)) blocks
          (filled_blank blank_block (size_of T / 256) T.places.blocks.records (omega (arith, shaped.blocks.active_in)) (λ b within. sound.inactive.blocks b (omega arith)));
    }

-- no two well-formed tables share bytes
pub one_formed_table : (slots v w : ℕ) (T U : Fields) → IsWellFormed slots T → IsWellFormed slots U → FitsTable v T → FitsTable w U → table_bytes v T ≡ table_bytes w U → (T ≡ U) × (v ≡ w)
one_formed_table slots v w T U formed other p q e = one_table v w T U (formed_is_listed slots v T formed) (formed_is_listed slots w U other) p q e
