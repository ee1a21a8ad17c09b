-- A table's fields as numbers, for `impl Model` alone.
use Rattle.std.specs.Prelude.{◌≡◌, ℕ, ℤ, Bool, true, false, List}
use Rattle.std.specs.Coded.{Coded, code_by, coded×, coded_bool, coded_list, coded_ℕ, coded_ℤ}
use Rattle.std.proofs.Common.{refl}
use Rattle.cedar_slots.specs.declared.records.NodeRecord.{NodeRecord}
use Rattle.cedar_slots.specs.declared.records.NInfoRecord.{NInfoRecord}
use Rattle.cedar_slots.specs.declared.records.BlockRecord.{BlockRecord}
use Rattle.cedar_slots.specs.Blocks.{BlockFields}
use Rattle.cedar_model.specs.Table.Layouts.{LayoutKind, default_layout, reduced_layout}
use Rattle.cedar_slots.specs.Places.{PlaceFields}
use Rattle.cedar_slots.specs.Slots.{SlotFields}
use Rattle.cedar_model.specs.Table.TableFields.{Fields}

-- a slot's base and check as plain data
abbrev pub node_record_code : Coded NodeRecord
node_record_code = code_by (ℤ × ℤ) (coded× coded_ℤ coded_ℤ) (λ n. (n.base, n.check)) (λ p. record { base = p.0; check = p.1 }) (λ _. refl)

-- a slot's labels as plain data
abbrev pub info_code : Coded NInfoRecord
info_code = code_by (ℕ × ℕ) (coded× coded_ℕ coded_ℕ) (λ i. (i.sibling, i.child)) (λ p. record { sibling = p.0; child = p.1 }) (λ _. refl)

-- a block's record as plain data
abbrev pub block_code : Coded BlockRecord
block_code =
    code_by (((ℤ × ℤ) × (ℤ × ℤ)) × (ℤ × ℤ)) (coded× (coded× (coded× coded_ℤ coded_ℤ) (coded× coded_ℤ coded_ℤ)) (coded× coded_ℤ coded_ℤ))
    (λ b. (((b.prev, b.next), (b.num, b.reject)), (b.trial, b.e_head)))
    (λ p. record { prev = p.0.0.0; next = p.0.0.1; num = p.0.1.0; reject = p.0.1.1; trial = p.1.0; e_head = p.1.1 })
    (λ _. refl)

-- the records of all slots as plain data
abbrev pub slots_code : Coded SlotFields
slots_code =
    code_by (List NodeRecord × List NInfoRecord) (coded× (coded_list node_record_code) (coded_list info_code))
    (λ s. (s.nodes, s.infos)) (λ p. record { nodes = p.0; infos = p.1 }) (λ _. refl)

-- the records of all blocks, and their lists, as plain data
abbrev pub blocks_code : Coded BlockFields
blocks_code =
    code_by ((List BlockRecord × (ℤ × ℤ)) × ((ℤ × ℕ) × ℤ)) (coded× (coded× (coded_list block_code) (coded× coded_ℤ coded_ℤ)) (coded× (coded× coded_ℤ coded_ℕ) coded_ℤ))
    (λ b. ((b.records, (b.full_head, b.closed_head)), ((b.open_head, b.active), b.max_trial)))
    (λ p. record { records = p.0.0; full_head = p.0.1.0; closed_head = p.0.1.1; open_head = p.1.0.0; active = p.1.0.1; max_trial = p.1.1 })
    (λ _. refl)

-- slots, blocks and reject values as plain data
abbrev pub places_code : Coded PlaceFields
places_code =
    code_by ((SlotFields × BlockFields) × List ℤ) (coded× (coded× slots_code blocks_code) (coded_list coded_ℤ))
    (λ p. ((p.slots, p.blocks), p.reject)) (λ p. record { slots = p.0.0; blocks = p.0.1; reject = p.1 }) (λ _. refl)

-- whether a layout is the default one
abbrev pub is_default : LayoutKind → Bool
is_default default_layout = true
is_default reduced_layout = false

-- the default layout for true, and the reduced one for false
abbrev pub kind_from : Bool → LayoutKind
kind_from true = default_layout
kind_from false = reduced_layout

-- a layout is the one that `is_default` says
pub kind_back : (k : LayoutKind) → kind_from (is_default k) ≡ k
kind_back default_layout = refl
kind_back reduced_layout = refl

-- a layout as plain data
abbrev pub layout_code : Coded LayoutKind
layout_code = code_by Bool coded_bool is_default kind_from kind_back

-- a table's fields as plain data
abbrev pub fields_code : Coded Fields
fields_code =
    code_by ((LayoutKind × Bool) × (ℕ × PlaceFields)) (coded× (coded× layout_code coded_bool) (coded× coded_ℕ places_code))
    (λ t. ((t.layout, t.ordered), (t.entries, t.places)))
    (λ p. record { layout = p.0.0; ordered = p.0.1; entries = p.1.0; places = p.1.1 })
    (λ _. refl)
