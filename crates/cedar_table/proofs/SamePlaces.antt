-- Slots and blocks that are the same field by field.
use Rattle.std.proofs.Common.{◌≡◌, List, refl, ℕ, ℤ}
use Rattle.cedar_slots.specs.declared.records.BlockRecord.{BlockRecord}
use Rattle.cedar_slots.specs.declared.records.NInfoRecord.{NInfoRecord}
use Rattle.cedar_slots.specs.declared.records.NodeRecord.{NodeRecord}
use Rattle.cedar_slots.specs.Places.{PlaceFields}

pub same_places : {nodes nodes' : List NodeRecord} {infos infos' : List NInfoRecord} {records records' : List BlockRecord} {full full' closed closed' opened opened' trials trials' : ℤ} {reject reject' : List ℤ} (active : ℕ)
    → nodes ≡ nodes' → infos ≡ infos' → records ≡ records' → full ≡ full' → closed ≡ closed' → opened ≡ opened' → trials ≡ trials' → reject ≡ reject'
    → ◌≡◌ {A = PlaceFields} (record { slots = record { nodes = nodes; infos = infos }; blocks = record { records = records; full_head = full; closed_head = closed; open_head = opened; active = active; max_trial = trials }; reject = reject })
    (record { slots = record { nodes = nodes'; infos = infos' }; blocks = record { records = records'; full_head = full'; closed_head = closed'; open_head = opened'; active = active; max_trial = trials' }; reject = reject' })
same_places active p q r full closed opened trials reject = rw (p, q, r, full, closed, opened, trials, reject) refl
