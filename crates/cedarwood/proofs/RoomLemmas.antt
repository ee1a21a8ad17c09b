-- What a table's room for more blocks says of the dictionary.
use Rattle.std.proofs.Common.{◌≡◌, ℕ, ◌+◌, ◌*◌, ◌-◌, ◌<◌, ◌≤◌, length, refl, ap, sym, subst, ◌∙◌, arith, IfErr, IsOk, OnOk, Result, Ok, Err}
use Rattle.cedar_tree.specs.State.{State}
use Rattle.cedar_model.specs.Edit.Steps.{blocks_after}
use Rattle.cedar_model.specs.Meaning.Marks.{marks}
use Rattle.cedar_model.specs.Meaning.WellFormed.{IsWellFormed, tree_of}
use Rattle.cedar_model.specs.Table.TableFields.{Fields, capacity_of, size_of}
use Rattle.cedar_slots.specs.declared.shortage.Shortage.{Shortage}
use Rattle.cedar_slots.specs.declared.shortage.Shortage.TheVariants as shortage
use Rattle.cedar_table.specs.Table.Room as table
use Rattle.cedarwood.specs.declared.error.CedarError.TheVariants.{SlotLimit}
use Rattle.cedarwood.specs.Dictionary.{Dictionary, capacity_after}
use Rattle.cedarwood.specs.Room.{LacksRoom}
use Rattle.cedarwood.specs.Told.{error_of_shortage}
use Rattle.cedarwood.proofs.GrowthLemmas.{capacity_by_blocks, dictionary_of}
use Rattle.cedarwood.proofs.OutcomeLemmas.{told_outcome}

module _ (slots n limit : ℕ) (T T' : Fields) (d : Dictionary) (same : dictionary_of limit T ≡ d) where
  pub capacity_then : length T'.places.blocks.records ≡ blocks_after n T.places.blocks.active (length T.places.blocks.records) → capacity_of T' ≡ capacity_after n d.size d.capacity
  capacity_then grown =
      ap (λ b. 256 * b) grown
      ∙ sym (capacity_by_blocks n T.places.blocks.active (length T.places.blocks.records))
      ∙ ap (λ (x : Dictionary). capacity_after n x.size x.capacity) same

  pub all_kept : T' ≡ T → dictionary_of limit T' ≡ d
  all_kept kept = ap (dictionary_of limit) kept ∙ same

  pub has_room : IsWellFormed slots T → 256 * n ≤ d.capacity - d.size → size_of T + 256 * n ≤ capacity_of T
  has_room well room =
      let there : 256 * n ≤ capacity_of T - size_of T = subst (λ (x : Dictionary). 256 * n ≤ x.capacity - x.size) (sym same) room in
      omega (arith, well.table.sound.shaped.blocks.active_in)

  pub lacks : (e : Shortage) → table.LacksBlocks T slots n e → LacksRoom slots d n (error_of_shortage e)
  lacks e h = subst (λ (x : Dictionary). LacksRoom slots x n (error_of_shortage e)) same (by_error e h)
    where
      by_error : (e : Shortage) → table.LacksBlocks T slots n e → LacksRoom slots (dictionary_of limit T) n (error_of_shortage e)
      by_error shortage.Memory h = h
      by_error shortage.SlotLimit h = h

  pub never_with_room : IsWellFormed slots T → (e : Shortage) → table.LacksBlocks T slots n e → 256 * n ≤ d.capacity - d.size → ⊥
  never_with_room well e h room = no_lack e h (has_room well room)
    where
      no_lack : (e : Shortage) → table.LacksBlocks T slots n e → size_of T + 256 * n ≤ capacity_of T → ⊥
      no_lack shortage.Memory h enough = absurd (omega (arith, h.0))
      no_lack shortage.SlotLimit h enough = absurd (omega (arith, well.table.within))

  pub limit_is_told : (e : Shortage) → table.LacksBlocks T slots n e → slots < d.size + 256 * n → error_of_shortage e ≡ SlotLimit
  limit_is_told e h past = which e h (subst (λ (x : Dictionary). slots < x.size + 256 * n) (sym same) past)
    where
      which : (e : Shortage) → table.LacksBlocks T slots n e → slots < size_of T + 256 * n → error_of_shortage e ≡ SlotLimit
      which shortage.Memory h past = absurd (omega (arith, h.1))
      which shortage.SlotLimit h past = refl

  pub limit_is_kept : IsWellFormed slots T' → size_of T' ≡ size_of T → size_of T' + 256 * n ≤ capacity_of T' → slots < d.size + 256 * n → ⊥
  limit_is_kept well size spare past =
      let beyond : slots < size_of T + 256 * n = subst (λ (x : Dictionary). slots < x.size + 256 * n) (sym same) past in
      absurd (omega (arith, well.table.within))

  -- where there is room nothing is asked for
  pub asks_for_none : IsWellFormed slots T → (r : Result (Unit {0}) Shortage) → IfErr r (table.LacksBlocks T slots n) → 256 * n ≤ d.capacity - d.size → IsOk (told_outcome r)
  asks_for_none well (Ok x) h room = refl
  asks_for_none well (Err e) h room = absurd (never_with_room well e h room)

  -- past the limit it is the limit that is reported
  pub tells_limit : IsWellFormed slots T' → size_of T' ≡ size_of T → (r : Result (Unit {0}) Shortage) → OnOk r (size_of T' + 256 * n ≤ capacity_of T') → IfErr r (table.LacksBlocks T slots n)
      → slots < d.size + 256 * n → told_outcome r ≡ Err SlotLimit
  tells_limit well size (Ok x) spare h past = absurd (limit_is_kept well size spare past)
  tells_limit well size (Err e) spare h past = ap Err (limit_is_told e h past)
