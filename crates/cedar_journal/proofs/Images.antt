-- A journal's file that is made at once.
use Rattle.std.specs.Prelude.{Some}
use Rattle.std.proofs.Common.{◌≡◌, ◌⊎◌, inl, inr, ⊎_elim, ℕ, ◌+◌, ◌-◌, ◌<◌, ◌≤◌, List, [], ◌∷◌, ◌++◌, length, set, refl, sym, ◌∙◌, ap, subst, arith, append_assoc, length-append}
use Rattle.std.proofs.lemmas.List.{set-append_right, take_at}
use Rattle.cedar_journal.specs.declared.format.Format.TheVariants.{Summed}
use Rattle.cedar_journal.specs.Device.{Only}
use Rattle.cedar_journal.specs.Files.{file_payloads, IsFileFront, journal_header}
use Rattle.cedar_journal.specs.Formats.{ArePieces, AreWhole, frame_of, record_head, payloads_read, records_read}
use Rattle.cedar_journal.specs.Images.{image_of, records_of}
use Rattle.cedar_journal.specs.Journal.{IsSettled, StandsForEither}
use Rattle.cedar_journal.proofs.Crash.{settled_at}
use Rattle.cedar_journal.proofs.Headers.{front_and, front_ends, header_is_front}
use Rattle.cedar_journal.proofs.Readings.{no_pieces, opening_open, pieces_and, pieces_listed, pieces_whole, shut, written}

-- ---- what it represents

module _ (records : List ℕ) (whole : AreWhole Summed records) where
  pub front_whole : IsFileFront Summed (journal_header Summed ++ records) (payloads_read (records_read Summed records))
  front_whole = front_and Summed (journal_header Summed) records [] (payloads_read (records_read Summed records)) (header_is_front Summed) whole

  pub image_stands : file_payloads (image_of records) ≡ Some (payloads_read (records_read Summed records))
  image_stands = front_ends Summed (journal_header Summed ++ records) (payloads_read (records_read Summed records)) front_whole (0 ∷ []) (shut Summed [])

-- ---- its records

pub length-image : (records : List ℕ) → length (image_of records) ≡ length records + 14
length-image records = omega (arith, length-append records (0 ∷ []))

pub same_records : (records : List ℕ) → records_of (image_of records) ≡ records
same_records records = take_at records (0 ∷ []) (length (image_of records) - 14) (omega (arith, length-image records))

-- a record more
module _ (bytes bytes_of_frame next payload : List ℕ) (shape : bytes ≡ image_of (records_of bytes)) (whole : AreWhole Summed (records_of bytes)) (short : length payload < 4294967296) (frame : bytes_of_frame ≡ frame_of Summed payload) (is : next ≡ set (bytes ++ bytes_of_frame) (length bytes - 1) 255) where
  abbrev records : List ℕ
  records = records_of bytes

  abbrev written_record : List ℕ
  written_record = 255 ∷ (record_head Summed payload ++ payload)

  opened : (front : List ℕ) → bytes ≡ front ++ 0 ∷ [] → next ≡ front ++ (written_record ++ 0 ∷ [])
  opened front same =
      let none_left : length front - length front ≡ 0 = omega arith in
      let size : length bytes - 1 ≡ length front = omega (arith, ap length same, length-append front (0 ∷ [])) in
      is
      ∙ (λ i. set (same i ++ frame i) (size i) 255)
      ∙ ap (λ (l : List ℕ). set l (length front) 255) (append_assoc front (0 ∷ []) (frame_of Summed payload))
      ∙ set-append_right front (0 ∷ frame_of Summed payload) (length front) (length front) 255 refl (omega arith)
      ∙ ap (λ (n : ℕ). front ++ set (0 ∷ frame_of Summed payload) n 255) none_left

  joined : journal_header Summed ++ (records ++ (written_record ++ 0 ∷ [])) ≡ image_of (records ++ written_record)
  joined = ap (λ (l : List ℕ). journal_header Summed ++ l) (sym (append_assoc records written_record (0 ∷ [])))

  longer : next ≡ image_of (records ++ written_record)
  longer = opened (journal_header Summed ++ records) shape ∙ joined

  pub next_records : records_of next ≡ records_of bytes ++ written_record
  next_records = ap records_of longer ∙ same_records (records ++ written_record)

  pub next_shape : next ≡ image_of (records_of next)
  next_shape = longer ∙ ap image_of (sym next_records)

  pieces : ArePieces Summed (records ++ written_record) (payloads_read (records_read Summed records) ++ payload ∷ [])
  pieces = pieces_and Summed records written_record (payloads_read (records_read Summed records)) (payload ∷ []) whole (written Summed 255 payload (opening_open Summed) short)

  pub next_whole : AreWhole Summed (records_of next)
  next_whole = subst (AreWhole Summed) (sym next_records) (pieces_whole Summed (records ++ written_record) (payloads_read (records_read Summed records) ++ payload ∷ []) pieces)

  pub next_payloads : payloads_read (records_read Summed (records_of next)) ≡ payloads_read (records_read Summed (records_of bytes)) ++ payload ∷ []
  next_payloads = ap (λ (l : List ℕ). payloads_read (records_read Summed l)) next_records ∙ pieces_listed Summed (records ++ written_record) (payloads_read (records_read Summed records) ++ payload ∷ []) pieces

pub some_gate : (bytes : List ℕ) → bytes ≡ image_of (records_of bytes) → 14 ≤ length bytes
some_gate bytes shape = let size = ap length shape in let long = length-image (records_of bytes) in omega (arith, size, long)

-- no record yet
module _ (bytes : List ℕ) (is : bytes ≡ image_of []) where
  none : records_of bytes ≡ []
  none = ap records_of is

  pub new_shape : bytes ≡ image_of (records_of bytes)
  new_shape = is ∙ ap image_of (sym none)

  pub new_whole : AreWhole Summed (records_of bytes)
  new_whole = subst (AreWhole Summed) (sym none) (pieces_whole Summed [] [] (no_pieces Summed))

  pub new_payloads : payloads_read (records_read Summed (records_of bytes)) ≡ []
  new_payloads = ap (λ (l : List ℕ). payloads_read (records_read Summed l)) none ∙ pieces_listed Summed [] [] (no_pieces Summed)

-- ---- put in the place of a file

pub either_stands : (file bytes c : List ℕ) (may_leave : List ℕ → Type 0) → Only file may_leave → bytes ≡ image_of (records_of bytes) → AreWhole Summed (records_of bytes) → may_leave c ⊎ (c ≡ bytes)
    → StandsForEither (file_payloads file) (payloads_read (records_read Summed (records_of bytes))) c
either_stands file bytes c may_leave only shape whole = ⊎_elim
    (λ left. inl (ap file_payloads (only c left)))
    (λ now. inr (ap file_payloads (now ∙ shape) ∙ image_stands (records_of bytes) whole))

module _ {D : Type 0} (seen : D → List ℕ) (may_leave : D → List ℕ → Type 0) (device : D) (bytes : List ℕ) (shape : bytes ≡ image_of (records_of bytes)) (whole : AreWhole Summed (records_of bytes)) (is : seen device ≡ bytes) where
  pub replaced_stands : file_payloads (seen device) ≡ Some (payloads_read (records_read Summed (records_of bytes)))
  replaced_stands = ap file_payloads (is ∙ shape) ∙ image_stands (records_of bytes) whole

  pub replaced_settled : (end : ℕ) → end + 1 ≡ length bytes → Only bytes (may_leave device) → IsSettled seen may_leave device Summed end
  replaced_settled end ends only =
      let front = journal_header Summed ++ records_of bytes in
      let size : length front ≡ end = omega (arith, ends, ap length shape, length-image (records_of bytes)) in
      settled_at seen may_leave device Summed end front [] size (payloads_read (records_read Summed (records_of bytes)), front_whole (records_of bytes) whole) (is ∙ shape)
      (subst (λ f. Only f (may_leave device)) (sym is) only)
