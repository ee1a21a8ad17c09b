-- What the code finds at the start of some records, and how far a file goes.
use Rattle.std.specs.Prelude.{◌↔◌}
use Rattle.std.proofs.Common.{◌≡◌, ◌≢◌, inl, inr, ℕ, ◌+◌, ◌-◌, ◌≤◌, ◌<◌, true, false, List, [], ◌∷◌, ◌++◌, length, take, drop, get_or, Some, None, refl, sym, subst, ◌∙◌, ap, arith, length-drop, length-take-le, take-append-drop}
use Rattle.std.proofs.lemmas.Bool.{cases_Bool, false_from_ne_true, false≢true}
use Rattle.std.proofs.lemmas.List.{take_all}
use Rattle.crc32c.specs.Sums.{crc32c}
use Rattle.cedar_journal.specs.declared.format.Format.{Format}
use Rattle.cedar_journal.specs.declared.format.Format.TheVariants.{Plain, Summed}
use Rattle.cedar_journal.specs.declared.records.Next.{Next}
use Rattle.cedar_journal.specs.declared.records.Next.TheVariants as nexts
use Rattle.cedar_journal.specs.Files.{HasRecords, EndsThere, IsFoundThere, IsWholeFront, file_reading, format_of, file_payloads, recovered_by}
use Rattle.cedar_journal.specs.Formats.{ArePieces, AreUndamaged, Reading, read_behind, damaged, is_ended, is_summed, payloads_read, four_at, records_read, stands}
use Rattle.cedar_journal.specs.Records.{behind_record, has_record, payload, payload_length, payloads_in}
use Rattle.cedar_journal.proofs.Fronts.{first_of, record_is_front, take_both}
use Rattle.cedar_journal.proofs.Headers.{front_and, named_reads}
use Rattle.cedar_journal.proofs.Reading.{payloads_first, payloads_none}
use Rattle.cedar_journal.proofs.Readings.{closed_end, ended_gate, has_sum, is_whole, not_ended, plain_pieces, same_gate, same_number, same_text_of, summed_ends, summed_fails, summed_first, summed_pieces}
use Rattle.std.proofs.lemmas.Option.{none-some}

-- ---- version 1

pub plain_read : (bytes p : List ℕ) → has_record bytes ≡ true → p ≡ payload bytes → drop (5 + length p) bytes ≡ behind_record bytes
    → records_read Plain bytes ≡ read_behind (5 + length p) (p ∷ []) (records_read Plain (drop (5 + length p) bytes))
unfolding records_read
plain_read bytes p has is rest = ap stands (payloads_first bytes has) ∙ (λ i. stands (sym is i ∷ payloads_in (sym rest i)))

pub plain_ends : (bytes : List ℕ) → has_record bytes ≡ false → records_read Plain bytes ≡ stands []
unfolding records_read
plain_ends bytes lacks = ap stands (payloads_none bytes lacks)

pub plain_piece : (bytes : List ℕ) (n : ℕ) → has_record bytes ≡ true → n ≡ 5 + payload_length bytes → (payloads : List (List ℕ)) × ArePieces Plain (take n bytes) payloads
plain_piece bytes n has is =
    let first = first_of n bytes has is in
    (payloads_in (take n bytes), plain_pieces (take n bytes) (record_is_front (take n bytes) first.0 first.1))

-- ---- version 2

not_both : (payloads : List (List ℕ)) (at : ℕ) → damaged at ≡ stands payloads → ⊥
not_both payloads at same = let apart : damaged at ≡ stands payloads = same in cc

module _ (bytes : List ℕ) (sound : AreUndamaged Summed bytes) where
  -- what is sound and hasn't ended has a whole record
  sound_has : is_ended bytes ≡ false → is_summed bytes ≡ true
  sound_has going = elim (cases_Bool (is_summed bytes)) [
    | inl has ↦ has
    | inr lacks ↦ absurd (not_both sound.0 0 (sym (summed_fails bytes going lacks) ∙ sound.1))
  ]

  pub summed_read : (n : ℕ) → n ≡ four_at bytes 5 → get_or bytes 0 0 ≢ 0 → 9 ≤ length bytes
      → records_read Summed bytes ≡ read_behind (9 + n) (take n (drop 9 bytes) ∷ []) (records_read Summed (drop (9 + n) bytes))
  summed_read n is ajar nine =
      let going = not_ended bytes ajar (omega (arith, nine)) in
      summed_first bytes going (sound_has going) ∙ ap (λ k. read_behind (9 + k) (take k (drop 9 bytes) ∷ []) (records_read Summed (drop (9 + k) bytes))) (sym is)

  pub summed_found : (n m : ℕ) → m ≡ n → n ≡ four_at bytes 5 → get_or bytes 0 0 ≢ 0 → 9 ≤ length bytes → 9 + n ≤ length bytes
      → records_read Summed bytes ≡ read_behind (9 + length (take m (drop 9 bytes))) (take m (drop 9 bytes) ∷ []) (records_read Summed (drop (9 + length (take m (drop 9 bytes))) bytes))
  summed_found n m same is ajar nine fits =
      let size : length (take m (drop 9 bytes)) ≡ n = length-take-le m (drop 9 bytes) (omega (arith, same, fits, length-drop 9 bytes)) ∙ same in
      summed_read n is ajar nine ∙ (λ i. read_behind (9 + sym size i) (take (sym same i) (drop 9 bytes) ∷ []) (records_read Summed (drop (9 + sym size i) bytes)))

  -- where there isn't one, it has ended
  pub sound_ends : (is_ended bytes ≡ false → is_summed bytes ≡ true → ⊥) → records_read Summed bytes ≡ stands []
  sound_ends not = elim (cases_Bool (is_ended bytes)) [ inl ended ↦ summed_ends bytes ended | inr going ↦ absurd (not going (sound_has going)) ]

  pub few_ends : length bytes < 9 → records_read Summed bytes ≡ stands []
  few_ends few = sound_ends (λ going has. let fits = is_whole bytes has in absurd (omega (arith, few, fits)))

  pub shut_ends : get_or bytes 0 0 ≡ 0 → records_read Summed bytes ≡ stands []
  shut_ends shut = summed_ends bytes (ended_gate bytes shut)

  pub cut_ends : (n : ℕ) → n ≡ four_at bytes 5 → length bytes < 9 + n → records_read Summed bytes ≡ stands []
  cut_ends n is cut = sound_ends (λ going has. let fits = is_whole bytes has in absurd (omega (arith, cut, is, fits)))

module _ (bytes : List ℕ) (ajar : get_or bytes 0 0 ≢ 0) (long : 1 < length bytes) where
  pub damage : (is_summed bytes ≡ true → ⊥) → records_read Summed bytes ≡ damaged 0
  damage not = summed_fails bytes (not_ended bytes ajar long) (false_from_ne_true _ not)

  pub few_damage : length bytes < 9 → records_read Summed bytes ≡ damaged 0
  few_damage few = damage (λ has. let fits = is_whole bytes has in absurd (omega (arith, few, fits)))

  pub cut_damage : (n : ℕ) → n ≡ four_at bytes 5 → length bytes < 9 + n → records_read Summed bytes ≡ damaged 0
  cut_damage n is cut = damage (λ has. let fits = is_whole bytes has in absurd (omega (arith, cut, is, fits)))

  pub sum_damage : (n : ℕ) → n ≡ four_at bytes 5 → crc32c (take (4 + n) (drop 5 bytes)) ≢ four_at bytes 1 → records_read Summed bytes ≡ damaged 0
  sum_damage n is other = damage (λ has. other (ap (λ k. crc32c (take (4 + k) (drop 5 bytes))) is ∙ has_sum bytes has))

  pub summed_piece : (n : ℕ) → n ≡ four_at bytes 5 → 9 + n ≤ length bytes → crc32c (take (4 + n) (drop 5 bytes)) ≡ four_at bytes 1
      → (payloads : List (List ℕ)) × ArePieces Summed (take (9 + n) bytes) payloads
  summed_piece n is fits sum =
      let r = take (9 + n) bytes in
      let rest = drop (9 + n) bytes in
      let apart : r ++ rest ≡ bytes = take-append-drop (9 + n) bytes in
      let size : length r ≡ 9 + n = length-take-le (9 + n) bytes fits in
      let nine : 9 ≤ length r = omega (arith, size) in
      let fits_there : 9 + n ≤ length r = omega (arith, size) in
      let gate : get_or r 0 0 ≡ get_or bytes 0 0 = sym (same_gate r rest nine) ∙ ap (λ (l : List ℕ). get_or l 0 0) apart in
      let told : four_at r 5 ≡ n = sym (same_number r rest nine 5 (omega arith)) ∙ ap (λ (l : List ℕ). four_at l 5) apart ∙ sym is in
      let text : crc32c (take (4 + n) (drop 5 r)) ≡ four_at r 1 =
      ap crc32c (sym (same_text_of r rest nine n fits_there) ∙ ap (λ (l : List ℕ). take (4 + n) (drop 5 l)) apart) ∙ sum
      ∙ ap (λ (l : List ℕ). four_at l 1) (sym apart) ∙ same_number r rest nine 1 (omega arith) in
      (take n (drop 9 r) ∷ [], summed_pieces r (λ shut. ajar (sym gate ∙ shut)) n told size text)

-- ---- how far a file goes

-- a part of a file up to its end is all that is behind its start
pub next_there : (f : Format) (bytes : List ℕ) (at : ℕ) (next : Next) → IsFoundThere f (take (length bytes - at) (drop at bytes)) next → IsFoundThere f (drop at bytes) next
next_there f bytes at next is = subst (λ (l : List ℕ). IsFoundThere f l next) (take_all (length bytes - at) (drop at bytes) (omega (arith, length-drop at bytes))) is

-- what is neither a record nor damaged is an end
pub only_end : (f : Format) (bytes : List ℕ) (next : Next) → IsFoundThere f bytes next → ((n : ℕ) → next ≡ nexts.Record n → ⊥) → (next ≡ nexts.Damaged → ⊥) → EndsThere f bytes
only_end f bytes nexts.End is no_record no_damage = is
only_end f bytes (nexts.Record n) is no_record no_damage = absurd (no_record n refl)
only_end f bytes nexts.Damaged is no_record no_damage = absurd (no_damage refl)

pub stands_unrefused : (file : List ℕ) (ps : List (List ℕ)) → file_payloads file ≡ Some ps → (false ≡ true) ↔ (file_payloads file ≡ None)
stands_unrefused file ps is = (λ wrong. absurd (false≢true wrong), λ none. absurd (none-some ps (sym none ∙ is)))

pub lost_refused : (file : List ℕ) → file_payloads file ≡ None → (true ≡ true) ↔ (file_payloads file ≡ None)
lost_refused file is = (λ yes. is, λ none. refl)

module _ (bytes : List ℕ) (f : Format) (end : ℕ) (within : end ≤ length bytes) (front : IsWholeFront f (take end bytes)) where
  pub longer_front : (n : ℕ) → (payloads : List (List ℕ)) × ArePieces f (take n (drop end bytes)) payloads → IsWholeFront f (take (end + n) bytes)
  longer_front n pieces =
      subst (IsWholeFront f) (sym (take_both end n bytes within))
      (front.0 ++ pieces.0, front_and f (take end bytes) (take n (drop end bytes)) front.0 pieces.0 front.1 pieces.1)

  by_front : file_reading bytes ≡ Some (read_behind (length (take end bytes)) front.0 (records_read f (drop end bytes)))
  by_front = ap file_reading (sym (take-append-drop end bytes)) ∙ front.1 (drop end bytes)

  pub damaged_there : records_read f (drop end bytes) ≡ damaged 0 → file_reading bytes ≡ Some (damaged end)
  damaged_there is =
      let place : length (take end bytes) + 0 ≡ end = omega (arith, length-take-le end bytes within) in
      by_front ∙ ap (λ r. Some (read_behind (length (take end bytes)) front.0 r)) is ∙ ap (λ n. Some (damaged n)) place

  pub stands_there : EndsThere f (drop end bytes) → (payloads : List (List ℕ)) × (file_payloads bytes ≡ Some payloads)
  unfolding file_payloads
  stands_there ends = (front.0 ++ [], ap recovered_by (by_front ∙ ap (λ r. Some (read_behind (length (take end bytes)) front.0 r)) (closed_end f (drop end bytes) ends)))

  by_header : (r : Reading) (ps : List (List ℕ)) → recovered_by (Some (read_behind 13 [] r)) ≡ Some ps → ((qs : List (List ℕ)) × (r ≡ stands qs)) × (recovered_by (Some (read_behind 13 [] r)) ≡ Some (payloads_read r))
  by_header (stands qs) ps is = ((qs, refl), refl)
  by_header (damaged at) ps is = absurd (none-some ps is)

  pub all_records : format_of bytes ≡ Some f → 13 ≤ end → EndsThere f (drop end bytes) → HasRecords bytes f end
  unfolding file_payloads
  all_records named some ends =
      let there = stands_there ends in
      let r = records_read f (drop 13 bytes) in
      let by : file_reading bytes ≡ Some (read_behind 13 [] r) = named_reads bytes f named in
      let parts = by_header r there.0 (sym (ap recovered_by by) ∙ there.1) in
      record {
        named = named;
        within = within;
        some = some;
        front = front;
        no_more = ends;
        sound = parts.0;
        stands = ap recovered_by by ∙ parts.1;
      }

pub damaged_lost : (file : List ℕ) (at : ℕ) → file_reading file ≡ Some (damaged at) → file_payloads file ≡ None
unfolding file_payloads
damaged_lost file at is = ap recovered_by is

pub foreign_lost : (file : List ℕ) → file_reading file ≡ None → file_payloads file ≡ None
unfolding file_payloads
foreign_lost file is = ap recovered_by is
