-- A file is opened by its plan.
use Rattle.std.specs.Prelude.{◌==◌, cond, Some}
use Rattle.std.proofs.Common.{◌≡◌, ℕ, ◌+◌, ◌-◌, ◌≤◌, Bool, true, false, List, [], ◌∷◌, ◌++◌, length, take, drop, get_or, refl, sym, ◌∙◌, ap, arith, take-append-drop}
use Rattle.std.proofs.lemmas.Bool.{and_parts, eqb-true}
use Rattle.std.proofs.lemmas.List.{drop_all, drop_more}
use Rattle.cedar_journal.specs.declared.format.Format.{Format}
use Rattle.cedar_journal.specs.declared.format.Format.TheVariants.{Summed}
use Rattle.cedar_journal.specs.declared.records.Extent.{Extent}
use Rattle.cedar_journal.specs.declared.records.Extent.TheVariants.{New, Until}
use Rattle.cedar_journal.specs.Device.{Cut}
use Rattle.cedar_journal.specs.Files.{HasExtent, HasRecords, IsNewFile, ends_closed, header_frame, journal_header, file_payloads}
use Rattle.cedar_journal.specs.Journal.{IsSettled}
use Rattle.cedar_journal.proofs.Crash.{closed_same, cut_keeps, file_size, settled_at, stays, torn_end, written_end}
use Rattle.cedar_journal.proofs.HeaderCrash.{cut_leaves, torn_byte, torn_frame, torn_gate_of_header}
use Rattle.cedar_journal.proofs.Headers.{byte_stands, empty_stands, gate_stands, header_is_front, header_stands}
use Rattle.whole_files.specs.Calls.{Call, MayLeave, open_call, overlay, seen_after}
use Rattle.cedar_plan.specs.Safety.{CrashLeaves, IsAtRest, IsOpened}
use Rattle.cedar_plan.specs.Works.{AreCarriedOut, Work, all_done, cut_to, end_of, format_in, opening_works, write_to}
use Rattle.cedar_plan.proofs.Working.{Has, Keep, all_have, all_leave, has_opened}

-- ---- a file with records

module _ (file : List ℕ) (f : Format) (end : ℕ) (records : HasRecords file f end) where
  abbrev Alike : List ℕ → Type 0
  Alike c = file_payloads c ≡ file_payloads file

  abbrev gated : List ℕ
  gated = overlay (take end file) end (0 ∷ [])

  size : length (take end file) ≡ end
  size = file_size file f end records

  is_gated : gated ≡ take end file ++ 0 ∷ []
  is_gated = written_end file f end records gated refl

  pub until_same : file_payloads gated ≡ file_payloads file
  until_same = closed_same file f end records gated is_gated

  abbrev pub ending : List Work
  ending = cut_to end ∷ write_to end (0 ∷ []) ∷ []

  pub until_keeps : Keep ending file Alike
  until_keeps =
      let second : end ≤ length (take end file) = omega (arith, size) in
      (refl, records.within, cut_keeps file f end records, (stays file f end records, second, torn_end file f end records, until_same))

  pub until_settled : (calls : List Call) → Has calls gated → IsSettled seen_after MayLeave calls f end
  until_settled calls has =
      settled_at seen_after MayLeave calls f end (take end file) [] size records.front (has.seen ∙ is_gated) (λ c left. has.only c left ∙ sym has.seen)

  -- only a closed gate is behind the records
  module _ (closed : ends_closed file end ≡ true) where
    is_closed : file ≡ take end file ++ 0 ∷ []
    is_closed =
        let parts = and_parts (length file - end == 1) (get_or file end 0 == 0) closed in
        let one : length file - end ≡ 1 = eqb-true (length file - end) 1 parts.0 in
        let gate : get_or file end 0 ≡ 0 = eqb-true (get_or file end 0) 0 parts.1 in
        let none : drop (end + 1) file ≡ [] = drop_all (end + 1) file (omega (arith, one)) in
        sym (take-append-drop end file)
        ∙ ap (λ (l : List ℕ). take end file ++ l) (drop_more file end 0 (omega (arith, one)) ∙ (λ i. gate i ∷ none i))

    pub rests : IsSettled seen_after MayLeave (open_call file ∷ []) f end
    rests = settled_at seen_after MayLeave (open_call file ∷ []) f end (take end file) [] size records.front is_closed (λ c left. (has_opened file).only c left)

-- ---- a new file

module _ (file : List ℕ) (new : IsNewFile file) where
  abbrev Empty : List ℕ → Type 0
  Empty c = file_payloads c ≡ file_payloads file

  is_empty : (c : List ℕ) → file_payloads c ≡ Some [] → Empty c
  is_empty c is = is ∙ sym new.stands

  pub new_keeps : Keep (opening_works file New) file Empty
  new_keeps =
      let none : 0 ≤ length file = omega arith in
      let first : 0 ≤ 0 = omega arith in
      let one : 1 ≤ 1 = omega arith in
      let some : 0 ≤ 14 = omega arith in (
        refl,
        none,
        λ c cut. is_empty c (cut_leaves file c 0 new cut),
        (
          is_empty [] empty_stands,
          first,
          λ c torn. is_empty c (torn_byte c torn),
          (
            is_empty (0 ∷ []) (byte_stands 0),
            one,
            λ c torn. is_empty c (torn_frame c torn),
            (is_empty (0 ∷ header_frame Summed) (gate_stands 0), some, λ c torn. is_empty c (torn_gate_of_header c torn), is_empty (1 ∷ header_frame Summed) header_stands),
          ),
        ),
      )

  pub new_same : file_payloads (1 ∷ header_frame Summed) ≡ file_payloads file
  new_same = is_empty (1 ∷ header_frame Summed) header_stands

  pub new_settled : (calls : List Call) → Has calls (1 ∷ header_frame Summed) → IsSettled seen_after MayLeave calls Summed 13
  new_settled calls has =
      settled_at seen_after MayLeave calls Summed 13 (journal_header Summed) [] refl ([], header_is_front Summed) has.seen (λ c left. has.only c left ∙ sym has.seen)

-- ---- any file

abbrev Same : List ℕ → List ℕ → Type 0
Same file c = file_payloads c ≡ file_payloads file

-- these works open the file
record Opens (file : List ℕ) (extent : Extent) (works : List Work) : Type 0 where
  rest : IsAtRest (all_done works (open_call file ∷ [])) (format_in extent) (end_of extent)
  same : file_payloads (seen_after (all_done works (open_call file ∷ []))) ≡ file_payloads file
  any_moment : (after : List Call) → AreCarriedOut works (open_call file ∷ []) after → CrashLeaves (open_call file ∷ []) after (Same file)

opens_new : (file : List ℕ) (new : IsNewFile file) → Opens file New (opening_works file New)
opens_new file new =
    let keep = new_keeps file new in
    let now = all_have (opening_works file New) (open_call file ∷ []) file (Same file) (has_opened file) keep in
    record {
      rest = record { settled = new_settled file new _ now; within = now.within; usable = now.usable };
      same = ap file_payloads now.seen ∙ new_same file new;
      any_moment = λ after out. all_leave (opening_works file New) (open_call file ∷ []) after file (Same file) (has_opened file) keep out;
    }

opens_end : (file : List ℕ) (f : Format) (end : ℕ) (records : HasRecords file f end) → Opens file (Until f end) (ending file f end records)
opens_end file f end records =
    let works = ending file f end records in
    let keep = until_keeps file f end records in
    let now = all_have works (open_call file ∷ []) file (Same file) (has_opened file) keep in
    record {
      rest = record { settled = until_settled file f end records _ now; within = now.within; usable = now.usable };
      same = ap file_payloads now.seen ∙ until_same file f end records;
      any_moment = λ after out. all_leave works (open_call file ∷ []) after file (Same file) (has_opened file) keep out;
    }

opens_rest : (file : List ℕ) (f : Format) (end : ℕ) (records : HasRecords file f end) → ends_closed file end ≡ true → Opens file (Until f end) []
opens_rest file f end records closed =
    let now = has_opened file in
    record {
      rest = record { settled = rests file f end records closed; within = now.within; usable = now.usable };
      same = refl;
      any_moment = λ after out. all_leave [] (open_call file ∷ []) after file (Same file) now refl out;
    }

by_gate : (file : List ℕ) (f : Format) (end : ℕ) (b : Bool) (works : List Work) → (b ≡ true → Opens file (Until f end) []) → Opens file (Until f end) works
    → Opens file (Until f end) (cond b [] works)
by_gate file f end true works rest other = rest refl
by_gate file f end false works rest other = other

opens : (file : List ℕ) (extent : Extent) → HasExtent file extent → Opens file extent (opening_works file extent)
opens file New new = opens_new file new
opens file (Until f end) records =
    by_gate file f end (ends_closed file end) (ending file f end records) (opens_rest file f end records) (opens_end file f end records)

pub opening_is_safe : (file : List ℕ) (extent : Extent) → HasExtent file extent → IsOpened file extent
opening_is_safe file extent has =
    let o = opens file extent has in
    record { rest = o.rest; same = o.same; any_moment = o.any_moment }

-- the works of a file whose records end here
pub works_there : (file : List ℕ) (extent : Extent) (f : Format) (end : ℕ) (b : Bool) (works : List Work) → extent ≡ Until f end → ends_closed file end ≡ b
    → works ≡ cond b [] (cut_to end ∷ write_to end (0 ∷ []) ∷ []) → works ≡ opening_works file extent
works_there file extent f end b works is gate same =
    same ∙ ap (λ t. cond t [] (cut_to end ∷ write_to end (0 ∷ []) ∷ [])) (sym gate) ∙ ap (opening_works file) (sym is)
