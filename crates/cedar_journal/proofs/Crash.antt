-- What a crash leaves in each step of a record's way into the file, and of a repair.
use Rattle.std.proofs.Common.{◌≡◌, inl, inr, ℕ, ◌+◌, ◌-◌, ◌≤◌, ◌<◌, List, [], ◌∷◌, ◌++◌, length, get_or, take, drop, Some, sym, ◌∙◌, ap, subst, arith, append_assoc, length-append, length-drop, length-take, take-append-drop, length-take-le}
use Rattle.std.proofs.lemmas.List.{take_at, drop_at, drop_more, take_all, drop_all, append-nil}
use Rattle.cedar_journal.specs.declared.format.Format.{Format}
use Rattle.cedar_journal.specs.Device.{Holds, Torn, Cut, Follows, Only}
use Rattle.cedar_journal.specs.Files.{HasRecords, IsWholeFront, with_payload, file_payloads}
use Rattle.cedar_journal.specs.Formats.{frame_of, record_head, opening, overhead, records_read, stands}
use Rattle.cedar_journal.specs.Journal.{IsBeforeOrAfter, IsSettled, IsStaged}
use Rattle.cedar_journal.proofs.Fronts.{take_both}
use Rattle.cedar_journal.proofs.Headers.{front_alone, front_and, front_stands, one_more}
use Rattle.cedar_journal.proofs.Headers as headers
use Rattle.cedar_journal.proofs.Readings.{closed_end, few_end, framed_apart, opening_open, record_size, shut, staged_reads, written}
use Rattle.cedar_journal.proofs.Tears.{torn_front}

-- ---- a file that is a front, a gate and a rest

module _ (front : List ℕ) (end : ℕ) (ends : length front ≡ end) where
  long : (gate : ℕ) → length (front ++ gate ∷ []) ≡ end + 1
  long gate = omega (arith, length-append front (gate ∷ []), ends)

  pub front_is : (gate : ℕ) (rest : List ℕ) → take end (front ++ gate ∷ rest) ≡ front
  front_is gate rest = take_at front (gate ∷ rest) end ends

  pub rest_is : (gate : ℕ) (rest : List ℕ) → drop (end + 1) (front ++ gate ∷ rest) ≡ rest
  rest_is gate rest = ap (λ (l : List ℕ). drop (end + 1) l) (sym (append_assoc front (gate ∷ []) rest)) ∙ drop_at (front ++ gate ∷ []) rest (end + 1) (long gate)

  through : (gate : ℕ) (rest : List ℕ) → take (end + 1) (front ++ gate ∷ rest) ≡ front ++ gate ∷ []
  through gate rest = ap (λ (l : List ℕ). take (end + 1) l) (sym (append_assoc front (gate ∷ []) rest)) ∙ take_at (front ++ gate ∷ []) rest (end + 1) (long gate)

  pub torn_behind : (n : ℕ) (rest c : List ℕ) → Torn (end + 1) n (front ++ 0 ∷ rest) c → c ≡ front ++ 0 ∷ drop (end + 1) c
  torn_behind n rest c torn =
      let kept : take (end + 1) c ≡ front ++ 0 ∷ [] =
      torn_front (end + 1) n (front ++ 0 ∷ rest) c (omega (arith, length-append front (0 ∷ rest), ends)) torn ∙ through 0 rest in
      sym (take-append-drop (end + 1) c) ∙ ap (λ (l : List ℕ). l ++ drop (end + 1) c) kept ∙ append_assoc front (0 ∷ []) (drop (end + 1) c)

  pub written_behind : (bytes rest c : List ℕ) → Holds (front ++ 0 ∷ rest) (end + 1) bytes c → c ≡ front ++ 0 ∷ (bytes ++ drop (end + 1 + length bytes) (front ++ 0 ∷ rest))
  written_behind bytes rest c holds =
      let tail = drop (end + 1 + length bytes) (front ++ 0 ∷ rest) in
      holds
      ∙ ap (λ (l : List ℕ). l ++ bytes ++ tail) (through 0 rest)
      ∙ append_assoc (front ++ 0 ∷ []) bytes tail
      ∙ append_assoc front (0 ∷ []) (bytes ++ tail)

  pub torn_gate : (rest c : List ℕ) → Torn end 1 (front ++ 0 ∷ rest) c → c ≡ front ++ get_or c end 0 ∷ rest
  torn_gate rest c torn =
      let gate = get_or c end 0 in
      let more : drop end c ≡ gate ∷ rest =
      drop_more c end 0 (omega (arith, torn.no_shorter, length-append front (0 ∷ rest), ends)) ∙ ap (λ (l : List ℕ). gate ∷ l) (torn.after ∙ rest_is 0 rest) in
      let kept : take end c ≡ front = torn_front end 1 (front ++ 0 ∷ rest) c (omega (arith, length-append front (0 ∷ rest), ends)) torn ∙ front_is 0 rest in
      sym (take-append-drop end c) ∙ ap (λ (l : List ℕ). l ++ drop end c) kept ∙ ap (λ (l : List ℕ). front ++ l) more

  pub written_gate : (gate : ℕ) (rest c : List ℕ) → Holds (front ++ 0 ∷ rest) end (gate ∷ []) c → c ≡ front ++ gate ∷ rest
  written_gate gate rest c holds =
      holds
      ∙ ap (λ (l : List ℕ). l ++ (gate ∷ []) ++ drop (end + 1) (front ++ 0 ∷ rest)) (front_is 0 rest)
      ∙ ap (λ (l : List ℕ). front ++ (gate ∷ []) ++ l) (rest_is 0 rest)
      ∙ append_assoc front (gate ∷ []) rest

-- ---- the states of a journal

module _ {D : Type 0} (seen : D → List ℕ) (may_leave : D → List ℕ → Type 0) (device : D) (f : Format) where
  pub settled_at : (end : ℕ) (front rest : List ℕ) → length front ≡ end → IsWholeFront f front → seen device ≡ front ++ 0 ∷ rest → Only (seen device) (may_leave device)
      → IsSettled seen may_leave device f end
  settled_at end front rest ends is_front is only =
      let first : take end (seen device) ≡ front = ap (λ (l : List ℕ). take end l) is ∙ front_is front end ends 0 rest in
      let last : drop (end + 1) (seen device) ≡ rest = ap (λ (l : List ℕ). drop (end + 1) l) is ∙ rest_is front end ends 0 rest in
      record {
        split = is ∙ sym (λ i. first i ++ 0 ∷ last i);
        front = subst (IsWholeFront f) (sym first) is_front;
        durable = only;
      }

  pub staged_at : (end : ℕ) (front bytes tail : List ℕ) → length front ≡ end → IsWholeFront f front → length bytes < 4294967296 → end < 1152921504606846976
      → seen device ≡ front ++ 0 ∷ (frame_of f bytes ++ tail) → Only (seen device) (may_leave device) → IsStaged seen may_leave device f end bytes
  staged_at end front bytes tail ends is_front short room is only =
      record {
        settled = settled_at end front (frame_of f bytes ++ tail) ends is_front is only;
        rest = tail;
        staged = ap (λ (l : List ℕ). drop (end + 1) l) is ∙ rest_is front end ends 0 (frame_of f bytes ++ tail);
        short = short;
        room = room;
      }

-- where the closed gate is
pub front_ends : (file : List ℕ) (end : ℕ) → file ≡ take end file ++ 0 ∷ drop (end + 1) file → length (take end file) ≡ end
front_ends file end split = omega (arith, ap length split, length-append (take end file) (0 ∷ drop (end + 1) file), length-take end file)

-- a file at rest
module _ (file : List ℕ) (f : Format) (end : ℕ) (split : file ≡ take end file ++ 0 ∷ drop (end + 1) file) (front : IsWholeFront f (take end file)) where
  ends : length (take end file) ≡ end
  ends = front_ends file end split

  pub stands_for : file_payloads file ≡ Some front.0
  stands_for = ap file_payloads split ∙ headers.front_ends f (take end file) front.0 front.1 (0 ∷ drop (end + 1) file) (shut f (drop (end + 1) file))

  pub closed_stands : (c rest : List ℕ) → c ≡ take end file ++ 0 ∷ rest → file_payloads c ≡ file_payloads file
  closed_stands c rest is = ap file_payloads is ∙ headers.front_ends f (take end file) front.0 front.1 (0 ∷ rest) (shut f rest) ∙ sym stands_for

  pub stage_crash : (n : ℕ) (old new : List ℕ → Type 0) → Only file old → Follows (Torn (end + 1) n) old new → (c : List ℕ) → new c → file_payloads c ≡ file_payloads file
  stage_crash n old new only follows c left =
      let from = follows c left in
      closed_stands c (drop (end + 1) c) (torn_behind (take end file) end ends n (drop (end + 1) file) c (subst (λ d. Torn (end + 1) n d c) (only from.0 from.1 ∙ split) from.2))

  -- where a write behind the closed gate found no room, all up to the gate stays
  pub long_enough : (n : ℕ) (c : List ℕ) → Torn (end + 1) n file c → end + 1 ≤ length c
  long_enough n c torn = omega (arith, torn.no_shorter, ap length split, length-append (take end file) (0 ∷ drop (end + 1) file), ends)

  pub behind_gate : (n : ℕ) (c : List ℕ) → Torn (end + 1) n file c → take (end + 1) c ≡ take end file ++ 0 ∷ []
  behind_gate n c torn =
      ap (λ (l : List ℕ). take (end + 1) l) (torn_behind (take end file) end ends n (drop (end + 1) file) c (subst (λ d. Torn (end + 1) n d c) split torn))
      ∙ through (take end file) end ends 0 (drop (end + 1) c)

  pub gated_stands : (c : List ℕ) → take (end + 1) c ≡ take end file ++ 0 ∷ [] → file_payloads c ≡ file_payloads file
  gated_stands c is =
      closed_stands c (drop (end + 1) c)
      (sym (take-append-drop (end + 1) c) ∙ ap (λ (l : List ℕ). l ++ drop (end + 1) c) is ∙ append_assoc (take end file) (0 ∷ []) (drop (end + 1) c))

  pub staged_file : (bytes c : List ℕ) → Holds file (end + 1) bytes c → c ≡ take end file ++ 0 ∷ (bytes ++ drop (end + 1 + length bytes) (take end file ++ 0 ∷ drop (end + 1) file))
  staged_file bytes c holds = written_behind (take end file) end ends bytes (drop (end + 1) file) c (subst (λ d. Holds d (end + 1) bytes c) split holds)

  module _ (bytes tail : List ℕ) (staged : drop (end + 1) file ≡ frame_of f bytes ++ tail) (short : length bytes < 4294967296) where
    pub gate_crash : (old new : List ℕ → Type 0) → Only file old → Follows (Torn end 1) old new → (c : List ℕ) → new c → IsBeforeOrAfter (file_payloads file) bytes c
    gate_crash old new only follows c left =
        let from = follows c left in
        let gate = get_or c end 0 in
        let is : c ≡ take end file ++ gate ∷ (frame_of f bytes ++ tail) =
        torn_gate (take end file) end ends (drop (end + 1) file) c (subst (λ d. Torn end 1 d c) (only from.0 from.1 ∙ split) from.2)
        ∙ ap (λ (l : List ℕ). take end file ++ gate ∷ l) staged in
        elim (staged_reads f bytes tail gate short) [
          | inl none ↦ inl (ap file_payloads is ∙ headers.front_ends f (take end file) front.0 front.1 (gate ∷ (frame_of f bytes ++ tail)) none ∙ sym stands_for)
          | inr more ↦ inr (one_more file c bytes front.0 stands_for (ap file_payloads is ∙ front_stands f (take end file) front.0 front.1 (gate ∷ (frame_of f bytes ++ tail)) (bytes ∷ []) more))
        ]

    -- the front is longer by the record
    abbrev pub longer : List ℕ
    longer = take end file ++ (opening f ∷ (record_head f bytes ++ bytes))

    pub opened_file : (c : List ℕ) → Holds file end (opening f ∷ []) c → c ≡ longer ++ 0 ∷ tail
    opened_file c holds =
        written_gate (take end file) end ends (opening f) (drop (end + 1) file) c (subst (λ d. Holds d end (opening f ∷ []) c) split holds)
        ∙ ap (λ (l : List ℕ). take end file ++ opening f ∷ l) staged
        ∙ ap (λ (l : List ℕ). take end file ++ l) (framed_apart f bytes tail (opening f))
        ∙ sym (append_assoc (take end file) (opening f ∷ (record_head f bytes ++ bytes)) (0 ∷ tail))

    pub longer_ends : length longer ≡ end + (overhead f + length bytes)
    longer_ends = omega (arith, ends, record_size f bytes, length-append (take end file) (opening f ∷ (record_head f bytes ++ bytes)))

    pub longer_front : IsWholeFront f longer
    longer_front = (front.0 ++ bytes ∷ [], front_and f (take end file) (opening f ∷ (record_head f bytes ++ bytes)) front.0 (bytes ∷ []) front.1 (written f (opening f) bytes (opening_open f) short))

    pub opened_stands : (c : List ℕ) → c ≡ longer ++ 0 ∷ tail → file_payloads c ≡ with_payload bytes (file_payloads file)
    unfolding longer_front
    opened_stands c is =
        one_more file c bytes front.0 stands_for (ap file_payloads is ∙ headers.front_ends f longer longer_front.0 longer_front.1 (0 ∷ tail) (shut f tail))

-- ---- a repair

module _ (file : List ℕ) (f : Format) (end : ℕ) (at : HasRecords file f end) where
  pub file_size : length (take end file) ≡ end
  file_size = length-take-le end file at.within

  pub stays : file_payloads (take end file) ≡ file_payloads file
  stays =
      front_alone f (take end file) at.front.0 at.front.1
      ∙ sym (ap file_payloads (sym (take-append-drop end file)) ∙ headers.front_ends f (take end file) at.front.0 at.front.1 (drop end file) (closed_end f (drop end file) at.no_more))

  -- nothing that counts is behind the records
  behind_them : (c rest : List ℕ) → c ≡ take end file ++ rest → records_read f rest ≡ stands [] → file_payloads c ≡ file_payloads file
  behind_them c rest is ends =
      ap file_payloads is ∙ headers.front_ends f (take end file) at.front.0 at.front.1 rest ends ∙ sym (front_alone f (take end file) at.front.0 at.front.1) ∙ stays

  -- any cut keeps the records
  pub cut_keeps : (c : List ℕ) → Cut end file c → file_payloads c ≡ file_payloads file
  cut_keeps c cut =
      let n = length c - end in
      let more : length c ≡ end + n = omega (arith, cut.no_shorter, at.within) in
      behind_them c (take n (drop end file)) (sym cut.front ∙ ap (λ (k : ℕ). take k file) more ∙ take_both end n file at.within) (at.no_more n)

  -- one byte behind them is no record
  pub torn_end : (c : List ℕ) → Torn end 1 (take end file) c → file_payloads c ≡ file_payloads file
  torn_end c torn =
      let kept : take end c ≡ take end file = torn_front end 1 (take end file) c (omega (arith, file_size)) torn ∙ take_all end (take end file) (omega (arith, file_size)) in
      let few : length (drop end c) ≤ 1 = omega (arith, length-drop end c, file_size, torn.no_longer) in
      behind_them c (drop end c) (sym (take-append-drop end c) ∙ ap (λ (l : List ℕ). l ++ drop end c) kept) (few_end f (drop end c) few)

  pub written_end : (c : List ℕ) → Holds (take end file) end (0 ∷ []) c → c ≡ take end file ++ 0 ∷ []
  written_end c holds =
      holds
      ∙ ap (λ (l : List ℕ). l ++ (0 ∷ []) ++ drop (end + 1) (take end file)) (take_all end (take end file) (omega (arith, file_size)))
      ∙ ap (λ (l : List ℕ). take end file ++ (0 ∷ []) ++ l) (drop_all (end + 1) (take end file) (omega (arith, file_size)))
      ∙ append-nil (take end file ++ 0 ∷ [])

  pub closed_same : (c : List ℕ) → c ≡ take end file ++ 0 ∷ [] → file_payloads c ≡ file_payloads file
  closed_same c is = behind_them c (0 ∷ []) is (shut f [])
