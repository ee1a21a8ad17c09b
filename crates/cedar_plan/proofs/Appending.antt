-- A record is appended by its plan.
use Rattle.std.proofs.Common.{◌≡◌, inl, inr, ℕ, ◌+◌, ◌≤◌, ◌<◌, List, [], ◌∷◌, ◌++◌, length, take, drop, refl, sym, ◌∙◌, ap, subst, arith, length-append}
use Rattle.cedar_journal.specs.declared.format.Format.{Format}
use Rattle.cedar_journal.specs.Device.{Torn}
use Rattle.cedar_journal.specs.Files.{file_payloads, with_payload}
use Rattle.cedar_journal.specs.Formats.{frame_of, opening, overhead}
use Rattle.cedar_journal.specs.Journal.{IsBeforeOrAfter, IsSettled, IsStaged}
use Rattle.cedar_journal.proofs.Crash.{closed_stands, front_ends, gate_crash, longer, longer_ends, longer_front, opened_file, opened_stands, settled_at, stage_crash, staged_at, staged_file}
use Rattle.whole_files.specs.Calls.{Call, MayLeave, overlay, seen_after}
use Rattle.cedar_plan.specs.Safety.{IsAppended, IsAtRest}
use Rattle.cedar_plan.specs.Works.{append_works}
use Rattle.cedar_plan.proofs.Working.{Has, Keep, all_have, all_leave}

-- a file of which each crash leaves what it has
abbrev itself : List ℕ → List ℕ
itself file = file

abbrev Lasts : List ℕ → List ℕ → Type 0
Lasts file c = c ≡ file

module _ (file : List ℕ) (f : Format) (end : ℕ) (payload : List ℕ) (s : IsSettled itself Lasts file f end) (short : length payload < 4294967296) (room : end < 1152921504606846976) where
  abbrev P : List ℕ → Type 0
  P = IsBeforeOrAfter (file_payloads file) payload

  abbrev staged : List ℕ
  staged = overlay file (end + 1) (frame_of f payload)

  abbrev written : List ℕ
  written = overlay staged end (opening f ∷ [])

  is_staged : IsStaged itself Lasts staged f end payload
  is_staged =
      staged_at itself Lasts staged f end (take end file) payload _ (front_ends file end s.split) s.front short room
      (staged_file file f end s.split s.front (frame_of f payload) staged refl) (λ c left. left)

  same : file_payloads staged ≡ file_payloads file
  same = closed_stands file f end s.split s.front staged _ (staged_file file f end s.split s.front (frame_of f payload) staged refl)

  is_opened : written ≡ longer staged f end is_staged.settled.split is_staged.settled.front payload is_staged.rest is_staged.staged short ++ 0 ∷ is_staged.rest
  is_opened = opened_file staged f end is_staged.settled.split is_staged.settled.front payload is_staged.rest is_staged.staged short written refl

  more : file_payloads written ≡ with_payload payload (file_payloads file)
  more =
      opened_stands staged f end is_staged.settled.split is_staged.settled.front payload is_staged.rest is_staged.staged short written is_opened
      ∙ ap (with_payload payload) same

  first_torn : (c : List ℕ) → Torn (end + 1) (length (frame_of f payload)) file c → P c
  first_torn c torn =
      inl (stage_crash file f end s.split s.front (length (frame_of f payload)) (Lasts file) (λ d. Torn (end + 1) (length (frame_of f payload)) file d) (λ d left. left) (λ d t. (file, refl, t)) c torn)

  second_torn : (c : List ℕ) → Torn end 1 staged c → P c
  second_torn c torn =
      subst (λ r. IsBeforeOrAfter r payload c) same
      (gate_crash staged f end is_staged.settled.split is_staged.settled.front payload is_staged.rest is_staged.staged short (Lasts staged) (λ d. Torn end 1 staged d) (λ d left. left) (λ d t. (staged, refl, t)) c torn)

  first_fits : end + 1 ≤ length file
  first_fits = omega (arith, front_ends file end s.split, ap length s.split, length-append (take end file) (0 ∷ drop (end + 1) file))

  second_fits : end ≤ length staged
  second_fits =
      let split = is_staged.settled.split in
      omega (arith, front_ends staged end split, ap length split, length-append (take end staged) (0 ∷ drop (end + 1) staged))

  pub keeps : Keep (append_works f end payload) file P
  keeps = (inl refl, first_fits, first_torn, (inl same, second_fits, second_torn, inr more))

  pub is_more : file_payloads written ≡ with_payload payload (file_payloads file)
  is_more = more

  pub settled : (calls : List Call) → Has calls written → IsSettled seen_after MayLeave calls f (end + overhead f + length payload)
  settled calls has =
      let split = is_staged.settled.split in
      let front = is_staged.settled.front in
      let far : end + (overhead f + length payload) ≡ end + overhead f + length payload = omega arith in
      subst (λ n. IsSettled seen_after MayLeave calls f n) far
      (settled_at seen_after MayLeave calls f (end + (overhead f + length payload)) (longer staged f end split front payload is_staged.rest is_staged.staged short) is_staged.rest
      (longer_ends staged f end split front payload is_staged.rest is_staged.staged short) (longer_front staged f end split front payload is_staged.rest is_staged.staged short)
      (has.seen ∙ is_opened) (λ c left. has.only c left ∙ sym has.seen))

-- the same file, seen by itself
alone : (calls : List Call) (f : Format) (end : ℕ) → IsSettled seen_after MayLeave calls f end → IsSettled itself Lasts (seen_after calls) f end
alone calls f end s = record { split = s.split; front = s.front; durable = λ c left. left }

pub append_is_safe : (calls : List Call) (f : Format) (end : ℕ) (payload : List ℕ) → IsAtRest calls f end → length payload < 4294967296 → end < 1152921504606846976 → IsAppended calls f end payload
append_is_safe calls f end payload rest short room =
    let file = seen_after calls in
    let s = alone calls f end rest.settled in
    let has : Has calls file = record { seen = refl; only = rest.settled.durable; within = rest.within; usable = rest.usable } in
    let keep = keeps file f end payload s short room in
    let now = all_have (append_works f end payload) calls file (IsBeforeOrAfter (file_payloads file) payload) has keep in
    record {
      rest = record { settled = settled file f end payload s short room _ now; within = now.within; usable = now.usable };
      more = ap file_payloads now.seen ∙ is_more file f end payload s short room;
      any_moment = λ after out. all_leave (append_works f end payload) calls after file (IsBeforeOrAfter (file_payloads file) payload) has keep out;
    }
