-- A record for which there was no room is withdrawn.
use Rattle.std.specs.Prelude.{IsTrue}
use Rattle.std.proofs.Common.{◌≡◌, inl, inr, ℕ, ◌+◌, ◌≤◌, Bool, true, false, List, [], ◌∷◌, ◌++◌, length, take, drop, refl, sym, ◌∙◌, ap, subst, arith, length-append, length-take}
use Rattle.std.proofs.lemmas.Bool.{le-leb, and_from}
use Rattle.std.proofs.lemmas.List.{take-take}
use Rattle.cedar_journal.specs.declared.format.Format.{Format}
use Rattle.cedar_journal.specs.Device.{Cut, Torn}
use Rattle.cedar_journal.specs.Files.{file_payloads}
use Rattle.cedar_journal.proofs.Crash.{behind_gate, closed_stands, front_ends, gated_stands, settled_at}
use Rattle.cedar_journal.proofs.Moments as moments
use Rattle.cedar_journal.proofs.Tears.{torn_held}
use Rattle.whole_files.specs.Calls.{Call, LeftSince, MayLeave, all_within, is_usable_after, seen_after, truncate_call, sync_call, write_call}
use Rattle.cedar_disk.proofs.Steps.{cut_follows, sync_keeps, write_follows}
use Rattle.whole_files.proofs.Syncs.{synced_only}
use Rattle.cedar_plan.specs.Safety.{CrashLeaves, IsAtRest, IsCutBack, IsWithdrawn, cut_back}
use Rattle.cedar_plan.proofs.Working.{leaves_one}

-- a cut behind the first bytes keeps these
cut_keeps_front : (n : ℕ) (front d c : List ℕ) → length front ≡ n → take n d ≡ front → Cut n d c → take n c ≡ front
cut_keeps_front n front d c size is cut =
    let long : n ≤ length d = omega (arith, ap length is, length-take n d, size) in
    let kept : n ≤ length c = omega (arith, cut.no_shorter, long) in
    ap (λ (l : List ℕ). take n l) (sym cut.front) ∙ take-take n (length c) d kept ∙ is

module _ (calls : List Call) (f : Format) (end : ℕ) (bytes : List ℕ) (rest : IsAtRest calls f end) where
  abbrev file : List ℕ
  file = seen_after calls

  abbrev P : List ℕ → Type 0
  P c = file_payloads c ≡ file_payloads file

  abbrev mid : List Call
  mid = write_call (end + 1) bytes true ∷ calls

  abbrev shorter : Bool → List Call
  shorter ok = truncate_call (end + 1) ok ∷ mid

  -- all up to the closed gate
  abbrev gated : List ℕ
  gated = take end file ++ 0 ∷ []

  gated_size : length gated ≡ end + 1
  gated_size = omega (arith, length-append (take end file) (0 ∷ []), front_ends file end rest.settled.split)

  fits : end + 1 ≤ length file
  fits = omega (arith, front_ends file end rest.settled.split, ap length rest.settled.split, length-append (take end file) (0 ∷ drop (end + 1) file))

  gate_of : (c : List ℕ) → Torn (end + 1) (length bytes) file c → take (end + 1) c ≡ gated
  gate_of c torn = behind_gate file f end rest.settled.split rest.settled.front (length bytes) c torn

  stands : (c : List ℕ) → take (end + 1) c ≡ gated → P c
  stands c is = gated_stands file f end rest.settled.split rest.settled.front c is

  mid_seen : take (end + 1) (seen_after mid) ≡ gated
  mid_seen = gate_of (seen_after mid) (torn_held (end + 1) bytes file (seen_after mid) fits refl)

  mid_long : end + 1 ≤ length (seen_after mid)
  mid_long = omega (arith, ap length mid_seen, length-take (end + 1) (seen_after mid), gated_size)

  mid_left : (c : List ℕ) → MayLeave mid c → take (end + 1) c ≡ gated
  mid_left c left =
      let from = write_follows calls mid (end + 1) bytes true refl c left in
      gate_of c (subst (λ d. Torn (end + 1) (length bytes) d c) (rest.settled.durable from.0 from.1) from.2)

  cut_left : (ok : Bool) (c : List ℕ) → MayLeave (shorter ok) c → take (end + 1) c ≡ gated
  cut_left ok c left =
      let from = cut_follows mid (shorter ok) (end + 1) ok refl c left in
      cut_keeps_front (end + 1) gated from.0 c gated_size (mid_left from.0 from.1) from.2

  within : IsTrue (all_within (shorter true))
  within = and_from _ _ (le-leb (end + 1) (length (seen_after mid)) mid_long) (and_from _ _ (le-leb (end + 1) (length file) fits) rest.within)

  usable : IsTrue (is_usable_after (shorter true))
  usable = and_from _ _ (and_from _ _ rest.usable refl) refl

  synced_left : (ok : Bool) (c : List ℕ) → MayLeave (sync_call ok ∷ shorter true) c → P c
  synced_left ok c left = stands c (cut_left true c (sync_keeps (shorter true) (sync_call ok ∷ shorter true) within ok usable refl c left))

  written_leaves : CrashLeaves calls mid P
  written_leaves = leaves_one (write_call (end + 1) bytes true) calls P (λ c left. ap file_payloads (rest.settled.durable c left)) (λ c left. stands c (mid_left c left))

  cut_leaves : (ok : Bool) → CrashLeaves calls (shorter ok) P
  cut_leaves ok =
      moments.joins length LeftSince calls mid (shorter ok) P written_leaves
      (leaves_one (truncate_call (end + 1) ok) mid P (λ c left. stands c (mid_left c left)) (λ c left. stands c (cut_left ok c left)))

  sync_leaves : (ok : Bool) → CrashLeaves calls (sync_call ok ∷ shorter true) P
  sync_leaves ok =
      moments.joins length LeftSince calls (shorter true) (sync_call ok ∷ shorter true) P (cut_leaves true)
      (leaves_one (sync_call ok) (shorter true) P (λ c left. stands c (cut_left true c left)) (synced_left ok))

  any_moment : (after : List Call) → IsCutBack end bytes calls after → CrashLeaves calls after P
  any_moment after (inl done) = subst (λ (l : List Call). CrashLeaves calls l P) (sym done) (sync_leaves true)
  any_moment after (inr (inl cut)) = subst (λ (l : List Call). CrashLeaves calls l P) (sym cut) (cut_leaves false)
  any_moment after (inr (inr sync)) = subst (λ (l : List Call). CrashLeaves calls l P) (sym sync) (sync_leaves false)

  pub withdrawn : IsWithdrawn calls f end bytes
  withdrawn = record {
    rest = record {
      settled = settled_at seen_after MayLeave (cut_back end bytes calls) f end (take end file) [] (front_ends file end rest.settled.split) rest.settled.front mid_seen
          (synced_only (shorter true) usable);
      within = within;
      usable = and_from _ _ usable refl;
    };
    same = closed_stands file f end rest.settled.split rest.settled.front (seen_after (cut_back end bytes calls)) [] mid_seen;
    any_moment = any_moment;
  }

pub withdrawal_is_safe : (calls : List Call) (f : Format) (end : ℕ) (bytes : List ℕ) → IsAtRest calls f end → IsWithdrawn calls f end bytes
withdrawal_is_safe calls f end bytes rest = withdrawn calls f end bytes rest
