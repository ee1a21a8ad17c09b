-- What becomes of a path while a file is written beside the one there, and given its name.
use Rattle.std.specs.Prelude.{◌&&◌, ◌==◌, if◌then◌else◌, IsTrue}
use Rattle.std.proofs.Common.{◌≡◌, ◌⊎◌, inl, inr, ⊎_elim, ℕ, Bool, true, false, List, [], ◌∷◌, Some, sym, ◌∙◌, ap, subst}
use Rattle.std.proofs.lemmas.Bool.{false≢true}
use Rattle.whole_files.specs.Calls.{Call, MayLeave, NextLeft, is_usable_after, folder_sync_call, seen_after, sync_call, took_name}
use Rattle.whole_files.specs.Whole.{AlwaysLeaves, Content, IsHalfPlaced, IsKeptOrReplaced, IsPlaced, IsWholeBeside, IsUnplacedAt, HasFile, LeftAt, PathLeaves, WholeFilesAreSafe, asked_after, placed_after}
use Rattle.whole_files.proofs.Syncs.{synced_only}

-- ---- the new file

-- once it is synced, it is ready for its name
pub ready : (bytes : List ℕ) (old new : List Call) → asked_after old ≡ false → seen_after old ≡ bytes → IsTrue (is_usable_after old) → new ≡ sync_call true ∷ old → IsWholeBeside bytes new
ready bytes old new beside seen usable is =
    subst (λ (l : List Call). IsWholeBeside bytes l) (sym is)
    (record { beside = beside; seen = seen; durable = λ c left. synced_only old usable c left ∙ seen })

-- ---- the path

-- while the file lies beside
kept_beside : (before : Content → Bool) (asked placed : Bool) (file : List ℕ → Type 0) (c : Content) → asked ≡ false → LeftAt asked placed before file c → IsTrue (before c)
kept_beside before false placed file c is left = left
kept_beside before true placed file c is left = absurd (false≢true (sym is))

asked_before : (b asked : Bool) → (if b then true else asked) ≡ false → asked ≡ false
asked_before true asked is = absurd (false≢true (sym is))
asked_before false asked is = is

module _ (before : Content → Bool) (path bytes : List ℕ) where
  abbrev OldOrNew : Content → Type 0
  OldOrNew c = IsTrue (before c) ⊎ (c ≡ Some bytes)

  pub beside_keeps : (calls : List Call) → asked_after calls ≡ false → (c : Content) → PathLeaves before calls c → IsTrue (before c)
  beside_keeps calls beside c left = kept_beside before (asked_after calls) (placed_after calls) (MayLeave calls) c beside left

  beside_always : (calls : List Call) → asked_after calls ≡ false → AlwaysLeaves before OldOrNew calls
  beside_always [] beside = λ c left. inl (beside_keeps [] beside c left)
  beside_always (call ∷ earlier) beside =
      ((λ c left. inl (beside_keeps (call ∷ earlier) beside c left)), beside_always earlier (asked_before (call.0 == 7) (asked_after earlier) beside))

  module _ (earlier : List Call) (is : IsWholeBeside bytes earlier) where
    -- what the disk has of the file, once it was renamed, and once the folder was synced
    took_has : (ok : Bool) (d : List ℕ) → MayLeave (took_name path ok ∷ earlier) d → d ≡ bytes
    took_has ok d left = is.durable d left

    named_has : (ok : Bool) (d : List ℕ) → MayLeave (folder_sync_call ok ∷ took_name path true ∷ earlier) d → d ≡ bytes
    named_has ok = takes (ok && is_usable_after (folder_sync_call ok ∷ took_name path true ∷ earlier))
      where
        takes : (b : Bool) (d : List ℕ) → NextLeft 5 0 b [] (seen_after earlier) (MayLeave (took_name path true ∷ earlier)) d → d ≡ bytes
        takes true d now = now ∙ is.seen
        takes false d left = took_has true d left

    leads : (file : List ℕ → Type 0) (c : Content) → ((d : List ℕ) → file d → d ≡ bytes) → HasFile file c → c ≡ Some bytes
    leads file c has left = left.1 ∙ ap Some (has left.0 left.2)

    either : (placed : Bool) (file : List ℕ → Type 0) (c : Content) → ((d : List ℕ) → file d → d ≡ bytes) → LeftAt true placed before file c → OldOrNew c
    either true file c has left = inr (leads file c has left)
    either false file c has left = ⊎_elim (λ was. inl was) (λ new. inr (leads file c has new)) left

    took_always : (ok : Bool) → AlwaysLeaves before OldOrNew (took_name path ok ∷ earlier)
    took_always ok =
        ((λ c left. either (placed_after (took_name path ok ∷ earlier)) (MayLeave (took_name path ok ∷ earlier)) c (took_has ok) left), beside_always earlier is.beside)

    named_always : (ok : Bool) → AlwaysLeaves before OldOrNew (folder_sync_call ok ∷ took_name path true ∷ earlier)
    named_always ok =
        ((λ c left. either (placed_after (folder_sync_call ok ∷ took_name path true ∷ earlier)) (MayLeave (folder_sync_call ok ∷ took_name path true ∷ earlier)) c (named_has ok) left), took_always true)

    placed_new : (c : Content) → PathLeaves before (folder_sync_call true ∷ took_name path true ∷ earlier) c → c ≡ Some bytes
    placed_new c left = leads (MayLeave (folder_sync_call true ∷ took_name path true ∷ earlier)) c (named_has true) left

  half_always : (calls : List Call) → IsHalfPlaced path bytes calls → AlwaysLeaves before OldOrNew calls
  half_always calls half =
      ⊎_elim
      (λ took. subst (λ (l : List Call). AlwaysLeaves before OldOrNew l) (sym took) (took_always half.earlier half.ready false))
      (λ name. subst (λ (l : List Call). AlwaysLeaves before OldOrNew l) (sym name) (named_always half.earlier half.ready false))
      half.is

  always : (calls : List Call) → IsPlaced path bytes calls ⊎ IsUnplacedAt path bytes calls → AlwaysLeaves before OldOrNew calls
  always calls =
      ⊎_elim
      (λ (placed : IsPlaced path bytes calls). subst (λ (l : List Call). AlwaysLeaves before OldOrNew l) (sym placed.is) (named_always placed.earlier placed.ready true))
      (λ unplaced. ⊎_elim (λ beside. beside_always calls beside) (λ half. half_always calls half) unplaced)

  pub kept_or_replaced : (calls : List Call) → IsKeptOrReplaced before path bytes calls
  kept_or_replaced calls = record {
    read = λ placed. ap seen_after placed.is ∙ placed.ready.seen;
    placed = λ placed c left. placed_new placed.earlier placed.ready c (subst (λ (l : List Call). PathLeaves before l c) placed.is left);
    any_moment = always calls;
    kept = beside_keeps calls;
  }

pub safe : WholeFilesAreSafe
safe before path bytes calls = kept_or_replaced before path bytes calls
