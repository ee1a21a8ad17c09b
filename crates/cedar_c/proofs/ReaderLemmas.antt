-- Why any number of callers may read one dictionary at once, each by a `Shown`. No function cites this: it is what a caller in C does.
--     reads       whoever has a `&` to a dictionary for a lifetime κ, and a share of the right to end κ, may lend this share to a fresh
--                 lifetime, and so has what a `Shown` owns
--     has_read    once the call is over and its lifetime ended, the share of κ is back; with all shares of κ back, so is the dictionary
-- Assumes `Logic`.
use Rattle.std.specs.Prelude.{ℕ, Some}
use mathlib.Core.List.{[], ◌∷◌}
use seplogic.Ra.Ura.{Ura}
use base.Logic.{SProp, ent, sep, ex}
use base.Fml.{Lft, Share, Fml, flft, flent}
use contract.BorrowLft.{meet_⊑_left}
use types.Logic.{Logic, sem}
use types.Kit.{‵, ◌$◌, ◌∵◌, !, qed, move, keep, use2, fsplit, fjoin, show, updating, now, done}
use types.Tokens.{lft_new, lft_end, bor_new, bor_fracture, lent_back}
use denote.Moves.{moves_from}
use denote.RawPtr.{Ptr}
use denote.Sharing.{ShrLaws}
use denote.Struct.Lending.{lent_at, lent_at_shr_laws}
use Rattle.either_layout.specs.declared.any.AnyCedar.{AnyCedar}
use Rattle.cedar_c.specs.Ownership.{cedar_row, shown_owns}
use Rattle.either_layout.proofs.any.AnyCedar.TheLaws.{the_row_laws}

module _ {M : Type 1} {𝓤 : Ura M} (𝓛 : Logic 𝓤) (p : Ptr) (d : AnyCedar) (κ : Lft) (q : Share) where
  open 𝓛 use {H, A}

  abbrev t : Lft → Fml
  t = lent_at cedar_row p d

  laws : ShrLaws t
  laws = lent_at_shr_laws cedar_row the_row_laws.shr_laws p d

  -- what a `Shown` owns, and the way back
  abbrev Reads : ℕ → SProp 𝓤
  Reads a = sep 𝓤 (sem 𝓛 (shown_owns p (Some d) a)) (sem 𝓛 (flent (a ∷ []) (flft κ q)))

  pub reads : ent 𝓤 (sep 𝓤 (sem 𝓛 (t κ)) (A.lft κ q)) (H.⇛ (ex 𝓤 Reads))
  reads = qed 𝓛 (‵ (t κ) ∷ ‵ (flft κ q) ∷ []) ∵ updating ! $ lft_new ! tt (λ a. move ! (2 ∷ []) $ bor_new ! tt (a ∷ []) $ bor_fracture ! tt (λ r. flft κ r) q $
      -- [the share, lent; the way back; the right to end the fresh lifetime; the dictionary]
      move ! (0 ∷ 3 ∷ []) $ use2 𝓛 (‵ (t (a ∷ []))) (moves_from 𝓛 t laws (a ∷ []) κ κ (meet_⊑_left κ (a ∷ []))) $ move ! (2 ∷ 0 ∷ []) $ fjoin ! $
      now ! $ show ! Reads a $ done !)

  pub has_read : (a : ℕ) → ent 𝓤 (Reads a) (H.⇛ (A.lft κ q))
  has_read a = qed 𝓛 (‵ (shown_owns p (Some d) a) ∷ ‵ (flent (a ∷ []) (flft κ q)) ∷ []) ∵ updating ! $ fsplit ! $ lft_end ! tt $ move ! (0 ∷ 2 ∷ []) $ lent_back ! tt $
      now ! $ keep ! (0 ∷ []) $ done !
