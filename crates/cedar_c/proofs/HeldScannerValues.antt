-- The machine value of a `HeldScanner`, and what it owns. Assumes `Logic`.
use Rattle.std.proofs.Common.{◌≡◌, List, [], ◌∷◌, ◌++◌, refl, subst}
use Rattle.std.specs.Prelude.{Option, None, Some, IsSome}
use Rattle.std.proofs.lemmas.Bool.{false≢true}
use seplogic.Ra.Ura.{Ura}
use mir.Val.{Val, vstruct, vcons, vnil, of_list}
use base.Logic.{ent, id⊢}
use base.Fml.{Lft}
use types.Logic.{Logic, sem}
use types.Kit.{Item, Goal, Seq, Step, step, ‵, ◌$◌, drop, fsplit, fjoin, fpick, fpack, feq_i, feq_l}
use denote.RattleType.{RattleType, Valss}
use denote.Builtin.{RawPtr}
use denote.RawPtr.{Ptr, ptr_val}
use denote.Steps.{nothing}
use denote.Struct.Struct.{within}
use denote.Struct.Owning.{shape}
use denote.Struct.Lending.{lent_at}
use Rattle.std_alloc.specs.Box.Ownership.{box_owns}
use Rattle.cedar_c.specs.declared.any_scanner.AnyScanner.{AnyScanner}
use Rattle.cedar_c.specs.Ownership.{may_free}
use Rattle.cedar_c.specs.ScannerOwnership.{scanner_row, held_scanner_owns, held_scanner_lends}
use Rattle.cedar_c.proofs.HeldValues.{held_word, value_in}
use Rattle.cedar_c.specs.contracts.held_scanner.HeldScanner as held

abbrev pub Held : RattleType
Held = held.the_row

pub box_of : {M : Type 1} {𝓤 : Ura M} (𝓛 : Logic 𝓤) (p : Ptr) (d : Option AnyScanner) (s : IsSome d)
    → ent 𝓤 (sem 𝓛 (held_scanner_owns p d)) (sem 𝓛 (box_owns may_free scanner_row p (value_in d s)))
box_of 𝓛 p None s = absurd (false≢true s)
box_of {𝓤 = 𝓤} 𝓛 p (Some x) s = id⊢ 𝓤 (sem 𝓛 (box_owns may_free scanner_row p x))

pub scanner_of : {M : Type 1} {𝓤 : Ura M} (𝓛 : Logic 𝓤) (p : Ptr) (d : Option AnyScanner) (s : IsSome d) (κ : Lft)
    → ent 𝓤 (sem 𝓛 (held_scanner_lends p d κ)) (sem 𝓛 (lent_at scanner_row p (value_in d s) κ))
scanner_of 𝓛 p None s κ = absurd (false≢true s)
scanner_of {𝓤 = 𝓤} 𝓛 p (Some x) s κ = id⊢ 𝓤 (sem 𝓛 (lent_at scanner_row p x κ))

module _ {M : Type 1} {𝓤 : Ura M} {𝓛 : Logic 𝓤} {K : Type 0} {Γ : List (Item 𝓤)} {G : Goal 𝓤 𝓛.H} where
  pub held_out : K → (d : Held.Denot) (vs : List Val)
      → (vs ≡ held_word d.at ∷ [] → Seq K 𝓛 (‵ (held_scanner_owns d.at d.value) ∷ Γ) G)
      → Seq K 𝓛 (‵ (Held.own_val d vs) ∷ Γ) G
  held_out t d vs k =
      fsplit t $ fpick t (λ vss. fsplit t $ feq_l t (λ ev. fsplit t $ feq_l t (λ ep. drop t $
      k (subst (λ (ps : List Val). vs ≡ vstruct (of_list (ps ++ [])) ∷ []) ep ev))))

  pub held_in : K → (p : Ptr) (d : Option AnyScanner)
      → Step K 𝓛 (‵ (Held.own_val (record { at = p; value = d }) (held_word p ∷ [])) ∷ Γ) G (‵ (held_scanner_owns p d) ∷ Γ) G
  held_in t p d = step (λ s. let w : Val = held_word p in
      nothing t $ feq_i t (List Val) (ptr_val p ∷ []) (ptr_val p ∷ []) refl $ fjoin t $ feq_i t (List Val) (w ∷ []) (w ∷ []) refl $ fjoin t $
      fpack t (Valss (RawPtr ∷ [])) (within (shape held.the_type) (p, tt) (w ∷ [])) (ptr_val p ∷ [], tt) $ fjoin t $ s)
