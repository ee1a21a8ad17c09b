-- A `&` to a `Seen` is made where its lifetime lasts as long as the borrow does, since the borrow has the right to end it. Assumes `Logic`.
use Rattle.std.specs.Prelude.{ℕ, Option, None, Some}
use seplogic.Ra.Ura.{Ura}
use base.Fraction.{full_share}
use base.Fml.{Lft, ftrue}
use types.Logic.{Logic}
use denote.Param.Shared.{copy_shared}
use denote.RawPtr.{Ptr}
use denote.Sharing.{ShrLaws}
use denote.SharingLaws.{nothing_shr_laws}
use denote.Struct.Field.{RawPtr-field}
use denote.Struct.Laws.{RawPtr-copy}
use denote.Struct.Lending.{lent_at, lent_at_shr_laws, Lends, Lends-nothing, of_Lends}
use Rattle.either_layout.specs.declared.any.AnyCedar.{AnyCedar}
use Rattle.cedar_c.specs.Ownership.{cedar_row, shown_owns, held_lends}
use Rattle.cedar_c.proofs.LoanLemmas.{lends_loan}
use Rattle.either_layout.proofs.any.AnyCedar.TheLaws.{the_row_laws}
use Rattle.cedar_c.specs.contracts.shown.Seen as C
use Rattle.cedar_c.proofs.shown.Seen.TheLaw.Statement.{statement}

cedar_lent_laws : (p : Ptr) (d : AnyCedar) → ShrLaws (lent_at cedar_row p d)
cedar_lent_laws p d = lent_at_shr_laws cedar_row the_row_laws.shr_laws p d

held_shr_laws : (p : Ptr) (d : Option AnyCedar) → ShrLaws (held_lends p d)
held_shr_laws p None = nothing_shr_laws
held_shr_laws p (Some d) = cedar_lent_laws p d

lends_shown : {M : Type 1} {𝓤 : Ura M} (𝓛 : Logic 𝓤) (l : Lft) (p : Ptr) (d : Option AnyCedar) (life : ℕ) → Lends 𝓛 (shown_owns p d life) (held_lends p d) l
lends_shown 𝓛 l p None life = Lends-nothing 𝓛 ftrue l
lends_shown 𝓛 l p (Some d) life = lends_loan 𝓛 (lent_at cedar_row p d) (cedar_lent_laws p d) life full_share l

pub shares : statement
shares = of_Lends C.struct C.the_codes C.the_heap C.the_lent (λ s p. held_shr_laws s.at s.value) (copy_shared RawPtr-field RawPtr-copy, tt)
    (λ M 𝓤 𝓛 s p. lends_shown 𝓛 C.the_row.lives s.at s.value s.life)
