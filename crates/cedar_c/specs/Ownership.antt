-- What a pointer to a dictionary owns. Only proofs say this.
use Rattle.std.specs.Prelude.{ℕ, [], ◌∷◌, Option, None, Some}
use base.Fraction.{full_share}
use base.Fml.{Lft, Fml, ftrue, fsep, flft}
use denote.RattleType.{RattleType}
use denote.RawPtr.{Ptr}
use denote.Sharing.{nothing}
use denote.Struct.Lending.{lent_at}
use Rattle.std.specs.Box.Ownership.{box_owns}
use mir.Syntax.{Ty}
use Rattle.std.specs.declared.alloc.Global.{Global}
use Rattle.std.specs.contracts.impls.GlobalAllocator.TheImpl as global_allocator
use Rattle.either_layout.specs.contracts.any.AnyCedar.{the_row}
use Rattle.either_layout.specs.declared.any.AnyCedar.{AnyCedar}

-- the type of a dictionary of either layout
abbrev pub cedar_row : RattleType
cedar_row = the_row

-- the C library's heap
abbrev pub heap : Global
heap = record { memory = record { seal = tt } }

-- the right to free a block of it
abbrev pub may_free : Ty → Ptr → Fml
may_free = global_allocator.ghosts.dealloc_token heap

-- what an open handle owns: a dictionary on the C library's heap, and the right to free it; a closed one nothing
abbrev pub held_owns : Ptr → Option AnyCedar → Fml
held_owns p None = ftrue
held_owns p (Some d) = box_owns may_free cedar_row p d

-- what a `&` to a handle has: a `&` to its dictionary, or nothing
abbrev pub held_lends : Ptr → Option AnyCedar → Lft → Fml
held_lends p None = nothing
held_lends p (Some d) = lent_at cedar_row p d

-- what a pointer that only reads owns: a dictionary that is lent for a lifetime, and the whole right to end that
-- lifetime; or nothing. Many pointers, each with a lifetime of its own, may have the same dictionary: whoever owns it
-- has it back once these lifetimes are ended
abbrev pub shown_owns : Ptr → Option AnyCedar → ℕ → Fml
shown_owns p None life = ftrue
shown_owns p (Some d) life = fsep (flft (life ∷ []) full_share) (lent_at cedar_row p d (life ∷ []))
