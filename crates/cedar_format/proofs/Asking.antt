-- What is asked of memory is within the need that was tested.
use Rattle.std.proofs.Common.{◌≡◌, ℕ, ◌+◌, ◌≤◌, List, length, take, Option, Some, None, inr, arith, ap, ◌∙◌, take_at, refl}
use Rattle.std.specs.Io.KnownBytes.{Consumes}
use Rattle.cedar_format.specs.declared.header.Header.{Header}
use Rattle.cedar_format.specs.Format.{tables_len, need, size_refusal, CountsWithin, IsHeader, Passes}
use Rattle.cedar_format.specs.Reading.{BeginsWithFront}
use Rattle.cedar_format.proofs.Sizes.{within_need}

begins : (old now : Option (List ℕ)) (front : List ℕ) → Consumes old now front → BeginsWithFront old front
begins None now front took = tt
begins (Some bytes) None front took = absurd took
begins (Some bytes) (Some rest) front took = ap (take (length front)) took ∙ take_at front rest (length front) refl

pub passes : (layout slots limit : ℕ) (front : List ℕ) (h : Header) (old now : Option (List ℕ)) → IsHeader layout front h → size_refusal slots limit h ≡ None → Consumes old now front
    → Passes layout slots limit old h
passes layout slots limit front h old now head sizes took = record { front = front; is = head; sizes = sizes; first = begins old now front took }

pub asks_within : (layout slots limit : ℕ) (front : List ℕ) (h : Header) (old now : Option (List ℕ)) (before after : ℕ) → IsHeader layout front h → size_refusal slots limit h ≡ None
    → Consumes old now front → after ≤ before + tables_len h → CountsWithin layout slots limit old need before after
asks_within layout slots limit front h old now before after head sizes took most =
    let within = within_need slots limit h sizes in
    inr (h, passes layout slots limit front h old now head sizes took, omega arith)
