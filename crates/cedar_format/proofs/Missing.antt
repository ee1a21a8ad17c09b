-- What is missing after some bytes were read is missing from the start.
use Rattle.std.proofs.Common.{◌≡◌, ℕ, ◌+◌, ◌*◌, ◌≤◌, Bool, List, length, Option, Some, None, arith, ap, ◌∙◌, length-append}
use Rattle.std.proofs.Math.Nat.{add-mul, mul-le-mul_right}
use Rattle.std.specs.Io.KnownBytes.{Consumes}
use Rattle.cedar_format.specs.declared.error.CedarPersistenceError.{CedarPersistenceError}
use Rattle.cedar_format.specs.declared.error.CedarPersistenceError.TheVariants as errors
use Rattle.cedar_format.specs.Reading.{EndsShort, EndsWithin, Misses}

pub EndsWithin-after : (start now : Option (List ℕ)) (read : List ℕ) (n m : ℕ) → Consumes start now read → EndsWithin now n → length read + n ≤ m → EndsWithin start m
EndsWithin-after None now read n m took ends fits = tt
EndsWithin-after (Some xs) None read n m took ends fits = absurd took
EndsWithin-after (Some xs) (Some ys) read n m took ends fits = omega (arith, ap length took ∙ length-append read ys)

pub Misses-after : (start now : Option (List ℕ)) (read : List ℕ) (failed : Bool) (n m : ℕ) (e : CedarPersistenceError) → Consumes start now read → Misses now failed n e → length read + n ≤ m → Misses start failed m e
Misses-after start now read failed n m (errors.Io cause) took misses fits = misses
Misses-after start now read failed n m errors.Truncated took misses fits = λ fine. EndsWithin-after start now read n m took (misses fine) fits
Misses-after start now read failed n m errors.InvalidMagic took misses fits = absurd misses
Misses-after start now read failed n m errors.TrailingData took misses fits = absurd misses
Misses-after start now read failed n m (errors.UnsupportedVersion a b) took misses fits = absurd misses
Misses-after start now read failed n m (errors.UnsupportedByteOrder a) took misses fits = absurd misses
Misses-after start now read failed n m (errors.LayoutMismatch a b) took misses fits = absurd misses
Misses-after start now read failed n m (errors.InvalidHeader a b) took misses fits = absurd misses
Misses-after start now read failed n m (errors.AllocationLimitExceeded a b) took misses fits = absurd misses
Misses-after start now read failed n m (errors.AllocationFailed a) took misses fits = absurd misses
Misses-after start now read failed n m (errors.CorruptData a b i) took misses fits = absurd misses

pub EndsShort-after : (start now : Option (List ℕ)) (read : List ℕ) (cut : Bool) (n m : ℕ) (e : CedarPersistenceError) → Consumes start now read → EndsShort now cut n e → length read + n ≤ m → EndsShort start cut m e
EndsShort-after start now read cut n m e took short fits = λ same fine. EndsWithin-after start now read n m took (short same fine) fits

-- the same for a part of a list of equal pieces, of which i were read
pub Misses-after_part : (start now : Option (List ℕ)) (read : List ℕ) (failed : Bool) (i part count n : ℕ) (e : CedarPersistenceError) → length read ≡ i * n → i + part ≤ count
    → Consumes start now read → Misses now failed (part * n) e → Misses start failed (count * n) e
Misses-after_part start now read failed i part count n e len within took misses =
    let fits : (i + part) * n ≤ count * n = mul-le-mul_right n within in
    let split : (i + part) * n ≡ i * n + part * n = add-mul i part n in
    Misses-after start now read failed (part * n) (count * n) e took misses (omega arith)

pub EndsShort-after_part : (start now : Option (List ℕ)) (read : List ℕ) (cut : Bool) (i part count n : ℕ) (e : CedarPersistenceError) → length read ≡ i * n → i + part ≤ count
    → Consumes start now read → EndsShort now cut (part * n) e → EndsShort start cut (count * n) e
EndsShort-after_part start now read cut i part count n e len within took short =
    let fits : (i + part) * n ≤ count * n = mul-le-mul_right n within in
    let split : (i + part) * n ≡ i * n + part * n = add-mul i part n in
    EndsShort-after start now read cut (part * n) (count * n) e took short (omega arith)
