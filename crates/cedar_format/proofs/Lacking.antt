-- Which exits of a load are want of memory, and which a fault of the device.
use Rattle.std.proofs.Common.{◌≡◌, ℕ, Bool, true, List, Option, Some, None}
use Rattle.cedar_format.specs.declared.error.CedarPersistenceError.{CedarPersistenceError}
use Rattle.cedar_format.specs.declared.error.CedarPersistenceError.TheVariants as errors
use Rattle.cedar_format.specs.declared.header.Header.{Header}
use Rattle.cedar_format.specs.Reading.{IsIo, IsLack, LacksNoMore, LacksTable, Misses, Trails}

pub no_lack : (passed : Header → Type 0) (e : CedarPersistenceError) → (IsLack e → ⊥) → LacksNoMore passed e
no_lack passed (errors.Io cause) none_lacks = tt
no_lack passed errors.Truncated none_lacks = tt
no_lack passed errors.InvalidMagic none_lacks = tt
no_lack passed errors.TrailingData none_lacks = tt
no_lack passed (errors.UnsupportedVersion a b) none_lacks = tt
no_lack passed (errors.UnsupportedByteOrder a) none_lacks = tt
no_lack passed (errors.LayoutMismatch a b) none_lacks = tt
no_lack passed (errors.InvalidHeader a b) none_lacks = tt
no_lack passed (errors.AllocationLimitExceeded a b) none_lacks = tt
no_lack passed (errors.AllocationFailed n) none_lacks = absurd (none_lacks tt)
no_lack passed (errors.CorruptData a b i) none_lacks = tt

pub missed : (passed : Header → Type 0) (left : Option (List ℕ)) (failed : Bool) (n : ℕ) (e : CedarPersistenceError) → Misses left failed n e → LacksNoMore passed e
missed passed left failed n (errors.Io cause) misses = tt
missed passed left failed n errors.Truncated misses = tt
missed passed left failed n errors.InvalidMagic misses = tt
missed passed left failed n errors.TrailingData misses = tt
missed passed left failed n (errors.UnsupportedVersion a b) misses = tt
missed passed left failed n (errors.UnsupportedByteOrder a) misses = tt
missed passed left failed n (errors.LayoutMismatch a b) misses = tt
missed passed left failed n (errors.InvalidHeader a b) misses = tt
missed passed left failed n (errors.AllocationLimitExceeded a b) misses = tt
missed passed left failed n (errors.AllocationFailed m) misses = absurd misses
missed passed left failed n (errors.CorruptData a b i) misses = tt

pub trailed : (passed : Header → Type 0) (left : Option (List ℕ)) (failed : Bool) (e : CedarPersistenceError) → Trails left failed e → LacksNoMore passed e
trailed passed left failed (errors.Io cause) trails = tt
trailed passed left failed errors.Truncated trails = tt
trailed passed left failed errors.InvalidMagic trails = tt
trailed passed left failed errors.TrailingData trails = tt
trailed passed left failed (errors.UnsupportedVersion a b) trails = tt
trailed passed left failed (errors.UnsupportedByteOrder a) trails = tt
trailed passed left failed (errors.LayoutMismatch a b) trails = tt
trailed passed left failed (errors.InvalidHeader a b) trails = tt
trailed passed left failed (errors.AllocationLimitExceeded a b) trails = tt
trailed passed None failed (errors.AllocationFailed m) trails = absurd trails
trailed passed (Some bytes) failed (errors.AllocationFailed m) trails = absurd trails
trailed passed left failed (errors.CorruptData a b i) trails = tt

pub table_lacks : (passed : Header → Type 0) (h : Header) (e : CedarPersistenceError) → passed h → LacksTable h e → LacksNoMore passed e
table_lacks passed h (errors.Io cause) holds lacks = tt
table_lacks passed h errors.Truncated holds lacks = tt
table_lacks passed h errors.InvalidMagic holds lacks = tt
table_lacks passed h errors.TrailingData holds lacks = tt
table_lacks passed h (errors.UnsupportedVersion a b) holds lacks = tt
table_lacks passed h (errors.UnsupportedByteOrder a) holds lacks = tt
table_lacks passed h (errors.LayoutMismatch a b) holds lacks = tt
table_lacks passed h (errors.InvalidHeader a b) holds lacks = tt
table_lacks passed h (errors.AllocationLimitExceeded a b) holds lacks = tt
table_lacks passed h (errors.AllocationFailed n) holds lacks = (h, holds, lacks)
table_lacks passed h (errors.CorruptData a b i) holds lacks = tt

pub missed_io : (left : Option (List ℕ)) (failed : Bool) (n : ℕ) (e : CedarPersistenceError) → Misses left failed n e → IsIo e → failed ≡ true
missed_io left failed n (errors.Io cause) misses io = misses
missed_io left failed n errors.Truncated misses io = absurd io
missed_io left failed n errors.InvalidMagic misses io = absurd io
missed_io left failed n errors.TrailingData misses io = absurd io
missed_io left failed n (errors.UnsupportedVersion a b) misses io = absurd io
missed_io left failed n (errors.UnsupportedByteOrder a) misses io = absurd io
missed_io left failed n (errors.LayoutMismatch a b) misses io = absurd io
missed_io left failed n (errors.InvalidHeader a b) misses io = absurd io
missed_io left failed n (errors.AllocationLimitExceeded a b) misses io = absurd io
missed_io left failed n (errors.AllocationFailed m) misses io = absurd io
missed_io left failed n (errors.CorruptData a b i) misses io = absurd io

pub trailed_io : (left : Option (List ℕ)) (failed : Bool) (e : CedarPersistenceError) → Trails left failed e → IsIo e → failed ≡ true
trailed_io left failed (errors.Io cause) trails io = trails
trailed_io left failed errors.Truncated trails io = absurd io
trailed_io left failed errors.InvalidMagic trails io = absurd io
trailed_io left failed errors.TrailingData trails io = absurd io
trailed_io left failed (errors.UnsupportedVersion a b) trails io = absurd io
trailed_io left failed (errors.UnsupportedByteOrder a) trails io = absurd io
trailed_io left failed (errors.LayoutMismatch a b) trails io = absurd io
trailed_io left failed (errors.InvalidHeader a b) trails io = absurd io
trailed_io left failed (errors.AllocationLimitExceeded a b) trails io = absurd io
trailed_io left failed (errors.AllocationFailed n) trails io = absurd io
trailed_io left failed (errors.CorruptData a b i) trails io = absurd io

pub table_no_io : (h : Header) (e : CedarPersistenceError) → LacksTable h e → IsIo e → ⊥
table_no_io h (errors.Io cause) lacks io = lacks
table_no_io h errors.Truncated lacks io = io
table_no_io h errors.InvalidMagic lacks io = io
table_no_io h errors.TrailingData lacks io = io
table_no_io h (errors.UnsupportedVersion a b) lacks io = io
table_no_io h (errors.UnsupportedByteOrder a) lacks io = io
table_no_io h (errors.LayoutMismatch a b) lacks io = io
table_no_io h (errors.InvalidHeader a b) lacks io = io
table_no_io h (errors.AllocationLimitExceeded a b) lacks io = io
table_no_io h (errors.AllocationFailed n) lacks io = io
table_no_io h (errors.CorruptData a b i) lacks io = io
