-- Scanners of any kind, and what they find in a text from a position on.
use Rattle.std.specs.Prelude.{◌≡◌, ℕ, ◌+◌, ◌<◌, ◌==◌, if◌then◌else◌, Bool, true, false, List, ◌++◌}
use Rattle.std.specs.Prelude.{length, map, take, Option, Some, None}
use Rattle.std.specs.Coded.{Coded, code_by, coded×, coded_bool}
use Rattle.std.proofs.Common.{ap, refl}
use Rattle.cedar_tree.specs.Stored.{coded_tree}
use Rattle.cedarwood.specs.Tree.{Tree}
use Rattle.cedar_scan.specs.Scanners.{is_first, kind_by, match_kind_back}
use Rattle.cedar_scan.specs.Words.{earliest_behind, ending_behind, keys_ending, leftmost_from}
use Rattle.cedar_scan.specs.Words.{Occurrence}
use Rattle.cedar_scan.specs.declared.kind.MatchKind.{MatchKind}
use Rattle.cedar_scan.specs.declared.kind.MatchKind.TheVariants.{LeftmostFirst, LeftmostLongest}
use Rattle.cedar_c.specs.Scans.{found_keyword}
use Rattle.cedar_c.specs.declared.any_scanner.AnyScanner.{AnyScanner}
use Rattle.cedar_c.specs.declared.any_scanner.AnyScanner.TheVariants.{Earliest, Leftmost, Overlapping}
use Rattle.cedar_c.specs.declared.scans.Found.{Found}

-- which search a scanner is made for, as two truth values: whether it is for leftmost keys, and which one of two it is then
abbrev pub search_parts : AnyScanner → Bool × Bool
search_parts (Overlapping t) = (false, false)
search_parts (Earliest t) = (false, true)
search_parts (Leftmost keys) = (true, is_first keys.kind)

-- the tree of a scanner's dictionary
abbrev pub scanned_tree : AnyScanner → Tree
scanned_tree (Overlapping t) = t
scanned_tree (Earliest t) = t
scanned_tree (Leftmost keys) = keys.tree

-- the scanner that these parts are
abbrev pub scanner_of_parts : (Bool × Bool) × Tree → AnyScanner
scanner_of_parts ((false, false), t) = Overlapping t
scanner_of_parts ((false, true), t) = Earliest t
scanner_of_parts ((true, first), t) = Leftmost (record { kind = kind_by first; tree = t })

-- a scanner is the one that its parts make
pub scanner_back : (s : AnyScanner) → scanner_of_parts (search_parts s, scanned_tree s) ≡ s
scanner_back (Overlapping t) = refl
scanner_back (Earliest t) = refl
scanner_back (Leftmost keys) = ap (λ (x : MatchKind). Leftmost (record { kind = x; tree = keys.tree })) (match_kind_back keys.kind)

-- a scanner as plain data, by which a proof distinguishes what a pointer owns
abbrev pub scanner_code : Coded AnyScanner
scanner_code = code_by ((Bool × Bool) × Tree) (coded× (coded× coded_bool coded_bool) coded_tree) (λ s. (search_parts s, scanned_tree s)) scanner_of_parts scanner_back

-- the scanner of a dictionary's tree for the search with a number, if there is such a search
abbrev pub scanner_by : ℕ → Tree → Option AnyScanner
scanner_by n t =
    if n == 0 then Some (Overlapping t)
    else if n == 1 then Some (Earliest t)
    else if n == 2 then Some (Leftmost (record { kind = LeftmostLongest; tree = t }))
    else if n == 3 then Some (Leftmost (record { kind = LeftmostFirst; tree = t }))
    else None

-- the keys that a scanner finds in a text from a position on
abbrev pub matches_behind : AnyScanner → ℕ → List ℕ → List Occurrence
matches_behind (Overlapping t) place text = ending_behind t place text
matches_behind (Earliest t) place text = earliest_behind t place text
matches_behind (Leftmost keys) place text = leftmost_from keys.kind keys.tree place text

-- as C has them
abbrev pub found_from : AnyScanner → ℕ → List ℕ → List Found
found_from s place text = map found_keyword (matches_behind s place text)

-- a part was written: what a scanner finds from one position on is what was written, and then what it finds from another position on
abbrev pub WritesFound : AnyScanner → List ℕ → ℕ → ℕ → List Found → Type 0
WritesFound s text before after written = found_from s before text ≡ written ++ found_from s after text

-- there is no room for more: a buffer is full, or there isn't room for all keys that end at the next byte
abbrev pub IsFullAt : AnyScanner → List ℕ → ℕ → ℕ → ℕ → Type 0
IsFullAt (Overlapping t) text next count room = room < count + length (keys_ending t (take (next + 1) text))
IsFullAt (Earliest t) text next count room = count ≡ room
IsFullAt (Leftmost keys) text next count room = count ≡ room
