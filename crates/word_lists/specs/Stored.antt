-- What the lines of a word list store in a dictionary, and what is reported of them.
use Rattle.std.specs.Prelude.{◌≡◌, ℕ, ◌+◌, ◌<◌, ◌^◌, Bool, true, false, ◌==◌, nat_le}
use Rattle.std.specs.Prelude.{if◌then◌else◌, ℤ, pos, List, [], ◌∷◌, ◌++◌, length, Option}
use Rattle.std.specs.Prelude.{Some, None, IfSome, is_some, Result, Ok, Err}
use Rattle.std.specs.List.{before_first, after_first, position}
use Rattle.cedarwood.specs.State.{State, after_erase, after_put}
use Rattle.cedarwood.specs.Queries.{Entry}
use Rattle.cedarwood.specs.Tree.{number_at}
use Rattle.cedarwood.specs.Fault.{fault}
use Rattle.cedarwood.specs.Builds.{all_stored}
use Rattle.cedarwood.specs.declared.error.CedarError.{CedarError}
use Rattle.cedarwood.specs.declared.error.CedarError.TheVariants.{EmptyKey, NulByte, InvalidValue}
use Rattle.cedarwood.specs.declared.error.CedarError.TheVariants.{SlotLimit as OfSlots}
use Rattle.device_lines.specs.Lines.{figures_number, is_filled, onto_first}
use Rattle.word_lists.specs.Reading.{read_as}
use Rattle.word_lists.specs.Texts.{body_of}
use Rattle.word_lists.specs.declared.lines.StoreError.{StoreError}
use Rattle.word_lists.specs.declared.lines.StoreError.TheVariants.{Read, Memory, SlotLimit}
use Rattle.word_lists.specs.declared.lines.LineFault.{LineFault as Fault}
use Rattle.word_lists.specs.declared.lines.LineFault.TheVariants as faults

-- ---- a line

-- the number of a line without a tab: the line's own
abbrev pub own_line_number : ℕ → Option ℤ
own_line_number number = if nat_le number 2147483647 then Some (pos number) else None

-- whether a byte is a tab
abbrev pub is_tab : ℕ → Bool
is_tab b = b == 9

-- the word of a line: what its text before the first tab represents
abbrev pub word_of : List ℕ → List ℕ
word_of line = read_as (before_first is_tab line)

-- what follows the first tab of a line, if it has one
abbrev pub figures_of : List ℕ → Option (List ℕ)
figures_of line = if is_some (position is_tab line) then Some (after_first is_tab line) else None

-- the number that the figures of a line say, and without figures the line's own
abbrev pub number_with : ℕ → Option (List ℕ) → Option ℤ
number_with number None = own_line_number number
number_with number (Some figures) = figures_number figures

-- the number of a line: that in figures behind its first tab, and without a tab the line's own
abbrev pub number_of_line : ℕ → List ℕ → Option ℤ
number_of_line number line = number_with number (figures_of line)

-- ---- wants

-- the error is want of memory or of slots
abbrev pub IsWant : StoreError → Type 0
IsWant (Read e) = ⊥
IsWant Memory = Unit {0}
IsWant SlotLimit = Unit {0}

-- what a refused update wants whose key and value have no fault
abbrev pub want_of : CedarError → StoreError
want_of OfSlots = SlotLimit
want_of _ = Memory

-- ---- what a line stores

-- the state with a word and its number, unless they have this fault
abbrev pub stored_by : Option CedarError → State → List ℕ → ℤ → State
stored_by None s word v = after_put s word v
stored_by (Some e) s word v = s

-- the state with a word and its number, unless there is none or the two have a fault
abbrev pub stored_with : Option ℤ → State → List ℕ → State
stored_with None s word = s
stored_with (Some v) s word = stored_by (fault word v) s word v

-- the state with a line of this number: its word has its number, unless there is none or the two have a fault
abbrev pub line_stored : State → ℕ → List ℕ → State
line_stored s number line = if is_filled line then stored_with (number_of_line number line) s (word_of line) else s

-- what is wrong with a word and its number: this fault, or that the word is held
abbrev pub told_by : Option CedarError → Bool → Option Fault
told_by None true = Some faults.Repeated
told_by None false = None
told_by (Some EmptyKey) held = Some faults.EmptyWord
told_by (Some (NulByte at)) held = Some faults.NulByte
told_by (Some _) held = Some faults.Number

-- what is wrong with a word and its number: there is none, or their fault, or that the word is held
abbrev pub told_with : Option ℤ → State → List ℕ → Option Fault
told_with None s word = Some faults.Number
told_with (Some v) s word = told_by (fault word v) (is_some (number_at s.tree word))

-- what is wrong with a line of this number, if anything is: it has no number, its word and number have a fault, or
-- its word is held
abbrev pub line_told : State → ℕ → List ℕ → Option Fault
line_told s number line = if is_filled line then told_with (number_of_line number line) s (word_of line) else None

-- a line that is reported: its number, its bytes, and what is wrong with it
abbrev pub Told : Type 0
Told = ℕ × List ℕ × Fault

-- a line that is reported, if something is wrong with it
abbrev pub told_one : ℕ → List ℕ → Option Fault → List Told
told_one number line None = []
told_one number line (Some f) = (number, line, f) ∷ []

-- what a refused entry says of its line, or of the dictionary
abbrev pub line_refusal : CedarError → Result (Option Fault) StoreError
line_refusal EmptyKey = Ok (Some faults.EmptyWord)
line_refusal (NulByte at) = Ok (Some faults.NulByte)
line_refusal (InvalidValue v) = Ok (Some faults.Number)
line_refusal e = Err (want_of e)

-- the state with some pairs, one after another; one that has a fault stores nothing
abbrev pub pairs_stored : State → List Entry → State
pairs_stored s [] = s
pairs_stored s (e ∷ es) = pairs_stored (stored_by (fault e.0 e.1) s e.0 e.1) es

-- the line of this number adds to the first pairs what makes the others
abbrev pub AddsLine : List Entry → List Entry → ℕ → List ℕ → Type 0
AddsLine before after number line = (s : State) → line_stored (pairs_stored s before) number line ≡ pairs_stored s after

-- ---- the lines of a list

-- the bytes up to each byte 10, with it, and what follows the last one, unless that is empty
abbrev pub lines_in : List ℕ → List (List ℕ)
lines_in [] = []
lines_in (b ∷ rest) = if b == 10 then (b ∷ []) ∷ lines_in rest else onto_first b (lines_in rest)

-- the state with some lines, the first of which has this number
abbrev pub lines_stored : State → ℕ → List (List ℕ) → State
lines_stored s number [] = s
lines_stored s number (line ∷ lines) = lines_stored (line_stored s number (body_of line)) (number + 1) lines

-- the lines of some that are reported, the first of which has this number
abbrev pub lines_told : State → ℕ → List (List ℕ) → List Told
lines_told s number [] = []
lines_told s number (line ∷ lines) =
    told_one number (body_of line) (line_told s number (body_of line)) ++ lines_told (line_stored s number (body_of line)) (number + 1) lines

-- the lines of a whole list that are reported
abbrev pub list_told : State → List ℕ → List Told
list_told s list = lines_told s 1 (lines_in list)

-- the state without a line's word
abbrev pub line_erased : State → List ℕ → State
line_erased s line = if is_filled line then after_erase s (word_of line) else s

-- whether the word of a line is held; that of an empty line is
abbrev pub line_held : State → List ℕ → Bool
line_held s line = if is_filled line then is_some (number_at s.tree (word_of line)) else true

-- how many words aren't held: none or one
abbrev pub absent_of : Bool → ℕ
absent_of held = if held then 0 else 1

-- how many words of a line aren't held: none or one
abbrev pub line_absent : State → List ℕ → ℕ
line_absent s line = absent_of (line_held s line)

-- the state without the words of some lines
abbrev pub lines_erased : State → List (List ℕ) → State
lines_erased s [] = s
lines_erased s (line ∷ lines) = lines_erased (line_erased s (body_of line)) lines

-- how many of some lines have a word that isn't held once the words of the lines before are taken out
abbrev pub lines_absent : State → List (List ℕ) → ℕ
lines_absent s [] = 0
lines_absent s (line ∷ lines) = line_absent s (body_of line) + lines_absent (line_erased s (body_of line)) lines

-- ---- a reader and a reporter, where it is known what they have left or heard

-- a list grew by some members, if it is known
abbrev pub Adds : {T : Type 0} → Option (List T) → Option (List T) → List T → Type 0
Adds None after more = Unit {0}
Adds (Some xs) None more = ⊥
Adds (Some xs) (Some ys) more = ys ≡ xs ++ more

-- P holds of the bytes that a reader has left, if they are known and fewer than 2^63
abbrev pub OnKnown : Option (List ℕ) → (List ℕ → Type 0) → Type 0
OnKnown known P = IfSome known (λ input. length input < 2 ^ 63 → P input)

-- these lines are the first ones of what a reader had left, and what it has left now are the others, if that is known
abbrev pub TakesLines : Option (List ℕ) → Option (List ℕ) → List (List ℕ) → Type 0
TakesLines None after came = Unit {0}
TakesLines (Some input) after came = (rest : List ℕ) × (after ≡ Some rest) × (lines_in input ≡ came ++ lines_in rest)

-- the next line was taken, or there was none
abbrev pub TakesNext : Option (List ℕ) → Option (List ℕ) → List ℕ → Bool → Type 0
TakesNext before after line true = TakesLines before after (line ∷ [])
TakesNext before after line false = IfSome before (λ input. input ≡ [])

-- these lines are the first ones of what a reader had left, or all
abbrev pub AreFirstLines : Option (List ℕ) → List (List ℕ) → Type 0
AreFirstLines known came = IfSome known (λ input. (later : List (List ℕ)) × (lines_in input ≡ came ++ later))

-- the first lines of what a reader had left are stored and reported, or all
abbrev pub StoresFirstLines : Option (List ℕ) → State → State → Option (List Told) → Option (List Told) → Type 0
StoresFirstLines known s t told tells =
    (came : List (List ℕ)) × AreFirstLines known came × (t ≡ lines_stored s 1 came) × Adds told tells (lines_told s 1 came)

-- the words of the first lines of what a reader had left are taken out, or of all
abbrev pub ErasesFirstLines : Option (List ℕ) → State → State → Type 0
ErasesFirstLines known s t = (came : List (List ℕ)) × AreFirstLines known came × (t ≡ lines_erased s came)

-- ---- entries

-- the first of some entries are stored, and not all
abbrev pub StoresFirst : State → State → List Entry → Type 0
StoresFirst s t entries = (came : List Entry) × (later : List Entry) × (0 < length later) × (entries ≡ came ++ later) × (t ≡ all_stored s came)
