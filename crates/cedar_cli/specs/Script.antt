-- What a script's run writes, and what it leaves: of one order, of the lines of a script, and of a run that has come
-- to some position in its script.
use Rattle.std.specs.Prelude.{◌≡◌, ◌⊎◌, ℕ, ◌<◌, Bool, true, false, if◌then◌else◌, ℤ, List, [], ◌∷◌}
use Rattle.std.specs.Prelude.{◌++◌, length, Option, Some, None, Result, Err, OnOk, IfErr, IsSome}
use Rattle.std.specs.Prelude.{MatchOption, codes, decimal, is_some}
use Rattle.std.specs.Fmt.{signed_decimal}
use Rattle.std.specs.Io.KnownBytes.{Appends}
use Rattle.cedarwood.specs.Tree.{number_at}
use Rattle.cedarwood.specs.Queries.{Entry, front, predict, walk}
use Rattle.cedarwood.specs.State.{after_erase, after_put}
use Rattle.cedarwood.specs.Ranges.{entries_with}
use Rattle.cedarwood.specs.Layouts.{LayoutKind}
use Rattle.cedar_cli.specs.declared.command.Verb.TheVariants.{Put, Erase, Exact, Segment, Prefixes}
use Rattle.cedar_cli.specs.declared.command.Verb.TheVariants.{Predict, Count, Entries, Figures}
use Rattle.cedar_cli.specs.declared.script.ScriptError.{ScriptError}
use Rattle.cedar_cli.specs.declared.script.ScriptError.TheVariants.{Read, Write, Memory, SlotLimit}
use Rattle.cedarwood.specs.declared.error.CedarError.{CedarError}
use Rattle.cedarwood.specs.declared.error.CedarError.TheVariants.{EmptyKey, NulByte, InvalidValue}
use Rattle.cedarwood.specs.Dictionary.{Dictionary}
use Rattle.cedarwood.specs.Fault.{fault}
use Rattle.hex.specs.Hex.{encode_lower}
use Rattle.cedar_words.specs.Words.{Token, segments}
use Rattle.cedar_cli.specs.Command.{Order, order_of}
use Rattle.cedar_cli.specs.Lines.{lines_of}
use Rattle.cedar_cli.specs.View.{View, cut_in, holds_path, put_in, slots_held, view_of}
use Rattle.device_lines.specs.Written.{WritesFront}

-- the error is a pair's fault, and no want of memory or slots
abbrev pub IsPairFault : CedarError → Type 0
IsPairFault EmptyKey = Unit {0}
IsPairFault (NulByte at) = Unit {0}
IsPairFault (InvalidValue v) = Unit {0}
IsPairFault _ = ⊥

-- what is answered to a put, by its pair's fault: `ok`, or `refused` and the fault with its number
abbrev pub put_text : Option CedarError → List ℕ
put_text None = codes "ok"
put_text (Some EmptyKey) = codes "refused EmptyKey"
put_text (Some (NulByte at)) = codes "refused NulByte " ++ decimal at
put_text (Some (InvalidValue v)) = codes "refused InvalidValue " ++ signed_decimal v
put_text (Some _) = []

-- a number and the key's length, or `none`
abbrev pub found_text : Option ℤ → ℕ → List ℕ
found_text None n = codes "none"
found_text (Some v) n = signed_decimal v ++ 32 ∷ decimal n

-- a number and a colon
abbrev pub colon_field : ℕ → List ℕ
colon_field n = decimal n ++ codes ":"

-- the text of a token's number, or `-`
abbrev pub number_text : Option ℤ → List ℕ
number_text None = codes "-"
number_text (Some v) = signed_decimal v

-- the text of a token: where it begins, how many bytes it has, and its number, as `S:L:V`
abbrev pub token_text : Token → List ℕ
token_text t = colon_field t.0 ++ (colon_field t.1 ++ number_text t.2)

-- the texts of some things, each behind a space
abbrev pub spaced_texts : {T : Type 0} → (T → List ℕ) → List T → List ℕ
spaced_texts text [] = []
spaced_texts text (thing ∷ things) = (codes " " ++ text thing) ++ spaced_texts text things

-- the texts of some things with one space between them, or `none`
abbrev pub joined_texts : {T : Type 0} → (T → List ℕ) → List T → List ℕ
joined_texts text [] = codes "none"
joined_texts text (thing ∷ things) = text thing ++ spaced_texts text things

-- the texts of some tokens with one space between them, or `none`
abbrev pub tokens_text : List Token → List ℕ
tokens_text tokens = joined_texts token_text tokens

-- the text of what a walk found, a number and a count of bytes, as `V:N`
abbrev pub pair_text : ℤ × ℕ → List ℕ
pair_text pair = signed_decimal pair.0 ++ (codes ":" ++ decimal pair.1)

-- the texts of all that a walk found with one space between them, or `none`
abbrev pub pairs_text : List (ℤ × ℕ) → List ℕ
pairs_text pairs = joined_texts pair_text pairs

-- the line of an entry: its key in lower case hexadecimal, a space, its number and byte 10
abbrev pub hex_entry_line : Entry → List ℕ
hex_entry_line entry = encode_lower entry.0 ++ (codes " " ++ (signed_decimal entry.1 ++ 10 ∷ []))

-- the lines of some entries
abbrev pub hex_entry_lines : List Entry → List ℕ
hex_entry_lines [] = []
hex_entry_lines (entry ∷ entries) = hex_entry_line entry ++ hex_entry_lines entries

-- how many keys are held and how many slots, with a space between them
abbrev pub figures_text : ℕ → ℕ → List ℕ
figures_text keys slots = decimal keys ++ 32 ∷ decimal slots

-- what is answered to an order, without the byte 10 at its end
abbrev pub reply : View → Option Order → List ℕ
reply s None = codes "bad line"
reply s (Some (Put v, key)) = put_text (fault key v)
reply s (Some (Erase, key)) = if holds_path s key then codes "erased" else codes "absent"
reply s (Some (Exact, key)) = found_text (number_at s.state.tree key) (length key)
reply s (Some (Segment, key)) = tokens_text (segments s.state.tree key)
reply s (Some (Prefixes, key)) = pairs_text (front s.state.tree key)
reply s (Some (Predict, key)) = pairs_text (predict s.state.tree key)
reply s (Some (Count, key)) = decimal (length (entries_with s.state.tree key))
reply s (Some (Entries, key)) = hex_entry_lines (walk s.state.tree) ++ codes "end"
reply s (Some (Figures, key)) = figures_text (length (walk s.state.tree)) (slots_held s)

-- what is seen after an order
abbrev pub view_after_order : View → Option Order → View
view_after_order s None = s
view_after_order s (Some (Put v, key)) = if is_some (fault key v) then s else put_in s key v
view_after_order s (Some (Erase, key)) = cut_in s key
view_after_order s (Some (verb, key)) = s

-- What a device holds is known or not: `Some` bytes, or `None` where it doesn't report it. Below, `held` is what the
-- writer held at first, and `holds` what it holds in the end.

-- a put is taken back: the key is erased, or holds what it held before
abbrev pub IsTakenBack : Option ℤ → List ℕ → Dictionary → Dictionary → Type 0
IsTakenBack held key before after =
    MatchOption held (after.state ≡ after_erase before.state key) (λ v. fault key v ≡ None → IsSome (number_at before.state.tree key) → after.state ≡ after_put before.state key v)

-- an order was obeyed, and its answer written whole
abbrev pub Obeys : Option Order → View → View → Option (List ℕ) → Option (List ℕ) → Type 0
Obeys order old new held holds = (new ≡ view_after_order old order) × Appends held holds (reply old order ++ 10 ∷ [])

-- what stays of what is seen when this fault ends a run: all of it, and after a fault of the writer the state alone.
-- A value whose answer can't be written is taken back, and in the reduced layout the numbers that moved into slots
-- for its key stay there
abbrev pub Stays : ScriptError → View → View → Type 0
Stays Write old new = new.state ≡ old.state
Stays fault old new = new ≡ old

-- an order was not obeyed: its answer was not written whole, and what is seen stays as far as the fault lets it
abbrev pub Disobeys : ScriptError → Option Order → View → View → Option (List ℕ) → Option (List ℕ) → Type 0
Disobeys fault order old new held holds = Stays fault old new × WritesFront held holds (reply old order ++ 10 ∷ [])

-- an order was obeyed, and its answer written whole, if the result is `Ok`; and it was not obeyed by the fault, if it
-- is `Err`
pub record Answers (layout : LayoutKind) (order : Option Order) (before after : Dictionary) (held holds : Option (List ℕ)) (result : Result (Unit {0}) ScriptError) : Type 0 where
  pub ok : OnOk result (Obeys order (view_of layout before) (view_of layout after) held holds)
  pub err : IfErr result (λ fault. Disobeys fault order (view_of layout before) (view_of layout after) held holds)

-- what a call that answers lines says of its writer: it has failed after `Write`, and is as it was after `Ok` and
-- after want of memory or slots. The fault is never `Read`
pub record AnswersOrFails (before after : Bool) (result : Result (Unit {0}) ScriptError) : Type 0 where
  pub unfailed : OnOk result (after ≡ before)
  pub cause : result ≡ Err Write → after ≡ true
  pub never_read : result ≡ Err Read → ⊥
  pub starved : result ≡ Err Memory → after ≡ before
  pub full : result ≡ Err SlotLimit → after ≡ before

-- whether an order lists all entries
abbrev pub lists_all : Option Order → Bool
lists_all None = false
lists_all (Some (Entries, key)) = true
lists_all (Some (verb, key)) = false

-- an order may fail for want of memory: it lists all entries (`lists_all`), and so copies keys; or the dictionary has
-- no block spare and may have more slots
abbrev pub MayLackMemory : ℕ → Option Order → Dictionary → Type 0
MayLackMemory slots order d = (lists_all order ≡ true) ⊎ ((d.size ≡ d.capacity) × (d.capacity < slots))

-- a line may fail for want of memory: it has more than 8,192 bytes, or its order may (`MayLackMemory`)
abbrev pub LineMayLackMemory : ℕ → List ℕ → Dictionary → Type 0
LineMayLackMemory slots line d = (8192 < length line) ⊎ MayLackMemory slots (order_of line) d

-- if the fault is want of memory, the first of these lines may fail for it
abbrev pub MayStop : ℕ → Dictionary → ScriptError → List (List ℕ) → Type 0
MayStop slots d Memory (line ∷ lines) = LineMayLackMemory slots line d
MayStop slots d fault lines = Unit {0}

-- the answer to a line, with its byte 10
abbrev pub answer : View → List ℕ → List ℕ
answer s line = reply s (order_of line) ++ 10 ∷ []

-- the answers to some lines, one after another
abbrev pub answers : View → List (List ℕ) → List ℕ
answers s [] = []
answers s (line ∷ lines) = answer s line ++ answers (view_after_order s (order_of line)) lines

-- what is seen after some lines
abbrev pub view_after : View → List (List ℕ) → View
view_after s [] = s
view_after s (line ∷ lines) = view_after (view_after_order s (order_of line)) lines

-- what is seen went from `old` to `new` by these lines, and the writer, which held `held`, holds that and their
-- answers
abbrev pub Finishes : View → View → Option (List ℕ) → Option (List ℕ) → List (List ℕ) → Type 0
Finishes old new held holds lines = (new ≡ view_after old lines) × Appends held holds (answers old lines)

-- some bytes are part of the answer to the first of these lines, and not all of it
abbrev pub IsCutShort : View → List (List ℕ) → List ℕ → Type 0
IsCutShort s [] part = part ≡ []
IsCutShort s (line ∷ lines) part = (rest : List ℕ) × (0 < length rest) × (answer s line ≡ part ++ rest)

-- some lines of a script were finished, and no other: their answers were written whole, the next one's wasn't, and
-- what is seen is theirs as far as the fault lets it stay. Want of memory has a reason in the next line, or no line
-- was finished: room for lines is asked for first
abbrev pub StopsAfter : ℕ → Dictionary → ScriptError → View → View → Option (List ℕ) → Option (List ℕ) → List (List ℕ) → List (List ℕ) → Type 0
StopsAfter slots d fault old new held holds finished others =
    (part : List ℕ) × Stays fault (view_after old finished) new
    × Appends held holds (answers old finished ++ part) × IsCutShort (view_after old finished) others part
    × ((finished ≡ []) ⊎ MayStop slots d fault others)

-- the fault ended a run before its script did: the script's first lines were finished, and no other (`StopsAfter`).
-- Nothing follows the script, so its last piece is a line without a byte 10 too
abbrev pub EndsEarly : ℕ → Dictionary → ScriptError → View → View → Option (List ℕ) → Option (List ℕ) → List ℕ → Type 0
EndsEarly slots d fault old new held holds script =
    (finished : List (List ℕ)) × (others : List (List ℕ)) × (lines_of script ≡ finished ++ others)
    × StopsAfter slots d fault old new held holds finished others

-- however a text goes on, its lines are these, and then those of what is left of it. So each finished line has its
-- byte 10 in the text
abbrev pub Splits : List ℕ → List (List ℕ) → List ℕ → Type 0
Splits text finished left = (rest : List ℕ) → lines_of (text ++ rest) ≡ finished ++ lines_of (left ++ rest)

-- a text was taken: its whole lines are finished, and this is left of it
abbrev pub Advances : View → View → Option (List ℕ) → Option (List ℕ) → List ℕ → List ℕ → Type 0
Advances old new held holds text left =
    (finished : List (List ℕ)) × Splits text finished left × Finishes old new held holds finished

-- the fault stopped the run in a text: some of its lines are finished, and the next one's answer wasn't written whole
abbrev pub Stops : ℕ → Dictionary → ScriptError → View → View → Option (List ℕ) → Option (List ℕ) → List ℕ → Type 0
Stops slots d fault old new held holds text =
    (finished : List (List ℕ)) × (left : List ℕ) × (part : List ℕ) × Splits text finished left
    × Stays fault (view_after old finished) new × Appends held holds (answers old finished ++ part)
    × ((rest : List ℕ) → IsCutShort (view_after old finished) (lines_of (left ++ rest)) part)
    × ((rest : List ℕ) → MayStop slots d fault (lines_of (left ++ rest)))

-- ---- the same of dictionaries of a layout, before and after

-- the same as `Finishes` of two dictionaries of a layout
abbrev pub FinishesLines : LayoutKind → Dictionary → Dictionary → List (List ℕ) → Option (List ℕ) → Option (List ℕ) → Type 0
FinishesLines layout before after lines held holds = Finishes (view_of layout before) (view_of layout after) held holds lines

-- the same as `EndsEarly` of two dictionaries of a layout
abbrev pub EndsScript : ℕ → LayoutKind → Dictionary → Dictionary → ScriptError → List ℕ → Option (List ℕ) → Option (List ℕ) → Type 0
EndsScript slots layout before after fault script held holds = EndsEarly slots after fault (view_of layout before) (view_of layout after) held holds script

-- the same as `Advances` of two dictionaries of a layout
abbrev pub AdvancesBy : LayoutKind → Dictionary → Dictionary → List ℕ → List ℕ → Option (List ℕ) → Option (List ℕ) → Type 0
AdvancesBy layout before after text left held holds = Advances (view_of layout before) (view_of layout after) held holds text left

-- the same as `Stops` of two dictionaries of a layout
abbrev pub StopsIn : ℕ → LayoutKind → Dictionary → Dictionary → ScriptError → List ℕ → Option (List ℕ) → Option (List ℕ) → Type 0
StopsIn slots layout before after fault text held holds = Stops slots after fault (view_of layout before) (view_of layout after) held holds text
