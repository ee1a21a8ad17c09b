-- What a line of a script says.
use Rattle.std.specs.Prelude.{ℕ, Bool, ◌&&◌, ◌==◌, nat_eq, if◌then◌else◌}
use Rattle.std.specs.Prelude.{List, [], ◌∷◌, length, Option, Some, None, ◌||◌, codes}
use Rattle.std.specs.Prelude.{option_map, option_and_then, is_some}
use Rattle.std.specs.List.{before_first, after_first}
use Rattle.std.specs.Result.{result_ok}
use Rattle.hex.specs.Hex.{decode_of}
use Rattle.device_lines.specs.Lines.{figures_number}
use Rattle.cedar_cli.specs.declared.command.BadLine.{BadLine}
use Rattle.cedar_cli.specs.declared.command.BadLine.TheVariants.{Empty, NoKey, NoSign, NoSpace}
use Rattle.cedar_cli.specs.declared.command.BadLine.TheVariants.{NotAlone, NoValue}
use Rattle.cedar_cli.specs.declared.command.Verb.{Verb}
use Rattle.cedar_cli.specs.declared.command.Verb.TheVariants.{Put, Erase, Exact, Segment, Prefixes}
use Rattle.cedar_cli.specs.declared.command.Verb.TheVariants.{Predict, Count, Entries, Figures}

-- what a line asks for: what to do, and with which key
abbrev pub Order : Type 0
Order = Verb × List ℕ

-- the key that a text says: `.` for the empty key, or a nonempty, even number of hexadecimal digits of either case
abbrev pub key_of : List ℕ → Option (List ℕ)
key_of [] = None
key_of (b ∷ bs) = if b == 46 && nat_eq (length bs) 0 then Some [] else result_ok (decode_of (b ∷ bs))

-- the order of a line with a key alone
abbrev pub with_key : Verb → List ℕ → Option Order
with_key verb text = option_map (λ key. (verb, key)) (key_of text)

-- whether a byte is a space
abbrev pub is_space : ℕ → Bool
is_space b = b == 32

-- the order of a line with a key, a space and a value
abbrev pub with_key_and_value : List ℕ → Option Order
with_key_and_value text =
    option_and_then (λ key. option_map (λ v. (Put v, key)) (figures_number (after_first is_space text))) (key_of (before_first is_space text))

-- the order of a line without a key
abbrev pub alone : ℕ → Option Order
alone c = if c == 42 then Some (Entries, []) else if c == 35 then Some (Figures, []) else None

-- the order of a line: `+ K V`, `- K`, `= K`, `< K`, `> K`, `? K`, `/ K`, or `*` or `#`, whose key is the empty one
abbrev pub order_of : List ℕ → Option Order
order_of [] = None
order_of (c ∷ []) = alone c
order_of (c ∷ space ∷ rest) =
    if space == 32 then
    if c == 43 then with_key_and_value rest
    else if c == 45 then with_key Erase rest
    else if c == 61 then with_key Exact rest
    else if c == 60 then with_key Prefixes rest
    else if c == 62 then with_key Predict rest
    else if c == 63 then with_key Count rest
    else if c == 47 then with_key Segment rest
    else None
    else None

-- ---- why a line is no order

-- whether a byte is a sign that a space and a key have to follow: one of + - = < > ? /
abbrev pub is_keyed_sign : ℕ → Bool
is_keyed_sign c = c == 43 || c == 45 || c == 61 || c == 60 || c == 62 || c == 63 || c == 47

-- whether a byte is a sign that has to be alone: * or #
abbrev pub is_lone_sign : ℕ → Bool
is_lone_sign c = c == 42 || c == 35

-- what is wrong with a line that has none of the forms of lines, by its first byte
abbrev pub form_fault : List ℕ → BadLine
form_fault [] = Empty
form_fault (c ∷ rest) = if is_keyed_sign c then NoSpace else if is_lone_sign c then NotAlone else NoSign

-- what is wrong with a text that has to be a key, if anything is
abbrev pub lone_key_fault : List ℕ → Option BadLine
lone_key_fault text = if is_some (key_of text) then None else Some NoKey

-- what is wrong with a text that has to be a key, a space and a value, if anything is
abbrev pub pair_fault : List ℕ → Option BadLine
pair_fault text =
    if is_some (key_of (before_first is_space text))
    then (if is_some (figures_number (after_first is_space text)) then None else Some NoValue) else Some NoKey

-- why a line of one byte is bad, if it is: only * and # are alone
abbrev pub lone_fault : ℕ → Option BadLine
lone_fault c = if c == 42 then None else if c == 35 then None else Some (form_fault (c ∷ []))

-- why a line is bad, if it is: the first thing that it lacks, or that it doesn't end
abbrev pub bad_line_of : List ℕ → Option BadLine
bad_line_of [] = Some Empty
bad_line_of (c ∷ []) = lone_fault c
bad_line_of (c ∷ space ∷ rest) =
    if space == 32 then
    if c == 43 then pair_fault rest
    else if c == 45 then lone_key_fault rest
    else if c == 61 then lone_key_fault rest
    else if c == 60 then lone_key_fault rest
    else if c == 62 then lone_key_fault rest
    else if c == 63 then lone_key_fault rest
    else if c == 47 then lone_key_fault rest
    else Some (form_fault (c ∷ space ∷ rest))
    else Some (form_fault (c ∷ space ∷ rest))

-- what has to be in a line that is bad for this reason, in words
abbrev pub bad_line_text : BadLine → List ℕ
bad_line_text Empty = codes "it is empty, and has to begin with one of the signs + - = < > ? / * #"
bad_line_text NoSign = codes "it has to begin with one of the signs + - = < > ? / * #"
bad_line_text NoSpace = codes "a space and a key have to follow the sign"
bad_line_text NoKey = codes "a key has to follow the space: . or pairs of hexadecimal digits, to the end of the line or, behind +, to the next space"
bad_line_text NoValue = codes "a space and a number from -2147483648 to 2147483647 have to follow the key"
bad_line_text NotAlone = codes "the line has to end behind the sign"
