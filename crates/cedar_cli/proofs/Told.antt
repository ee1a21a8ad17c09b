-- What a reporter is told of a script's lines, one after another.
use Rattle.std.proofs.Common.{◌≡◌, ◌<◌, ℕ, List, [], ◌∷◌, ◌++◌, Option, Some, None, refl, sym, ap, subst, ◌∙◌, append_assoc, append-nil, length}
use Rattle.std.proofs.lemmas.List.{map-append}
use Rattle.cedar_cli.specs.Command.{bad_line_of}
use Rattle.cedar_cli.specs.Lines.{HasNoNewline, lines_of}
use Rattle.cedar_cli.specs.Reports.{Continues, reasons_of, TellsText}
use Rattle.cedar_cli.specs.declared.command.BadLine.{BadLine}
use Rattle.cedar_cli.proofs.Bytes.{lines_of-line, Splits-append}
use Rattle.cedar_cli.proofs.Runs.{last_line, whole}

abbrev Told : Type 0
Told = Option (List (Option BadLine))

-- nothing is told
pub Continues-none : {T : Type 0} (a : Option (List T)) → Continues a a []
Continues-none None = tt
Continues-none (Some xs) = sym (append-nil xs)

-- some is told, and then more
pub Continues-append : {T : Type 0} (a b c : Option (List T)) (x y : List T) → Continues a b x → Continues b c y → Continues a c (x ++ y)
Continues-append None b c x y p q = tt
Continues-append (Some xs) None c x y p q = absurd p
Continues-append (Some xs) (Some ys) None x y p q = absurd q
Continues-append (Some xs) (Some ys) (Some zs) x y p q = q ∙ ap (λ l. l ++ y) p ∙ append_assoc xs x y

-- what is told of some lines, and then of others
reasons-append : (a b : Told) (c : Told) (first second : List (List ℕ)) → Continues a b (reasons_of first) → Continues b c (reasons_of second) → Continues a c (reasons_of (first ++ second))
reasons-append a b c first second p q =
    subst (Continues a c) (sym (map-append bad_line_of first second)) (Continues-append a b c (reasons_of first) (reasons_of second) p q)

-- bytes that end no line
pub tells_none : (told : Told) (text : List ℕ) → TellsText told told text text
tells_none told text = ([], (λ rest. refl), Continues-none told)

-- a text is told of, and then one that goes on
pub tells_on : (a b c : Told) (text left more left' : List ℕ) → TellsText a b text left → TellsText b c (left ++ more) left' → TellsText a c (text ++ more) left'
tells_on a b c text left more left' p q =
    (p.0 ++ q.0, Splits-append text more left left' p.0 q.0 p.1 q.1, reasons-append a b c p.0 q.0 p.2 q.2)

-- a line is told of, with its byte 10
tells_line : (a b : Told) (line : List ℕ) → HasNoNewline line → Continues a b (bad_line_of line ∷ []) → TellsText a b (line ++ 10 ∷ []) []
tells_line a b line o h = (line ∷ [], (λ rest. ap lines_of (append_assoc line (10 ∷ []) rest) ∙ lines_of-line line rest o), h)

-- before the first byte
pub told_none : (told : Told) (line : List ℕ) → TellsText told told (line ++ []) line
told_none told line = subst (λ (text : List ℕ). TellsText told told text line) (sym (append-nil line)) (tells_none told line)

-- a further line of a chunk is told of
pub line_told : (a b c : Told) (begun gone line piece left : List ℕ) → HasNoNewline (line ++ piece)
    → TellsText a b (begun ++ gone) line → Continues b c (bad_line_of (line ++ piece) ∷ []) → left ≡ []
    → TellsText a c (begun ++ (gone ++ (piece ++ 10 ∷ []))) left
line_told a b c begun gone line piece left o p q empty =
    let next : TellsText b c (line ++ (piece ++ 10 ∷ [])) [] = subst (λ (text : List ℕ). TellsText b c text []) (append_assoc line piece (10 ∷ [])) (tells_line b c (line ++ piece) o q) in
    rw (empty, ← append_assoc begun gone (piece ++ 10 ∷ [])) (tells_on a b c (begun ++ gone) line (piece ++ 10 ∷ []) [] p next)

-- the rest of a chunk begins the next line
pub rest_told : (a b : Told) (begun gone line rest chunk : List ℕ) → TellsText a b (begun ++ gone) line → chunk ≡ gone ++ rest → TellsText a b (begun ++ chunk) (line ++ rest)
rest_told a b begun gone line rest chunk p same =
    subst (λ text. TellsText a b text (line ++ rest)) (append_assoc begun gone rest ∙ ap (λ l. begun ++ l) (sym same))
    (tells_on a b b (begun ++ gone) line rest (line ++ rest) p (tells_none b (line ++ rest)))

-- all lines are told of where nothing is left
pub all_told : (a b : Told) (text left : List ℕ) → TellsText a b text left → left ≡ [] → Continues a b (reasons_of (lines_of text))
all_told a b text left h e =
    rw (whole text left h.0 h.1 ∙ ap (λ l. h.0 ++ lines_of l) e ∙ append-nil h.0) h.2

-- and where the last piece is told of
pub last_told : (a b c : Told) (text line : List ℕ) → HasNoNewline line → 0 < length line → TellsText a b text line → Continues b c (bad_line_of line ∷ [])
    → Continues a c (reasons_of (lines_of text))
last_told a b c text line o long h k =
    rw (whole text line h.0 h.1 ∙ ap (λ l. h.0 ++ l) (last_line line o long))
    (reasons-append a b c h.0 (line ∷ []) h.2 k)
