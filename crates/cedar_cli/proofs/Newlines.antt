-- A chunk of a script, cut at its bytes 10.
use Rattle.std.proofs.Common.{◌≡◌, ℕ, suc, List, [], ◌∷◌, ◌++◌, Option, Some, None, true, false, refl, sym, ap, subst, ◌∙◌, append_assoc, append-nil, arith, length, take, drop, get_or, ◌==◌, ◌<◌, ◌+◌, ◌-◌}
use Rattle.std.proofs.lemmas.Bool.{eqb-true}
use Rattle.std.proofs.lemmas.List.Sums.{split_at_first, passes_at_first}
use Rattle.std.proofs.lemmas.Grind.{common_steps}
use Rattle.std.specs.Prelude.{Result, Ok, Err, IfErr, OnOk}
use Rattle.std.specs.List.{position, position_or_len, before_first, after_first}
use Rattle.cedar_cli.specs.Command.{order_of}
use Rattle.cedar_cli.specs.Lines.{HasNoNewline, is_newline, lines_of}
use Rattle.cedarwood.specs.Dictionary.{Dictionary}
use Rattle.cedar_cli.specs.Script.{LineMayLackMemory, MayStop, Obeys, Disobeys, Advances, Stops}
use Rattle.cedar_cli.specs.View.{View}
use Rattle.cedar_cli.specs.declared.script.ScriptError.{ScriptError}
use Rattle.cedar_cli.specs.declared.script.ScriptError.TheVariants.{Memory}
use Rattle.cedar_cli.proofs.Bytes.{line_done, line_left, long_stop, may_stop, bytes_on, not_begun, Advances-append, Stops-append, Stops-more}
use Rattle.cedar_cli.proofs.Text.{before_at, after_at, before_none}

pub open_append : (a b : List ℕ) → HasNoNewline a → HasNoNewline b → HasNoNewline (a ++ b)
open_append [] b p q = q
open_append (c ∷ a) b p q = (p.0, open_append a b p.1 q)

take_after : (n b : ℕ) (rest : List ℕ) → take (1 + n) (b ∷ rest) ≡ b ∷ take n rest
take_after n b rest = ap (λ m. take m (b ∷ rest)) (let e : 1 + n ≡ suc n = omega arith in e)

-- before the first byte 10 there is none
pub open_before : (text : List ℕ) → HasNoNewline (before_first is_newline text)
open_before [] = tt
open_before (b ∷ rest) =
    (elim (b == 10) as (λ ends. (b == 10) ≡ ends → HasNoNewline (before_first is_newline (b ∷ rest))) [
      | true ↦ λ e. rw e tt
      | false ↦ λ e. rw e (subst HasNoNewline (sym (take_after (position_or_len is_newline rest) b rest)) (e, open_before rest))
    ]) refl

-- a text in which no byte 10 is found is open
pub open_none : (text : List ℕ) → position is_newline text ≡ None → HasNoNewline text
open_none text e = rw (before_none is_newline text e) (open_before text)

-- and so is what comes before the first one
pub open_at : (text : List ℕ) (at : ℕ) → position is_newline text ≡ Some at → HasNoNewline (take at text)
open_at text at e = rw (before_at is_newline text at e) (open_before text)

-- where a byte 10 is found, the first one is within the text
inside : (text : List ℕ) (at : ℕ) → position is_newline text ≡ Some at → position_or_len is_newline text < length text
inside text at e = grind (arith, common_steps)

-- a text is what comes before its first byte 10, that byte, and the rest
pub cut_at : (text : List ℕ) (at : ℕ) → position is_newline text ≡ Some at
    → text ≡ (take at text ++ 10 ∷ []) ++ take (length text - (at + 1)) (drop (at + 1) text)
cut_at text at e =
    let within : position_or_len is_newline text < length text = inside text at e in
    let ends : get_or text (position_or_len is_newline text) 0 ≡ 10 = eqb-true (get_or text (position_or_len is_newline text) 0) 10 (passes_at_first is_newline text 0 within) in
    split_at_first is_newline text 0 within
    ∙ ap (λ b. before_first is_newline text ++ b ∷ after_first is_newline text) ends
    ∙ sym (append_assoc (before_first is_newline text) (10 ∷ []) (after_first is_newline text))
    ∙ ap (λ l. (l ++ 10 ∷ []) ++ after_first is_newline text) (sym (before_at is_newline text at e))
    ∙ ap (λ l. (take at text ++ 10 ∷ []) ++ l) (sym (after_at is_newline text at e))

-- a line was taken where its answer was written
pub taken_on_ok : {T E : Type 0} (r : Result T E) (old new : View) (held holds : Option (List ℕ)) (line : List ℕ)
    → HasNoNewline line → OnOk r (Obeys (order_of line) old new held holds) → OnOk r (Advances old new held holds (line ++ 10 ∷ []) [])
taken_on_ok (Ok x) old new held holds line o h = line_done old new held holds line o h
taken_on_ok (Err e) old new held holds line o h = tt

-- and the run stops in it where it was not
pub stopped_on_err : (slots : ℕ) (d : Dictionary) (r : Result (Unit {0}) ScriptError) (old new : View) (held holds : Option (List ℕ)) (line : List ℕ)
    → HasNoNewline line → (r ≡ Err Memory → LineMayLackMemory slots line d)
    → IfErr r (λ fault. Disobeys fault (order_of line) old new held holds) → IfErr r (λ fault. Stops slots d fault old new held holds (line ++ 10 ∷ []))
stopped_on_err slots d (Ok x) old new held holds line o may h = tt
stopped_on_err slots d (Err fault) old new held holds line o may h =
    line_left slots d fault old new held holds line o (λ lines. may_stop slots d line lines (Err fault) fault refl may) h

-- a further line of a chunk was taken
pub line_taken : (old mid new : View) (a b c : Option (List ℕ)) (begun gone line piece left : List ℕ)
    → Advances old mid a b (begun ++ gone) line → Advances mid new b c (line ++ (piece ++ 10 ∷ [])) [] → left ≡ []
    → Advances old new a c (begun ++ (gone ++ (piece ++ 10 ∷ []))) left
line_taken old mid new a b c begun gone line piece left p q empty =
    rw (empty, ← append_assoc begun gone (piece ++ 10 ∷ [])) (Advances-append old mid new a b c (begun ++ gone) line (piece ++ 10 ∷ []) [] p q)

-- the run stopped in a line of a chunk
pub line_stopped : (slots : ℕ) (d : Dictionary) (fault : ScriptError) (old mid new : View) (a b c : Option (List ℕ)) (begun gone line piece after chunk : List ℕ)
    → Advances old mid a b (begun ++ gone) line → Stops slots d fault mid new b c (line ++ (piece ++ 10 ∷ []))
    → chunk ≡ (gone ++ (piece ++ 10 ∷ [])) ++ after
    → Stops slots d fault old new a c (begun ++ chunk)
line_stopped slots d fault old mid new a b c begun gone line piece after chunk p q whole =
    subst (Stops slots d fault old new a c) same
    (Stops-more slots d fault old new a c ((begun ++ gone) ++ (piece ++ 10 ∷ [])) after
    (Stops-append slots d fault old mid new a b c (begun ++ gone) line (piece ++ 10 ∷ []) p q)) where
      same : ((begun ++ gone) ++ (piece ++ 10 ∷ [])) ++ after ≡ begun ++ chunk
      same =
          ap (λ l. l ++ after) (append_assoc begun gone (piece ++ 10 ∷ []))
          ∙ append_assoc begun (gone ++ (piece ++ 10 ∷ [])) after
          ∙ ap (λ l. begun ++ l) (sym whole)

-- the rest of a chunk begins the next line
pub rest_taken : (old new : View) (a b : Option (List ℕ)) (begun gone line rest chunk : List ℕ)
    → Advances old new a b (begun ++ gone) line → chunk ≡ gone ++ rest → Advances old new a b (begun ++ chunk) (line ++ rest)
rest_taken old new a b begun gone line rest chunk p whole =
    subst (λ text. Advances old new a b text (line ++ rest)) (append_assoc begun gone rest ∙ ap (λ l. begun ++ l) (sym whole))
    (Advances-append old new new a b b (begun ++ gone) line rest (line ++ rest) p (bytes_on new b (line ++ rest)))

-- or the run stops before it
pub rest_left : (slots : ℕ) (d : Dictionary) (old new : View) (a b : Option (List ℕ)) (begun gone line rest chunk : List ℕ)
    → Advances old new a b (begun ++ gone) line → chunk ≡ gone ++ rest → HasNoNewline (line ++ rest) → 8192 < length (line ++ rest)
    → Stops slots d Memory old new a b (begun ++ chunk)
rest_left slots d old new a b begun gone line rest chunk p whole o long =
    subst (Stops slots d Memory old new a b) (append_assoc begun gone rest ∙ ap (λ l. begun ++ l) (sym whole))
    (Stops-append slots d Memory old new new a b b (begun ++ gone) line rest p
    (not_begun slots d Memory new b (line ++ rest) (λ more. long_stop slots d (line ++ rest) more o long)))

-- what was taken of a chunk, once its next line is
pub gone_further : (chunk gone rest : List ℕ) (at : ℕ) → chunk ≡ gone ++ rest → position is_newline rest ≡ Some at
    → chunk ≡ (gone ++ (take at rest ++ 10 ∷ [])) ++ take (length rest - (at + 1)) (drop (at + 1) rest)
gone_further chunk gone rest at whole e =
    whole ∙ ap (λ l. gone ++ l) (cut_at rest at e)
    ∙ sym (append_assoc gone (take at rest ++ 10 ∷ []) (take (length rest - (at + 1)) (drop (at + 1) rest)))

-- before the first byte
pub none_taken : (t : View) (held : Option (List ℕ)) (line : List ℕ) → Advances t t held held (line ++ []) line
none_taken t held line = subst (λ (text : List ℕ). Advances t t held held text line) (sym (append-nil line)) (bytes_on t held line)

-- a line of two pieces that is longer than those that there is room for
pub long_line_stop : (slots : ℕ) (d : Dictionary) (line piece rest : List ℕ) → HasNoNewline line → HasNoNewline piece → 8192 < length (line ++ piece)
    → MayStop slots d Memory (lines_of ((line ++ (piece ++ 10 ∷ [])) ++ rest))
long_line_stop slots d line piece rest p q long =
    subst (λ (text : List ℕ). MayStop slots d Memory (lines_of text)) (sym same) (long_stop slots d (line ++ piece) (10 ∷ rest) (open_append line piece p q) long) where
      same : (line ++ (piece ++ 10 ∷ [])) ++ rest ≡ (line ++ piece) ++ (10 ∷ rest)
      same = ap (λ l. l ++ rest) (sym (append_assoc line piece (10 ∷ []))) ∙ append_assoc (line ++ piece) (10 ∷ []) rest
