-- What came of a script, and what of it was finished.
use Rattle.std.proofs.Common.{◌≡◌, ℕ, List, [], ◌∷◌, ◌++◌, Option, Some, None, refl, sym, ap, subst, ◌∙◌, append_assoc, append-nil, length, length-append, ◌≤◌, ◌<◌, arith, inl, inr, ◌==◌, true, false}
use Rattle.std.proofs.lemmas.Bool.{eqb-true, eqb-false}
use Rattle.std.proofs.lemmas.List.{nil_from_length}
use Rattle.std.specs.Prelude.{IfErr, IfSome, OnOk, Result, Ok, Err, ◌⊎◌}
use Rattle.std.specs.Io.KnownBytes.{Consumes, Appends, Keeps, IsAtEnd}
use Rattle.cedar_cli.specs.Command.{order_of}
use Rattle.cedar_cli.specs.Lines.{lines_of, HasNoNewline}
use Rattle.cedarwood.specs.Dictionary.{Dictionary}
use Rattle.cedar_cli.specs.Script.{MayStop, Obeys, Stays, Disobeys, Finishes, Splits, Advances, Stops, EndsEarly, IsCutShort, answers, view_after_order, view_after}
use Rattle.device_lines.specs.Written.{AppendsFront}
use Rattle.cedar_cli.specs.View.{View}
use Rattle.cedar_cli.specs.declared.script.ScriptError.{ScriptError}
use Rattle.cedar_cli.specs.declared.script.ScriptError.TheVariants.{Read, Write, Memory, SlotLimit}
use Rattle.device_lines.proofs.Bytes.{Appends-append, Appends-none}
use Rattle.cedar_cli.proofs.Bytes.{all_stays, Appends-kept, answers-append, cut_short_none, lines_of-last, Finishes-append, line_finished, write_stop}

-- bytes consumed in two parts
pub Consumes-append : (a b c : Option (List ℕ)) (x y : List ℕ) → Consumes a b x → Consumes b c y → Consumes a c (x ++ y)
Consumes-append None b c x y p q = tt
Consumes-append (Some xs) None c x y p q = absurd p
Consumes-append (Some xs) (Some ys) None x y p q = absurd q
Consumes-append (Some xs) (Some ys) (Some zs) x y p q = p ∙ ap (λ l. x ++ l) q ∙ sym (append_assoc x y zs)

-- no byte is consumed
pub Consumes-none : (a : Option (List ℕ)) → Consumes a a []
Consumes-none None = tt
Consumes-none (Some xs) = refl

-- nor by a call that failed
pub Consumes-kept : (a b c : Option (List ℕ)) (x : List ℕ) → Consumes a b x → Keeps b c → Consumes a c x
Consumes-kept None b c x p k = tt
Consumes-kept (Some xs) None c x p k = absurd p
Consumes-kept (Some xs) (Some ys) None x p k = absurd k
Consumes-kept (Some xs) (Some ys) (Some zs) x p k = p ∙ ap (λ l. x ++ l) (sym k)

-- a read that gave no byte found the end
pub end_found : (b c : Option (List ℕ)) → Consumes b c [] → IsAtEnd c → IsAtEnd b
end_found None c p e = tt
end_found (Some xs) None p e = absurd p
end_found (Some xs) (Some ys) p e = p ∙ e

-- at the end of a script, or after as many bytes as no script has, what came is the script
pub whole_came : (a b : Option (List ℕ)) (came : List ℕ) → Consumes a b came → IsAtEnd b ⊎ (9223372036854775808 ≤ length came)
    → IfSome a (λ input. length input < 9223372036854775808 → input ≡ came)
whole_came None b came p e = tt
whole_came (Some input) None came p e = absurd p
whole_came (Some input) (Some rest) came p (inl end) = λ _. p ∙ ap (λ l. came ++ l) end ∙ append-nil came
whole_came (Some input) (Some rest) came p (inr many) = λ few. absurd (let same = ap length p in omega (arith, length-append came rest, same))

-- what holds of a script follows from what is known of it
pub of_script : {P Q : List ℕ → Type 0} (a : Option (List ℕ)) → IfSome a P → ((input : List ℕ) → P input → Q input) → IfSome a Q
of_script None h f = tt
of_script (Some input) h f = f input h

-- a run that stopped in what came ended early
pub ended_early : (slots : ℕ) (d : Dictionary) (fault : ScriptError) (old new : View) (held holds a b : Option (List ℕ)) (came : List ℕ)
    → Consumes a b came → Stops slots d fault old new held holds came
    → IfSome a (λ input. length input < 9223372036854775808 → EndsEarly slots d fault old new held holds input)
ended_early slots d fault old new held holds None b came p h = tt
ended_early slots d fault old new held holds (Some input) None came p h = absurd p
ended_early slots d fault old new held holds (Some input) (Some rest) came p h = λ _.
    (h.0, lines_of (h.1 ++ rest), ap lines_of p ∙ h.3 rest, (h.2, h.4, h.5, h.6 rest, inr (h.7 rest)))

-- so did one that found no room for lines
pub ended_first : (slots : ℕ) (d : Dictionary) (fault : ScriptError) (t : View) (held a : Option (List ℕ))
    → IfSome a (λ input. length input < 9223372036854775808 → EndsEarly slots d fault t t held held input)
ended_first slots d fault t held None = tt
ended_first slots d fault t held (Some input) = λ _.
    ([], lines_of input, refl, ([], all_stays fault t t refl, Appends-none held, cut_short_none t (lines_of input), inl refl))

-- a run that has only advanced can stop
pub Stops-from_advances : (slots : ℕ) (d : Dictionary) (fault : ScriptError) (old new : View) (held holds : Option (List ℕ)) (text left : List ℕ)
    → ((lines : List (List ℕ)) → MayStop slots d fault lines) → Advances old new held holds text left → Stops slots d fault old new held holds text
Stops-from_advances slots d fault old new held holds text left may h = (
  h.0,
  left,
  [],
  h.1,
  all_stays fault (view_after old h.0) new h.2.0,
  rw (append-nil (answers old h.0)) h.2.1,
  (λ rest. cut_short_none (view_after old h.0) (lines_of (left ++ rest))),
  (λ rest. may (lines_of (left ++ rest))),
)

-- the lines of a whole text
pub whole : (text left : List ℕ) (finished : List (List ℕ)) → Splits text finished left → lines_of text ≡ finished ++ lines_of left
whole text left finished h = ap lines_of (sym (append-nil text)) ∙ h [] ∙ ap (λ l. finished ++ lines_of l) (append-nil left)

-- a last piece that isn't empty is a line
pub last_line : (line : List ℕ) → HasNoNewline line → 0 < length line → lines_of line ≡ line ∷ []
last_line [] o h = absurd (omega arith)
last_line (b ∷ line) o h = lines_of-last b line o

-- all lines are finished where nothing is left
pub all_finished : (old new : View) (held holds : Option (List ℕ)) (text left : List ℕ)
    → Advances old new held holds text left → left ≡ [] → Finishes old new held holds (lines_of text)
all_finished old new held holds text left h e =
    rw (whole text left h.0 h.1 ∙ ap (λ l. h.0 ++ lines_of l) e ∙ append-nil h.0) h.2

-- and where the last piece was answered
pub last_finished : (old mid new : View) (a b c : Option (List ℕ)) (text line : List ℕ)
    → HasNoNewline line → 0 < length line → Advances old mid a b text line → Obeys (order_of line) mid new b c
    → Finishes old new a c (lines_of text)
last_finished old mid new a b c text line o long h k =
    rw (whole text line h.0 h.1 ∙ ap (λ l. h.0 ++ l) (last_line line o long))
    (Finishes-append old mid new a b c h.0 (line ∷ []) h.2 (line_finished mid new b c line k))

-- the answer to the last piece was not written whole
pub last_left : (slots : ℕ) (d : Dictionary) (fault : ScriptError) (old mid new : View) (a b c : Option (List ℕ)) (text line : List ℕ)
    → HasNoNewline line → 0 < length line → ((lines : List (List ℕ)) → MayStop slots d fault (line ∷ lines))
    → Advances old mid a b text line → Disobeys fault (order_of line) mid new b c
    → EndsEarly slots d fault old new a c text
last_left slots d fault old mid new a b c text line o long may h k =
    let front = k.1 in
    let same : mid ≡ view_after old h.0 = h.2.0 in (
      h.0,
      line ∷ [],
      whole text line h.0 h.1 ∙ ap (λ l. h.0 ++ l) (last_line line o long),
      (
        front.0,
        subst (λ (t : View). Stays fault t new) same k.0,
        Appends-append a b c (answers old h.0) front.0 h.2.1 front.4,
        subst (λ (t : View). IsCutShort t (line ∷ []) front.0) same (front.1, front.2, front.3),
        inr (may []),
      ),
    )

-- what holds of every script holds of a known one
pub of_known : (P : List ℕ → Type 0) (a : Option (List ℕ)) → ((input : List ℕ) → P input) → IfSome a P
of_known P None f = tt
of_known P (Some input) f = f input

-- what the test for an empty line says
pub long_line : (line : List ℕ) (n : ℕ) → length line ≡ n → (n == 0) ≡ false → 0 < length line
long_line line n e h = let ne = eqb-false n 0 h in omega arith

pub short_line : (line : List ℕ) (n : ℕ) → length line ≡ n → (n == 0) ≡ true → line ≡ []
short_line line n e h = nil_from_length line (e ∙ eqb-true n 0 h)

-- a fault of the writer leaves what any other leaves
state_stays : (fault : ScriptError) (old new : View) → Stays fault old new → Stays Write old new
state_stays Read old new same = all_stays Write old new same
state_stays Write old new same = same
state_stays Memory old new same = all_stays Write old new same
state_stays SlotLimit old new same = all_stays Write old new same

-- so a run that a fault ended early may be reported as one that the writer ended
ended_by_write : (slots : ℕ) (d : Dictionary) (fault : ScriptError) (old new : View) (held holds : Option (List ℕ)) (script : List ℕ)
    → EndsEarly slots d fault old new held holds script → EndsEarly slots d Write old new held holds script
ended_by_write slots d fault old new held holds script h =
    (h.0, h.1, h.2, (h.3.0, state_stays fault (view_after old h.0) new h.3.1, h.3.2, h.3.3, inr (write_stop slots d h.1)))

-- and so may one that finished all lines
finished_by_write : (slots : ℕ) (d : Dictionary) (old new : View) (held holds : Option (List ℕ)) (script : List ℕ)
    → Finishes old new held holds (lines_of script) → EndsEarly slots d Write old new held holds script
finished_by_write slots d old new held holds script h =
    let lines = lines_of script in (
      lines,
      [],
      sym (append-nil lines),
      (
        [],
        all_stays Write (view_after old lines) new h.0,
        rw (append-nil (answers old lines)) h.1,
        cut_short_none (view_after old lines) [],
        inr (write_stop slots d []),
      ),
    )

-- however a run ended, a flush of it had failed
pub ended_by_flush : (slots : ℕ) (d : Dictionary) (r : Result (Unit {0}) ScriptError) (old new : View) (held holds input : Option (List ℕ))
    → OnOk r (IfSome input (λ script. length script < 9223372036854775808 → Finishes old new held holds (lines_of script)))
    → IfErr r (λ fault. IfSome input (λ script. length script < 9223372036854775808 → EndsEarly slots d fault old new held holds script))
    → IfSome input (λ script. length script < 9223372036854775808 → EndsEarly slots d Write old new held holds script)
ended_by_flush slots d r old new held holds None ok err = tt
ended_by_flush slots d (Ok x) old new held holds (Some script) ok err = λ few. finished_by_write slots d old new held holds script (ok few)
ended_by_flush slots d (Err fault) old new held holds (Some script) ok err = λ few. ended_by_write slots d fault old new held holds script (err few)

-- what is cut short is a front of the answers
cut_front : (s : View) (others : List (List ℕ)) (part : List ℕ) → IsCutShort s others part → (rest : List ℕ) × (answers s others ≡ part ++ rest)
cut_front s [] part cut = ([], sym (append-nil part ∙ cut))
cut_front s (line ∷ lines) part cut = (
  cut.0 ++ answers (view_after_order s (order_of line)) lines,
  ap (λ l. l ++ answers (view_after_order s (order_of line)) lines) cut.2 ∙ append_assoc part cut.0 (answers (view_after_order s (order_of line)) lines),
)

-- a run that ended early wrote a front of its script's answers
pub ended_front : (slots : ℕ) (d : Dictionary) (fault : ScriptError) (old new : View) (held holds kept : Option (List ℕ)) (script : List ℕ)
    → EndsEarly slots d fault old new held holds script → Keeps holds kept → AppendsFront held kept (answers old (lines_of script))
ended_front slots d fault old new held holds kept script h k =
    let finished = h.0 in
    let others = h.1 in
    let part = h.3.0 in
    let more = cut_front (view_after old finished) others part h.3.3 in (
      answers old finished ++ part,
      more.0,
      ap (answers old) h.2 ∙ answers-append old finished others
          ∙ ap (λ l. answers old finished ++ l) more.1
          ∙ sym (append_assoc (answers old finished) part more.0),
      Appends-kept held holds kept (answers old finished ++ part) h.3.2 k,
    )

-- one that finished wrote them all
pub finished_front : (old new : View) (held holds kept : Option (List ℕ)) (lines : List (List ℕ))
    → Finishes old new held holds lines → Keeps holds kept → AppendsFront held kept (answers old lines)
finished_front old new held holds kept lines h k =
    (answers old lines, [], sym (append-nil (answers old lines)), Appends-kept held holds kept (answers old lines) h.1 k)

-- what a program's run that ended early wrote
pub ended_fronts : (slots : ℕ) (d : Dictionary) (fault : ScriptError) (old new : View) (held holds kept input : Option (List ℕ)) → Keeps holds kept
    → IfSome input (λ script. length script < 9223372036854775808 → EndsEarly slots d fault old new held holds script)
    → IfSome input (λ script. length script < 9223372036854775808 → AppendsFront held kept (answers old (lines_of script)))
ended_fronts slots d fault old new held holds kept None k h = tt
ended_fronts slots d fault old new held holds kept (Some script) k h = λ few. ended_front slots d fault old new held holds kept script (h few) k

-- what a program's run that answered its whole script wrote, where the writer keeps its bytes
pub finished_whole : (old new : View) (held holds kept input : Option (List ℕ)) → Keeps holds kept
    → IfSome input (λ script. length script < 9223372036854775808 → Finishes old new held holds (lines_of script))
    → IfSome input (λ script. length script < 9223372036854775808 → Appends held kept (answers old (lines_of script)))
finished_whole old new held holds kept None k h = tt
finished_whole old new held holds kept (Some script) k h = λ few.
    Appends-kept held holds kept (answers old (lines_of script)) (h few).1 k

-- and that is a front of its answers
pub finished_fronts : (old new : View) (held holds kept input : Option (List ℕ)) → Keeps holds kept
    → IfSome input (λ script. length script < 9223372036854775808 → Finishes old new held holds (lines_of script))
    → IfSome input (λ script. length script < 9223372036854775808 → AppendsFront held kept (answers old (lines_of script)))
finished_fronts old new held holds kept None k h = tt
finished_fronts old new held holds kept (Some script) k h = λ few. finished_front old new held holds kept (lines_of script) (h few) k

-- nothing written is a front of all answers
pub none_front : (s : View) (held input : Option (List ℕ))
    → IfSome input (λ script. length script < 9223372036854775808 → AppendsFront held held (answers s (lines_of script)))
none_front s held None = tt
none_front s held (Some script) = λ few. ([], answers s (lines_of script), refl, Appends-none held)
