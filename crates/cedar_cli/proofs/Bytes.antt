-- The lines of a script in parts, and what their answers are written as.
use Rattle.std.proofs.Common.{◌≡◌, ◌≤◌, ◌<◌, inl, suc, ℕ, List, [], ◌∷◌, ◌++◌, Option, Some, None, refl, sym, ap, ◌∙◌, append_assoc, append-nil, length, arith, length-append, Bool, true, false, ◌||◌, subst}
use Rattle.std.specs.Prelude.{Result, Ok, Err, IfErr, OnOk, OnErr}
use Rattle.cedar_cli.specs.Command.{Order, order_of}
use Rattle.cedar_cli.specs.Lines.{lines_of, HasNoNewline}
use Rattle.device_lines.specs.Lines.{onto_first}
use Rattle.device_lines.specs.Written.{WritesFront}
use Rattle.cedar_cli.specs.View.{View}
use Rattle.cedarwood.specs.Dictionary.{Dictionary}
use Rattle.cedar_cli.specs.Script.{LineMayLackMemory, MayStop, reply, answer, answers, view_after_order, view_after, IsCutShort, Stays, Disobeys, Obeys, Finishes, Splits, Advances, Stops}
use Rattle.cedar_cli.specs.declared.script.ScriptError.{ScriptError}
use Rattle.cedar_cli.specs.declared.script.ScriptError.TheVariants.{Read, Write, Memory, SlotLimit}
use Rattle.std.specs.Io.KnownBytes.{Appends, Keeps}
use Rattle.device_lines.proofs.Bytes.{Appends-append, Appends-none, or_false}

-- what was appended stays where a device keeps its bytes
pub Appends-kept : (a b c : Option (List ℕ)) (x : List ℕ) → Appends a b x → Keeps b c → Appends a c x
Appends-kept None b c x p k = tt
Appends-kept (Some xs) None c x p k = absurd p
Appends-kept (Some xs) (Some ys) None x p k = absurd k
Appends-kept (Some xs) (Some ys) (Some zs) x p k = k ∙ p

-- an answer is cut short where nothing of it is written
pub cut_short_none : (t : View) (lines : List (List ℕ)) → IsCutShort t lines []
cut_short_none t [] = refl
cut_short_none t (line ∷ lines) = (answer t line, omega (arith, length-append (reply t (order_of line)) (10 ∷ [])), refl)

-- the lines of a text that begins with a line
pub lines_of-line : (line rest : List ℕ) → HasNoNewline line → lines_of (line ++ 10 ∷ rest) ≡ line ∷ lines_of rest
lines_of-line [] rest o = refl
lines_of-line (b ∷ line) rest o = rw o.0 (ap (onto_first b) (lines_of-line line rest o.1))

-- a last piece is a line unless it is empty
pub lines_of-last : (b : ℕ) (line : List ℕ) → HasNoNewline (b ∷ line) → lines_of (b ∷ line) ≡ (b ∷ line) ∷ []
lines_of-last b [] o = rw o.0 refl
lines_of-last b (c ∷ line) o = rw o.0 (ap (onto_first b) (lines_of-last c line o.1))

-- answers to lines and then to more lines
pub answers-append : (t : View) (a b : List (List ℕ)) → answers t (a ++ b) ≡ answers t a ++ answers (view_after t a) b
answers-append t [] b = refl
answers-append t (line ∷ a) b =
    ap (λ l. answer t line ++ l) (answers-append (view_after_order t (order_of line)) a b)
    ∙ sym (append_assoc (answer t line) (answers (view_after_order t (order_of line)) a) (answers (view_after (view_after_order t (order_of line)) a) b))

pub view_after-append : (t : View) (a b : List (List ℕ)) → view_after t (a ++ b) ≡ view_after (view_after t a) b
view_after-append t [] b = refl
view_after-append t (line ∷ a) b = view_after-append (view_after_order t (order_of line)) a b

-- lines finished one after another
pub Finishes-append : (old mid new : View) (a b c : Option (List ℕ)) (first second : List (List ℕ))
    → Finishes old mid a b first → Finishes mid new b c second → Finishes old new a c (first ++ second)
Finishes-append old mid new a b c first second p q = (
  q.0 ∙ ap (λ t. view_after t second) p.0 ∙ sym (view_after-append old first second),
  rw same (Appends-append a b c (answers old first) (answers mid second) p.1 q.1),
) where
  same : answers old (first ++ second) ≡ answers old first ++ answers mid second
  same = answers-append old first second ∙ ap (λ t. answers old first ++ answers t second) (sym p.0)

-- what was written of the lines that follow some finished ones
pub front_further : (old mid : View) (a b c : Option (List ℕ)) (first second : List (List ℕ)) (part : List ℕ)
    → Finishes old mid a b first → Appends b c (answers mid second ++ part) → Appends a c (answers old (first ++ second) ++ part)
front_further old mid a b c first second part p q = rw same (Appends-append a b c (answers old first) (answers mid second ++ part) p.1 q) where
  same : answers old (first ++ second) ++ part ≡ answers old first ++ (answers mid second ++ part)
  same =
      ap (λ l. l ++ part) (answers-append old first second ∙ ap (λ t. answers old first ++ answers t second) (sym p.0))
      ∙ append_assoc (answers old first) (answers mid second) part

-- what is seen after lines that follow some finished ones
pub view_further : (old mid : View) (a b : Option (List ℕ)) (first second : List (List ℕ)) → Finishes old mid a b first
    → view_after mid second ≡ view_after old (first ++ second)
view_further old mid a b first second p = ap (λ t. view_after t second) p.0 ∙ sym (view_after-append old first second)

pub Splits-append : (text more left rest_left : List ℕ) (first second : List (List ℕ)) → Splits text first left → Splits (left ++ more) second rest_left → Splits (text ++ more) (first ++ second) rest_left
Splits-append text more left rest_left first second p q = λ rest.
    ap lines_of (append_assoc text more rest) ∙ p (more ++ rest)
    ∙ ap (λ l. first ++ l) (ap lines_of (sym (append_assoc left more rest)) ∙ q rest)
    ∙ sym (append_assoc first second (lines_of (rest_left ++ rest)))

pub Advances-append : (old mid new : View) (a b c : Option (List ℕ)) (text left more left' : List ℕ)
    → Advances old mid a b text left → Advances mid new b c (left ++ more) left' → Advances old new a c (text ++ more) left'
Advances-append old mid new a b c text left more left' p q =
    (p.0 ++ q.0, Splits-append text more left left' p.0 q.0 p.1 q.1, Finishes-append old mid new a b c p.0 q.0 p.2 q.2)

-- what is the same stays, whatever the fault
pub all_stays : (fault : ScriptError) (old new : View) → new ≡ old → Stays fault old new
all_stays Read old new same = same
all_stays Write old new same = ap (λ (t : View). t.state) same
all_stays Memory old new same = same
all_stays SlotLimit old new same = same

pub Stops-append : (slots : ℕ) (d : Dictionary) (fault : ScriptError) (old mid new : View) (a b c : Option (List ℕ)) (text left more : List ℕ)
    → Advances old mid a b text left → Stops slots d fault mid new b c (left ++ more) → Stops slots d fault old new a c (text ++ more)
Stops-append slots d fault old mid new a b c text left more p q =
    let same : view_after mid q.0 ≡ view_after old (p.0 ++ q.0) = view_further old mid a b p.0 q.0 p.2 in (
      p.0 ++ q.0,
      q.1,
      q.2,
      Splits-append text more left q.1 p.0 q.0 p.1 q.3,
      subst (λ (t : View). Stays fault t new) same q.4,
      front_further old mid a b c p.0 q.0 q.2 p.2 q.5,
      (λ rest. subst (λ (t : View). IsCutShort t (lines_of (q.1 ++ rest)) q.2) same (q.6 rest)),
      q.7,
    )

-- an answer that wasn't written whole leaves its order
pub Disobeys-on_err : {T : Type 0} (r : Result T ScriptError) (order : Option Order) (old new : View) (held holds : Option (List ℕ)) (bytes : List ℕ)
    → new ≡ old → bytes ≡ reply old order ++ 10 ∷ []
    → OnErr r (WritesFront held holds bytes) → IfErr r (λ fault. Disobeys fault order old new held holds)
Disobeys-on_err (Ok x) order old new held holds bytes same e h = tt
Disobeys-on_err (Err fault) order old new held holds bytes same e h = (all_stays fault old new same, subst (WritesFront held holds) e h)

-- one written whole obeys it
pub Obeys-on_ok : {T E : Type 0} (r : Result T E) (order : Option Order) (old new : View) (held holds : Option (List ℕ)) (bytes : List ℕ)
    → new ≡ view_after_order old order → bytes ≡ reply old order ++ 10 ∷ [] → OnOk r (Appends held holds bytes) → OnOk r (Obeys order old new held holds)
Obeys-on_ok (Err x) order old new held holds bytes same e h = tt
Obeys-on_ok (Ok x) order old new held holds bytes same e h = (same, rw (← e) h)

line_then : (line rest : List ℕ) → HasNoNewline line → lines_of ((line ++ 10 ∷ []) ++ rest) ≡ line ∷ lines_of rest
line_then line rest o = ap lines_of (append_assoc line (10 ∷ []) rest) ∙ lines_of-line line rest o

-- a line that was answered is finished
pub line_finished : (old new : View) (held holds : Option (List ℕ)) (line : List ℕ) → Obeys (order_of line) old new held holds → Finishes old new held holds (line ∷ [])
line_finished old new held holds line h = (h.0, rw (append-nil (answer old line)) h.1)

-- and taken, with its byte 10
pub line_done : (old new : View) (held holds : Option (List ℕ)) (line : List ℕ) → HasNoNewline line → Obeys (order_of line) old new held holds → Advances old new held holds (line ++ 10 ∷ []) []
line_done old new held holds line o h =
    (line ∷ [], (λ rest. line_then line rest o), line_finished old new held holds line h)

-- a fault that may end a run at a line, whatever follows it
pub may_stop : (slots : ℕ) (d : Dictionary) (line : List ℕ) (lines : List (List ℕ)) (r : Result (Unit {0}) ScriptError) (fault : ScriptError) → r ≡ Err fault
    → (r ≡ Err Memory → LineMayLackMemory slots line d) → MayStop slots d fault (line ∷ lines)
may_stop slots d line lines r Read is h = tt
may_stop slots d line lines r Write is h = tt
may_stop slots d line lines r Memory is h = h is
may_stop slots d line lines r SlotLimit is h = tt

-- in a line whose answer was not written whole the run stops
pub line_left : (slots : ℕ) (d : Dictionary) (fault : ScriptError) (old new : View) (held holds : Option (List ℕ)) (line : List ℕ)
    → HasNoNewline line → ((lines : List (List ℕ)) → MayStop slots d fault (line ∷ lines))
    → Disobeys fault (order_of line) old new held holds → Stops slots d fault old new held holds (line ++ 10 ∷ [])
line_left slots d fault old new held holds line o may h =
    let front = h.1 in (
      [],
      line ++ 10 ∷ [],
      front.0,
      (λ rest. refl),
      h.0,
      front.4,
      (λ rest. rw (line_then line rest o) (front.1, front.2, front.3)),
      (λ rest. rw (line_then line rest o) (may (lines_of rest))),
    )

-- bytes that end no line
pub bytes_on : (t : View) (held : Option (List ℕ)) (text : List ℕ) → Advances t t held held text text
bytes_on t held text = ([], (λ rest. refl), (refl, Appends-none held))

-- a run that stops before it answers
pub not_begun : (slots : ℕ) (d : Dictionary) (fault : ScriptError) (t : View) (held : Option (List ℕ)) (text : List ℕ)
    → ((rest : List ℕ) → MayStop slots d fault (lines_of (text ++ rest))) → Stops slots d fault t t held held text
not_begun slots d fault t held text may =
    ([], text, [], (λ rest. refl), all_stays fault t t refl, Appends-none held, (λ rest. cut_short_none t (lines_of (text ++ rest))), may)

-- the first of some lines has as many bytes as these
abbrev HasFirst : ℕ → List (List ℕ) → Type 0
HasFirst n [] = n ≡ 0
HasFirst n (line ∷ lines) = n ≤ length line

first_any : (lines : List (List ℕ)) → HasFirst 0 lines
first_any [] = refl
first_any (line ∷ lines) = omega arith

first_push : (n b : ℕ) (lines : List (List ℕ)) → HasFirst n lines → HasFirst (suc n) (onto_first b lines)
first_push n b [] h = omega (arith, h)
first_push n b (line ∷ lines) h = omega (arith, h)

-- the first line of what follows an open text has as many bytes as that
open_first : (text rest : List ℕ) → HasNoNewline text → HasFirst (length text) (lines_of (text ++ rest))
open_first [] rest o = first_any (lines_of rest)
open_first (b ∷ text) rest o = rw o.0 (first_push (length text) b (lines_of (text ++ rest)) (open_first text rest o.1))

long_first : (slots : ℕ) (d : Dictionary) (n : ℕ) (lines : List (List ℕ)) → 8192 < n → HasFirst n lines → MayStop slots d Memory lines
long_first slots d n [] long h = tt
long_first slots d n (line ∷ lines) long h = inl (omega (arith, long, h))

-- a line that is longer than those that there is room for may stop a run for want of memory
pub long_stop : (slots : ℕ) (d : Dictionary) (text rest : List ℕ) → HasNoNewline text → 8192 < length text → MayStop slots d Memory (lines_of (text ++ rest))
long_stop slots d text rest o long = long_first slots d (length text) (lines_of (text ++ rest)) long (open_first text rest o)

-- a device that failed may stop it anywhere
pub write_stop : (slots : ℕ) (d : Dictionary) (lines : List (List ℕ)) → MayStop slots d Write lines
write_stop slots d [] = tt
write_stop slots d (line ∷ lines) = tt

pub read_stop : (slots : ℕ) (d : Dictionary) (lines : List (List ℕ)) → MayStop slots d Read lines
read_stop slots d [] = tt
read_stop slots d (line ∷ lines) = tt

-- what holds of each fault, and what holds of the one that a call was handed
pub each_fault : {T : Type 0} (P : ScriptError → Type 0) (r : Result T ScriptError) → ((fault : ScriptError) → P fault) → IfErr r P
each_fault P (Ok x) h = tt
each_fault P (Err fault) h = h fault

pub that_fault : {T : Type 0} (P : ScriptError → Type 0) (r : Result T ScriptError) (fault : ScriptError) → r ≡ Err fault → P fault → IfErr r P
that_fault P (Ok x) fault is h = tt
that_fault P (Err other) fault is h = let same : fault ≡ other = cc in subst P same h

-- a run that stopped in a text stopped in it however the text goes on
pub Stops-more : (slots : ℕ) (d : Dictionary) (fault : ScriptError) (old new : View) (a c : Option (List ℕ)) (text more : List ℕ)
    → Stops slots d fault old new a c text → Stops slots d fault old new a c (text ++ more)
Stops-more slots d fault old new a c text more h = (
  h.0,
  h.1 ++ more,
  h.2,
  (λ rest. ap lines_of (append_assoc text more rest) ∙ h.3 (more ++ rest) ∙ ap (λ l. h.0 ++ lines_of l) (sym (append_assoc h.1 more rest))),
  h.4,
  h.5,
  (λ rest. rw (append_assoc h.1 more rest) (h.6 (more ++ rest))),
  (λ rest. rw (append_assoc h.1 more rest) (h.7 (more ++ rest))),
)

-- a text that was taken stays so where the writer keeps its bytes
pub Advances-kept : (old new : View) (held holds kept : Option (List ℕ)) (text left : List ℕ)
    → Advances old new held holds text left → Keeps holds kept → Advances old new held kept text left
Advances-kept old new held holds kept text left h k =
    (h.0, h.1, (h.2.0, Appends-kept held holds kept (answers old h.0) h.2.1 k))

-- a call that didn't return a fault left its device as unfailed as it was
pub unfailed_call : (before after : Bool) → after ≡ (before || false) → after ≡ before
unfailed_call before after h = h ∙ or_false before

-- a call that returned a fault leaves its device failed
pub failed_call : (before after : Bool) → after ≡ (before || true) → after ≡ true
failed_call true after h = h
failed_call false after h = h
