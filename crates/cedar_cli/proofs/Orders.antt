-- What the dictionary's results say of an order's reply.
use Rattle.std.proofs.Common.{◌≡◌, ℕ, ℤ, List, [], ◌∷◌, ◌++◌, Option, Some, None, true, ◌==◌, refl, sym, ap, subst, ◌∙◌, length, append_assoc, length-append, arith}
use Rattle.std.proofs.lemmas.Bool.{false≢true}
use Rattle.std.specs.Prelude.{codes, Bool, false, ◌&&◌, int_le, pos, if◌then◌else◌, Result, Ok, Err, OnOk, OnErr, IfErr, IfSome, IsSome, is_err, MatchOption, option_map, position, decimal}
use Rattle.std.specs.Fmt.{signed_decimal}
use Rattle.cedarwood.specs.State.{State, after_put, after_erase}
use Rattle.cedarwood.specs.Tree.{Tree, number_at, IsSound}
use Rattle.cedarwood.specs.Queries.{exact}
use Rattle.cedarwood.proofs.TreeLemmas.{cut-put, put-put, put_held, number_at-put_same}
use Rattle.cedarwood.specs.declared.error.CedarError.{CedarError}
use Rattle.cedarwood.specs.declared.error.CedarError.TheVariants.{EmptyKey, NulByte, InvalidValue, InvalidMaxTrial, DuplicateKey, KeysNotSorted, Memory, SlotLimit}
use Rattle.cedar_cli.specs.Command.{Order}
use Rattle.cedarwood.specs.Fault.{fault, key_fault, or_else, value_fault, IsShortage}
use Rattle.cedarwood.specs.Layouts.{LayoutKind}
use Rattle.cedarwood.specs.Dictionary.{Dictionary}
use Rattle.cedar_cli.specs.View.{View, view_of}
use Rattle.cedar_cli.specs.Script.{Answers, put_text, view_after_order, IsPairFault, figures_text, found_text, reply, Disobeys}
use Rattle.device_lines.specs.Written.{WritesFront}
use Rattle.cedar_cli.specs.declared.command.Verb.TheVariants.{Erase}
use Rattle.cedar_cli.specs.declared.script.ScriptError.{ScriptError}
use Rattle.cedar_cli.specs.declared.script.ScriptError.TheVariants.{Read, Write, Memory as NoMemory, SlotLimit as NoSlot}
use Rattle.std.specs.Io.KnownBytes.{Appends}
use Rattle.device_lines.proofs.Bytes.{Appends-none}
use Rattle.cedar_cli.proofs.Bytes.{Disobeys-on_err, Obeys-on_ok, all_stays}

-- what an exact search that missed says
pub exact_missed : (t : Tree) (key : List ℕ) → None ≡ exact t key → number_at t key ≡ None
exact_missed t key h = missed (number_at t key) h where
  missed : (n : Option ℤ) → ◌≡◌ {A = Option (ℤ × ℕ)} None (option_map (λ v. (v, length key)) n) → n ≡ None
  missed None h = refl
  missed (Some v) h = absurd (cc)

-- what one that found a number says
pub exact_found : (t : Tree) (key : List ℕ) (v : ℤ) (n : ℕ) → ◌≡◌ {A = Option (ℤ × ℕ)} (Some (v, n)) (exact t key) → (number_at t key ≡ Some v) × (n ≡ length key)
exact_found t key v n h = found (number_at t key) h where
  found : (m : Option ℤ) → ◌≡◌ {A = Option (ℤ × ℕ)} (Some (v, n)) (option_map (λ w. (w, length key)) m) → (m ≡ Some v) × (n ≡ length key)
  found None h = absurd (cc)
  found (Some w) h = let p : ◌≡◌ {A = ℤ × ℕ} (v, n) (w, length key) = cc in (ap Some (sym (ap (λ x. x.0) p)), ap (λ x. x.1) p)

-- the text of what was found
pub found_reply : (t : Tree) (key : List ℕ) (v : ℤ) (n : ℕ) → ◌≡◌ {A = Option (ℤ × ℕ)} (Some (v, n)) (exact t key) → found_text (Some v) n ≡ found_text (number_at t key) (length key)
found_reply t key v n h = let p = exact_found t key v n h in rw (p.0, p.1) refl

-- the answer to an erasure, where the key is held and where it isn't
pub erased_reply : (s : View) (key : List ℕ) (v : ℤ) → number_at s.state.tree key ≡ Some v → codes "erased" ≡ reply s (Some (Erase, key))
erased_reply s key v h = rw h refl

pub absent_reply : (s : View) (key : List ℕ) → number_at s.state.tree key ≡ None → codes "absent" ≡ reply s (Some (Erase, key))
absent_reply s key h = rw h refl

-- the line of a fault, and of one that has a number in it
pub empty_line : (e : CedarError) → e ≡ EmptyKey → codes "refused EmptyKey\n" ≡ put_text (Some e) ++ 10 ∷ []
empty_line e is = rw is refl

pub nul_line : (e : CedarError) (at : ℕ) (figures : List ℕ) → e ≡ NulByte at → figures ≡ decimal at
    → codes "refused NulByte " ++ (figures ++ 10 ∷ []) ≡ put_text (Some e) ++ 10 ∷ []
nul_line e at figures is text = rw (is, text) (sym (append_assoc (codes "refused NulByte ") (decimal at) (10 ∷ [])))

pub value_line : (e : CedarError) (v : ℤ) (figures : List ℕ) → e ≡ InvalidValue v → figures ≡ signed_decimal v
    → codes "refused InvalidValue " ++ (figures ++ 10 ∷ []) ≡ put_text (Some e) ++ 10 ∷ []
value_line e v figures is text = rw (is, text) (sym (append_assoc (codes "refused InvalidValue ") (signed_decimal v) (10 ∷ [])))

-- the line of a number that was found
pub found_line : (v : ℤ) (n : ℕ) (first second : List ℕ) → first ≡ signed_decimal v → second ≡ decimal n
    → first ++ (codes " " ++ (second ++ 10 ∷ [])) ≡ found_text (Some v) n ++ 10 ∷ []
found_line v n first second e f = rw (e, f) (sym (append_assoc (signed_decimal v) (32 ∷ decimal n) (10 ∷ [])))

-- the line of two figures
pub figures_line : (keys slots : ℕ) (first second : List ℕ) → first ≡ decimal keys → second ≡ decimal slots
    → first ++ (codes " " ++ (second ++ 10 ∷ [])) ≡ figures_text keys slots ++ 10 ∷ []
figures_line keys slots first second e f = rw (e, f) (sym (append_assoc (decimal keys) (32 ∷ decimal slots) (10 ∷ [])))

-- one that was refused, but not for memory or slots, met this fault
pub refused_by : (T : Type 0) (f : Option CedarError) (N : Type 0) (e : CedarError)
    → IfSome f (λ x. ◌≡◌ {A = Result T CedarError} (Err e) (Err x)) → (f ≡ None → IsShortage e × N) → (IsShortage e → ⊥) → f ≡ Some e
refused_by T None N e h k s = absurd (s (k refl).0)
refused_by T (Some x) N e h k s = cc

-- a key without a fault has none with another value in range
pub fault_other : (key : List ℕ) (v w : ℤ) → fault key v ≡ None → value_fault w ≡ None → fault key w ≡ None
fault_other key v w f h = with_key (key_fault key) f where
  with_key : (at_key : Option CedarError) → or_else at_key (value_fault v) ≡ None → or_else at_key (value_fault w) ≡ None
  with_key None f = h
  with_key (Some e) f = absurd (cc)

same_kind : (x e : CedarError) → ◌≡◌ {A = Option CedarError} (Some x) (Some e) → IsPairFault x → IsPairFault e
same_kind x e h kind = let same : x ≡ e = cc in subst IsPairFault same kind

value_kind : (v : ℤ) (b : Bool) (e : CedarError) → (if b then None else Some (InvalidValue v)) ≡ Some e → IsPairFault e
value_kind v true e h = absurd (cc)
value_kind v false e h = same_kind (InvalidValue v) e h tt

-- what a pair is refused for is no want of memory or slots
pub pair_kind : (key : List ℕ) (v : ℤ) (e : CedarError) → fault key v ≡ Some e → IsPairFault e
pair_kind [] v e h = same_kind EmptyKey e h tt
pair_kind (b ∷ key) v e h = at_nul (position (λ c. c == 0) (b ∷ key)) h where
  at_nul : (at : Option ℕ) → or_else (option_map NulByte at) (value_fault v) ≡ Some e → IsPairFault e
  at_nul (Some i) f = same_kind (NulByte i) e f tt
  at_nul None f = value_kind v (int_le (pos 0) v && int_le v (pos 2147483645)) e f

-- a value that was stored is taken back
pub taken_back : (before : Option ℤ) (old mid new : State) (key : List ℕ) (v : ℤ)
    → before ≡ number_at old.tree key → IsSound old.tree → IfSome before (λ w. value_fault w ≡ None) → fault key v ≡ None
    → mid ≡ after_put old key v
    → MatchOption before (new ≡ after_erase mid key) (λ w. fault key w ≡ None → IsSome (number_at mid.tree key) → new ≡ after_put mid key w)
    → new ≡ old
taken_back None old mid new key v answer sound range none done back =
    back ∙ ap (λ s. after_erase s key) done ∙ ap (λ t. record { tree = t; ordered = old.ordered }) (cut-put old.tree old.ordered key v sound.1 (sym answer))
taken_back (Some w) old mid new key v answer sound range none done back =
    back (fault_other key v w none range) held
    ∙ ap (λ s. after_put s key w) done
    ∙ ap (λ t. record { tree = t; ordered = old.ordered })
    (put-put old.tree old.ordered key v w
    ∙ put_held old.tree old.ordered key w (sym answer)) where
      held : IsSome (number_at mid.tree key)
      held = rw (done, number_at-put_same old.tree old.ordered key v) refl

-- nothing of the answer is written, and the order is left
pub Disobeys-unanswered : (fault : ScriptError) (order : Option Order) (old new : View) (held : Option (List ℕ)) → new ≡ old → Disobeys fault order old new held held
Disobeys-unanswered fault order old new held same =
    (all_stays fault old new same, ([], reply old order ++ 10 ∷ [], omega (arith, length-append (reply old order) (10 ∷ [])), refl, Appends-none held))

-- a value is put back over the one that its key holds
pub put_back : (r : Result (Unit {0}) CedarError) (old new : State) (key : List ℕ) (v : ℤ)
    → OnOk r (new ≡ after_put old key v) → (fault key v ≡ None → IfErr r (λ e. IsShortage e × (number_at old.tree key ≡ None)))
    → fault key v ≡ None → IsSome (number_at old.tree key) → new ≡ after_put old key v
put_back (Ok x) old new key v done refused fine held = done
put_back (Err e) old new key v done refused fine held = absurd (not_held (number_at old.tree key) held (refused fine).1) where
  not_held : (n : Option ℤ) → IsSome n → n ≡ None → ⊥
  not_held None h e = absurd (false≢true h)
  not_held (Some x) h e = absurd (cc)

-- an answer of which a front alone was written leaves its order
pub Disobeys-front : (fault : ScriptError) (order : Option Order) (s : View) (held holds : Option (List ℕ)) (line : List ℕ)
    → line ≡ reply s order → WritesFront held holds (line ++ 10 ∷ []) → Disobeys fault order s s held holds
Disobeys-front fault order s held holds line e h = (all_stays fault s s refl, subst (λ l. WritesFront held holds (l ++ 10 ∷ [])) e h)

-- an answer that the writer didn't take whole leaves its order, where the state is then the old one
pub Disobeys-if_err : (P : Type 0) (r : Result (Unit {0}) ScriptError) (order : Option Order) (old new : View) (held holds : Option (List ℕ)) (bytes : List ℕ)
    → OnErr r ((r ≡ Err Write) × P) → (is_err r ≡ true → new.state ≡ old.state) → bytes ≡ reply old order ++ 10 ∷ []
    → OnErr r (WritesFront held holds bytes) → IfErr r (λ fault. Disobeys fault order old new held holds)
Disobeys-if_err P (Ok x) order old new held holds bytes cause same e h = tt
Disobeys-if_err P (Err fault) order old new held holds bytes cause same e h =
    let is = cause.0 in
    let written : Write ≡ fault = cc in
    subst (λ (f : ScriptError). Disobeys f order old new held holds) written (same refl, subst (WritesFront held holds) e h)

-- neither memory nor slots were wanting
pub no_shortage : (e : CedarError) → (e ≡ Memory → ⊥) → (e ≡ SlotLimit → ⊥) → IsShortage e → ⊥
no_shortage EmptyKey m s h = h
no_shortage (NulByte at) m s h = h
no_shortage (InvalidValue v) m s h = h
no_shortage (InvalidMaxTrial v) m s h = h
no_shortage (DuplicateKey at) m s h = h
no_shortage (KeysNotSorted at) m s h = h
no_shortage Memory m s h = m refl
no_shortage SlotLimit m s h = s refl

-- a call that failed is no success, and one that didn't is no failure
pub on_not_ok : {T E : Type 0} (P : Type 0) (r : Result T E) → is_err r ≡ true → OnOk r P
on_not_ok P (Ok x) h = absurd (false≢true h)
on_not_ok P (Err e) h = tt

pub if_not_err : {T E : Type 0} (P : E → Type 0) (r : Result T E) → is_err r ≡ false → IfErr r P
if_not_err P (Ok x) h = tt
if_not_err P (Err e) h = absurd (false≢true (sym h))

pub write_alone : (P : Type 0) (r : Result (Unit {0}) ScriptError) → OnErr r ((r ≡ Err Write) × P)
    → (r ≡ Err Read → ⊥) × (r ≡ Err NoSlot → ⊥)
write_alone P (Ok x) h = ((λ f. absurd (cc)), (λ f. absurd (cc)))
write_alone P (Err x) h = let is = h.0 in ((λ f. absurd (cc)), (λ f. absurd (cc)))

pub never_memory : (P : Type 0) (r : Result (Unit {0}) ScriptError) → OnErr r ((r ≡ Err Write) × P) → r ≡ Err NoMemory → ⊥
never_memory P (Ok x) h f = cc
never_memory P (Err x) h f = let is = h.0 in cc

-- the text where nothing was found
pub none_reply : (t : Tree) (key : List ℕ) → None ≡ exact t key → codes "none" ≡ found_text (number_at t key) (length key)
none_reply t key h = rw (exact_missed t key h) refl

-- the answer of an erasure was written
pub erased_written : (s : View) (key : List ℕ) (v : ℤ) (held holds : Option (List ℕ)) → number_at s.state.tree key ≡ Some v
    → Appends held holds (codes "erased" ++ 10 ∷ []) → Appends held holds (reply s (Some (Erase, key)) ++ 10 ∷ [])
erased_written s key v held holds h p = subst (λ (l : List ℕ). Appends held holds (l ++ 10 ∷ [])) (erased_reply s key v h) p

-- an answer that changes nothing was written whole, or not
pub told : (layout : LayoutKind) (order : Option Order) (before after : Dictionary) (held holds : Option (List ℕ)) (bytes : List ℕ) (r : Result (Unit {0}) ScriptError)
    → view_of layout after ≡ view_of layout before → view_of layout after ≡ view_after_order (view_of layout before) order
    → bytes ≡ reply (view_of layout before) order ++ 10 ∷ []
    → OnOk r (Appends held holds bytes) → OnErr r (WritesFront held holds bytes) → Answers layout order before after held holds r
told layout order before after held holds bytes r same done e ok err =
    let old = view_of layout before in
    let new = view_of layout after in record {
      ok = Obeys-on_ok r order old new held holds bytes done e ok;
      err = Disobeys-on_err r order old new held holds bytes same e err;
    }
