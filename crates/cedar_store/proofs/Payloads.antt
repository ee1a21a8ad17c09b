-- A payload and its change.
use Rattle.std.specs.Prelude.{◌&&◌, int_le, nat_eq, Bool, true, false, option_map, Option, Some, None, pos, ℤ, negsuc, Result, Ok, Err, IfSome, IfErr, IsErrAnd}
use Rattle.std.proofs.Common.{◌≡◌, ◌≢◌, ℕ, ◌+◌, ◌*◌, ◌-◌, ◌<◌, ◌≤◌, List, [], ◌∷◌, cond, length, get_or, take, drop, refl, sym, subst, ◌∙◌, ap, arith, length-drop}
use Rattle.std.proofs.lemmas.Bool.{cond-true, cond-false, eq-eqb, ne_eqb, le-leb, leb-true, lt-leb, false≢true, and_right}
use Rattle.std.proofs.lemmas.List.{take_all}
use mir.Val.{of_z}
use mir.Syntax.{w32}
use Rattle.cedarwood.specs.State.{State}
use Rattle.cedarwood.specs.declared.error.CedarError.{CedarError}
use Rattle.cedarwood.specs.declared.error.CedarError.TheVariants.{InvalidValue}
use Rattle.cedarwood.specs.Fault.{fault, key_fault, value_fault, or_else, IsShortage}
use Rattle.cedarwood.proofs.UpdateLemmas.{fault_no_shortage}
use Rattle.cedar_store.specs.declared.error.DurableError.{DurableError}
use Rattle.cedar_store.specs.declared.error.DurableError.TheVariants as error
use Rattle.cedar_store.specs.Causes.{ReplayCause}
use Rattle.cedar_store.specs.Changes.{Change, change_of, after_change, all_changed, batch_of, changes_of, after, put_of, put_unless, number_of_bytes, put_at, erase_at}
use Rattle.std.proofs.lemmas.Option.{none-some}

-- all behind some first bytes
pub rest_is : (n : ℕ) (bytes : List ℕ) → take (length bytes - n) (drop n bytes) ≡ drop n bytes
rest_is n bytes = take_all (length bytes - n) (drop n bytes) (omega (arith, length-drop n bytes))

-- ---- the operation

pub some_byte : (payload : List ℕ) → nat_eq (length payload) 0 ≡ false → 0 < length payload
some_byte [] is = absurd (false≢true (sym is))
some_byte (x ∷ rest) is = omega arith

pub of_nothing : (payload : List ℕ) → length payload ≡ 0 → change_of payload ≡ None
unfolding change_of
of_nothing [] e = refl
of_nothing (x ∷ rest) e = absurd (omega (arith, e))

pub of_erase : (payload : List ℕ) → 0 < length payload → get_or payload 0 0 ≡ 0 → change_of payload ≡ Some (erase_at (drop 1 payload))
unfolding change_of
of_erase [] some e = absurd (omega (arith, some))
of_erase (x ∷ rest) some e = cond-true _ _ _ (eq-eqb x 0 e)

pub of_put : (payload : List ℕ) → 0 < length payload → get_or payload 0 0 ≡ 1 → change_of payload ≡ put_of (drop 1 payload)
unfolding change_of
of_put [] some e = absurd (omega (arith, some))
of_put (x ∷ rest) some e = cond-false _ _ _ (ne_eqb x 0 (λ z. absurd (omega (arith, e, z)))) ∙ cond-true _ _ _ (eq-eqb x 1 e)

pub of_other : (payload : List ℕ) → 0 < length payload → get_or payload 0 0 ≢ 0 → get_or payload 0 0 ≢ 1 → change_of payload ≡ None
unfolding change_of
of_other [] some n m = absurd (omega (arith, some))
of_other (x ∷ rest) some n m = cond-false _ _ _ (ne_eqb x 0 n) ∙ cond-false _ _ _ (ne_eqb x 1 m)

-- ---- one change or a batch

of_two : (payload : List ℕ) → get_or payload 0 0 ≡ 2 → change_of payload ≡ None
of_two [] two = of_nothing [] refl
of_two (x ∷ rest) two = of_other (x ∷ rest) (omega arith) (λ z. absurd (omega (arith, two, z))) (λ z. absurd (omega (arith, two, z)))

pub no_changes : (payload : List ℕ) → length payload ≡ 0 → changes_of payload ≡ None
unfolding changes_of
no_changes [] e = ap (option_map (λ (c : Change). c ∷ [])) (of_nothing [] refl)
no_changes (x ∷ rest) e = absurd (omega (arith, e))

pub of_batch : (payload : List ℕ) → get_or payload 0 0 ≡ 2 → changes_of payload ≡ batch_of (drop 1 payload)
unfolding changes_of
of_batch payload two = cond-true _ _ _ (eq-eqb (get_or payload 0 0) 2 two)

pub of_single : (payload : List ℕ) → get_or payload 0 0 ≢ 2 → changes_of payload ≡ option_map (λ c. c ∷ []) (change_of payload)
unfolding changes_of
of_single payload other = cond-false _ _ _ (ne_eqb (get_or payload 0 0) 2 other)

-- what has one change has no other
pub one_change : (payload : List ℕ) (c : Change) → change_of payload ≡ Some c → changes_of payload ≡ Some (c ∷ [])
one_change payload c is =
    of_single payload (λ two. none-some c (sym (of_two payload two) ∙ is)) ∙ ap (option_map (λ (d : Change). d ∷ [])) is

single_maps : (s : State) (o : Option Change) → option_map (after_change s) o ≡ option_map (all_changed s) (option_map (λ c. c ∷ []) o)
single_maps s None = refl
single_maps s (Some c) = refl

pub single_after : (s : State) (payload : List ℕ) → get_or payload 0 0 ≢ 2 → option_map (after_change s) (change_of payload) ≡ after s payload
single_after s payload other = single_maps s (change_of payload) ∙ ap (option_map (all_changed s)) (sym (of_single payload other))

-- ---- a put

pub short_put : (bytes : List ℕ) → length bytes < 4 → put_of bytes ≡ None
unfolding put_of
short_put bytes short = cond-false _ _ _ (lt-leb 4 (length bytes) short)

pub put_is : (bytes key : List ℕ) (v : ℤ) → 4 ≤ length bytes → key ≡ drop 4 bytes → v ≡ pos (number_of_bytes bytes) → put_of bytes ≡ put_unless (fault key v) key v
unfolding put_of
put_is bytes key v long same value = cond-true _ _ _ (le-leb 4 (length bytes) long) ∙ (λ i. put_unless (fault (sym same i) (sym value i)) (sym same i) (sym value i))

value_too_high : (n : ℕ) → 2147483645 < n → value_fault (pos n) ≡ Some (InvalidValue (pos n))
value_too_high n high = ap (λ b. cond b None (Some (InvalidValue (pos n)))) (and_right (int_le (pos 0) (pos n)) (int_le (pos n) (pos 2147483645)) (lt-leb n 2147483645 high))

refused_by_value : (k w : Option CedarError) (e : CedarError) (key : List ℕ) (v : ℤ) → w ≡ Some e → put_unless (or_else k w) key v ≡ None
refused_by_value None w e key v is = ap (λ f. put_unless f key v) is
refused_by_value (Some x) w e key v is = refl

pub high_put : (bytes : List ℕ) → 4 ≤ length bytes → 2147483645 < number_of_bytes bytes → put_of bytes ≡ None
high_put bytes long high =
    put_is bytes (drop 4 bytes) (pos (number_of_bytes bytes)) long refl refl
    ∙ refused_by_value (key_fault (drop 4 bytes)) (value_fault (pos (number_of_bytes bytes))) (InvalidValue (pos (number_of_bytes bytes))) (drop 4 bytes) (pos (number_of_bytes bytes)) (value_too_high (number_of_bytes bytes) high)

-- a number that can be stored is one of 32 bits without a sign
pub stored_is : (v : ℤ) → value_fault v ≡ None → v ≡ pos (of_z w32 v)
stored_is (pos n) e = refl
stored_is (negsuc n) e = absurd (none-some (InvalidValue (negsuc n)) (sym e))

chosen : (b : Bool) (x : CedarError) → cond b None (Some x) ≡ None → b ≡ true
chosen true x e = refl
chosen false x e = absurd (none-some x (sym e))

second : (a b : Bool) → (a && b) ≡ true → b ≡ true
second true b e = e
second false b e = absurd (false≢true e)

pub fits : (v : ℤ) → value_fault v ≡ None → of_z w32 v < 4294967296
fits (pos n) e = let low = leb-true n 2147483645 (second (int_le (pos 0) (pos n)) (int_le (pos n) (pos 2147483645)) (chosen _ (InvalidValue (pos n)) e)) in omega (arith, low)
fits (negsuc n) e = absurd (none-some (InvalidValue (negsuc n)) (sym e))

value_of_pair : (k w : Option CedarError) → or_else k w ≡ None → w ≡ None
value_of_pair None w e = e
value_of_pair (Some x) w e = absurd (none-some x (sym e))

key_of_pair : (k w : Option CedarError) → or_else k w ≡ None → k ≡ None
key_of_pair None w e = refl
key_of_pair (Some x) w e = absurd (none-some x (sym e))

pub value_is_sound : (key : List ℕ) (v : ℤ) → fault key v ≡ None → value_fault v ≡ None
value_is_sound key v e = value_of_pair (key_fault key) (value_fault v) e

pub key_is_sound : (key : List ℕ) (v : ℤ) → fault key v ≡ None → key_fault key ≡ None
key_is_sound key v e = key_of_pair (key_fault key) (value_fault v) e

pub made_put : (key : List ℕ) (v : ℤ) (a b c d : ℕ) → fault key v ≡ None → a + 256 * b + 65536 * c + 16777216 * d ≡ of_z w32 v → change_of (1 ∷ a ∷ b ∷ c ∷ d ∷ key) ≡ Some (put_at key v)
made_put key v a b c d sound sum =
    of_put (1 ∷ a ∷ b ∷ c ∷ d ∷ key) (omega arith) refl
    ∙ put_is (a ∷ b ∷ c ∷ d ∷ key) key v (omega arith) refl (stored_is v (value_is_sound key v sound) ∙ ap pos (sym sum))
    ∙ ap (λ f. put_unless f key v) sound

-- ---- what an update says of a record's pair

pub sound_pair : (f : Option CedarError) (r : Result (Unit {0}) CedarError) → IfSome f (λ e. r ≡ Err e) → r ≡ Ok tt → f ≡ None
sound_pair None r faulty is = refl
sound_pair (Some e) r faulty is = let apart : Ok tt ≡ Err e = sym is ∙ faulty in cc

pub err_is : (r : Result (Unit {0}) CedarError) (a b : CedarError) → r ≡ Err a → r ≡ Err b → a ≡ b
err_is r a b p q = cc

pub refused_pair : (s : State) (key : List ℕ) (v : ℤ) (e : CedarError) (told : DurableError) (r : Result (Unit {0}) CedarError) (f : Option CedarError) → fault key v ≡ f
    → IfSome f (λ x. r ≡ Err x) → (f ≡ None → IfErr r (λ x. IsShortage x)) → r ≡ Err e
    → (IsShortage e → told ≡ error.Refused e) → ((IsShortage e → ⊥) → told ≡ error.Corrupt)
    → ReplayCause (option_map (after_change s) (put_unless f key v)) told
refused_pair s key v e told r None is faulty refused was shortage other =
    let wants : IsShortage e = subst (λ x. IfErr x IsShortage) was (refused refl) in
    subst (λ t. ReplayCause (option_map (after_change s) (put_unless None key v)) t) (sym (shortage wants)) wants
refused_pair s key v e told r (Some x) is faulty refused was shortage other =
    let same : x ≡ e = err_is r x e faulty was in
    let not : IsShortage e → ⊥ = fault_no_shortage key v e (is ∙ ap Some same) in
    subst (λ t. ReplayCause (option_map (after_change s) (put_unless (Some x) key v)) t) (sym (other not)) refl

pub shortages : (P : Type 0) (r : Result (Unit {0}) CedarError) → IfErr r (λ x. IsShortage x × P) → IfErr r (λ x. IsShortage x)
shortages P (Ok x) refused = tt
shortages P (Err x) refused = refused.0

-- an error that a `?` hands on
pub handed_on : {X : Type 0} (r : Result X DurableError) (e : DurableError) (P : DurableError → Type 0) → IsErrAnd r (λ x. x ≡ e) → P e → IfErr r P
handed_on (Ok x) e P a p = tt
handed_on (Err x) e P a p = subst P (sym a) p
