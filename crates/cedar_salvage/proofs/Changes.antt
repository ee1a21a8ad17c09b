-- Payloads that are changes, and those that are none.
use Rattle.std.specs.Prelude.{IfSome, int_le, nat_eq, ◌==◌, not, is_some, position, option_map, option_and_then, Option, Some, None, pos, ℤ}
use Rattle.std.proofs.Common.{◌≡◌, ◌≢◌, ℕ, ◌+◌, ◌≤◌, ◌<◌, Bool, true, false, cond, List, [], ◌∷◌, length, get_or, drop, refl, subst, sym, ◌∙◌, ap, arith}
use Rattle.std.proofs.lemmas.Bool.{le-leb, false≢true, and_from}
use Rattle.std.proofs.lemmas.List.{drop-drop}
use Rattle.cedar_journal.specs.Records.{has_record, payload, behind_record, payloads_in}
use Rattle.cedar_journal.proofs.Reading.{payloads_first}
use Rattle.cedarwood.specs.declared.error.CedarError.{CedarError}
use Rattle.cedarwood.specs.declared.error.CedarError.TheVariants.{InvalidValue, NulByte}
use Rattle.cedarwood.specs.Fault.{key_fault, value_fault, or_else}
use Rattle.cedar_store.specs.Changes.{Change, batch_of, change_of, changes_of, each_change, number_of_bytes, put_of, put_unless, records_length}
use Rattle.cedar_salvage.specs.declared.change.Kind.{Kind}
use Rattle.cedar_salvage.specs.declared.change.Kind.TheVariants.{Batch}
use Rattle.cedar_salvage.specs.Whole.{is_kind}
use Rattle.cedar_store.proofs.Payloads.{no_changes, of_batch, of_erase, of_other, of_put, of_single, put_is}

-- a map leaves whether there is a value
pub mapped : {A B : Type 0} (f : A → B) (o : Option A) → is_some (option_map f o) ≡ is_some o
mapped f None = refl
mapped f (Some a) = refl

-- ---- one change, or a batch

pub no_change : (payload : List ℕ) → length payload ≡ 0 → is_some (changes_of payload) ≡ false
no_change payload none = ap is_some (no_changes payload none)

pub batch_change : (payload rest : List ℕ) → get_or payload 0 0 ≡ 2 → rest ≡ drop 1 payload → is_some (batch_of rest) ≡ is_some (changes_of payload)
batch_change payload rest two is = ap (λ l. is_some (batch_of l)) is ∙ sym (ap is_some (of_batch payload two))

pub single_change : (payload : List ℕ) → get_or payload 0 0 ≢ 2 → is_some (change_of payload) ≡ is_some (changes_of payload)
single_change payload other = sym (ap is_some (of_single payload other) ∙ mapped (λ c. c ∷ []) (change_of payload))

pub erases : (payload : List ℕ) → 0 < length payload → get_or payload 0 0 ≡ 0 → true ≡ is_some (change_of payload)
erases payload some zero = sym (ap is_some (of_erase payload some zero))

pub puts : (payload rest : List ℕ) → 0 < length payload → get_or payload 0 0 ≡ 1 → rest ≡ drop 1 payload → is_some (put_of rest) ≡ is_some (change_of payload)
puts payload rest some one is = ap (λ l. is_some (put_of l)) is ∙ sym (ap is_some (of_put payload some one))

pub neither : (payload : List ℕ) → 0 < length payload → get_or payload 0 0 ≢ 0 → get_or payload 0 0 ≢ 1 → false ≡ is_some (change_of payload)
neither payload some n m = sym (ap is_some (of_other payload some n m))

-- ---- a put

in_range : (n : ℕ) → n ≤ 2147483645 → value_fault (pos n) ≡ None
in_range n low = ap (λ b. cond b None (Some (InvalidValue (pos n)))) (and_from (int_le (pos 0) (pos n)) (int_le (pos n) (pos 2147483645)) (le-leb 0 n (omega arith)) (le-leb n 2147483645 low))

by_key : (k w : Option CedarError) (key : List ℕ) (v : ℤ) → w ≡ None → is_some (put_unless (or_else k w) key v) ≡ not (is_some k)
by_key None w key v is = ap (λ f. is_some (put_unless f key v)) is
by_key (Some e) w key v is = refl

pub put_by_key : (bytes key : List ℕ) → 4 ≤ length bytes → key ≡ drop 4 bytes → number_of_bytes bytes ≤ 2147483645 → not (is_some (key_fault key)) ≡ is_some (put_of bytes)
put_by_key bytes key long same low =
    let v = pos (number_of_bytes bytes) in
    sym (ap is_some (put_is bytes key v long same refl) ∙ by_key (key_fault key) (value_fault v) key v (in_range (number_of_bytes bytes) low))

pub empty_key : (key : List ℕ) → length key ≡ 0 → false ≡ not (is_some (key_fault key))
empty_key [] none = refl
empty_key (b ∷ rest) none = absurd (omega (arith, none))

pub some_key : (key : List ℕ) → nat_eq (length key) 0 ≡ false → not (is_some (position (λ byte. byte == 0) key)) ≡ not (is_some (key_fault key))
some_key [] some = absurd (false≢true (sym some))
some_key (b ∷ rest) some = ap not (sym (mapped NulByte (position (λ byte. byte == 0) (b ∷ rest))))

-- ---- a batch

one_more : (o : Option Change) (r : Option (List Change)) → is_some o ≡ true → is_some (option_and_then (λ c. option_map (λ changes. c ∷ changes) r) o) ≡ is_some r
one_more None r is = absurd (false≢true is)
one_more (Some c) r is = mapped (λ changes. c ∷ changes) r

no_more : (o : Option Change) (r : Option (List Change)) → is_some o ≡ false → is_some (option_and_then (λ c. option_map (λ changes. c ∷ changes) r) o) ≡ false
no_more None r is = refl
no_more (Some c) r is = absurd (false≢true (sym is))

-- whether each payload of some records has a change
abbrev pub are_changes : List ℕ → Bool
are_changes bytes = is_some (each_change (payloads_in bytes))

-- a record at a position of some bytes, and its payload p
module _ (bytes b p : List ℕ) (at : ℕ) (here : b ≡ drop at bytes) (there : has_record b ≡ true) (is : p ≡ payload b) (next : drop (5 + length p) b ≡ behind_record b) where
  further : drop (at + (5 + length p)) bytes ≡ behind_record b
  further = sym (drop-drop (5 + length p) at bytes) ∙ ap (drop (5 + length p)) (sym here) ∙ next

  pub split : payloads_in (drop at bytes) ≡ p ∷ payloads_in (drop (at + (5 + length p)) bytes)
  split = ap payloads_in (sym here) ∙ payloads_first b there ∙ (λ i. sym is i ∷ payloads_in (sym further i))

  pub goes_on : is_some (change_of p) ≡ true → are_changes (drop (at + (5 + length p)) bytes) ≡ are_changes (drop at bytes)
  goes_on one =
      sym (ap (λ l. is_some (each_change l)) split ∙ one_more (change_of p) (each_change (payloads_in (drop (at + (5 + length p)) bytes))) one)

  pub stops : is_some (change_of p) ≡ false → are_changes (drop at bytes) ≡ false
  stops none = ap (λ l. is_some (each_change l)) split ∙ no_more (change_of p) (each_change (payloads_in (drop (at + (5 + length p)) bytes))) none

  pub longer : records_length (payloads_in (drop at bytes)) ≡ 5 + length p + records_length (payloads_in (drop (at + (5 + length p)) bytes))
  longer = ap records_length split

unless : (b : Bool) (o : Option (List Change)) → is_some o ≡ false → is_some (cond b o None) ≡ false
unless true o none = none
unless false o none = refl

provided : (b : Bool) (o : Option (List Change)) → is_some o ≡ true → is_some (cond b o None) ≡ b
provided true o some = some
provided false o some = refl

pub no_batch : (bytes : List ℕ) → are_changes bytes ≡ false → false ≡ is_some (batch_of bytes)
unfolding batch_of
no_batch bytes none = sym (unless _ (each_change (payloads_in bytes)) none)

-- behind the last record at a position
pub batch_at : (bytes : List ℕ) (at : ℕ) → payloads_in (drop at bytes) ≡ [] → are_changes (drop at bytes) ≡ are_changes bytes
    → at + records_length (payloads_in (drop at bytes)) ≡ records_length (payloads_in bytes) → nat_eq at (length bytes) ≡ is_some (batch_of bytes)
unfolding batch_of
batch_at bytes at none same long =
    let all : are_changes bytes ≡ true = sym same ∙ ap (λ l. is_some (each_change l)) none in
    let size : at ≡ records_length (payloads_in bytes) = omega (arith, long, ap records_length none) in
    ap (λ n. nat_eq n (length bytes)) size ∙ sym (provided _ (each_change (payloads_in bytes)) all)

-- ---- what a caller gets

pub batch_is : (o : Option Kind) (n : ℕ) → n ≡ 2 → IfSome o (λ kind. kind ≡ Batch) → IfSome o (λ kind. is_kind n kind)
batch_is None n two is = tt
batch_is (Some kind) n two is = subst (is_kind n) (sym is) two
