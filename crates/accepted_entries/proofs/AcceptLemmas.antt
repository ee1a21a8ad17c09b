-- Which entries of a range are accepted, once the range has gone on.
use Rattle.std.proofs.Common.{◌≡◌, ℕ, ◌<◌, ◌≤◌, inl, inr, Bool, true, false, cond, not, ◌&&◌, ℤ, List, [], ◌∷◌, ◌++◌, length, take, drop, Option, refl, sym, ap, ◌∙◌, subst, arith, append-nil}
use Rattle.std.specs.Prelude.{filter, nat_eq}
use Rattle.std.specs.Cmp.Lexicographic.{slice_cmp}
use Rattle.std.specs.List.{AllByRecursion, starts_with}
use Rattle.std.specs.Ordering.{is_ge, is_gt, is_lt, nat_cmp, ordering_reverse}
use Rattle.std.specs.declared.cmp.Ordering.TheVariants.{Less}
use Rattle.std.proofs.lemmas.Bool.{and_parts, true≢false}
use Rattle.std.proofs.lemmas.Bool.Decides.{eqb_tells}
use Rattle.std.proofs.lemmas.Cmp.{nat_list_cmp_total, tied_itself}
use Rattle.cedar_tree.specs.Queries.{Entry}
use Rattle.cedar_tree.specs.Tree.{IsPath}
use Rattle.key_ranges.specs.Spans.{ends_before, follows_prefix, holds, HoldsBehind, HoldsPast, KeySpan, successor}
use Rattle.key_ranges.proofs.EntryRangeLemmas.{filter_twice, held_behind, Rises, rises, same_tests, some_rise}
use Rattle.key_ranges.proofs.SpanLemmas.{all_follow, before_both, ge_is, never_before, prefixed}
use Rattle.last_entries.specs.Nearness.{AscendByKeys, before_end, from_on, GoesOnFrom}
use Rattle.last_entries.proofs.EndLemmas.{within_is}
use Rattle.last_entries.proofs.NearLemmas.{all_paths, first_passes}
use Rattle.last_entries.proofs.PathLemmas.{apart, behind_both, gt_from_less, less_from_gt, same_front}
use Rattle.accepted_entries.specs.Accepted.{accepted_in, entries_in_span, HoldsEnd, IsDeadEnd, PassesOver, SaysOf, verdict_of}

-- ---- bytes that begin with others

same_byte : (x y : ℕ) → nat_eq y x ≡ true → x ≡ y
same_byte x y h = elim (eqb_tells y x) [
  | inl same ↦ sym same.1
  | inr other ↦ absurd (true≢false (sym h ∙ other.0))
]

pub begins : (w front : List ℕ) → starts_with nat_eq w front ≡ true → GoesOnFrom front w
begins w [] h = (w, refl)
begins [] (y ∷ ys) h = absurd (true≢false (sym h))
begins (x ∷ xs) (y ∷ ys) h =
    let parts = and_parts (nat_eq y x) (starts_with nat_eq xs ys) h in
    let more = begins xs ys parts.1 in
    let byte = same_byte x y parts.0 in
    (more.0, λ i. byte i ∷ more.1 i)

byte_is : (x : ℕ) → nat_eq x x ≡ true
byte_is x = elim (eqb_tells x x) [
  | inl same ↦ same.0
  | inr other ↦ absurd (other.1 refl)
]

pub begins_itself : (front rest : List ℕ) → starts_with nat_eq (front ++ rest) front ≡ true
begins_itself [] rest = refl
begins_itself (x ∷ xs) rest = ap (λ b. b && starts_with nat_eq (xs ++ rest) xs) (byte_is x) ∙ begins_itself xs rest

-- what goes on from some bytes doesn't come before them
at_front : (front rest : List ℕ) → is_ge (slice_cmp nat_cmp (front ++ rest) front) ≡ true
at_front front rest =
    ap (λ w. is_ge (slice_cmp nat_cmp (front ++ rest) w)) (sym (append-nil front))
    ∙ ap is_ge (same_front front rest [])
    ∙ all_follow rest

pub key_at_front : (key : List ℕ) (len : ℕ) → is_ge (slice_cmp nat_cmp key (take len key)) ≡ true
key_at_front key len = ap (λ w. is_ge (slice_cmp nat_cmp w (take len key))) (apart len key) ∙ at_front (take len key) (drop len key)

-- nor does what doesn't come before that
pub from_front : (w key front : List ℕ) → is_ge (slice_cmp nat_cmp key front) ≡ true → is_ge (slice_cmp nat_cmp w key) ≡ true → is_ge (slice_cmp nat_cmp w front) ≡ true
from_front w key front high at = sym (ge_is (slice_cmp nat_cmp w front)) ∙ ap not (never_before w key front high at)

-- ---- past a dead end

-- what is accepted comes behind all that begin with the bytes of a dead end
accepted_follows : (accepts : List ℕ → Bool) (w front : List ℕ) → IsDeadEnd accepts front → IsPath w → is_ge (slice_cmp nat_cmp w front) ≡ true → accepts w ≡ true → follows_prefix front w ≡ true
accepted_follows accepts w front dead path at accepted =
    (elim (ends_before (successor front) w) as (λ b. ends_before (successor front) w ≡ b → not b ≡ true) [
      | true ↦ λ before.
          let inside : starts_with nat_eq w front ≡ true = sym (prefixed w front path) ∙ (λ i. at i && before i) in
          let begun = begins w front inside in
          absurd (true≢false (sym accepted ∙ ap accepts begun.1 ∙ dead begun.0))
      | false ↦ λ _. refl
    ]) refl

-- and the first of them doesn't
pub first_stays : (key : List ℕ) (len : ℕ) → IsPath key → follows_prefix (take len key) key ≡ false
first_stays key len path =
    let front = take len key in
    let inside : starts_with nat_eq key front ≡ true = ap (λ w. starts_with nat_eq w front) (apart len key) ∙ begins_itself front (drop len key) in
    let both : (true && ends_before (successor front) key) ≡ true =
    ap (λ b. b && ends_before (successor front) key) (sym (key_at_front key len)) ∙ prefixed key front path ∙ inside in
    ap not both

all_follow_front : (accepts : List ℕ → Bool) (front key : List ℕ) (es : List Entry) → IsDeadEnd accepts front → is_ge (slice_cmp nat_cmp key front) ≡ true → AllByRecursion (λ e. IsPath e.0) es
    → AllByRecursion (λ e. is_ge (slice_cmp nat_cmp e.0 key) ≡ true) es → AllByRecursion (λ e. accepts e.0 ≡ true → follows_prefix front e.0 ≡ true) es
all_follow_front accepts front key [] dead high paths up = tt
all_follow_front accepts front key (e ∷ es) dead high paths up =
    (accepted_follows accepts e.0 front dead paths.0 (from_front e.0 key front high up.0), all_follow_front accepts front key es dead high paths.1 up.1)

all_at : (key : List ℕ) (es : List Entry) → AllByRecursion (λ e. slice_cmp nat_cmp key e.0 ≡ Less) es → AllByRecursion (λ e. is_ge (slice_cmp nat_cmp e.0 key) ≡ true) es
all_at key [] up = tt
all_at key (e ∷ es) up = (ap is_ge (nat_list_cmp_total.antisymm e.0 key ∙ ap ordering_reverse up.0), all_at key es up.1)

not_both : (a b : Bool) → (a ≡ true → b ≡ true) → b ≡ false → a ≡ false
not_both false b f h = refl
not_both true b f h = absurd (true≢false (sym (f refl) ∙ h))

-- a test that holds wherever another one does leaves out nothing of what passes that
same_after : (p q : List ℕ → Bool) (es : List Entry) → AllByRecursion (λ e. q e.0 ≡ true → p e.0 ≡ true) es → filter (λ e. q e.0) es ≡ filter (λ e. q e.0) (filter (λ e. p e.0) es)
same_after p q [] all = refl
same_after p q (e ∷ es) all =
    (elim (p e.0) as (λ b. p e.0 ≡ b → cond (q e.0) (e ∷ filter (λ x. q x.0) es) (filter (λ x. q x.0) es) ≡ filter (λ x. q x.0) (cond b (e ∷ filter (λ x. p x.0) es) (filter (λ x. p x.0) es))) [
      | true ↦ λ _. ap (λ zs. cond (q e.0) (e ∷ zs) zs) (same_after p q es all.1)
      | false ↦ λ fails. ap (λ b. cond b (e ∷ filter (λ x. q x.0) es) (filter (λ x. q x.0) es)) (not_both (q e.0) (p e.0) all.0 fails) ∙ same_after p q es all.1
    ]) refl

few_pass : (test : List ℕ → Bool) (es : List Entry) → length (filter (λ e. test e.0) es) ≤ length es
few_pass test [] = omega arith
few_pass test (e ∷ es) =
    let few = few_pass test es in
    elim (test e.0) as (λ b. length (cond b (e ∷ filter (λ x. test x.0) es) (filter (λ x. test x.0) es)) ≤ length (e ∷ es)) [
      | true ↦ omega (arith, few)
      | false ↦ omega (arith, few)
    ]

-- what holds of all entries holds of those that pass a test
some_hold : (P : Entry → Type 0) (test : List ℕ → Bool) (es : List Entry) → AllByRecursion P es → AllByRecursion P (filter (λ e. test e.0) es)
some_hold P test [] all = tt
some_hold P test (e ∷ es) all = elim (test e.0) as (λ b. AllByRecursion P (cond b (e ∷ filter (λ x. test x.0) es) (filter (λ x. test x.0) es))) [
  | true ↦ (all.0, some_hold P test es all.1)
  | false ↦ some_hold P test es all.1
]

-- ---- a range goes on

-- what is looked up is what is in the range
pub first_held : (span : KeySpan) (es : List Entry) (from : List ℕ) (to : Option (List ℕ)) → from ≡ span.from → to ≡ span.to → from_on from (before_end to es) ≡ entries_in_span span es
first_held span es from to begin end = (λ i. from_on (begin i) (before_end (end i) es)) ∙ sym (within_is span es)

-- past a dead end: what is accepted is still there, and the first entry isn't
past_front : (accepts : List ℕ → Bool) (old new : KeySpan) (es : List Entry) (key : List ℕ) (value : ℤ) (rest : List Entry) (len : ℕ) → AscendByKeys es → entries_in_span old es ≡ (key, value) ∷ rest
    → IsDeadEnd accepts (take len key) → HoldsPast old new (take len key) → (accepted_in accepts old es ≡ accepted_in accepts new es) × (length (entries_in_span new es) < length (entries_in_span old es))
past_front accepts old new es key value rest len listed is dead past =
    let front = take len key in
    let held = entries_in_span old es in
    let up : Rises ((key, value) ∷ rest) = subst Rises is (some_rise (holds old) es (rises es listed.0)) in
    let paths : AllByRecursion (λ e. IsPath e.0) ((key, value) ∷ rest) = subst (AllByRecursion (λ e. IsPath e.0)) is (some_hold (λ e. IsPath e.0) (holds old) es (all_paths es listed.1)) in
    let itself : is_ge (slice_cmp nat_cmp key key) ≡ true = ap is_ge (tied_itself nat_list_cmp_total key) in
    let follow = all_follow_front accepts front key ((key, value) ∷ rest) dead (key_at_front key len) paths (itself, all_at key rest up.0) in
    let all : AllByRecursion (λ e. accepts e.0 ≡ true → follows_prefix front e.0 ≡ true) held = subst (AllByRecursion (λ e. accepts e.0 ≡ true → follows_prefix front e.0 ≡ true)) (sym is) follow in
    let left : entries_in_span new es ≡ filter (λ e. follows_prefix front e.0) held =
    same_tests (holds new) (λ w. holds old w && follows_prefix front w) es past ∙ filter_twice (holds old) (follows_prefix front) es in
    let later : entries_in_span new es ≡ filter (λ e. follows_prefix front e.0) rest =
    left ∙ ap (filter (λ (e : Entry). follows_prefix front e.0)) is
    ∙ ap (λ b. cond b ((key, value) ∷ filter (λ e. follows_prefix front e.0) rest) (filter (λ e. follows_prefix front e.0) rest)) (first_stays key len paths.0) in
    let few = few_pass (follows_prefix front) rest in
    let many = ap length is in
    let fewer = ap length later in
    (same_after (follows_prefix front) accepts held all ∙ sym (ap (filter (λ (e : Entry). accepts e.0)) left), omega (arith, few, many, fewer))

-- what leaves a range with its first key
pub first_left : (accepts : List ℕ → Bool) (old new : KeySpan) (es : List Entry) (key : List ℕ) (value : ℤ) (rest : List Entry) → AscendByKeys es → entries_in_span old es ≡ (key, value) ∷ rest → accepts key ≡ true
    → HoldsBehind old new key → accepted_in accepts old es ≡ (key, value) ∷ accepted_in accepts new es
first_left accepts old new es key value rest listed is accepted on =
    let held = held_behind es old new [] (key, value) rest (rises es listed.0) on is in
    ap (filter (λ (e : Entry). accepts e.0)) is
    ∙ ap (λ b. cond b ((key, value) ∷ filter (λ e. accepts e.0) rest) (filter (λ e. accepts e.0) rest)) accepted
    ∙ ap (λ (es : List Entry). (key, value) ∷ filter (λ e. accepts e.0) es) (sym held)

pub passed_over : (accepts : List ℕ → Bool) (old new : KeySpan) (es : List Entry) (key : List ℕ) (value : ℤ) (rest : List Entry) → AscendByKeys es → entries_in_span old es ≡ (key, value) ∷ rest
    → PassesOver accepts key old new → (accepted_in accepts old es ≡ accepted_in accepts new es) × (length (entries_in_span new es) < length (entries_in_span old es))
passed_over accepts old new es key value rest listed is (inl behind) =
    let held = held_behind es old new [] (key, value) rest (rises es listed.0) behind.1 is in
    let many = ap length is in
    let fewer = ap length held in (
      ap (filter (λ (e : Entry). accepts e.0)) is
          ∙ ap (λ b. cond b ((key, value) ∷ filter (λ e. accepts e.0) rest) (filter (λ e. accepts e.0) rest)) behind.0
          ∙ ap (filter (λ (e : Entry). accepts e.0)) (sym held),
      omega (arith, many, fewer),
    )
passed_over accepts old new es key value rest listed is (inr past) = past_front accepts old new es key value rest past.0 listed is past.2 past.3

-- ---- what the range holds then

pub end_of_itself : (span : KeySpan) → HoldsEnd span span
end_of_itself span = record { within = λ w h. h; behind = λ v w _ _ h. h }

-- a range that goes on behind a key, or past a prefix, holds the last part of what it held
end_behind : (old now new : KeySpan) (key : List ℕ) → HoldsEnd old now → HoldsBehind now new key → HoldsEnd old new
end_behind old now new key end on = record {
  within = λ w h. end.within w (and_parts (holds now w) (is_gt (slice_cmp nat_cmp w key)) (sym (on w) ∙ h)).0;
  behind = λ v w h up held.
      let parts = and_parts (holds now v) (is_gt (slice_cmp nat_cmp v key)) (sym (on v) ∙ h) in
      let still = end.behind v w parts.0 up held in
      let further = behind_both key v w (less_from_gt key v parts.1) (gt_from_less v w up) in
      on w ∙ (λ i. still i && further i);
}

follows_further : (prefix v w : List ℕ) → follows_prefix prefix v ≡ true → slice_cmp nat_cmp v w ≡ Less → follows_prefix prefix w ≡ true
follows_further prefix v w h up =
    (elim (ends_before (successor prefix) w) as (λ b. ends_before (successor prefix) w ≡ b → not b ≡ true) [
      | true ↦ λ before. absurd (true≢false (sym h ∙ ap not (before_both v w (successor prefix) before (ap is_lt up))))
      | false ↦ λ _. refl
    ]) refl

end_past : (old now new : KeySpan) (prefix : List ℕ) → HoldsEnd old now → HoldsPast now new prefix → HoldsEnd old new
end_past old now new prefix end past = record {
  within = λ w h. end.within w (and_parts (holds now w) (follows_prefix prefix w) (sym (past w) ∙ h)).0;
  behind = λ v w h up held.
      let parts = and_parts (holds now v) (follows_prefix prefix v) (sym (past v) ∙ h) in
      let still = end.behind v w parts.0 up held in
      let further = follows_further prefix v w parts.1 up in
      past w ∙ (λ i. still i && further i);
}

pub end_over : (accepts : List ℕ → Bool) (old now new : KeySpan) (key : List ℕ) → HoldsEnd old now → PassesOver accepts key now new → HoldsEnd old new
end_over accepts old now new key end (inl behind) = end_behind old now new key end behind.1
end_over accepts old now new key end (inr past) = end_past old now new (take past.0 key) end past.3

same_end : (a b c : Bool) → (a ≡ true → b ≡ true) → (c ≡ true → b ≡ true → a ≡ true) → (a && c) ≡ (b && c)
same_end true b c f g = sym (ap (λ d. d && c) (f refl))
same_end false true true f g = g refl refl
same_end false true false f g = refl
same_end false false c f g = refl

-- so behind a key that it holds it holds all that there was
pub behind_first : (old now new : KeySpan) (es : List Entry) (key : List ℕ) (value : ℤ) (rest : List Entry) → HoldsEnd old now → entries_in_span now es ≡ (key, value) ∷ rest → HoldsBehind now new key → HoldsBehind old new key
behind_first old now new es key value rest end is on w =
    let held : holds now key ≡ true = (first_passes (holds now) es (key, value) rest is).1 in
    on w ∙ same_end (holds now w) (holds old w) (is_gt (slice_cmp nat_cmp w key)) (end.within w) (λ behind all. end.behind key w held (less_from_gt key w behind) all)

-- ---- a key that was read to its end

pub says_at_end : (accepts : List ℕ → Bool) (key : List ℕ) (said : Bool) → said ≡ accepts key → SaysOf accepts key (verdict_of said)
says_at_end accepts key true is = sym is
says_at_end accepts key false is = sym is
