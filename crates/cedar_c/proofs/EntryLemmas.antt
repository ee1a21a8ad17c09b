-- How a page of entries is written, an entry at a time.
use Rattle.std.proofs.Common.{◌≡◌, ℕ, zero, suc, ◌+◌, ◌-◌, ◌<◌, ◌≤◌, ◌⊎◌, inl, inr, ◌∙◌, ap, arith, true, false, ℤ, IsSome, None, Some, Less, Equal, Greater, Ordering, List, [], ◌∷◌, ◌++◌, length, map, take, drop, set, nat_eq, nat_lt, Bool, cond, refl, sym}
use Rattle.std.specs.List.{AllByRecursion, filter, starts_with}
use Rattle.std.specs.Option.{is_some}
use Rattle.std.specs.List.Sorted.{IsStrictlySortedBy}
use Rattle.std.specs.Cmp.Lexicographic.{slice_cmp}
use Rattle.std.specs.Ordering.{is_eq, is_ge, is_gt, nat_cmp, ordering_reverse}
use Rattle.std.proofs.lemmas.Bool.{le-ltb, lt-ltb, true≢false}
use Rattle.std.proofs.lemmas.Cmp.{nat_list_cmp_total}
use Rattle.std.proofs.lemmas.Map.Lookups.{exact_bytes}
use Rattle.std.proofs.lemmas.List.{append-nil, append_assoc, drop-drop, drop-set-lt, length-set, take-append-drop, take_more_set}
use Rattle.cedarwood.specs.Queries.{Entry, entry_at, is_path, walk}
use Rattle.cedarwood.specs.Tree.{IsAscending, IsSoundBelow, number_at, Tree}
use Rattle.cedarwood.proofs.EntryLemmas.Built.{is_path_itself, same_path}
use Rattle.cedarwood.proofs.WalkLemmas.{walk_ascends, walk_at}
use Rattle.cedar_walk.specs.Ranges.{entries_since}
use Rattle.cedar_c.specs.Entries.{entries_behind_key, following, page_of, spots_of, WritesPage}
use Rattle.cedar_c.specs.Pairs.{keys_in}
use Rattle.cedar_c.specs.declared.scans.Found.{Found}

-- ---- what a page takes

pub page_none : (prefix : List ℕ) (places room : ℕ) → page_of prefix places room [] ≡ []
page_none prefix zero room = refl
page_none prefix (suc n) room = refl

pub page_full : (prefix : List ℕ) (places room : ℕ) (es : List Entry) → places ≡ 0 → page_of prefix places room es ≡ []
page_full prefix places room es full = ap (λ n. page_of prefix n room es) full

module _ (prefix : List ℕ) (room : ℕ) (e : Entry) (es : List Entry) where
  pub page_short : (places : ℕ) → nat_lt room (length e.0) ≡ true → page_of prefix places room (e ∷ es) ≡ []
  page_short zero short = refl
  page_short (suc n) short = rw short refl

  pub page_other : (places : ℕ) → starts_with nat_eq e.0 prefix ≡ false → page_of prefix places room (e ∷ es) ≡ []
  page_other zero other = refl
  page_other (suc n) other =
      elim (nat_lt room (length e.0)) as (λ b. cond b [] (cond (starts_with nat_eq e.0 prefix) (e ∷ page_of prefix n (room - length e.0) es) []) ≡ []) [
        | true ↦ refl
        | false ↦ rw other refl
      ]

  pub page_takes : (places : ℕ) → 0 < places → nat_lt room (length e.0) ≡ false → starts_with nat_eq e.0 prefix ≡ true
      → page_of prefix places room (e ∷ es) ≡ e ∷ page_of prefix (places - 1) (room - length e.0) es
  page_takes zero some fits begins = absurd (omega (arith, some))
  page_takes (suc n) some fits begins =
      let one : n ≡ suc n - 1 = omega arith in
      rw (fits, begins) (ap (λ m. e ∷ page_of prefix m (room - length e.0) es) one)

  -- where the key has no room, or another prefix, nothing more is taken
  pub page_ends : (places : ℕ) → (room < length e.0) ⊎ (starts_with nat_eq e.0 prefix ≡ false) → page_of prefix places room (e ∷ es) ≡ []
  page_ends places (inl short) = page_short places (lt-ltb room (length e.0) short)
  page_ends places (inr other) = page_other places other

-- ---- the writing of one more

-- the next entry is taken
pub step : (prefix : List ℕ) (places room count used : ℕ) (e : Entry) (left later : List Entry) → left ≡ e ∷ later → count < places
    → used + length e.0 ≤ room → starts_with nat_eq e.0 prefix ≡ true
    → page_of prefix (places - count) (room - used) left ≡ e ∷ page_of prefix (places - (count + 1)) (room - (used + length e.0)) later
step prefix places room count used e left later is below fits begins =
    let some : 0 < places - count = omega (arith, below) in
    let enough : length e.0 ≤ room - used = omega (arith, fits) in
    let fewer : places - count - 1 ≡ places - (count + 1) = omega arith in
    let less : room - used - length e.0 ≡ room - (used + length e.0) = omega arith in
    ap (page_of prefix (places - count) (room - used)) is
    ∙ page_takes prefix (room - used) e later (places - count) some (le-ltb (room - used) (length e.0) enough) begins
    ∙ ap (λ n. e ∷ page_of prefix n (room - used - length e.0) later) fewer
    ∙ ap (λ n. e ∷ page_of prefix (places - (count + 1)) n later) less

pub keys_more : (bytes written : List ℕ) (used : ℕ) (e : Entry) (page rest : List Entry) → page ≡ e ∷ rest
    → take (used + length e.0) written ≡ take used bytes ++ e.0 → take (used + length e.0) written ++ keys_in rest ≡ take used bytes ++ keys_in page
keys_more bytes written used e page rest is new =
    ap (λ t. t ++ keys_in rest) new ∙ append_assoc (take used bytes) e.0 (keys_in rest) ∙ ap (λ p. take used bytes ++ keys_in p) (sym is)

pub spots_more : (found : List Found) (count used : ℕ) (e : Entry) (spot : Found) (page rest : List Entry) → count < length found → page ≡ e ∷ rest
    → spot ≡ record { place = used; length = length e.0; value = e.1 }
    → take (count + 1) (set found count spot) ++ spots_of (used + length e.0) rest ≡ take count found ++ spots_of used page
spots_more found count used e spot page rest below is here =
    ap (λ t. t ++ spots_of (used + length e.0) rest) (take_more_set found count spot below)
    ∙ append_assoc (take count found) (spot ∷ []) (spots_of (used + length e.0) rest)
    ∙ ap (λ s. take count found ++ s ∷ spots_of (used + length e.0) rest) here
    ∙ ap (λ p. take count found ++ spots_of used p) (sym is)

pub others_stay : (found first : List Found) (count : ℕ) (spot : Found) → drop count found ≡ drop count first
    → drop (count + 1) (set found count spot) ≡ drop (count + 1) first
others_stay found first count spot same =
    let below : count < count + 1 = omega arith in
    drop-set-lt (count + 1) found count spot below ∙ sym (drop-drop 1 count found) ∙ ap (drop 1) same ∙ drop-drop 1 count first

-- `count` entries are written, whose keys have `used` bytes; with what a page takes of those left they are the whole page
pub record IsWritten (prefix : List ℕ) (entries left : List Entry) (found told : List Found) (bytes written : List ℕ) (count used : ℕ) : Type 0 where
  pub keys : take used written ++ keys_in (page_of prefix (length found - count) (length bytes - used) left) ≡ keys_in (page_of prefix (length found) (length bytes) entries)
  pub spots : take count told ++ spots_of used (page_of prefix (length found - count) (length bytes - used) left) ≡ spots_of 0 (page_of prefix (length found) (length bytes) entries)
  pub number : count + length (page_of prefix (length found - count) (length bytes - used) left) ≡ length (page_of prefix (length found) (length bytes) entries)
  pub others : drop count told ≡ drop count found
  pub size : length written ≡ length bytes
  pub places : length told ≡ length found
  pub within : used ≤ length bytes

module _ (prefix : List ℕ) (entries : List Entry) (found : List Found) (bytes : List ℕ) where
  -- at first
  pub none_written : IsWritten prefix entries entries found found bytes bytes 0 0
  none_written =
      let places : length found - 0 ≡ length found = omega arith in
      let room : length bytes - 0 ≡ length bytes = omega arith in
      let same : page_of prefix (length found - 0) (length bytes - 0) entries ≡ page_of prefix (length found) (length bytes) entries =
      ap (λ n. page_of prefix n (length bytes - 0) entries) places ∙ ap (λ n. page_of prefix (length found) n entries) room in
      record {
        keys = ap keys_in same;
        spots = ap (spots_of 0) same;
        number = let long = ap length same in omega (arith, long);
        others = refl;
        size = refl;
        places = refl;
        within = omega arith;
      }

  module _ (left : List Entry) (told : List Found) (written : List ℕ) (count used : ℕ) (so_far : IsWritten prefix entries left found told bytes written count used) where
    -- one more is written
    pub one_written : (e : Entry) (later : List Entry) (spot : Found) (now : List ℕ) → left ≡ e ∷ later → count < length told → used + length e.0 ≤ length bytes
        → starts_with nat_eq e.0 prefix ≡ true → take (used + length e.0) now ≡ take used written ++ e.0 → length now ≡ length written
        → spot ≡ record { place = used; length = length e.0; value = e.1 }
        → IsWritten prefix entries later found (set told count spot) bytes now (count + 1) (used + length e.0)
    one_written e later spot now is below fits begins new same here =
        let within : count < length found = omega (arith, below, so_far.places) in
        let page = page_of prefix (length found - count) (length bytes - used) left in
        let rest = page_of prefix (length found - (count + 1)) (length bytes - (used + length e.0)) later in
        let first : page ≡ e ∷ rest = step prefix (length found) (length bytes) count used e left later is within fits begins in
        let longer = ap length first in
        record {
          keys = keys_more written now used e page rest first new ∙ so_far.keys;
          spots = spots_more told count used e spot page rest below first here ∙ so_far.spots;
          number = omega (arith, so_far.number, longer);
          others = others_stay told found count spot so_far.others;
          size = same ∙ so_far.size;
          places = length-set told count spot ∙ so_far.places;
          within = fits;
        }

    -- the bytes behind the keys may be others
    pub kept_written : (now : List ℕ) → take used now ≡ take used written → length now ≡ length written → IsWritten prefix entries left found told bytes now count used
    kept_written now same size = record {
      keys = ap (λ x. x ++ keys_in (page_of prefix (length found - count) (length bytes - used) left)) same ∙ so_far.keys;
      spots = so_far.spots;
      number = so_far.number;
      others = so_far.others;
      size = size ∙ so_far.size;
      places = so_far.places;
      within = so_far.within;
    }

    -- nothing more is taken
    pub all_written : page_of prefix (length found - count) (length bytes - used) left ≡ [] → WritesPage prefix entries found told bytes written count
    all_written none =
        let whole = page_of prefix (length found) (length bytes) entries in
        let long = ap length none in
        record {
          number = omega (arith, so_far.number, long);
          spots =
              sym (take-append-drop count told)
              ∙ ap (λ s. s ++ drop count told) (sym (append-nil (take count told)) ∙ sym (ap (λ p. take count told ++ spots_of used p) none) ∙ so_far.spots)
              ∙ ap (λ s. spots_of 0 whole ++ s) so_far.others;
          keys = (
            drop used written,
            sym (take-append-drop used written)
                ∙ ap (λ s. s ++ drop used written) (sym (append-nil (take used written)) ∙ sym (ap (λ p. take used written ++ keys_in p) none) ∙ so_far.keys),
          );
          size = so_far.size;
        }

-- ---- what comes behind a key

-- where the keys of some entries ascend, those from a key on are the one at the key, if there is one, and those behind it
abbrev from_on : List ℕ → Entry → Bool
from_on q e = is_ge (slice_cmp nat_cmp e.0 q)

abbrev behind : List ℕ → Entry → Bool
behind q e = is_gt (slice_cmp nat_cmp e.0 q)

abbrev is_at : List ℕ → Entry → Bool
is_at q e = is_path q e.0

compares_itself : (w : List ℕ) → slice_cmp nat_cmp w w ≡ Equal
compares_itself w = by_case (slice_cmp nat_cmp w w) (nat_list_cmp_total.antisymm w w)
  where
    by_case : (o : Ordering) → o ≡ ordering_reverse o → o ≡ Equal
    by_case Equal is = refl
    by_case Less is = absurd (true≢false (sym (ap is_gt is)))
    by_case Greater is = absurd (true≢false (ap is_gt is))

-- keys that compare as unequal are apart
apart : (q w : List ℕ) (o : Ordering) → is_eq o ≡ false → slice_cmp nat_cmp w q ≡ o → is_path q w ≡ false
apart q w o other is =
    (elim (is_path q w) as (λ b. is_path q w ≡ b → b ≡ false) [
      | true ↦ λ same.
          let here : q ≡ w = same_path q w same in
          let level : slice_cmp nat_cmp w q ≡ Equal = ap (λ x. slice_cmp nat_cmp w x) here ∙ compares_itself w in
          absurd (true≢false (ap is_eq (sym level ∙ is) ∙ other))
      | false ↦ λ _. refl
    ]) refl

above : (p w q : List ℕ) → slice_cmp nat_cmp p w ≡ Less → slice_cmp nat_cmp p q ≡ Greater → is_eq (slice_cmp nat_cmp w q) ≡ false
above p w q less greater = by_case (slice_cmp nat_cmp w q) refl
  where
    by_case : (o : Ordering) → slice_cmp nat_cmp w q ≡ o → is_eq o ≡ false
    by_case Less is = refl
    by_case Greater is = refl
    by_case Equal is =
        let here : w ≡ q = exact_bytes w q is in
        absurd (true≢false (ap is_gt (sym greater ∙ ap (slice_cmp nat_cmp p) (sym here) ∙ less)))

none_at : (p q : List ℕ) → slice_cmp nat_cmp p q ≡ Greater → (es : List Entry) → AllByRecursion (λ w. slice_cmp nat_cmp p w ≡ Less) (map (λ e. e.0) es) → filter (is_at q) es ≡ []
none_at p q greater [] a = refl
none_at p q greater (e ∷ es) a =
    ap (λ b. cond b (e ∷ filter (is_at q) es) (filter (is_at q) es)) (apart q e.0 (slice_cmp nat_cmp e.0 q) (above p e.0 q a.0 greater) refl) ∙ none_at p q greater es a.1

module _ (q : List ℕ) (e : Entry) (es : List Entry) (later : filter (from_on q) es ≡ filter (is_at q) es ++ filter (behind q) es)
    (lower : AllByRecursion (λ w. slice_cmp nat_cmp e.0 w ≡ Less) (map (λ x. x.0) es)) where
  first_from : (o : Ordering) → slice_cmp nat_cmp e.0 q ≡ o
      → cond (is_ge o) (e ∷ filter (from_on q) es) (filter (from_on q) es)
      ≡ cond (is_path q e.0) (e ∷ filter (is_at q) es) (filter (is_at q) es) ++ cond (is_gt o) (e ∷ filter (behind q) es) (filter (behind q) es)
  first_from Less is =
      later ∙ sym (ap (λ b. cond b (e ∷ filter (is_at q) es) (filter (is_at q) es) ++ filter (behind q) es) (apart q e.0 Less refl is))
  first_from Equal is =
      let here : is_path q e.0 ≡ true = ap (is_path q) (exact_bytes e.0 q is) ∙ is_path_itself q in
      ap (λ (xs : List Entry). e ∷ xs) later ∙ sym (ap (λ b. cond b (e ∷ filter (is_at q) es) (filter (is_at q) es) ++ filter (behind q) es) here)
  first_from Greater is =
      let none : filter (is_at q) es ≡ [] = none_at e.0 q is es lower in
      ap (λ (xs : List Entry). e ∷ xs) (later ∙ ap (λ (xs : List Entry). xs ++ filter (behind q) es) none)
      ∙ sym (ap (λ b. cond b (e ∷ filter (is_at q) es) (filter (is_at q) es) ++ (e ∷ filter (behind q) es)) (apart q e.0 Greater refl is)
      ∙ ap (λ (xs : List Entry). xs ++ (e ∷ filter (behind q) es)) none)

from_key : (q : List ℕ) (es : List Entry) → IsStrictlySortedBy (slice_cmp nat_cmp) (map (λ e. e.0) es) → filter (from_on q) es ≡ filter (is_at q) es ++ filter (behind q) es
unfolding IsStrictlySortedBy
from_key q [] s = refl
from_key q (e ∷ es) s = first_from q e es (from_key q es s.1) s.0 (slice_cmp nat_cmp e.0 q) refl

second_gone : (xs ys : List Entry) → xs ++ ys ≡ [] → ys ≡ []
second_gone [] ys none = none
second_gone (x ∷ xs) ys none = cc

module _ (t : Tree) (q : List ℕ) (sound : IsSoundBelow t.children) (ascends : IsAscending t.children) where
  parts : entries_since t q ≡ entry_at q (number_at t q) ++ entries_behind_key t q
  parts = from_key q (walk t) (walk_ascends t ascends) ∙ ap (λ (xs : List Entry). xs ++ entries_behind_key t q) (walk_at t q sound)

  pub since_held : (v : ℤ) → number_at t q ≡ Some v → entries_since t q ≡ (q, v) ∷ entries_behind_key t q
  since_held v held = parts ∙ ap (λ o. entry_at q o ++ entries_behind_key t q) held

  pub since_absent : number_at t q ≡ None → entries_since t q ≡ entries_behind_key t q
  since_absent absent = parts ∙ ap (λ o. entry_at q o ++ entries_behind_key t q) absent

  pub none_behind : entries_since t q ≡ [] → entries_behind_key t q ≡ []
  none_behind none = second_gone (entry_at q (number_at t q)) (entries_behind_key t q) (sym parts ∙ none)

  -- the same of one that is held or not
  abbrev rest_of : List Entry → List Entry
  rest_of [] = []
  rest_of (e ∷ es) = es

  pub held_first : IsSome (number_at t q) → (e : Entry) (es : List Entry) → entries_since t q ≡ e ∷ es → entries_behind_key t q ≡ es
  held_first some e es is =
      (elim (number_at t q) as (λ o. number_at t q ≡ o → entries_behind_key t q ≡ es) [
        | None ↦ λ none. absurd (true≢false (sym some ∙ ap is_some none))
        | Some v ↦ λ held. ap rest_of (sym (since_held v held) ∙ is)
      ]) refl

  pub lacking_since : (IsSome (number_at t q) → ⊥) → entries_since t q ≡ entries_behind_key t q
  lacking_since lacks =
      (elim (number_at t q) as (λ o. number_at t q ≡ o → entries_since t q ≡ entries_behind_key t q) [
        | None ↦ λ none. since_absent none
        | Some v ↦ λ held. absurd (lacks (ap is_some held))
      ]) refl

-- behind a key with a byte
pub following_behind : (t : Tree) (prefix key : List ℕ) → 0 < length key → entries_behind_key t key ≡ following t prefix key
following_behind t prefix [] some = absurd (omega (arith, some))
following_behind t prefix (b ∷ key) some = refl
