-- Fronts of byte strings, and where they are in a range.
use Rattle.std.proofs.Common.{◌≡◌, ℕ, suc, ◌+◌, ◌<◌, ◌≤◌, inl, inr, true, false, ◌&&◌, List, [], ◌∷◌, ◌++◌, length, take, drop, get_or, None, Option, Some, refl, sym, ap, ◌∙◌, subst, arith}
use Rattle.std.specs.Prelude.{if◌then◌else◌, nat_eq}
use Rattle.std.specs.Cmp.Lexicographic.{slice_cmp}
use Rattle.std.specs.List.{starts_with}
use Rattle.std.specs.Ordering.{is_ge, is_lt, nat_cmp, ordering_reverse}
use Rattle.std.specs.declared.cmp.Ordering.TheVariants.{Equal, Greater, Less}
use Rattle.std.proofs.lemmas.Bool.{and_parts, true≢false}
use Rattle.std.proofs.lemmas.Bool.Decides.{eqb_tells}
use Rattle.std.proofs.lemmas.Cmp.{nat_list_cmp_total}
use Rattle.std.proofs.lemmas.List.{take-append-le, take-take, length-take-le}
use Rattle.cedar_tree.specs.Tree.{IsPath}
use Rattle.key_ranges.specs.Spans.{ends_before, holds, KeySpan, raise_last, successor}
use Rattle.key_ranges.proofs.SpanLemmas.{before_both, prefixed}
use Rattle.last_entries.proofs.PathLemmas.{apart, length_of_front, take_of_front}
use Rattle.accepted_entries.proofs.AcceptLemmas.{begins, begins_itself, from_front, key_at_front}

-- ---- fronts

pub front_begins : (w : List ℕ) (n : ℕ) → starts_with nat_eq w (take n w) ≡ true
front_begins w n = ap (λ z. starts_with nat_eq z (take n w)) (apart n w) ∙ begins_itself (take n w) (drop n w)

pub front_is : (w front : List ℕ) → starts_with nat_eq w front ≡ true → take (length front) w ≡ front
front_is w front h =
    let begun = begins w front h in
    ap (take (length front)) begun.1 ∙ take_of_front front begun.0 (length front) refl

-- what comes at a byte string or before it comes before an end that that comes before
pub front_ends : (p w : List ℕ) (to : Option (List ℕ)) → is_ge (slice_cmp nat_cmp w p) ≡ true → ends_before to w ≡ true → ends_before to p ≡ true
front_ends p w None at before = refl
front_ends p w (Some to) at before =
    let o = nat_list_cmp_total in
    (elim (slice_cmp nat_cmp w p) as (λ r. slice_cmp nat_cmp w p ≡ r → is_ge r ≡ true → is_lt (slice_cmp nat_cmp p to) ≡ true) [
      | Less ↦ λ _ h. absurd (true≢false (sym h))
      | Equal ↦ λ e _. ap is_lt (sym (o.congr w p to e)) ∙ before
      | Greater ↦ λ e _. before_both p w (Some to) before (ap is_lt (o.antisymm p w ∙ ap ordering_reverse e))
    ]) refl at

-- between two byte strings in a range, of which the last begins with it, a byte string is in the range
pub in_between : (span : KeySpan) (key w : List ℕ) (n : ℕ) → holds span key ≡ true → holds span w ≡ true → is_ge (slice_cmp nat_cmp (take n w) key) ≡ true → holds span (take n w) ≡ true
in_between span key w n one other at =
    let low = and_parts (is_ge (slice_cmp nat_cmp key span.from)) (ends_before span.to key) one in
    let high = and_parts (is_ge (slice_cmp nat_cmp w span.from)) (ends_before span.to w) other in
    let from = from_front (take n w) key span.from low.0 at in
    let end = front_ends (take n w) w span.to (key_at_front w n) high.1 in
    λ i. from i && end i

-- what is between a byte string and one that begins with it begins with it
pub begins_between : (p key w : List ℕ) → IsPath key → IsPath w → starts_with nat_eq w p ≡ true → is_ge (slice_cmp nat_cmp key p) ≡ true → is_ge (slice_cmp nat_cmp w key) ≡ true → starts_with nat_eq key p ≡ true
begins_between p key w key_path w_path begun at up =
    let inside = and_parts (is_ge (slice_cmp nat_cmp w p)) (ends_before (successor p) w) (prefixed w p w_path ∙ begun) in
    let end = front_ends key w (successor p) up inside.1 in
    sym (prefixed key p key_path) ∙ (λ i. at i && end i)

-- ---- what comes behind all that begin with a byte string

some_is : (a b : List ℕ) → Some a ≡ Some b → a ≡ b
some_is a b h = cc

none_some : (a : List ℕ) → ◌≡◌ {A = Option (List ℕ)} None (Some a) → ⊥
none_some a h = cc

pub next_path : (q s : List ℕ) → IsPath q → successor q ≡ Some s → IsPath s
next_path [] s path h = absurd (none_some s h)
next_path (x ∷ q) s path h = at (successor q) refl h (λ rest e. next_path q rest path.2 e)
  where
    at : (o : Option (List ℕ)) → successor q ≡ o → raise_last x o ≡ Some s → ((rest : List ℕ) → successor q ≡ Some rest → IsPath rest) → IsPath s
    at None e h more = elim (eqb_tells x 255) [
      | inl same ↦ absurd (none_some s (sym (ap (λ b. if b then None else Some ((x + 1) ∷ [])) same.0) ∙ h))
      | inr other ↦
          let is = some_is ((x + 1) ∷ []) s (sym (ap (λ b. if b then None else Some ((x + 1) ∷ [])) other.0) ∙ h) in
          let small = path.1 in
          let low : x + 1 < 256 = omega (arith, small, other.1) in
          subst IsPath is (omega arith, low, tt)
    ]
    at (Some rest) e h more = subst IsPath (some_is (x ∷ rest) s h) (path.0, path.1, more rest e)

-- it is a proper front and one byte more
pub next_parts : (q s : List ℕ) → successor q ≡ Some s → (n : ℕ) × (n < length q) × (s ≡ take n q ++ (get_or q n 0 + 1) ∷ [])
next_parts [] s h = absurd (none_some s h)
next_parts (x ∷ q) s h = at (successor q) refl h (λ rest e. next_parts q rest e)
  where
    at : (o : Option (List ℕ)) → successor q ≡ o → raise_last x o ≡ Some s
        → ((rest : List ℕ) → successor q ≡ Some rest → (n : ℕ) × (n < length q) × (rest ≡ take n q ++ (get_or q n 0 + 1) ∷ []))
        → (n : ℕ) × (n < length (x ∷ q)) × (s ≡ take n (x ∷ q) ++ (get_or (x ∷ q) n 0 + 1) ∷ [])
    at None e h further = elim (eqb_tells x 255) [
      | inl same ↦ absurd (none_some s (sym (ap (λ b. if b then None else Some ((x + 1) ∷ [])) same.0) ∙ h))
      | inr other ↦ (0, omega arith, sym (some_is ((x + 1) ∷ []) s (sym (ap (λ b. if b then None else Some ((x + 1) ∷ [])) other.0) ∙ h)))
    ]
    at (Some rest) e h further =
        let more = further rest e in
        let low = more.1 in
        (suc more.0, omega (arith, low), sym (some_is (x ∷ rest) s h) ∙ ap (λ zs. x ∷ zs) more.2)

-- so what it begins with and isn't is a proper front of these
pub front_of_next : (q s p : List ℕ) → successor q ≡ Some s → starts_with nat_eq s p ≡ true → is_ge (slice_cmp nat_cmp p s) ≡ false → (length p < length q) × (take (length p) q ≡ p)
front_of_next q s p is begun below =
    let parts = next_parts q s is in
    let begun_is = begins s p begun in
    let low = parts.1 in
    let front : length (take parts.0 q) ≡ parts.0 = length-take-le parts.0 q (omega (arith, low)) in
    let long : length s ≡ parts.0 + 1 = (let one = ap length parts.2 in let two = length_of_front (take parts.0 q) ((get_or q parts.0 0 + 1) ∷ []) in omega (arith, one, two, front)) in
    let shorter : length p < length s = not_all p s begun_is.0 begun_is.1 below in
    let within : length p ≤ parts.0 = omega (arith, shorter, long) in (
      omega (arith, within, low),
      sym (take-take (length p) parts.0 q within)
          ∙ sym (take-append-le (length p) (take parts.0 q) ((get_or q parts.0 0 + 1) ∷ []) (omega (arith, within, front)))
          ∙ ap (take (length p)) (sym parts.2)
          ∙ front_is s p begun,
    )
  where
    not_all : (p s rest : List ℕ) → s ≡ p ++ rest → is_ge (slice_cmp nat_cmp p s) ≡ false → length p < length s
    not_all p s [] is below = absurd (true≢false (sym (at_itself p s (is ∙ append_nothing p)) ∙ below))
      where
        append_nothing : (p : List ℕ) → p ++ [] ≡ p
        append_nothing [] = refl
        append_nothing (x ∷ xs) = ap (λ zs. x ∷ zs) (append_nothing xs)

        take_self : (p : List ℕ) → take (length p) p ≡ p
        take_self [] = refl
        take_self (x ∷ xs) = ap (λ zs. x ∷ zs) (take_self xs)

        at_itself : (p s : List ℕ) → s ≡ p → is_ge (slice_cmp nat_cmp p s) ≡ true
        at_itself p s same = ap (λ z. is_ge (slice_cmp nat_cmp p z)) same ∙ sym (ap (λ z. is_ge (slice_cmp nat_cmp p z)) (take_self p)) ∙ key_at_front p (length p)
    not_all p s (y ∷ ys) is below = let one = ap length is in let two = length_of_front p (y ∷ ys) in omega (arith, one, two)
