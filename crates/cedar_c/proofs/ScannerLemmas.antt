-- What a scanner finds, written into a buffer.
use Rattle.std.proofs.Common.{◌≡◌, ◌⊎◌, inl, inr, ℕ, ◌+◌, ◌-◌, ◌<◌, ◌≤◌, List, [], ◌∷◌, ◌++◌, add-one, drop, get_or, length, length-append, map, set, take, refl, sym, ap, subst, ◌∙◌, arith}
use Rattle.std.proofs.Math.Seq.{drop-cons}
use Rattle.std.proofs.lemmas.Bool.Decides.{leb_tells}
use Rattle.std.proofs.lemmas.List.{append-nil, append_assoc, length-drop, length-map, length-set, length-take-le, map-append, take-set-le, take_more, take_more_set}
use Rattle.cedarwood.specs.Tree.{Tree}
use Rattle.cedar_scan.specs.Resumed.{ending_behind}
use Rattle.cedar_scan.specs.Suffixes.{all_ending, keys_ending, Occurrence, occurrence_ending}
use Rattle.cedar_scan.proofs.BehindLemmas.{behind_end, behind_parts, end_of, EndWithin, front_fits, GoesOn, none_behind, one_parting, within_both, within_last, all_end}
use Rattle.cedar_c.specs.Scans.{found_keyword}
use Rattle.cedar_c.specs.declared.scans.Found.{Found}

-- one more is written
pub spot_told : (xs : List Found) (at : ℕ) (s : Occurrence) (later all : List Occurrence) → at < length xs → all ≡ s ∷ later
    → take (at + 1) (set xs at (found_keyword s)) ++ map found_keyword later ≡ take at xs ++ map found_keyword all
spot_told xs at s later all room is =
    ap (λ t. t ++ map found_keyword later) (take_more_set xs at (found_keyword s) room)
    ∙ append_assoc (take at xs) (found_keyword s ∷ []) (map found_keyword later)
    ∙ ap (λ l. take at xs ++ map found_keyword l) (sym is)

-- ---- keys that don't overlap

-- what is written, and then what is found from a position on, is all that was found from another one on; and that is left
pub record WritesApart (finds : ℕ → List ℕ → List Occurrence) (text : List ℕ) (before next count : ℕ) (found : List Found) (left : List Occurrence) : Type 0 where
  pub told : map found_keyword (finds before text) ≡ take count found ++ map found_keyword (finds next text)
  pub left_is : left ≡ finds next text
  pub within : (count ≤ length found) × (before ≤ next)
  pub ends : (next ≤ length text) ⊎ (next ≡ before)

module _ (finds : ℕ → List ℕ → List Occurrence) (text : List ℕ) (before next count : ℕ) (found : List Found) (left : List Occurrence) (so_far : WritesApart finds text before next count found left) where
  -- a match more
  pub spot_apart : (s : Occurrence) (later : List Occurrence) → left ≡ s ∷ later → count < length found → GoesOn finds next text s later
      → WritesApart finds text before (end_of s) (count + 1) (set found count (found_keyword s)) later
  spot_apart s later is room on =
      let low = so_far.within.1 in
      let behind = on.behind in
      let size = length-set found count (found_keyword s) in
      record {
        told =
            so_far.told
            ∙ sym (spot_told found count s later (finds next text) room (sym so_far.left_is ∙ is))
            ∙ ap (λ l. take (count + 1) (set found count (found_keyword s)) ++ map found_keyword l) on.left;
        left_is = on.left;
        within = (omega (arith, size, room), omega (arith, low, behind));
        ends = inl on.inside;
      }

  -- where one is left, the position is in the text
  pub in_text_apart : (s : Occurrence) (later : List Occurrence) → left ≡ s ∷ later → ((place : ℕ) → length text ≤ place → finds place text ≡ []) → next ≤ length text
  in_text_apart s later is none = elim (leb_tells next (length text)) [
    | inl low ↦ low.1
    | inr high ↦
        let past = high.1 in
        let empty = ap length (sym (none next (omega (arith, past))) ∙ sym so_far.left_is ∙ is) in
        absurd (omega (arith, empty))
  ]

  -- or none is left
  pub none_apart : (last : ℕ) → left ≡ [] → finds last text ≡ [] → map found_keyword (finds before text) ≡ take count found ++ map found_keyword (finds last text)
  none_apart last none end =
      so_far.told ∙ ap (λ l. take count found ++ map found_keyword l) (sym so_far.left_is ∙ none ∙ sym end)

-- ---- all keys, by their ends

-- the first `whole` elements are the keys up to a position. Those behind them are some that end at the next byte, and these are left
pub record WritesEnds (t : Tree) (text : List ℕ) (before next whole count : ℕ) (found : List Found) (left : List Occurrence) : Type 0 where
  pub told : map found_keyword (ending_behind t before text) ≡ take whole found ++ map found_keyword (ending_behind t next text)
  pub done : List Occurrence
  pub rest : ending_behind t next text ≡ done ++ left
  pub at : EndWithin next (next + 1) done
  pub written : take count found ≡ take whole found ++ map found_keyword done
  pub within : (whole ≤ count) × (count ≤ length found) × (before ≤ next)
  pub ends : (next ≤ length text) ⊎ (next ≡ before)

module _ (t : Tree) (text : List ℕ) (before next whole count : ℕ) (found : List Found) (left : List Occurrence) (so_far : WritesEnds t text before next whole count found left) (s : Occurrence) (later : List Occurrence) (is : left ≡ s ∷ later) where
  parts : ending_behind t next text ≡ so_far.done ++ s ∷ later
  parts = so_far.rest ∙ ap (λ l. so_far.done ++ l) is

  -- where a key is left, the position is in the text
  in_text : next ≤ length text
  in_text = elim (leb_tells next (length text)) [
    | inl low ↦ low.1
    | inr high ↦
        let past = high.1 in
        let none = ap length (sym (none_behind t next text (omega (arith, past))) ∙ parts) in
        let both = length-append so_far.done (s ∷ later) in
        absurd (omega (arith, none, both))
  ]

  last_part : EndWithin next (length text) (s ∷ later)
  last_part = within_last next (length text) so_far.done (s ∷ later) (subst (EndWithin next (length text)) parts (behind_end t next text in_text))

  pub end_behind : next < end_of s
  end_behind = last_part.0

  pub end_inside : end_of s ≤ length text
  end_inside = last_part.1

  -- it ends further on than the keys before it: these are whole
  pub moves_on : next + 1 < end_of s → WritesEnds t text before (end_of s - 1) count count found (s ∷ later)
  moves_on far =
      let end = end_of s - 1 in
      let inside = end_inside in
      let low : next ≤ end = omega (arith, far) in
      let within : end ≤ length text = omega (arith, inside) in
      let front = all_ending t (take next text) next (take (end - next) (drop next text)) in
      let up : EndWithin next end so_far.done = ends_before end so_far.done (omega (arith, far)) so_far.at in
      let to : EndWithin next end front = front_ends end low within in
      let whole_is = one_parting end next (length text) so_far.done front s later (ending_behind t end text) (sym parts ∙ behind_parts t next end text low within) up to (omega (arith, far)) (behind_end t end text within) in
      let count_in = so_far.within.1 in
      let order = so_far.within.2 in
      record {
        told =
            so_far.told
            ∙ ap (λ l. take whole found ++ map found_keyword l) parts
            ∙ ap (λ l. take whole found ++ l) (map-append found_keyword so_far.done (s ∷ later))
            ∙ sym (append_assoc (take whole found) (map found_keyword so_far.done) (map found_keyword (s ∷ later)))
            ∙ ap (λ l. l ++ map found_keyword (s ∷ later)) (sym so_far.written)
            ∙ ap (λ l. take count found ++ map found_keyword l) whole_is.1;
        done = [];
        rest = sym whole_is.1;
        at = tt;
        written = sym (append-nil (take count found));
        within = (omega arith, count_in, omega (arith, order, low));
        ends = inl within;
      }
    where
      ends_before : (end : ℕ) (c : List Occurrence) → next + 1 ≤ end → EndWithin next (next + 1) c → EndWithin next end c
      ends_before end [] l all = tt
      ends_before end (x ∷ c) l all = let up = all.1 in (all.0, omega (arith, up, l), ends_before end c l all.2)

      front_ends : (end : ℕ) → next ≤ end → end ≤ length text → EndWithin next end (all_ending t (take next text) next (take (end - next) (drop next text)))
      front_ends end low within =
          let read = length-take-le next text (omega (arith, low, within)) in
          let left = length-drop next text in
          let long = length-take-le (end - next) (drop next text) (omega (arith, left, low, within)) in
          let reached : next + length (take (end - next) (drop next text)) ≡ end = omega (arith, long, low) in
          subst (λ n. EndWithin next n (all_ending t (take next text) next (take (end - next) (drop next text)))) reached (all_end t (take next text) next (take (end - next) (drop next text)) (omega (arith, read)))

  -- the position is moved, if that is so
  pub before_next : (now all : ℕ) → ((next + 1 < end_of s) × (now ≡ end_of s - 1) × (all ≡ count)) ⊎ ((end_of s ≤ next + 1) × (now ≡ next) × (all ≡ whole))
      → WritesEnds t text before now all count found (s ∷ later) × (end_of s ≡ now + 1)
  before_next now all (inl (far, moved, same)) = (subst (λ n. WritesEnds t text before n all count found (s ∷ later)) (sym moved) (subst (λ w. WritesEnds t text before (end_of s - 1) w count found (s ∷ later)) (sym same) (moves_on far)), omega (arith, far, moved))
  before_next now all (inr (near, stays, same)) =
      let behind = end_behind in
      (subst (λ n. WritesEnds t text before n all count found (s ∷ later)) (sym stays) (subst (λ w. WritesEnds t text before next w count found (s ∷ later)) (sym same) (subst (WritesEnds t text before next whole count found) is so_far)), omega (arith, near, stays, behind))

  -- it ends where they do, and is written too
  pub stays_at : end_of s ≡ next + 1 → count < length found → WritesEnds t text before next whole (count + 1) (set found count (found_keyword s)) later
  stays_at here room =
      let count_in = so_far.within.1 in
      let few = so_far.within.0 in
      let behind = end_behind in
      let size = length-set found count (found_keyword s) in
      let kept : take whole (set found count (found_keyword s)) ≡ take whole found = take-set-le whole found count (found_keyword s) few in
      record {
        told = so_far.told ∙ ap (λ l. l ++ map found_keyword (ending_behind t next text)) (sym kept);
        done = so_far.done ++ s ∷ [];
        rest = parts ∙ sym (append_assoc so_far.done (s ∷ []) later);
        at = within_both next (next + 1) so_far.done (s ∷ []) so_far.at (behind, omega (arith, here), tt);
        written =
            take_more_set found count (found_keyword s) room
            ∙ ap (λ l. l ++ found_keyword s ∷ []) so_far.written
            ∙ append_assoc (take whole found) (map found_keyword so_far.done) (found_keyword s ∷ [])
            ∙ ap (λ l. take whole found ++ l) (sym (map-append found_keyword so_far.done (s ∷ [])))
            ∙ ap (λ l. l ++ map found_keyword (so_far.done ++ s ∷ [])) (sym kept);
        within = (omega (arith, few), omega (arith, size, room), so_far.within.2);
        ends = so_far.ends;
      }

  -- where it has no room, more keys than there is room end there
  pub too_many : end_of s ≡ next + 1 → count ≡ length found → length found < whole + length (keys_ending t (take (next + 1) text))
  too_many here full =
      let inside = end_inside in
      let within : next + 1 ≤ length text = omega (arith, inside, here) in
      let byte = take (next + 1 - next) (drop next text) in
      let front = all_ending t (take next text) next byte in
      let behind = end_behind in
      let up : EndWithin next (next + 1) (so_far.done ++ s ∷ []) = within_both next (next + 1) so_far.done (s ∷ []) so_far.at (behind, omega (arith, here), tt) in
      let fits : length (so_far.done ++ s ∷ []) ≤ length front =
      front_fits (next + 1) next (length text) (so_far.done ++ s ∷ []) front later (ending_behind t (next + 1) text)
      (append_assoc so_far.done (s ∷ []) later ∙ sym parts ∙ behind_parts t next (next + 1) text (omega arith) within) up (behind_end t (next + 1) text within) in
      let one = length-append so_far.done (s ∷ []) in
      let told = ap length so_far.written in
      let first = length-append (take whole found) (map found_keyword so_far.done) in
      let mapped = length-map so_far.done found_keyword in
      let few = so_far.within.0 in
      let count_in = so_far.within.1 in
      let kept : length (take whole found) ≡ whole = length-take-le whole found (omega (arith, few, count_in)) in
      let all : length (take count found) ≡ count = length-take-le count found count_in in
      let keys = keys_there within in
      omega (arith, fits, one, told, first, mapped, kept, all, keys, full)
    where
      -- the keys of one byte are those that end there
      keys_there : next + 1 ≤ length text → length (all_ending t (take next text) next (take (next + 1 - next) (drop next text))) ≡ length (keys_ending t (take (next + 1) text))
      keys_there within =
          let one : next + 1 - next ≡ 1 = omega arith in
          let byte = get_or text next 0 in
          let next_is : drop next text ≡ byte ∷ drop (next + 1) text = drop-cons text next 0 (omega (arith, within)) ∙ ap (λ n. byte ∷ drop n text) (sym (add-one next)) in
          let read : take next text ++ byte ∷ [] ≡ take (next + 1) text = sym (take_more text next 0 (omega (arith, within))) in
          ap (λ n. length (all_ending t (take next text) next (take n (drop next text)))) one
          ∙ ap (λ w. length (all_ending t (take next text) next (take 1 w))) next_is
          ∙ ap length (append-nil (map (occurrence_ending (next + 1)) (keys_ending t (take next text ++ byte ∷ []))))
          ∙ length-map (keys_ending t (take next text ++ byte ∷ [])) (occurrence_ending (next + 1))
          ∙ ap (λ w. length (keys_ending t w)) read

-- none is left: all that was found is written
pub none_ending : (t : Tree) (text : List ℕ) (before next whole count last : ℕ) (found : List Found) (left : List Occurrence) → WritesEnds t text before next whole count found left → left ≡ [] → length text ≤ last
    → map found_keyword (ending_behind t before text) ≡ take count found ++ map found_keyword (ending_behind t last text)
none_ending t text before next whole count last found left so_far none past =
    so_far.told
    ∙ ap (λ l. take whole found ++ map found_keyword l) (so_far.rest ∙ ap (λ l. so_far.done ++ l) none ∙ append-nil so_far.done)
    ∙ sym so_far.written ∙ sym (append-nil (take count found))
    ∙ ap (λ l. take count found ++ map found_keyword l) (sym (none_behind t last text past))

-- nothing is written at first
pub begins_ends : (t : Tree) (text : List ℕ) (before : ℕ) (found : List Found) (left : List Occurrence) → left ≡ ending_behind t before text → WritesEnds t text before before 0 0 found left
begins_ends t text before found left is = record {
  told = refl;
  done = [];
  rest = sym is;
  at = tt;
  written = refl;
  within = (omega arith, omega arith, omega arith);
  ends = inr refl;
}

pub begins_apart : (finds : ℕ → List ℕ → List Occurrence) (text : List ℕ) (before : ℕ) (found : List Found) (left : List Occurrence) → left ≡ finds before text → WritesApart finds text before before 0 found left
begins_apart finds text before found left is = record { told = refl; left_is = is; within = (omega arith, omega arith); ends = inr refl }
