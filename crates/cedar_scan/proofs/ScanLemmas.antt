-- How a scan goes on, and what it gives.
use Rattle.std.proofs.Common.{◌≡◌, ℕ, suc, ◌+◌, ◌-◌, ◌^◌, ◌<◌, ◌≤◌, ℤ, List, [], ◌∷◌, ◌++◌, add-one, append_assoc, drop, get_or, length, length-append, map, take, refl, sym, ap, subst, ◌∙◌, arith}
use Rattle.std.specs.List.{All}
use Rattle.std.proofs.Math.Seq.{drop-cons, drop-length, take-suc}
use Rattle.std.proofs.lemmas.List.{append-nil, drop-drop, length-drop, length-take}
use Rattle.std.proofs.lemmas.List.Elements.{All-head, All-nil, All-tail}
use Rattle.cedar_tree.specs.Tree.{Tree}
use Rattle.cedar_scan.specs.declared.scan.Cursor.{Cursor}
use Rattle.cedar_scan.specs.declared.scan.FoundKey.{FoundKey}
use Rattle.cedar_scan.specs.declared.state.ListedKey.{ListedKey}
use Rattle.cedar_scan.specs.declared.state.State.{State}
use Rattle.cedar_scan.specs.Automata.{GoesToSuffix, IsAutomaton, IsStepFrom, path_in, state_at, StepsWithin}
use Rattle.cedar_scan.specs.Listed.{listed_at, keys_from}
use Rattle.cedar_scan.specs.Scans.{all_left, CostsStep, GivesFound, IsCursor, IsScanned, last_of, read_of, ReadsByte, TakesFound}
use Rattle.cedar_scan.specs.Suffixes.{all_ending, held_suffix, keys_ending, occurrence_ending}
use Rattle.cedar_scan.proofs.ListedLemmas.{from_key, from_none}
use Rattle.cedar_scan.proofs.PathLemmas.{path_long}
use Rattle.cedar_scan.proofs.SuffixLemmas.{held_goes_on, held_is_node, held_shorter, keys_of_held, keys_short}

-- ---- the last bytes of a text

pub last_whole : (w : List ℕ) → last_of (length w) w ≡ w
last_whole w = let none : length w - length w ≡ 0 = omega arith in ap (λ n. drop n w) none

pub last_behind : (n b : ℕ) (w : List ℕ) → n ≤ length w → last_of n (b ∷ w) ≡ last_of n w
last_behind n b w low = let e : length (b ∷ w) - n ≡ suc (length w - n) = omega (arith, low) in ap (λ k. drop k (b ∷ w)) e

pub last_last : (n m : ℕ) (w : List ℕ) → n ≤ m → m ≤ length w → last_of n (last_of m w) ≡ last_of n w
last_last n m w less low =
    let len = length-drop (length w - m) w in
    let e : (length w - m) + (length (drop (length w - m) w) - n) ≡ length w - n = omega (arith, len, less, low) in
    drop-drop (length (drop (length w - m) w) - n) (length w - m) w ∙ ap (λ k. drop k w) e

take_most : (n : ℕ) (w : List ℕ) → length (take n w) ≤ n
take_most n w = let e = length-take n w in omega (arith, e)

-- ---- a scan

module _ (t : Tree) (slot_of : List ℕ → ℕ) (states : List State) (keys : List ListedKey) (h : IsAutomaton t slot_of states keys) (before piece : List ℕ) (cursor : Cursor) (at : IsCursor t slot_of keys before piece cursor) where
  pub step_from : IsStepFrom t slot_of states cursor.state
  step_from = record {
    placing = h.placing;
    goto = h.goto;
    path = held_suffix t (read_of before piece cursor);
    node = held_is_node t (read_of before piece cursor);
    slot = at.state;
    links = λ w node _. h.links w node;
  }

  pub state_small : (label to : ℕ) → GoesToSuffix t slot_of cursor.state label to → to < 2 ^ 30
  state_small label to steps =
      let u = held_suffix t (read_of before piece cursor) in
      subst (λ s. s < 2 ^ 30) (sym (steps u (held_is_node t (read_of before piece cursor)) at.state)) (h.placing.small (held_suffix t (u ++ label ∷ [])) (held_is_node t (u ++ label ∷ [])))

  pub state_inside : (label to : ℕ) → GoesToSuffix t slot_of cursor.state label to → to < length states
  state_inside label to steps =
      let u = held_suffix t (read_of before piece cursor) in
      subst (λ s. s < length states) (sym (steps u (held_is_node t (read_of before piece cursor)) at.state)) (h.goto.within (held_suffix t (u ++ label ∷ [])) (held_is_node t (u ++ label ∷ [])))

  -- the cost by how long paths are
  pub step_costs : (label to ticks later place pending : ℕ) → GoesToSuffix t slot_of cursor.state label to → StepsWithin t slot_of cursor.state label ticks later
      → CostsStep t states cursor (record { place = place; state = to; pending = pending }) ticks later
  step_costs label to ticks later place pending steps cost =
      let u = held_suffix t (read_of before piece cursor) in
      let node = held_is_node t (read_of before piece cursor) in
      let less = cost u node at.state in
      let here : length (path_in t states cursor.state) ≡ length u = ap (λ s. length (path_in t states s)) at.state ∙ path_long t slot_of states h.placing h.goto u node in
      let next : length (path_in t states to) ≡ length (held_suffix t (u ++ label ∷ [])) =
      ap (λ s. length (path_in t states s)) (steps u node at.state) ∙ path_long t slot_of states h.placing h.goto (held_suffix t (u ++ label ∷ [])) (held_is_node t (u ++ label ∷ [])) in
      omega (arith, less, here, next)

  -- a byte more
  module _ (inside : cursor.place < length piece) (none : cursor.pending ≡ 0) (to : ℕ) (steps : GoesToSuffix t slot_of cursor.state (get_or piece cursor.place 0) to) (offset : ℕ) where
    pub advances : ReadsByte t slot_of keys before offset piece cursor (record { place = cursor.place + 1; state = to; pending = (state_at states to).output })
    advances =
        let b = get_or piece cursor.place 0 in
        let so_far = read_of before piece cursor in
        let next : Cursor = record { place = cursor.place + 1; state = to; pending = (state_at states to).output } in
        let read = read_of before piece next in
        let longer : read ≡ so_far ++ b ∷ [] =
        ap (λ n. before ++ take n piece) (add-one cursor.place) ∙ ap (λ w. before ++ w) (take-suc piece cursor.place 0 inside) ∙ sym (append_assoc before (take cursor.place piece) (b ∷ [])) in
        let u = held_suffix t so_far in
        let held : held_suffix t (u ++ b ∷ []) ≡ held_suffix t read = sym (held_goes_on t so_far b) ∙ ap (held_suffix t) (sym longer) in
        let there : to ≡ slot_of (held_suffix t read) = steps u (held_is_node t so_far) at.state ∙ ap slot_of held in
        let output = h.outputs (held_suffix t read) (held_is_node t read) in
        let gives : keys_from keys next.pending ≡ keys_ending t (held_suffix t read) = ap (λ s. keys_from keys (state_at states s).output) there ∙ output.gives in
        let ending : keys_from keys next.pending ≡ keys_ending t read = gives ∙ sym (keys_of_held t read) in
        let rest : drop cursor.place piece ≡ b ∷ drop (cursor.place + 1) piece = drop-cons piece cursor.place 0 inside ∙ ap (λ n. b ∷ drop n piece) (sym (add-one cursor.place)) in
        let end : offset + cursor.place + 1 ≡ offset + (cursor.place + 1) = omega arith in
        record {
          cursor = record {
            within = omega (arith, inside);
            state = there;
            pending = subst (λ s. (state_at states s).output < length keys) (sym there) output.inside;
            short = subst (λ (ks : List (ℤ × ℕ)). All (λ (found : ℤ × ℕ). found.1 ≤ length (held_suffix t read)) ks) (sym gives) (keys_short t (held_suffix t read));
          };
          place = refl;
          ending = ending;
          spots =
              ap (λ (ks : List (ℤ × ℕ)). map (occurrence_ending (offset + cursor.place)) ks ++ all_ending t so_far (offset + cursor.place) (drop cursor.place piece)) (from_none keys cursor.pending none)
              ∙ ap (λ w. all_ending t so_far (offset + cursor.place) w) rest
              ∙ ap (λ n. map (occurrence_ending n) (keys_ending t (so_far ++ b ∷ [])) ++ all_ending t (so_far ++ b ∷ []) n (drop (cursor.place + 1) piece)) end
              ∙ ap (λ w. map (occurrence_ending (offset + (cursor.place + 1))) (keys_ending t w) ++ all_ending t w (offset + (cursor.place + 1)) (drop (cursor.place + 1) piece)) (sym longer)
              ∙ ap (λ (ks : List (ℤ × ℕ)). map (occurrence_ending (offset + (cursor.place + 1))) ks ++ all_ending t read (offset + (cursor.place + 1)) (drop (cursor.place + 1) piece)) (sym ending);
        }

  -- a key that is given
  module _ (some : cursor.pending ≡ 0 → ⊥) (offset : ℕ) (found : FoundKey) (next : Cursor) (len : found.len ≡ (listed_at keys cursor.pending).len) (value : found.value ≡ (listed_at keys cursor.pending).value)
      (place : next.place ≡ cursor.place) (state : next.state ≡ cursor.state) (pending : next.pending ≡ (listed_at keys cursor.pending).next) where
    same_read : read_of before piece next ≡ read_of before piece cursor
    same_read = ap (λ n. before ++ take n piece) place

    goes_on : keys_from keys cursor.pending ≡ (found.value, found.len) ∷ keys_from keys next.pending
    goes_on =
        let low = at.pending in
        from_key keys h.listed cursor.pending (omega (arith, some)) low
        ∙ ap (λ (v : ℤ). (v, (listed_at keys cursor.pending).len) ∷ keys_from keys (listed_at keys cursor.pending).next) (sym value)
        ∙ ap (λ (n : ℕ). (found.value, n) ∷ keys_from keys (listed_at keys cursor.pending).next) (sym len)
        ∙ ap (λ k. (found.value, found.len) ∷ keys_from keys k) (sym pending)

    all_short : All (λ (x : ℤ × ℕ). x.1 ≤ length (held_suffix t (read_of before piece cursor))) ((found.value, found.len) ∷ keys_from keys next.pending)
    all_short = subst (λ (ks : List (ℤ × ℕ)). All (λ (x : ℤ × ℕ). x.1 ≤ length (held_suffix t (read_of before piece cursor))) ks) goes_on at.short

    pub gives : TakesFound t slot_of keys before offset piece cursor found next
    gives =
        let so_far = read_of before piece cursor in
        let low = at.pending in
        let down = h.listed.down cursor.pending (omega (arith, some)) low in
        let few : found.len ≤ length (held_suffix t so_far) = All-head (λ (x : ℤ × ℕ). x.1 ≤ length (held_suffix t so_far)) (found.value, found.len) (keys_from keys next.pending) all_short in
        let held = held_shorter t so_far in
        let both = length-append before (take cursor.place piece) in
        let most = take_most cursor.place piece in
        record {
          gives = record {
            cursor = record {
              within = subst (λ n. n ≤ length piece) (sym place) at.within;
              state = state ∙ at.state ∙ ap (λ w. slot_of (held_suffix t w)) (sym same_read);
              pending = omega (arith, pending, down, low);
              short = subst (λ w. All (λ (x : ℤ × ℕ). x.1 ≤ length (held_suffix t w)) (keys_from keys next.pending)) (sym same_read)
                  (All-tail (λ (x : ℤ × ℕ). x.1 ≤ length (held_suffix t so_far)) (found.value, found.len) (keys_from keys next.pending) all_short);
            };
            within = omega (arith, few, held, both, most, place);
            spots =
                ap (λ (ks : List (ℤ × ℕ)). map (occurrence_ending (offset + cursor.place)) ks ++ all_ending t so_far (offset + cursor.place) (drop cursor.place piece)) goes_on
                ∙ ap (λ n. (offset + n - found.len, found.len, found.value) ∷ (map (occurrence_ending (offset + n)) (keys_from keys next.pending) ++ all_ending t (before ++ take n piece) (offset + n) (drop n piece))) (sym place);
          };
          ending = goes_on;
        }

-- ---- the end of a piece

nothing_left : (n : ℕ) (w : List ℕ) → n ≡ length w → drop n w ≡ []
nothing_left n w e = ap (λ k. drop k w) e ∙ drop-length w

pub scanned : (t : Tree) (slot_of : List ℕ → ℕ) (keys : List ListedKey) (before : List ℕ) (offset : ℕ) (piece : List ℕ) (old new : Cursor) → IsCursor t slot_of keys before piece new
    → all_left t keys before offset piece old ≡ all_left t keys before offset piece new → new.pending ≡ 0 → new.place ≡ length piece → IsScanned t slot_of keys before offset piece old new
scanned t slot_of keys before offset piece old new at same none all =
    let read = read_of before piece new in
    let gone : all_left t keys before offset piece new ≡ [] =
    ap (λ (ks : List (ℤ × ℕ)). map (occurrence_ending (offset + new.place)) ks ++ all_ending t read (offset + new.place) (drop new.place piece)) (from_none keys new.pending none)
    ∙ ap (λ w. all_ending t read (offset + new.place) w) (nothing_left new.place piece all) in
    record { cursor = at; place = all; pending = none; spots = same ∙ gone; later = gone }

-- what was given comes first of all that was left at the beginning
pub given_first : (t : Tree) (slot_of : List ℕ → ℕ) (keys : List ListedKey) (before : List ℕ) (offset : ℕ) (piece : List ℕ) (old now : Cursor) (found : FoundKey) (new : Cursor)
    → all_left t keys before offset piece old ≡ all_left t keys before offset piece now → GivesFound t slot_of keys before offset piece now found new → GivesFound t slot_of keys before offset piece old found new
given_first t slot_of keys before offset piece old now found new same gives = record { cursor = gives.cursor; within = gives.within; spots = same ∙ gives.spots }

-- ---- where a scan begins

-- no key is still to be given there
pub none_short : (n : ℕ) (keys : List ListedKey) → All (λ (found : ℤ × ℕ). found.1 ≤ n) (keys_from keys 0)
none_short n keys = All-nil (λ (found : ℤ × ℕ). found.1 ≤ n)

-- before a piece that comes after some bytes
pub begins : (t : Tree) (slot_of : List ℕ → ℕ) (states : List State) (keys : List ListedKey) → IsAutomaton t slot_of states keys → (before piece : List ℕ) (state : ℕ) → state ≡ slot_of (held_suffix t before)
    → IsCursor t slot_of keys before piece (record { place = 0; state = state; pending = 0 })
begins t slot_of states keys h before piece state at =
    let cursor : Cursor = record { place = 0; state = state; pending = 0 } in
    let read : read_of before piece cursor ≡ before = append-nil before in
    record {
      within = omega arith;
      state = at ∙ ap (λ w. slot_of (held_suffix t w)) (sym read);
      pending = h.listed.some;
      short = none_short (length (held_suffix t (read_of before piece cursor))) keys;
    }
