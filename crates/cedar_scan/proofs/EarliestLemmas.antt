-- The key that ends first.
use Rattle.std.proofs.Common.{◌≡◌, ℕ, ◌+◌, ◌-◌, ◌*◌, ◌<◌, ◌≤◌, ℤ, List, [], ◌∷◌, ◌++◌, add-one, cond, drop, get_or, length, take, is_some, option_map, refl, sym, ap, ◌∙◌, arith}
use Rattle.std.specs.List.{cons_option}
use Rattle.std.proofs.Math.Seq.{drop-cons, take-suc}
use Rattle.std.proofs.lemmas.List.{drop_all}
use Rattle.cedar_tree.specs.Tree.{Tree}
use Rattle.cedar_scan.specs.declared.scan.Cursor.{Cursor}
use Rattle.cedar_scan.specs.declared.scan.FoundKey.{FoundKey}
use Rattle.cedar_scan.specs.declared.state.ListedKey.{ListedKey}
use Rattle.cedar_scan.specs.declared.state.State.{State}
use Rattle.cedar_scan.specs.Automata.{IsAutomaton, path_in}
use Rattle.cedar_scan.specs.Earliest.{earliest_from, EndsFirst, first_key}
use Rattle.cedar_scan.specs.Scans.{ReadsByte, IsCursor, TakesFound}
use Rattle.cedar_scan.specs.Suffixes.{keys_ending, occurrence_ending}
use Rattle.cedar_scan.proofs.ListedLemmas.{from_none}
use Rattle.cedar_scan.proofs.PathLemmas.{root_path}
use Rattle.cedar_scan.proofs.ScanLemmas.{begins}

-- no key has ended so far
pub record NoneYet (t : Tree) (slot_of : List ℕ → ℕ) (states : List State) (keys : List ListedKey) (text : List ℕ) (before : ℕ) (at : Cursor) (now : ℕ) : Type 0 where
  pub cursor : IsCursor t slot_of keys [] text at
  pub pending : at.pending ≡ 0
  pub spots : (offset : ℕ) → earliest_from t [] offset text ≡ earliest_from t (take at.place text) (offset + at.place) (drop at.place text)
  pub cost : now + length (path_in t states at.state) ≤ before + 2 * at.place

module _ (t : Tree) (slot_of : List ℕ → ℕ) (states : List State) (keys : List ListedKey) (h : IsAutomaton t slot_of states keys) (text : List ℕ) (before : ℕ) where
  pub none_at_first : NoneYet t slot_of states keys text before (record { place = 0; state = 0; pending = 0 }) before
  none_at_first = record {
    cursor = begins t slot_of states keys h [] text 0 (sym h.placing.root);
    pending = refl;
    spots = λ offset. let begin : offset ≡ offset + 0 = omega arith in ap (λ n. earliest_from t [] n text) begin;
    cost = let none = ap length (root_path t states) in omega (arith, none);
  }

  -- with one byte more, what is left is this
  next_byte : (cursor : Cursor) (now : ℕ) → NoneYet t slot_of states keys text before cursor now → cursor.place < length text → (place : ℕ) → place ≡ cursor.place + 1 → (offset : ℕ)
      → earliest_from t [] offset text
      ≡ cons_option (option_map (occurrence_ending (offset + place)) (first_key (keys_ending t (take place text)))) (earliest_from t (cond (is_some (first_key (keys_ending t (take place text)))) [] (take place text)) (offset + place) (drop place text))
  next_byte cursor now so_far less place is offset =
      let b = get_or text cursor.place 0 in
      let rest : drop cursor.place text ≡ b ∷ drop place text = drop-cons text cursor.place 0 less ∙ ap (λ n. b ∷ drop n text) (sym (is ∙ add-one cursor.place)) in
      let read : take cursor.place text ++ b ∷ [] ≡ take place text = sym (take-suc text cursor.place 0 less) ∙ ap (λ n. take n text) (sym (is ∙ add-one cursor.place)) in
      let end : offset + cursor.place + 1 ≡ offset + place = omega (arith, is) in
      so_far.spots offset
      ∙ ap (λ w. earliest_from t (take cursor.place text) (offset + cursor.place) w) rest
      ∙ ap (λ n. cons_option (option_map (occurrence_ending n) (first_key (keys_ending t (take cursor.place text ++ b ∷ [])))) (earliest_from t (cond (is_some (first_key (keys_ending t (take cursor.place text ++ b ∷ [])))) [] (take cursor.place text ++ b ∷ [])) n (drop place text))) end
      ∙ ap (λ w. cons_option (option_map (occurrence_ending (offset + place)) (first_key (keys_ending t w))) (earliest_from t (cond (is_some (first_key (keys_ending t w))) [] w) (offset + place) (drop place text))) read

  module _ (cursor : Cursor) (now : ℕ) (so_far : NoneYet t slot_of states keys text before cursor now) (less : cursor.place < length text) (next : Cursor) (step : (offset : ℕ) → ReadsByte t slot_of keys [] offset text cursor next) where
    -- none has ended by then either
    pub none_more : next.pending ≡ 0 → (later : ℕ) → later + length (path_in t states next.state) ≤ now + length (path_in t states cursor.state) + 2 → NoneYet t slot_of states keys text before next later
    none_more none later cost =
        let at = (step 0).cursor in
        let place = (step 0).place in
        let empty : keys_ending t (take next.place text) ≡ [] = sym (step 0).ending ∙ from_none keys next.pending none in
        let old = so_far.cost in
        record {
          cursor = at;
          pending = none;
          spots = λ offset.
              next_byte cursor now so_far less next.place place offset
              ∙ ap (λ (ks : List (ℤ × ℕ)). cons_option (option_map (occurrence_ending (offset + next.place)) (first_key ks)) (earliest_from t (cond (is_some (first_key ks)) [] (take next.place text)) (offset + next.place) (drop next.place text))) empty;
          cost = omega (arith, cost, old, place);
        }

    -- or one ends there
    pub one_ends : (found : FoundKey) (last : Cursor) → TakesFound t slot_of keys [] 0 text next found last → last.place ≡ next.place → (offset : ℕ) → EndsFirst t offset text found last.place
    one_ends found last takes same offset =
        let place = (step 0).place in
        let ending = sym (step 0).ending ∙ takes.ending in
        let within = takes.gives.within in
        record {
          within = omega (arith, same, place, less);
          short = omega (arith, within);
          spots =
              next_byte cursor now so_far less next.place place offset
              ∙ ap (λ (ks : List (ℤ × ℕ)). cons_option (option_map (occurrence_ending (offset + next.place)) (first_key ks)) (earliest_from t (cond (is_some (first_key ks)) [] (take next.place text)) (offset + next.place) (drop next.place text))) ending
              ∙ ap (λ n. (offset + n - found.len, found.len, found.value) ∷ earliest_from t [] (offset + n) (drop n text)) (sym same);
        }

  -- or none at all
  pub none_ends : (cursor : Cursor) (now : ℕ) → NoneYet t slot_of states keys text before cursor now → length text ≤ cursor.place → (offset : ℕ) → earliest_from t [] offset text ≡ []
  none_ends cursor now so_far past offset =
      so_far.spots offset ∙ ap (λ w. earliest_from t (take cursor.place text) (offset + cursor.place) w) (drop_all cursor.place text past)
