-- Searches that go on from a position of a text.
use Rattle.std.proofs.Common.{◌≡◌, ◌⊎◌, inl, inr, ℕ, suc, ◌+◌, ◌-◌, ◌*◌, ◌<◌, ◌≤◌, true, false, List, [], ◌∷◌, ◌++◌, drop, get_or, length, length-append, min, take, refl, sym, ap, subst, ◌∙◌, arith}
use Rattle.std.specs.List.{All, Contains}
use Rattle.std.proofs.Math.Seq.{drop-length, take-suc}
use Rattle.std.proofs.lemmas.Bool.Decides.{leb_tells}
use Rattle.std.proofs.lemmas.List.{drop_all, length-drop, length-take, take-append-drop, take_all}
use Rattle.cedar_tree.specs.Tree.{Tree}
use Rattle.cedar_words.specs.Spots.{keywords_from}
use Rattle.cedar_scan.specs.declared.scan.Cursor.{Cursor}
use Rattle.cedar_scan.specs.declared.state.ListedKey.{ListedKey}
use Rattle.cedar_scan.specs.declared.state.PlacedNode.{PlacedNode}
use Rattle.cedar_scan.specs.declared.state.State.{State}
use Rattle.cedar_scan.specs.Automata.{AreNodes, IsAutomaton, IsListedNode, IsPlacing, IsStepFrom, path_in}
use Rattle.cedar_scan.specs.Earliest.{earliest_from}
use Rattle.cedar_scan.specs.Resumed.{earliest_behind, ending_behind, IsHeight}
use Rattle.cedar_scan.specs.Scans.{all_left, IsCursor, steps_left}
use Rattle.cedar_scan.specs.Suffixes.{all_ending, held_suffix, is_node}
use Rattle.cedar_scan.proofs.LinkLemmas.{listed}
use Rattle.cedar_scan.proofs.PathLemmas.{path_long}
use Rattle.cedar_scan.proofs.ScanLemmas.{none_short}
use Rattle.cedar_scan.proofs.SuffixLemmas.{held_goes_on, held_is_node, held_of_other, held_shorter}

-- ---- a position behind the end is that of the end

pub rest_of : (text : List ℕ) (start : ℕ) → take (length text - start) (drop start text) ≡ drop start text
rest_of text start = let left = length-drop start text in take_all (length text - start) (drop start text) (omega (arith, left))

-- where it makes no difference which position behind the end it is, it is that of the end
pub from_end : {X : Type 0} (f : ℕ → List ℕ → X) → ((p q : ℕ) → f p [] ≡ f q []) → (text : List ℕ) (place start : ℕ) → start ≡ min place (length text) → f start (drop start text) ≡ f place (drop place text)
from_end f same text place start e = elim (leb_tells place (length text)) [
  | inl low ↦ let inside = low.1 in let is : start ≡ place = omega (arith, e, inside) in ap (λ n. f n (drop n text)) is
  | inr high ↦
      let past = high.1 in
      let all : start ≡ length text = omega (arith, e, past) in
      ap (λ n. f n (drop n text)) all ∙ ap (f (length text)) (drop-length text) ∙ same (length text) place ∙ sym (ap (f place) (drop_all place text (omega (arith, past))))
]

pub earliest_start : (t : Tree) (text : List ℕ) (place start : ℕ) → start ≡ min place (length text) → earliest_from t [] start (drop start text) ≡ earliest_behind t place text
earliest_start t = from_end (earliest_from t []) (λ p q. refl)

pub keywords_start : (t : Tree) (text : List ℕ) (place start : ℕ) → start ≡ min place (length text) → keywords_from t start (drop start text) ≡ keywords_from t place (drop place text)
keywords_start t = from_end (keywords_from t) (λ p q. refl)

pub ending_start : (t : Tree) (text : List ℕ) (place start : ℕ) → start ≡ min place (length text) → ending_behind t start text ≡ ending_behind t place text
ending_start t text place start e = elim (leb_tells place (length text)) [
  | inl low ↦ let inside = low.1 in let is : start ≡ place = omega (arith, e, inside) in ap (λ n. ending_behind t n text) is
  | inr high ↦
      let past = high.1 in
      let all : start ≡ length text = omega (arith, e, past) in
      ap (λ n. ending_behind t n text) all ∙ ap (all_ending t (take (length text) text) (length text)) (drop-length text) ∙ sym (ap (all_ending t (take place text) place) (drop_all place text (omega (arith, past))))
]

-- ---- the height of a tree

module _ (t : Tree) (slot_of : List ℕ → ℕ) (p : IsPlacing t slot_of) (nodes : List PlacedNode) (all : AreNodes t slot_of nodes) (height : ℕ) (most : All (λ n. n.depth ≤ height) nodes) where
  reached_by : (w : List ℕ) → is_node t w ≡ true → length w ≤ height
  reached_by [] node = omega arith
  reached_by (b ∷ u) node =
      let l = listed t slot_of p nodes all b u node in
      let low : (get_or nodes l.index l.node).depth ≤ height = most l.index l.node l.inside in
      let same = ap (λ (n : PlacedNode). n.depth) (l.at l.node) in
      let deep = l.depth in
      omega (arith, low, same, deep)

  pub height_is : (height ≡ 0) ⊎ ((n : PlacedNode) × Contains nodes n × (n.depth ≡ height)) → IsHeight t height
  height_is (inl none) = record { most = reached_by; lowest = []; node = refl; reaches = sym none }
  height_is (inr some) =
      let n = some.0 in
      let found = some.1 in
      let is = subst (IsListedNode t slot_of) found.2 (all.each found.0 n found.1) in
      let one = length-append is.path (n.label ∷ []) in
      let deep = is.depth in
      let here = some.2 in
      record { most = reached_by; lowest = is.path ++ n.label ∷ []; node = is.node; reaches = omega (arith, one, deep, here) }

-- no longer path leads to a node
too_long : (t : Tree) (height : ℕ) → IsHeight t height → (w : List ℕ) → height < length w → is_node t w ≡ false
too_long t height h w long =
    (elim (is_node t w) as (λ x. is_node t w ≡ x → x ≡ false) [
      | true ↦ λ node. let low = h.most w node in absurd (omega (arith, low, long))
      | false ↦ λ _. refl
    ]) refl

-- ---- what the last bytes lead to

held_near : (t : Tree) (height : ℕ) → IsHeight t height → (a b : List ℕ) → height ≤ length b → held_suffix t (a ++ b) ≡ held_suffix t b
held_near t height h [] b long = refl
held_near t height h (c ∷ a) b long =
    let both = length-append a b in
    held_of_other t c (a ++ b) (too_long t height h (c ∷ a ++ b) (omega (arith, both, long))) ∙ held_near t height h a b long

-- as many bytes as the longest key has tell the longest suffix that leads to a node
pub held_last_bytes : (t : Tree) (height : ℕ) → IsHeight t height → (read : List ℕ) (first : ℕ) → first ≡ length read - height → held_suffix t (drop first read) ≡ held_suffix t read
held_last_bytes t height h read first e = elim (leb_tells height (length read)) [
  | inl low ↦
      let fits = low.1 in
      let left = length-drop first read in
      sym (held_near t height h (take first read) (drop first read) (omega (arith, left, e, fits))) ∙ ap (held_suffix t) (take-append-drop first read)
  | inr high ↦
      let short = high.1 in
      let none : first ≡ 0 = omega (arith, e, short) in
      ap (λ n. held_suffix t (drop n read)) none
]

module _ (t : Tree) (slot_of : List ℕ → ℕ) (states : List State) (keys : List ListedKey) (h : IsAutomaton t slot_of states keys) where
  -- a step can be taken from the longest suffix of what was read
  pub step_behind : (read : List ℕ) (state : ℕ) → state ≡ slot_of (held_suffix t read) → IsStepFrom t slot_of states state
  step_behind read state at = record {
    placing = h.placing;
    goto = h.goto;
    path = held_suffix t read;
    node = held_is_node t read;
    slot = at;
    links = λ w node short. h.links w node;
  }

  -- one byte more
  pub held_behind : (bytes : List ℕ) (index to : ℕ) → index < length bytes → to ≡ slot_of (held_suffix t (held_suffix t (take index bytes) ++ get_or bytes index 0 ∷ [])) → to ≡ slot_of (held_suffix t (take (index + 1) bytes))
  held_behind bytes index to less e =
      let next : index + 1 ≡ suc index = omega arith in
      e ∙ ap slot_of (sym (held_goes_on t (take index bytes) (get_or bytes index 0)))
      ∙ ap (λ w. slot_of (held_suffix t w)) (sym (take-suc bytes index 0 less) ∙ ap (λ n. take n bytes) (sym next))

  -- ---- a scan that begins behind some bytes

  module _ (text : List ℕ) (place state : ℕ) (within : place ≤ length text) (at : state ≡ slot_of (held_suffix t (take place text))) where
    abbrev pub first : Cursor
    first = record { place = place; state = state; pending = 0 }

    pub cursor_behind : IsCursor t slot_of keys [] text first
    cursor_behind = record { within = within; state = at; pending = h.listed.some; short = none_short (length (held_suffix t (take place text))) keys }

    pub left_behind : all_left t keys [] 0 text first ≡ ending_behind t place text
    left_behind = let begin : 0 + place ≡ place = omega arith in ap (λ n. all_ending t (take place text) n (drop place text)) begin

    long_behind : length (path_in t states state) ≡ length (held_suffix t (take place text))
    long_behind = ap (λ s. length (path_in t states s)) at ∙ path_long t slot_of states h.placing h.goto (held_suffix t (take place text)) (held_is_node t (take place text))

    pub steps_behind : steps_left t states text first ≤ place + 2 * (length text - place)
    steps_behind =
        let long = long_behind in
        let short = held_shorter t (take place text) in
        let most = length-take place text in
        omega (arith, long, short, most)

    -- where no byte was read, no more than two for each are to come
    pub steps_at_first : place ≡ 0 → steps_left t states text first ≡ 2 * length text
    steps_at_first none =
        let long = long_behind in
        let short = held_shorter t (take place text) in
        let most = length-take place text in
        omega (arith, long, short, most, none)
