-- A scan over pieces of a text.
use Rattle.std.proofs.Common.{◌≡◌, ℕ, ◌+◌, ◌-◌, ◌≤◌, true, false, cond, ℤ, List, [], ◌∷◌, ◌++◌, append_assoc, drop, inl, inr, length, length-append, map, min, take, Option, Some, None, is_some, refl, sym, ap, subst, ◌∙◌, arith}
use Rattle.std.specs.List.{All}
use Rattle.std.proofs.lemmas.Bool.{true≢false}
use Rattle.std.proofs.lemmas.Bool.Decides.{leb_tells}
use Rattle.std.proofs.Math.Seq.{drop-length}
use Rattle.std.proofs.lemmas.List.{append-nil, drop-drop, drop_all, length-drop, length-take, take-append-drop, take_all}
use Rattle.cedar_tree.specs.Tree.{Tree}
use Rattle.cedar_scan.specs.declared.scan.Cursor.{Cursor}
use Rattle.cedar_scan.specs.declared.scan.FoundKey.{FoundKey}
use Rattle.cedar_scan.specs.declared.state.ListedKey.{ListedKey}
use Rattle.cedar_scan.specs.declared.state.State.{State}
use Rattle.cedar_scan.specs.Automata.{IsAutomaton, path_in}
use Rattle.cedar_scan.specs.Listed.{keys_from}
use Rattle.cedar_scan.specs.Scans.{CostsNext, GivesFound, GivesNext, IsCursor, IsScanned, last_of, read_of, all_left}
use Rattle.cedar_scan.specs.Streams.{CostsInPiece, EndsPiece, GivesInPiece, IsStream, left_in, StreamAt}
use Rattle.cedar_scan.specs.Suffixes.{held_suffix, is_node, keys_ending, Occurrence, occurrence_ending, all_ending}
use Rattle.cedar_scan.proofs.ListedLemmas.{from_none}
use Rattle.cedar_scan.proofs.PathLemmas.{path_is, root_path}
use Rattle.cedar_scan.proofs.SuffixLemmas.{held_goes_on, held_is_node, held_of_node, held_shorter, spots_of_held}
use Rattle.cedar_scan.proofs.ScanLemmas.{last_behind, last_whole, none_short}

-- ---- pieces of a text

held_of_both : (t : Tree) (w p : List ℕ) → held_suffix t (w ++ p) ≡ held_suffix t (held_suffix t w ++ p)
held_of_both t w [] = ap (held_suffix t) (append-nil w) ∙ sym (held_of_node t (held_suffix t w) (held_is_node t w)) ∙ ap (held_suffix t) (sym (append-nil (held_suffix t w)))
held_of_both t w (b ∷ p) =
    ap (held_suffix t) (sym (append_assoc w (b ∷ []) p))
    ∙ held_of_both t (w ++ b ∷ []) p
    ∙ ap (λ u. held_suffix t (u ++ p)) (held_goes_on t w b)
    ∙ sym (held_of_both t (held_suffix t w ++ b ∷ []) p)
    ∙ ap (held_suffix t) (append_assoc (held_suffix t w) (b ∷ []) p)

-- what is found in two pieces, one after the other, is what is found in both as one
pub join_pieces : (t : Tree) (p q read : List ℕ) (place : ℕ) → all_ending t read place (p ++ q) ≡ all_ending t read place p ++ all_ending t (held_suffix t (read ++ p)) (place + length p) q
join_pieces t [] q read place =
    spots_of_held t read place q
    ∙ ap (λ w. all_ending t (held_suffix t w) place q) (sym (append-nil read))
    ∙ (let e : place ≡ place + 0 = omega arith in ap (λ n. all_ending t (held_suffix t (read ++ [])) n q) e)
join_pieces t (b ∷ p) q read place =
    let next : place + 1 + length p ≡ place + length (b ∷ p) = omega arith in
    ap (λ (x : List Occurrence). map (occurrence_ending (place + 1)) (keys_ending t (read ++ b ∷ [])) ++ x) (join_pieces t p q (read ++ b ∷ []) (place + 1))
    ∙ sym (append_assoc (map (occurrence_ending (place + 1)) (keys_ending t (read ++ b ∷ []))) (all_ending t (read ++ b ∷ []) (place + 1) p) (all_ending t (held_suffix t ((read ++ b ∷ []) ++ p)) (place + 1 + length p) q))
    ∙ ap (λ w. all_ending t read place (b ∷ p) ++ all_ending t (held_suffix t w) (place + 1 + length p) q) (append_assoc read (b ∷ []) p)
    ∙ ap (λ n. all_ending t read place (b ∷ p) ++ all_ending t (held_suffix t (read ++ b ∷ p)) n q) next

-- ---- suffixes

pub held_last : (t : Tree) (w : List ℕ) → last_of (length (held_suffix t w)) w ≡ held_suffix t w
held_last t [] = refl
held_last t (b ∷ w) =
    (elim (is_node t (b ∷ w)) as (λ x. last_of (length (cond x (b ∷ w) (held_suffix t w))) (b ∷ w) ≡ cond x (b ∷ w) (held_suffix t w)) [
      | true ↦ last_whole (b ∷ w)
      | false ↦ last_behind (length (held_suffix t w)) b w (held_shorter t w) ∙ held_last t w
    ])

-- no suffix that leads to a node is longer
pub held_longest : (t : Tree) (w : List ℕ) (n : ℕ) → n ≤ length w → is_node t (last_of n w) ≡ true → n ≤ length (held_suffix t w)
held_longest t [] n low node = low
held_longest t (b ∷ w) n low node =
    (elim (is_node t (b ∷ w)) as (λ x. is_node t (b ∷ w) ≡ x → n ≤ length (cond x (b ∷ w) (held_suffix t w))) [
      | true ↦ λ _. low
      | false ↦ λ e. elim (leb_tells n (length w)) [
        | inl short ↦ held_longest t w n short.1 (ap (is_node t) (sym (last_behind n b w short.1)) ∙ node)
        | inr long ↦
            let above = long.1 in
            let all : n ≡ length (b ∷ w) = omega (arith, low, above) in
            absurd (true≢false (sym node ∙ ap (is_node t) (ap (λ m. last_of m (b ∷ w)) all ∙ last_whole (b ∷ w)) ∙ e))
      ]
    ]) refl

-- ---- between two keys

module _ (t : Tree) (slot_of : List ℕ → ℕ) (states : List State) (keys : List ListedKey) (slot waiting place : ℕ) (is : IsStream t slot_of states keys slot waiting place) where
  path_at : (s : ℕ) (w : List ℕ) → is_node t w ≡ true → s ≡ slot_of w → path_in t states s ≡ w
  path_at s w node at = ap (path_in t states) at ∙ path_is t slot_of states is.automaton.placing is.automaton.goto w node

  -- a scan of the rest of a piece begins there
  pub stream_cursor : (rest : List ℕ) → IsCursor t slot_of keys is.suffix rest (record { place = 0; state = slot; pending = waiting })
  stream_cursor rest =
      let cursor : Cursor = record { place = 0; state = slot; pending = waiting } in
      let held : held_suffix t (read_of is.suffix rest cursor) ≡ is.suffix = ap (held_suffix t) (append-nil is.suffix) ∙ held_of_node t is.suffix is.node in
      record {
        within = omega arith;
        state = is.at ∙ ap slot_of (sym held);
        pending = is.pending;
        short = subst (λ w. All (λ (found : ℤ × ℕ). found.1 ≤ length w) (keys_from keys waiting)) (sym held) is.short;
      }

  suffix_is : path_in t states slot ≡ is.suffix
  suffix_is = path_at slot is.suffix is.node is.at

  -- what is left in a piece is what is left of its rest
  left_is : (rest : List ℕ) → map (occurrence_ending place) (keys_from keys waiting) ++ all_ending t (path_in t states slot) place rest ≡ all_left t keys is.suffix place rest (record { place = 0; state = slot; pending = waiting })
  left_is rest =
      let begin : place ≡ place + 0 = omega arith in
      ap (λ w. map (occurrence_ending place) (keys_from keys waiting) ++ all_ending t w place rest) (suffix_is ∙ sym (append-nil is.suffix))
      ∙ ap (λ n. map (occurrence_ending n) (keys_from keys waiting) ++ all_ending t (is.suffix ++ []) n rest) begin

  -- ---- after some bytes of the rest of a piece

  module _ (rest : List ℕ) (cursor : Cursor) (at : IsCursor t slot_of keys is.suffix rest cursor) where
    read_long : length (read_of is.suffix rest cursor) ≤ length is.suffix + cursor.place
    read_long =
        let both = length-append is.suffix (take cursor.place rest) in
        let most = length-take cursor.place rest in
        omega (arith, both, most)

    stream_after : (later : ℕ) → later ≡ place + cursor.place → IsStream t slot_of states keys cursor.state cursor.pending later
    stream_after later e =
        let read = read_of is.suffix rest cursor in
        let inside = held_shorter t read in
        let below = is.within in
        let whole = read_long in
        record {
          automaton = is.automaton;
          suffix = held_suffix t read;
          node = held_is_node t read;
          at = at.state;
          pending = at.pending;
          short = at.short;
          within = omega (arith, inside, whole, below, e);
        }

    suffix_after : path_in t states cursor.state ≡ held_suffix t (read_of is.suffix rest cursor)
    suffix_after = path_at cursor.state (held_suffix t (read_of is.suffix rest cursor)) (held_is_node t (read_of is.suffix rest cursor)) at.state

    -- what is left then
    left_after : (later : ℕ) → later ≡ place + cursor.place → (behind : List ℕ) → behind ≡ drop cursor.place rest
        → map (occurrence_ending later) (keys_from keys cursor.pending) ++ all_ending t (path_in t states cursor.state) later behind ≡ all_left t keys is.suffix place rest cursor
    left_after later e behind rest_is =
        let read = read_of is.suffix rest cursor in
        ap (λ (x : List Occurrence). map (occurrence_ending later) (keys_from keys cursor.pending) ++ x)
        (ap (λ w. all_ending t w later behind) suffix_after ∙ sym (spots_of_held t read later behind) ∙ ap (λ w. all_ending t read later w) rest_is)
        ∙ ap (λ n. map (occurrence_ending n) (keys_from keys cursor.pending) ++ all_ending t read n (drop cursor.place rest)) e

    -- and the suffix once the piece has been read
    held_after : held_suffix t (path_in t states cursor.state ++ drop cursor.place rest) ≡ held_suffix t (path_in t states slot ++ rest)
    held_after =
        let read = read_of is.suffix rest cursor in
        ap (λ w. held_suffix t (w ++ drop cursor.place rest)) suffix_after
        ∙ sym (held_of_both t read (drop cursor.place rest))
        ∙ ap (held_suffix t) (append_assoc is.suffix (take cursor.place rest) (drop cursor.place rest) ∙ ap (λ w. is.suffix ++ w) (take-append-drop cursor.place rest))
        ∙ ap (λ w. held_suffix t (w ++ rest)) (sym suffix_is)

-- before the first byte
pub stream_begins : (t : Tree) (slot_of : List ℕ → ℕ) (states : List State) (keys : List ListedKey) → IsAutomaton t slot_of states keys → IsStream t slot_of states keys 0 0 0
stream_begins t slot_of states keys h = record {
  automaton = h;
  suffix = [];
  node = refl;
  at = sym h.placing.root;
  pending = h.listed.some;
  short = none_short 0 keys;
  within = omega arith;
}

-- ---- a call

-- what a caller sees of it
abbrev pub seen : Tree → List State → List ListedKey → ℕ → ℕ → ℕ → ℕ → StreamAt
seen t states keys slot waiting read place = record { tree = t; suffix = path_in t states slot; pending = keys_from keys waiting; read = read; place = place }

abbrev at_first : Tree → List ℕ → StreamAt
at_first t w = record { tree = t; suffix = w; pending = []; read = 0; place = 0 }

-- nothing is seen of it before the first byte
pub seen_first : (t : Tree) (states : List State) (keys : List ListedKey) → seen t states keys 0 0 0 0 ≡ record { tree = t; suffix = []; pending = []; read = 0; place = 0 }
seen_first t states keys = ap (at_first t) (root_path t states)

rest_is : (piece : List ℕ) (read from : ℕ) → from ≡ min read (length piece) → drop from piece ≡ drop read piece
rest_is piece read from e = elim (leb_tells read (length piece)) [
  | inl low ↦ let inside = low.1 in let same : from ≡ read = omega (arith, e, inside) in ap (λ n. drop n piece) same
  | inr high ↦
      let past = high.1 in
      let all : from ≡ length piece = omega (arith, e, past) in
      ap (λ n. drop n piece) all ∙ drop-length piece ∙ sym (drop_all read piece (omega (arith, past)))
]

module _ (t : Tree) (slot_of : List ℕ → ℕ) (states : List State) (keys : List ListedKey) (slot waiting place : ℕ) (is : IsStream t slot_of states keys slot waiting place) (piece : List ℕ) (read from : ℕ) (e : from ≡ min read (length piece)) (rest : List ℕ) (is_rest : rest ≡ drop from piece) where
  rest_seen : rest ≡ drop read piece
  rest_seen = is_rest ∙ rest_is piece read from e

  rest_long : length rest ≡ length piece - read
  rest_long = ap length rest_seen ∙ length-drop read piece

  left_seen : left_in (seen t states keys slot waiting read place) piece ≡ all_left t keys is.suffix place rest (record { place = 0; state = slot; pending = waiting })
  left_seen =
      ap (λ w. map (occurrence_ending place) (keys_from keys waiting) ++ all_ending t (path_in t states slot) place w) (sym rest_seen)
      ∙ left_is t slot_of states keys slot waiting place is rest

  module _ (cursor : Cursor) (later : ℕ) (place_is : later ≡ place + cursor.place) (next : Option FoundKey) (gives : GivesNext t slot_of keys is.suffix place rest (record { place = 0; state = slot; pending = waiting }) next cursor) where
    -- where the call ends
    cursor_after : IsCursor t slot_of keys is.suffix rest cursor
    cursor_after = by_next next gives
      where
        by_next : (o : Option FoundKey) → GivesNext t slot_of keys is.suffix place rest (record { place = 0; state = slot; pending = waiting }) o cursor → IsCursor t slot_of keys is.suffix rest cursor
        by_next None end = end.cursor
        by_next (Some found) more = more.cursor

    pub goes_on : IsStream t slot_of states keys cursor.state cursor.pending later
    goes_on = stream_after t slot_of states keys slot waiting place is rest cursor cursor_after later place_is

    pub within_piece : from + cursor.place ≤ length piece
    within_piece = let within = cursor_after.within in let long = rest_long in omega (arith, within, long, e)

    pub ends_piece : next ≡ None → (at : StreamAt) → seen t states keys slot waiting read place ≡ at → EndsPiece piece at (seen t states keys cursor.state cursor.pending 0 later)
    ends_piece none at same =
        let long = rest_long in
        let end : IsScanned t slot_of keys is.suffix place rest (record { place = 0; state = slot; pending = waiting }) cursor =
        subst (λ (o : Option FoundKey). GivesNext t slot_of keys is.suffix place rest (record { place = 0; state = slot; pending = waiting }) o cursor) none gives in
        let all = end.place in
        subst (λ (w : StreamAt). EndsPiece piece w (seen t states keys cursor.state cursor.pending 0 later)) same (record {
          left = left_seen ∙ end.spots;
          tree = refl;
          suffix =
              suffix_after t slot_of states keys slot waiting place is rest cursor end.cursor
              ∙ ap (λ w. held_suffix t (is.suffix ++ w)) (take_all cursor.place rest (omega (arith, all)) ∙ rest_seen)
              ∙ ap (λ w. held_suffix t (w ++ drop read piece)) (sym (suffix_is t slot_of states keys slot waiting place is));
          pending = from_none keys cursor.pending end.pending;
          read = refl;
          place = omega (arith, place_is, all, long);
        })

    module _ (found : FoundKey) (some : next ≡ Some found) where
      found_gives : GivesFound t slot_of keys is.suffix place rest (record { place = 0; state = slot; pending = waiting }) found cursor
      found_gives = subst (λ (o : Option FoundKey). GivesNext t slot_of keys is.suffix place rest (record { place = 0; state = slot; pending = waiting }) o cursor) some gives

      pub found_short : found.len ≤ later
      found_short = let within = found_gives.within in let short = is.within in omega (arith, within, short, place_is)

      pub gives_in_piece : (to : ℕ) → to ≡ from + cursor.place → (v : ℤ) → v ≡ found.value → (at : StreamAt) → seen t states keys slot waiting read place ≡ at
          → GivesInPiece piece at (later - found.len, found.len, v) (seen t states keys cursor.state cursor.pending to later)
      gives_in_piece to to_is v v_is at same =
          let long = rest_long in
          let within = found_gives.cursor.within in
          let behind : drop to piece ≡ drop cursor.place rest = ap (λ n. drop n piece) to_is ∙ sym (drop-drop cursor.place from piece) ∙ ap (drop cursor.place) (sym is_rest) in
          subst (λ (w : StreamAt). GivesInPiece piece w (later - found.len, found.len, v) (seen t states keys cursor.state cursor.pending to later)) same (record {
            left =
                left_seen ∙ found_gives.spots
                ∙ ap (λ (n : ℕ). (n - found.len, found.len, found.value) ∷ all_left t keys is.suffix place rest cursor) (sym place_is)
                ∙ ap (λ (x : List Occurrence). (later - found.len, found.len, found.value) ∷ x) (sym (left_after t slot_of states keys slot waiting place is rest cursor found_gives.cursor later place_is (drop to piece) behind))
                ∙ ap (λ (x : ℤ). (later - found.len, found.len, x) ∷ left_in (seen t states keys cursor.state cursor.pending to later) piece) (sym v_is);
            tree = refl;
            suffix =
                ap (λ w. held_suffix t (path_in t states cursor.state ++ w)) behind
                ∙ held_after t slot_of states keys slot waiting place is rest cursor found_gives.cursor
                ∙ ap (λ w. held_suffix t (path_in t states slot ++ w)) rest_seen;
            place = omega (arith, place_is, to_is, long, within, e);
          })

    pub costs_in_piece : (before after : ℕ) → CostsNext t states rest (record { place = 0; state = slot; pending = waiting }) next cursor before after
        → (given : Option Occurrence) → is_some next ≡ is_some given → (to : ℕ) (at : StreamAt) → seen t states keys slot waiting read place ≡ at
        → CostsInPiece at given (seen t states keys cursor.state cursor.pending to later) before after
    costs_in_piece before after cost given alike to at same =
        let within = cursor_after.within in
        let flag : ◌≡◌ {A = ℕ} (cond (is_some next) 1 0) (cond (is_some given) 1 0) = ap (λ b. cond b 1 0) alike in
        let old_place = ap (λ (w : StreamAt). w.place) same in
        let old_suffix = ap (λ (w : StreamAt). length w.suffix) same in
        omega (arith, within, cost, place_is, flag, old_place, old_suffix)
