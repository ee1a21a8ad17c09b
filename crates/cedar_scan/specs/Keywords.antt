-- A search for the longest of the keys that begin first, while it is under way.
use Rattle.std.specs.Prelude.{◌≡◌, ◌⊎◌, ℕ, ◌+◌, ◌-◌, ◌*◌, ◌<◌, ◌≤◌, None, slice_index, true, false, Bool, ℤ, List, [], ◌++◌, length, map, take, drop}
use Rattle.std.specs.List.{All}
use Rattle.std.specs.Coded.{Coded, code_by, coded×, coded_ℕ, coded_ℤ, coded_list}
use Rattle.std.proofs.Common.{refl}
use Rattle.cedar_tree.specs.Tree.{Tree}
use Rattle.cedar_words.specs.Spots.{keywords_from, Spot}
use Rattle.cedar_scan.specs.Automata.{child_in, IsGoto, IsPlacing, path_in}
use Rattle.cedar_scan.specs.Falls.{AreFalls, popped_key}
use Rattle.cedar_scan.specs.Leftmost.{popped_at}
use Rattle.cedar_scan.specs.Scans.{last_of}
use Rattle.cedar_scan.specs.Suffixes.{is_node}
use Rattle.cedar_scan.specs.declared.falls.Fall.{Fall}
use Rattle.cedar_scan.specs.declared.falls.Popped.{Popped}
use Rattle.cedar_scan.specs.declared.leftmost.KeywordCursor.{KeywordCursor}
use Rattle.cedar_scan.specs.declared.state.State.{State}

-- the automaton of a tree with its falls
pub record IsKeywordAutomaton (t : Tree) (slot_of : List ℕ → ℕ) (states : List State) (falls : List Fall) (popped : List Popped) : Type 0 where
  pub placing : IsPlacing t slot_of
  pub goto : IsGoto t slot_of states
  pub size : length falls ≡ length states
  pub each : AreFalls t slot_of falls popped

-- the keys that are still to be given of a fall
abbrev pub pending_of : List Popped → KeywordCursor → List Spot
pending_of popped cursor = map popped_key (take (cursor.last - cursor.next) (drop cursor.next popped))

-- the path of the node that a search is at: the last bytes that it has read
abbrev pub read_path : Tree → List State → List ℕ → KeywordCursor → List ℕ
read_path t states text cursor = last_of (length (path_in t states cursor.slot)) (take cursor.place text)

-- where a search for keywords is: at the node that the last bytes it has read lead to, with the keys of a fall that it has still to give
pub record IsKeywordCursor (t : Tree) (slot_of : List ℕ → ℕ) (states : List State) (popped : List Popped) (text : List ℕ) (cursor : KeywordCursor) : Type 0 where
  pub path : List ℕ
  pub node : is_node t path ≡ true
  pub at : cursor.slot ≡ slot_of path
  pub here : path ≡ last_of (length path) (take cursor.place text)
  pub short : length path ≤ cursor.place
  pub within : cursor.place ≤ length text
  pub range : cursor.next ≤ cursor.last
  pub inside : cursor.last ≤ length popped
  pub fits : All (λ p. cursor.base + p.0 + p.1 ≤ cursor.place) (pending_of popped cursor)

-- the keywords that a search has still to give
abbrev pub keywords_left : Tree → List State → List Popped → List ℕ → KeywordCursor → List Spot
keywords_left t states popped text cursor =
    map (popped_at cursor.base) (pending_of popped cursor)
    ++ keywords_from t (cursor.place - length (path_in t states cursor.slot)) (read_path t states text cursor ++ drop cursor.place text)

-- how many steps of a search are still to come at most
abbrev pub tests_left : Tree → List State → List ℕ → KeywordCursor → ℕ
tests_left t states text cursor = length (path_in t states cursor.slot) + 2 * (length text - cursor.place)

-- the node that a search is at has no child under the next byte, or no byte is left
abbrev pub CantGoOn : List State → List ℕ → KeywordCursor → Type 0
CantGoOn states text cursor = (length text ≤ cursor.place) ⊎ ((cursor.place < length text) × (child_in states cursor.slot (slice_index text cursor.place) ≡ None))

-- a search goes on where no key is to be given: nothing is lost, and fewer steps are to come
pub record ScansOn (t : Tree) (slot_of : List ℕ → ℕ) (states : List State) (popped : List Popped) (text : List ℕ) (old new : KeywordCursor) (before after : ℕ) : Type 0 where
  pub cursor : IsKeywordCursor t slot_of states popped text new
  pub keywords : keywords_left t states popped text old ≡ keywords_left t states popped text new
  pub fewer : tests_left t states text new < tests_left t states text old
  pub cost : after + tests_left t states text new ≤ before + tests_left t states text old

-- a search goes on (`ScansOn`), or it has nothing left
abbrev pub ScansOnOrEnds : Tree → (List ℕ → ℕ) → List State → List Popped → List ℕ → KeywordCursor → Bool → KeywordCursor → ℕ → ℕ → Type 0
ScansOnOrEnds t slot_of states popped text old true new before after = ScansOn t slot_of states popped text old new before after
ScansOnOrEnds t slot_of states popped text old false new before after = (keywords_left t states popped text old ≡ []) × (new ≡ old) × (after ≡ before)

-- what a caller sees of a search for keywords: those that are left, and how many steps they take at most
pub record KeywordsLeft : Type 0 where
  pub rest : List Spot
  pub steps : ℕ

-- what is left of a search for keywords as plain data, for `impl Model` alone
abbrev pub keyword_code : Coded KeywordsLeft
keyword_code =
    code_by (List (ℕ × ℕ × ℤ) × ℕ) (coded× (coded_list (code_by (ℕ × (ℕ × ℤ)) (coded× coded_ℕ (coded× coded_ℕ coded_ℤ)) (λ s. (s.0, (s.1, s.2))) (λ p. (p.0, p.1.0, p.1.1)) (λ _. refl))) coded_ℕ)
    (λ w. (w.rest, w.steps))
    (λ p. record { rest = p.0; steps = p.1 })
    (λ _. refl)
