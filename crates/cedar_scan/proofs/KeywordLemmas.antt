-- How a search for keywords goes on, and what it gives.
use Rattle.std.proofs.Common.{◌≡◌, inl, inr, ℕ, suc, ◌+◌, ◌-◌, ◌*◌, ◌<◌, ◌≤◌, Bool, true, false, cond, List, [], ◌∷◌, ◌++◌, add-one, append_assoc, drop, get_or, length, length-append, map, min, take, Some, None, refl, sym, ap, subst, ◌∙◌, arith}
use Rattle.std.specs.List.{All}
use Rattle.std.proofs.Math.Seq.{drop-cons, drop-length, take-suc}
use Rattle.std.proofs.lemmas.List.{append-nil, drop-append-le, drop_all, length-take-le}
use Rattle.std.proofs.lemmas.List.Elements.{All-head, All-nil, All-tail}
use Rattle.cedar_tree.specs.Tree.{Tree}
use Rattle.cedar_words.specs.Spots.{keywords_from, keywords_in, Spot}
use Rattle.cedar_words.specs.Tokens.{longest}
use Rattle.cedar_scan.specs.declared.falls.Fall.{Fall}
use Rattle.cedar_scan.specs.declared.falls.Popped.{Popped}
use Rattle.cedar_scan.specs.declared.leftmost.KeywordCursor.{KeywordCursor}
use Rattle.cedar_scan.specs.declared.state.State.{State}
use Rattle.cedar_scan.specs.Automata.{child_in, path_in}
use Rattle.cedar_scan.specs.Falls.{fall_at, HasFall, popped_key, pops_of}
use Rattle.cedar_scan.specs.Keywords.{CantGoOn, ScansOn, IsKeywordAutomaton, IsKeywordCursor, keywords_left, read_path, pending_of, ScansOnOrEnds, tests_left}
use Rattle.cedar_scan.specs.Leftmost.{popped_at}
use Rattle.cedar_scan.specs.Scans.{last_of}
use Rattle.cedar_scan.specs.Suffixes.{is_node}
use Rattle.cedar_scan.proofs.LeftmostLemmas.{byte_passed, longest_stops}
use Rattle.cedar_scan.proofs.PathLemmas.{path_long, root_path}
use Rattle.cedar_scan.proofs.ScanLemmas.{last_last}

none_some : (x : ℕ) → None ≡ Some x → ⊥
none_some x e = absurd (cc)

some_is : (x y : ℕ) → Some x ≡ Some y → x ≡ y
some_is x y e = cc

last_push : (n : ℕ) (w : List ℕ) (b : ℕ) → n ≤ length w → last_of (n + 1) (w ++ b ∷ []) ≡ last_of n w ++ b ∷ []
last_push n w b low =
    let one = length-append w (b ∷ []) in
    let e : length (w ++ b ∷ []) - (n + 1) ≡ length w - n = omega (arith, one, low) in
    ap (λ k. drop k (w ++ b ∷ [])) e ∙ drop-append-le (length w - n) w (b ∷ []) (omega arith)

last_behind_front : (front w : List ℕ) → last_of (length w) (front ++ w) ≡ w
last_behind_front front w =
    let both = length-append front w in
    let e : length (front ++ w) - length w ≡ length front = omega (arith, both) in
    ap (λ k. drop k (front ++ w)) e ∙ drop-append-le (length front) front w (omega arith) ∙ ap (λ x. x ++ w) (drop-length front)

none_pending : (popped : List Popped) (c : KeywordCursor) → c.next ≡ c.last → pending_of popped c ≡ []
none_pending popped c e = let none : c.last - c.next ≡ 0 = omega (arith, e) in ap (λ n. map popped_key (take n (drop c.next popped))) none

module _ (t : Tree) (slot_of : List ℕ → ℕ) (states : List State) (falls : List Fall) (popped : List Popped) (h : IsKeywordAutomaton t slot_of states falls popped) (text : List ℕ) where
  -- ---- where a search is

  module _ (c : KeywordCursor) (at : IsKeywordCursor t slot_of states popped text c) where
    deep : length (path_in t states c.slot) ≡ length at.path
    deep = ap (λ s. length (path_in t states s)) at.at ∙ path_long t slot_of states h.placing h.goto at.path at.node

    pub slot_inside : c.slot < length states
    slot_inside = subst (λ s. s < length states) (sym at.at) (h.goto.within at.path at.node)

    pub fall_inside : c.slot < length falls
    fall_inside = let low = slot_inside in let size = h.size in omega (arith, low, size)

    -- how long the path is stands in the fall
    fall_deep : (c.slot ≡ 0 → ⊥) → (fall_at falls c.slot).depth ≡ length at.path
    fall_deep other = by_path at.path refl
      where
        by_path : (w : List ℕ) → at.path ≡ w → (fall_at falls c.slot).depth ≡ length at.path
        by_path [] e = absurd (other (at.at ∙ ap slot_of e ∙ h.placing.root))
        by_path (x ∷ u) e = let long = ap length e in ap (λ s. (fall_at falls s).depth) at.at ∙ (h.each at.path at.node (omega (arith, long))).depth

    pub deep_within : (c.slot ≡ 0 → ⊥) → (fall_at falls c.slot).depth ≤ c.place
    deep_within other = let same = fall_deep other in let short = at.short in omega (arith, same, short)

    path_is : read_path t states text c ≡ at.path
    path_is = ap (λ n. last_of n (take c.place text)) deep ∙ sym at.here

    left_is : keywords_left t states popped text c ≡ map (popped_at c.base) (pending_of popped c) ++ keywords_from t (c.place - length at.path) (at.path ++ drop c.place text)
    left_is =
        ap (λ n. map (popped_at c.base) (pending_of popped c) ++ keywords_from t (c.place - n) (read_path t states text c ++ drop c.place text)) deep
        ∙ ap (λ w. map (popped_at c.base) (pending_of popped c) ++ keywords_from t (c.place - length at.path) (w ++ drop c.place text)) path_is

    left_alone : c.next ≡ c.last → keywords_left t states popped text c ≡ keywords_from t (c.place - length at.path) (at.path ++ drop c.place text)
    left_alone none = left_is ∙ ap (λ (ps : List Spot). map (popped_at c.base) ps ++ keywords_from t (c.place - length at.path) (at.path ++ drop c.place text)) (none_pending popped c none)

    read_long : length (take c.place text) ≡ c.place
    read_long = length-take-le c.place text at.within

  -- ---- a byte more

  module _ (c : KeywordCursor) (at : IsKeywordCursor t slot_of states popped text c) (none : c.next ≡ c.last) (less : c.place < length text) where
    byte_left : drop c.place text ≡ get_or text c.place 0 ∷ drop (c.place + 1) text
    byte_left = drop-cons text c.place 0 less ∙ ap (λ n. get_or text c.place 0 ∷ drop n text) (sym (add-one c.place))

    byte_read : take (c.place + 1) text ≡ take c.place text ++ get_or text c.place 0 ∷ []
    byte_read = ap (λ n. take n text) (add-one c.place) ∙ take-suc text c.place 0 less

    child_is : child_in states c.slot (get_or text c.place 0) ≡ cond (is_node t (at.path ++ get_or text c.place 0 ∷ [])) (Some (slot_of (at.path ++ get_or text c.place 0 ∷ []))) None
    child_is = ap (λ s. child_in states s (get_or text c.place 0)) at.at ∙ h.goto.child at.path (get_or text c.place 0) at.node

    -- it goes on to a child
    pub goes_to_child : (child : ℕ) → child_in states c.slot (get_or text c.place 0) ≡ Some child → (new : KeywordCursor) → new ≡ record { place = c.place + 1; slot = child; base = c.base; next = c.next; last = c.last }
        → (before after : ℕ) → after ≡ before + 1 → ScansOn t slot_of states popped text c new before after
    goes_to_child child found new is before after one =
        let b = get_or text c.place 0 in
        let there : is_node t (at.path ++ b ∷ []) ≡ true =
        (elim (is_node t (at.path ++ b ∷ [])) as (λ x. cond x (Some (slot_of (at.path ++ b ∷ []))) None ≡ Some child → x ≡ true) [
          | true ↦ λ _. refl
          | false ↦ λ e. absurd (none_some child e)
        ]) (sym child_is ∙ found) in
        let slot : child ≡ slot_of (at.path ++ b ∷ []) = some_is child (slot_of (at.path ++ b ∷ [])) (sym found ∙ child_is ∙ ap (λ x. cond x (Some (slot_of (at.path ++ b ∷ []))) None) there) in
        let long = length-append at.path (b ∷ []) in
        let read = read_long c at in
        let short = at.short in
        let longer : length (at.path ++ b ∷ []) ≡ length at.path + 1 = long in
        let next : KeywordCursor = record { place = c.place + 1; slot = child; base = c.base; next = c.next; last = c.last } in
        let cursor : IsKeywordCursor t slot_of states popped text next = record {
          path = at.path ++ b ∷ [];
          node = there;
          at = slot;
          here = sym (ap (λ n. last_of n (take (c.place + 1) text)) longer ∙ ap (last_of (length at.path + 1)) byte_read ∙ last_push (length at.path) (take c.place text) b (omega (arith, short, read)) ∙ ap (λ w. w ++ b ∷ []) (sym at.here));
          short = omega (arith, long, short);
          within = omega (arith, less);
          range = at.range;
          inside = at.inside;
          fits = λ k d inside. let low = at.fits k d inside in omega (arith, low);
        } in
        let begin : c.place - length at.path ≡ c.place + 1 - length (at.path ++ b ∷ []) = omega (arith, long) in
        let old = deep c at in
        let new_deep = deep next cursor in
        subst (λ x. ScansOn t slot_of states popped text c x before after) (sym is) (record {
          cursor = cursor;
          keywords =
              left_alone c at none
              ∙ ap (λ w. keywords_from t (c.place - length at.path) (at.path ++ w)) byte_left
              ∙ ap (keywords_from t (c.place - length at.path)) (sym (append_assoc at.path (b ∷ []) (drop (c.place + 1) text)))
              ∙ ap (λ n. keywords_from t n ((at.path ++ b ∷ []) ++ drop (c.place + 1) text)) begin
              ∙ sym (left_alone next cursor none);
          fewer = omega (arith, old, new_deep, long, less);
          cost = omega (arith, old, new_deep, long, less, one);
        })

    missed : child_in states c.slot (get_or text c.place 0) ≡ None → is_node t (at.path ++ get_or text c.place 0 ∷ []) ≡ false
    missed is =
        (elim (is_node t (at.path ++ get_or text c.place 0 ∷ [])) as (λ x. cond x (Some (slot_of (at.path ++ get_or text c.place 0 ∷ []))) None ≡ None → x ≡ false) [
          | true ↦ λ e. absurd (none_some (slot_of (at.path ++ get_or text c.place 0 ∷ [])) (sym e))
          | false ↦ λ _. refl
        ]) (sym child_is ∙ is)

    -- or passes a byte that begins no key
    pub passes_byte : child_in states c.slot (get_or text c.place 0) ≡ None → c.slot ≡ 0 → (new : KeywordCursor) → new ≡ record { place = c.place + 1; slot = c.slot; base = c.base; next = c.next; last = c.last }
        → (before after : ℕ) → after ≡ before + 1 → ScansOn t slot_of states popped text c new before after
    passes_byte is root_is new new_is before after one =
        let b = get_or text c.place 0 in
        let empty : at.path ≡ [] = h.placing.one at.path [] at.node refl (sym at.at ∙ root_is ∙ sym h.placing.root) in
        let gone : is_node t (b ∷ []) ≡ false = ap (λ w. is_node t (w ++ b ∷ [])) (sym empty) ∙ missed is in
        let next : KeywordCursor = record { place = c.place + 1; slot = c.slot; base = c.base; next = c.next; last = c.last } in
        let cursor : IsKeywordCursor t slot_of states popped text next = record {
          path = [];
          node = refl;
          at = root_is ∙ sym h.placing.root;
          here = sym (let whole : length (take (c.place + 1) text) - 0 ≡ length (take (c.place + 1) text) = omega arith in ap (λ n. drop n (take (c.place + 1) text)) whole ∙ drop-length (take (c.place + 1) text));
          short = omega arith;
          within = omega (arith, less);
          range = at.range;
          inside = at.inside;
          fits = λ k d inside. let low = at.fits k d inside in omega (arith, low);
        } in
        let whole : c.place - 0 ≡ c.place = omega arith in
        let later : c.place + 1 ≡ c.place + 1 - 0 = omega arith in
        let old = deep c at in
        let new_deep = deep next cursor in
        let short = ap length empty in
        subst (λ x. ScansOn t slot_of states popped text c x before after) (sym new_is) (record {
          cursor = cursor;
          keywords =
              left_alone c at none
              ∙ ap (λ w. keywords_from t (c.place - length w) (w ++ drop c.place text)) empty
              ∙ ap (λ n. keywords_from t n (drop c.place text)) whole
              ∙ ap (keywords_from t c.place) byte_left
              ∙ byte_passed t c.place b (drop (c.place + 1) text) gone
              ∙ ap (λ n. keywords_from t n (drop (c.place + 1) text)) later
              ∙ sym (left_alone next cursor none);
          fewer = omega (arith, old, new_deep, short, less);
          cost = omega (arith, old, new_deep, short, less, one);
        })

  -- ---- a path that can't go on

  stops : (c : KeywordCursor) (at : IsKeywordCursor t slot_of states popped text c) → c.next ≡ c.last → CantGoOn states text c → longest t (at.path ++ drop c.place text) ≡ longest t at.path
  stops c at none (inl past) = ap (λ w. longest t (at.path ++ w)) (drop_all c.place text past) ∙ ap (longest t) (append-nil at.path)
  stops c at none (inr (less, missing)) =
      ap (λ w. longest t (at.path ++ w)) (byte_left c at none less)
      ∙ longest_stops t at.path (get_or text c.place 0) (drop (c.place + 1) text) (missed c at none less missing)

  pub falls_from : (c : KeywordCursor) (at : IsKeywordCursor t slot_of states popped text c) → c.next ≡ c.last → (c.slot ≡ 0 → ⊥) → CantGoOn states text c
      → (new : KeywordCursor) → new ≡ record { place = c.place; slot = (fall_at falls c.slot).to; base = c.place - (fall_at falls c.slot).depth; next = (fall_at falls c.slot).first; last = (fall_at falls c.slot).last }
      → ScansOn t slot_of states popped text c new 0 0
  falls_from c at none other cant new new_is = by_path at.path refl
    where
      by_path : (w : List ℕ) → at.path ≡ w → ScansOn t slot_of states popped text c new 0 0
      by_path [] e = absurd (other (at.at ∙ ap slot_of e ∙ h.placing.root))
      by_path (x ∷ u) e =
          let long = ap length e in
          let own : HasFall t slot_of falls popped at.path = h.each at.path at.node (omega (arith, long)) in
          let same : fall_at falls c.slot ≡ fall_at falls (slot_of at.path) = ap (fall_at falls) at.at in
          let depth_is = deep c at in
          let next : KeywordCursor = record { place = c.place; slot = (fall_at falls c.slot).to; base = c.place - (fall_at falls c.slot).depth; next = (fall_at falls c.slot).first; last = (fall_at falls c.slot).last } in
          let base : next.base ≡ c.place - length at.path = ap (λ n. c.place - n) (fall_deep c at other) in
          let pops : pending_of popped next ≡ pops_of (fall_at falls (slot_of at.path)) popped = ap (λ (f : Fall). pops_of f popped) same in
          let less = own.fall.shorter in
          let short = at.short in
          let read = read_long c at in
          let suffix : own.rest ≡ last_of (length own.rest) (take c.place text) =
          sym (last_behind_front own.fall.front own.rest) ∙ ap (last_of (length own.rest)) (sym own.fall.whole ∙ at.here)
          ∙ last_last (length own.rest) (length at.path) (take c.place text) (omega (arith, less)) (omega (arith, short, read)) in
          let cursor : IsKeywordCursor t slot_of states popped text next = record {
            path = own.rest;
            node = own.fall.node;
            at = ap (λ (f : Fall). f.to) same ∙ own.to;
            here = suffix;
            short = omega (arith, less, short);
            within = at.within;
            range = subst (λ (f : Fall). f.first ≤ f.last) (sym same) own.range;
            inside = subst (λ (f : Fall). f.last ≤ length popped) (sym same) own.inside;
            fits = subst (λ (ps : List Spot). All (λ (p : Spot). next.base + p.0 + p.1 ≤ c.place) ps) (sym pops) (λ k d inside. let low = own.fall.within k d inside in omega (arith, low, base, short));
          } in
          let begin : c.place - length at.path + (length at.path - length own.rest) ≡ c.place - length own.rest = omega (arith, less, short) in
          let new_deep = deep next cursor in
          subst (λ k. ScansOn t slot_of states popped text c k 0 0) (sym new_is) (record {
            cursor = cursor;
            keywords =
                left_alone c at none
                ∙ own.fall.gives (c.place - length at.path) (drop c.place text) (stops c at none cant)
                ∙ ap (λ n. map (popped_at (c.place - length at.path)) (pops_of (fall_at falls (slot_of at.path)) popped) ++ keywords_from t n (own.rest ++ drop c.place text)) begin
                ∙ ap (λ (ps : List Spot). map (popped_at (c.place - length at.path)) ps ++ keywords_from t (c.place - length own.rest) (own.rest ++ drop c.place text)) (sym pops)
                ∙ ap (λ n. map (popped_at n) (pending_of popped next) ++ keywords_from t (c.place - length own.rest) (own.rest ++ drop c.place text)) (sym base)
                ∙ sym (left_is next cursor);
            fewer = omega (arith, depth_is, new_deep, less);
            cost = omega (arith, depth_is, new_deep, less);
          })

  -- the tests before a fall are paid for by it
  pub falls_paid : (c new : KeywordCursor) (before after : ℕ) → after ≤ before + 1 → ScansOn t slot_of states popped text c new 0 0 → ScansOn t slot_of states popped text c new before after
  falls_paid c new before after few goes = let fewer = goes.fewer in record { cursor = goes.cursor; keywords = goes.keywords; fewer = fewer; cost = omega (arith, few, fewer) }

  -- what is left of a search once it has gone on, or hasn't
  pub went_on : (c : KeywordCursor) (told : Bool) (new : KeywordCursor) (before after : ℕ) → ScansOnOrEnds t slot_of states popped text c told new before after → told ≡ true → ScansOn t slot_of states popped text c new before after
  went_on c told new before after goes e = subst (λ (b : Bool). ScansOnOrEnds t slot_of states popped text c b new before after) e goes

  pub ended : (c : KeywordCursor) (told : Bool) (new : KeywordCursor) (before after : ℕ) → ScansOnOrEnds t slot_of states popped text c told new before after → told ≡ false → (keywords_left t states popped text c ≡ []) × (new ≡ c) × (after ≡ before)
  ended c told new before after goes e = subst (λ (b : Bool). ScansOnOrEnds t slot_of states popped text c b new before after) e goes

  -- at the end of the text no test is made
  pub ends_or_leaves : (c : KeywordCursor) (told : Bool) (new : KeywordCursor) (before : ℕ) → ScansOnOrEnds t slot_of states popped text c told new 0 0 → ScansOnOrEnds t slot_of states popped text c told new before before
  ends_or_leaves c true new before goes = falls_paid c new before before (omega arith) goes
  ends_or_leaves c false new before ends = (ends.0, ends.1, refl)

  -- ---- the end, and a key that is given

  pub all_given : (c : KeywordCursor) (at : IsKeywordCursor t slot_of states popped text c) → c.next ≡ c.last → length text ≤ c.place → c.slot ≡ 0 → keywords_left t states popped text c ≡ []
  all_given c at none past root_is =
      let empty : at.path ≡ [] = h.placing.one at.path [] at.node refl (sym at.at ∙ root_is ∙ sym h.placing.root) in
      left_alone c at none
      ∙ ap (λ w. keywords_from t (c.place - length w) (w ++ drop c.place text)) empty
      ∙ ap (keywords_from t (c.place - 0)) (drop_all c.place text past)

  module _ (c : KeywordCursor) (at : IsKeywordCursor t slot_of states popped text c) (some : c.next < c.last) (key : Popped) (is : key ≡ get_or popped c.next key) (new : KeywordCursor) (new_is : new ≡ record { place = c.place; slot = c.slot; base = c.base; next = c.next + 1; last = c.last }) where
    pub key_inside : c.next < length popped
    key_inside = let last = at.inside in omega (arith, some, last)

    pending_is : pending_of popped c ≡ popped_key key ∷ map popped_key (take (c.last - (c.next + 1)) (drop (c.next + 1) popped))
    pending_is =
        let count : c.last - c.next ≡ suc (c.last - (c.next + 1)) = omega (arith, some) in
        let rest : drop c.next popped ≡ key ∷ drop (c.next + 1) popped = drop-cons popped c.next key key_inside ∙ ap (λ (k : Popped). k ∷ drop (suc c.next) popped) (sym is) ∙ ap (λ n. key ∷ drop n popped) (sym (add-one c.next)) in
        ap (λ n. map popped_key (take n (drop c.next popped))) count ∙ ap (λ (ks : List Popped). map popped_key (take (suc (c.last - (c.next + 1))) ks)) rest

    pub key_fits : c.base + key.before + key.len ≤ c.place
    key_fits = All-head (λ (p : Spot). c.base + p.0 + p.1 ≤ c.place) (popped_key key) (map popped_key (take (c.last - (c.next + 1)) (drop (c.next + 1) popped))) (subst (λ (ps : List Spot). All (λ (p : Spot). c.base + p.0 + p.1 ≤ c.place) ps) pending_is at.fits)

    pub cursor_next : IsKeywordCursor t slot_of states popped text new
    cursor_next = subst (IsKeywordCursor t slot_of states popped text) (sym new_is) (record {
      path = at.path;
      node = at.node;
      at = at.at;
      here = at.here;
      short = at.short;
      within = at.within;
      range = omega (arith, some);
      inside = at.inside;
      fits = All-tail (λ (p : Spot). c.base + p.0 + p.1 ≤ c.place) (popped_key key) (map popped_key (take (c.last - (c.next + 1)) (drop (c.next + 1) popped))) (subst (λ (ps : List Spot). All (λ (p : Spot). c.base + p.0 + p.1 ≤ c.place) ps) pending_is at.fits);
    })

    pub gives_key : keywords_left t states popped text c ≡ (c.base + key.before, key.len, key.value) ∷ keywords_left t states popped text new
    gives_key =
        ap (λ (ps : List Spot). map (popped_at c.base) ps ++ keywords_from t (c.place - length (path_in t states c.slot)) (read_path t states text c ++ drop c.place text)) pending_is
        ∙ ap (λ (k : KeywordCursor). (c.base + key.before, key.len, key.value) ∷ keywords_left t states popped text k) (sym new_is)

    pub same_tests : tests_left t states text new ≡ tests_left t states text c
    same_tests = ap (tests_left t states text) new_is

  -- ---- the beginning

  pub first_cursor : IsKeywordCursor t slot_of states popped text (record { place = 0; slot = 0; base = 0; next = 0; last = 0 })
  first_cursor = record {
    path = [];
    node = refl;
    at = sym h.placing.root;
    here = refl;
    short = omega arith;
    within = omega arith;
    range = omega arith;
    inside = omega arith;
    fits = All-nil (λ (p : Spot). 0 + p.0 + p.1 ≤ 0);
  }

  pub first_left : keywords_left t states popped text (record { place = 0; slot = 0; base = 0; next = 0; last = 0 }) ≡ keywords_in t text
  unfolding first_cursor
  first_left =
      left_alone (record { place = 0; slot = 0; base = 0; next = 0; last = 0 }) first_cursor refl

  pub first_tests : tests_left t states text (record { place = 0; slot = 0; base = 0; next = 0; last = 0 }) ≡ 2 * length text
  first_tests = let none = ap length (root_path t states) in omega (arith, none)

  -- ---- a position to begin at

  module _ (start : ℕ) (inside : start ≤ length text) where
    abbrev pub cursor_at : KeywordCursor
    cursor_at = record { place = start; slot = 0; base = 0; next = 0; last = 0 }

    pub at_position : IsKeywordCursor t slot_of states popped text cursor_at
    at_position = record {
      path = [];
      node = refl;
      at = sym h.placing.root;
      here = let all : length (take start text) - 0 ≡ length (take start text) = omega arith in sym (ap (λ n. drop n (take start text)) all ∙ drop-length (take start text));
      short = omega arith;
      within = inside;
      range = omega arith;
      inside = omega arith;
      fits = All-nil (λ (p : Spot). 0 + p.0 + p.1 ≤ start);
    }

    pub position_left : keywords_left t states popped text cursor_at ≡ keywords_from t start (drop start text)
    unfolding at_position
    position_left =
        let begin : start - 0 ≡ start = omega arith in
        left_alone cursor_at at_position refl ∙ ap (λ n. keywords_from t n (drop start text)) begin

    pub position_tests : (place : ℕ) → start ≡ min place (length text) → tests_left t states text cursor_at ≡ 2 * (length text - place)
    position_tests place e = let none = ap length (root_path t states) in omega (arith, none, e)
