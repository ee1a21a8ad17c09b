-- How many byte strings are still ahead of a search, once its range has gone on.
use Rattle.std.proofs.Common.{◌≡◌, ℕ, zero, suc, ◌+◌, ◌<◌, ◌≤◌, inl, inr, Bool, true, false, cond, not, ◌&&◌, ℤ, List, [], ◌∷◌, ◌++◌, length, take, None, Option, Some, refl, sym, ap, ◌∙◌, subst, arith}
use Rattle.std.specs.Prelude.{filter, fold}
use Rattle.std.specs.Cmp.Lexicographic.{slice_cmp}
use Rattle.std.specs.List.{AllByRecursion}
use Rattle.std.specs.Ordering.{is_ge, is_gt, is_lt, nat_cmp, ordering_reverse}
use Rattle.std.specs.declared.cmp.Ordering.{Ordering}
use Rattle.std.specs.declared.cmp.Ordering.TheVariants.{Equal, Greater, Less}
use Rattle.std.proofs.lemmas.Bool.{and_parts, cases_lt, true≢false}
use Rattle.std.proofs.lemmas.Cmp.{nat_list_cmp_total, tied_itself}
use Rattle.std.proofs.lemmas.List.{take_all}
use Rattle.cedar_tree.specs.Queries.{Entry}
use Rattle.cedar_tree.specs.Tree.{IsPath}
use Rattle.key_ranges.specs.Spans.{ends_before, follows_prefix, holds, HoldsBehind, HoldsPast, KeySpan, successor}
use Rattle.key_ranges.proofs.SpanLemmas.{follows_is}
use Rattle.last_entries.specs.Nearness.{AscendByKeys, IsOneOf}
use Rattle.last_entries.proofs.NearLemmas.{all_paths, first_passes}
use Rattle.last_entries.proofs.PathLemmas.{less_is}
use Rattle.accepted_entries.specs.Accepted.{entries_in_span, verdict_of}
use Rattle.accepted_entries.specs.Bounds.{ahead_count, HaveFronts, IsAmong, IsSteady, leads_to, may_after, ReadsAlong, WayOn}
use Rattle.accepted_entries.proofs.AcceptLemmas.{first_stays, from_front, key_at_front}
use Rattle.accepted_entries.proofs.FrontLemmas.{begins_between, front_begins, front_ends, front_is, front_of_next, in_between, next_path}

-- ---- counts

few_more : (p q : List ℕ → Bool) (ws : List (List ℕ)) → ((w : List ℕ) → p w ≡ true → q w ≡ true) → length (filter p ws) ≤ length (filter q ws)
few_more p q [] sub = omega arith
few_more p q (w ∷ ws) sub =
    let more = few_more p q ws sub in
    (elim (p w) as (λ b. p w ≡ b → length (cond b (w ∷ filter p ws) (filter p ws)) ≤ length (cond (q w) (w ∷ filter q ws) (filter q ws))) [
      | true ↦ λ is. subst (λ b. length (w ∷ filter p ws) ≤ length (cond b (w ∷ filter q ws) (filter q ws))) (sym (sub w is)) (omega (arith, more))
      | false ↦ λ _. elim (q w) as (λ b. length (filter p ws) ≤ length (cond b (w ∷ filter q ws) (filter q ws))) [
        | true ↦ omega (arith, more)
        | false ↦ more
      ]
    ]) refl

-- where one of them passes the one test alone, they are fewer
one_fewer : (p q : List ℕ → Bool) (ws : List (List ℕ)) (w : List ℕ) → ((v : List ℕ) → p v ≡ true → q v ≡ true) → IsAmong w ws → p w ≡ false → q w ≡ true → length (filter p ws) + 1 ≤ length (filter q ws)
one_fewer p q [] w sub one fails passing = absurd one
one_fewer p q (v ∷ ws) w sub (inl same) fails passing =
    let more = few_more p q ws sub in
    let no : p v ≡ false = ap p same ∙ fails in
    let yes : q v ≡ true = ap q same ∙ passing in
    subst (λ b. length (cond b (v ∷ filter p ws) (filter p ws)) + 1 ≤ length (cond (q v) (v ∷ filter q ws) (filter q ws))) (sym no)
    (subst (λ b. length (filter p ws) + 1 ≤ length (cond b (v ∷ filter q ws) (filter q ws))) (sym yes) (omega (arith, more)))
one_fewer p q (v ∷ ws) w sub (inr later) fails passing =
    let more = one_fewer p q ws w sub later fails passing in
    (elim (p v) as (λ b. p v ≡ b → length (cond b (v ∷ filter p ws) (filter p ws)) + 1 ≤ length (cond (q v) (v ∷ filter q ws) (filter q ws))) [
      | true ↦ λ is. subst (λ b. length (v ∷ filter p ws) + 1 ≤ length (cond b (v ∷ filter q ws) (filter q ws))) (sym (sub v is)) (omega (arith, more))
      | false ↦ λ _. elim (q v) as (λ b. length (filter p ws) + 1 ≤ length (cond b (v ∷ filter q ws) (filter q ws))) [
        | true ↦ omega (arith, more)
        | false ↦ more
      ]
    ]) refl

both_pass : (a b c : Bool) → (b ≡ true → c ≡ true) → (a && b) ≡ true → (a && c) ≡ true
both_pass true b c f h = f h
both_pass false b c f h = h

narrower_holds : (old new : KeySpan) (test : List ℕ → Bool) → ((w : List ℕ) → holds new w ≡ (holds old w && test w)) → (w : List ℕ) → holds new w ≡ true → holds old w ≡ true
narrower_holds old new test is w h = (and_parts (holds old w) (test w) (sym (is w) ∙ h)).0

no_more : (b : Bool) → (b && false) ≡ false
no_more true = refl
no_more false = refl

not_not : (b : Bool) → not b ≡ false → b ≡ true
not_not true h = refl
not_not false h = absurd (true≢false h)

path_front : (w : List ℕ) (n : ℕ) → IsPath w → IsPath (take n w)
path_front w zero path = tt
path_front [] (suc n) path = tt
path_front (x ∷ w) (suc n) path = (path.0, path.1, path_front w n path.2)

-- what holds of all entries holds of each of them
holds_of_one : (P : Entry → Type 0) (es : List Entry) (g : Entry) → IsOneOf g es → AllByRecursion P es → P g
holds_of_one P [] g one all = absurd one
holds_of_one P (e ∷ es) g (inl same) all = subst P same all.0
holds_of_one P (e ∷ es) g (inr more) all = holds_of_one P es g more all.1

module _ (leads may : List ℕ → Bool) where
  fewer_ahead : (old new : KeySpan) (test : List ℕ → Bool) (fronts : List (List ℕ)) → ((w : List ℕ) → holds new w ≡ (holds old w && test w)) → ahead_count leads new fronts ≤ ahead_count leads old fronts
  fewer_ahead old new test fronts is =
      few_more (λ w. leads w && holds new w) (λ w. leads w && holds old w) fronts (λ w h. both_pass (leads w) (holds new w) (holds old w) (narrower_holds old new test is w) h)

  one_behind : (old new : KeySpan) (test : List ℕ → Bool) (fronts : List (List ℕ)) (w : List ℕ) → ((v : List ℕ) → holds new v ≡ (holds old v && test v)) → IsAmong w fronts → leads w ≡ true → holds old w ≡ true → test w ≡ false
      → ahead_count leads new fronts + 1 ≤ ahead_count leads old fronts
  one_behind old new test fronts w is one led held fails =
      let gone : (leads w && holds new w) ≡ false = ap (λ b. leads w && b) (is w ∙ ap (λ b. holds old w && b) fails ∙ no_more (holds old w)) ∙ no_more (leads w) in
      one_fewer (λ v. leads v && holds new v) (λ v. leads v && holds old v) fronts w (λ v h. both_pass (leads v) (holds new v) (holds old v) (narrower_holds old new test is v) h) one gone (λ i. led i && held i)

  -- ---- behind a key along which the automaton leads

  steady_behind : (old new : KeySpan) (key : List ℕ) → IsPath key → holds old key ≡ true → ((n : ℕ) → may (take n key) ≡ true) → HoldsBehind old new key → IsSteady leads may new
  steady_behind old new key path held alive on w w_path h n led dead =
      let p = take n w in
      let parts = and_parts (holds old w) (is_gt (slice_cmp nat_cmp w key)) (sym (on w) ∙ h) in
      (elim (is_gt (slice_cmp nat_cmp p key)) as (λ b. is_gt (slice_cmp nat_cmp p key) ≡ b → holds new p ≡ true) [
        | true ↦ λ behind.
            let still = in_between old key w n held parts.0 (ge_of_gt (slice_cmp nat_cmp p key) behind) in
            on p ∙ (λ i. still i && behind i)
        | false ↦ λ not_behind.
            let begun = begins_between p key w path w_path (front_begins w n) (ge_turned p key not_behind) (ge_of_gt (slice_cmp nat_cmp w key) parts.1) in
            absurd (true≢false (sym (alive (length p)) ∙ ap may (front_is key p begun) ∙ dead))
      ]) refl
    where
      ge_of_gt : (o : Ordering) → is_gt o ≡ true → is_ge o ≡ true
      ge_of_gt Less h = absurd (true≢false (sym h))
      ge_of_gt Equal h = refl
      ge_of_gt Greater h = refl

      ge_turned : (p key : List ℕ) → is_gt (slice_cmp nat_cmp p key) ≡ false → is_ge (slice_cmp nat_cmp key p) ≡ true
      ge_turned p key h = ap is_ge (nat_list_cmp_total.antisymm key p) ∙ turned (slice_cmp nat_cmp p key) h
        where
          turned : (o : Ordering) → is_gt o ≡ false → is_ge (ordering_reverse o) ≡ true
          turned Less h = refl
          turned Equal h = refl
          turned Greater h = absurd (true≢false h)

  -- ---- past bytes after which it can't match

  ends_at_itself : (key : List ℕ) (len : ℕ) → IsPath key → follows_prefix (take len key) (take len key) ≡ false
  ends_at_itself key len path =
      let q = take len key in
      let before : ends_before (successor q) key ≡ true = not_not (ends_before (successor q) key) (first_stays key len path) in
      ap not (front_ends q key (successor q) (key_at_front key len) before)

  steady_past : (old new : KeySpan) (key : List ℕ) (len : ℕ) → IsPath key → holds old key ≡ true → ((n : ℕ) → n < length (take len key) → may (take n (take len key)) ≡ true) → IsPath (take len key) → HoldsPast old new (take len key) → IsSteady leads may new
  steady_past old new key len path held alive front_path past w w_path h n led dead = at (successor (take len key)) refl
    where
      ge_below : (p s : List ℕ) → is_ge (slice_cmp nat_cmp p s) ≡ false → is_ge (slice_cmp nat_cmp s p) ≡ true
      ge_below p s h = ap is_ge (nat_list_cmp_total.antisymm s p) ∙ turned (slice_cmp nat_cmp p s) h
        where
          turned : (o : Ordering) → is_ge o ≡ false → is_ge (ordering_reverse o) ≡ true
          turned Less h = refl
          turned Equal h = refl
          turned Greater h = absurd (true≢false h)

      at : (o : Option (List ℕ)) → successor (take len key) ≡ o → holds new (take n w) ≡ true
      at None e =
          let parts = and_parts (holds old w) (follows_prefix (take len key) w) (sym (past w) ∙ h) in
          absurd (true≢false (sym parts.1 ∙ ap (λ (to : Option (List ℕ)). not (ends_before to w)) e))
      at (Some s) e =
          let q = take len key in
          let p = take n w in
          let parts = and_parts (holds old w) (follows_prefix q w) (sym (past w) ∙ h) in
          let behind : is_ge (slice_cmp nat_cmp w s) ≡ true = sym (follows_is w q s e) ∙ parts.1 in
          let before : ends_before (successor q) key ≡ true = not_not (ends_before (successor q) key) (first_stays key len path) in
          let low : is_lt (slice_cmp nat_cmp key s) ≡ true = ap (λ (to : Option (List ℕ)). ends_before to key) (sym e) ∙ before in
          let up : is_ge (slice_cmp nat_cmp s key) ≡ true = ap is_ge (nat_list_cmp_total.antisymm s key ∙ ap ordering_reverse (less_is (slice_cmp nat_cmp key s) low)) in
          (elim (is_ge (slice_cmp nat_cmp p s)) as (λ b. is_ge (slice_cmp nat_cmp p s) ≡ b → holds new p ≡ true) [
            | true ↦ λ there.
                let still = in_between old key w n held parts.0 (from_front p s key up there) in
                let follows : follows_prefix q p ≡ true = follows_is p q s e ∙ there in
                past p ∙ (λ i. still i && follows i)
            | false ↦ λ below.
                let s_path = next_path q s front_path e in
                let begun = begins_between p s w s_path w_path (front_begins w n) (ge_below p s below) behind in
                let front = front_of_next q s p e begun below in
                absurd (true≢false (sym (alive (length p) front.0) ∙ ap may front.1 ∙ dead))
          ]) refl

-- ---- how an automaton leads on

module _ {S : Type 0} (after : S → ℕ → S) (may : S → Bool) where
  pub leads_none : (state : S) → leads_to after may state [] ≡ true
  unfolding leads_to
  leads_none state = refl

  pub leads_end : (state : S) (w : List ℕ) (l : ℕ) → leads_to after may state (w ++ l ∷ []) ≡ (leads_to after may state w && may (fold after state w))
  unfolding leads_to
  leads_end state [] l = ends (may state)
    where
      ends : (b : Bool) → (b && true) ≡ b
      ends true = refl
      ends false = refl
  leads_end state (b ∷ w) l = at (may state) (leads_end (after state b) w l)
    where
      at : (c : Bool) → leads_to after may (after state b) (w ++ l ∷ []) ≡ (leads_to after may (after state b) w && may (fold after (after state b) w))
          → (c && leads_to after may (after state b) (w ++ l ∷ [])) ≡ ((c && leads_to after may (after state b) w) && may (fold after (after state b) w))
      at true h = h
      at false h = refl

  leads_at : (state : S) (w : List ℕ) (n : ℕ) → leads_to after may state w ≡ true → n < length w → may (fold after state (take n w)) ≡ true
  unfolding leads_to
  leads_at state [] n h low = absurd (omega (arith, low))
  leads_at state (b ∷ w) zero h low = (and_parts (may state) (leads_to after may (after state b) w) h).0
  leads_at state (b ∷ w) (suc n) h low = leads_at (after state b) w n (and_parts (may state) (leads_to after may (after state b) w) h).1 (omega (arith, low))

  all_alive : (state : S) (key : List ℕ) → leads_to after may state key ≡ true → may_after after may state key ≡ true → (n : ℕ) → may_after after may state (take n key) ≡ true
  all_alive state key led can n = elim (cases_lt n (length key)) [
    | inl short ↦ leads_at state key n led short
    | inr whole ↦ ap (λ w. may (fold after state w)) (take_all n key whole) ∙ can
  ]

  first_is : (old : KeySpan) (es : List Entry) (key : List ℕ) (value : ℤ) (rest : List Entry) → AscendByKeys es → entries_in_span old es ≡ (key, value) ∷ rest → IsOneOf (key, value) es × (holds old key ≡ true) × IsPath key
  first_is old es key value rest listed is =
      let first = first_passes (holds old) es (key, value) rest is in
      (first.0, first.1, holds_of_one (λ e. IsPath e.0) es (key, value) first.0 (all_paths es listed.1))

  pub goes_steady : (state : S) (old new : KeySpan) (es : List Entry) (key : List ℕ) (value : ℤ) (rest : List Entry) → AscendByKeys es → entries_in_span old es ≡ (key, value) ∷ rest
      → WayOn (leads_to after may state) (may_after after may state) key old new → IsSteady (leads_to after may state) (may_after after may state) new
  goes_steady state old new es key value rest listed is (inl way) =
      let first = first_is old es key value rest listed is in
      steady_behind (leads_to after may state) (may_after after may state) old new key first.2 first.1 (all_alive state key way.0 way.1) way.2
  goes_steady state old new es key value rest listed is (inr way) =
      let first = first_is old es key value rest listed is in
      steady_past (leads_to after may state) (may_after after may state) old new key way.0 first.2 first.1 (λ n low. leads_at state (take way.0 key) n way.1 low) (path_front key way.0 first.2) way.3

  pub goes_ahead : (state : S) (old new : KeySpan) (es : List Entry) (key : List ℕ) (value : ℤ) (rest : List Entry) (fronts : List (List ℕ))
      → WayOn (leads_to after may state) (may_after after may state) key old new → ahead_count (leads_to after may state) new fronts ≤ ahead_count (leads_to after may state) old fronts
  goes_ahead state old new es key value rest fronts (inl way) = fewer_ahead (leads_to after may state) (may_after after may state) old new (λ w. is_gt (slice_cmp nat_cmp w key)) fronts way.2
  goes_ahead state old new es key value rest fronts (inr way) = fewer_ahead (leads_to after may state) (may_after after may state) old new (follows_prefix (take way.0 key)) fronts way.3

  pub leaves_one : (state : S) (old new : KeySpan) (es : List Entry) (key : List ℕ) (value : ℤ) (rest : List Entry) (fronts : List (List ℕ)) → AscendByKeys es → HaveFronts es fronts → entries_in_span old es ≡ (key, value) ∷ rest
      → IsSteady (leads_to after may state) (may_after after may state) old → WayOn (leads_to after may state) (may_after after may state) key old new
      → ahead_count (leads_to after may state) new fronts + 1 ≤ ahead_count (leads_to after may state) old fronts
  leaves_one state old new es key value rest fronts listed have is steady (inl way) =
      let first = first_is old es key value rest listed is in
      let whole : take (length key) key ≡ key = take_all (length key) key (omega arith) in
      let among = subst (λ w. IsAmong w fronts) whole (have (key, value) first.0 (length key)) in
      one_behind (leads_to after may state) (may_after after may state) old new (λ w. is_gt (slice_cmp nat_cmp w key)) fronts key way.2 among way.0 first.1 (ap is_gt (tied_itself nat_list_cmp_total key))
  leaves_one state old new es key value rest fronts listed have is steady (inr way) =
      let first = first_is old es key value rest listed is in
      one_behind (leads_to after may state) (may_after after may state) old new (follows_prefix (take way.0 key)) fronts (take way.0 key) way.3 (have (key, value) first.0 way.0) way.1 (steady key first.2 first.1 way.0 way.1 way.2)
      (ends_at_itself (leads_to after may state) (may_after after may state) key way.0 first.2)

-- ---- a key that was read to its end

pub reads_at_end : (leads may : List ℕ → Bool) (key : List ℕ) (said : Bool) → leads key ≡ true → may key ≡ true → ReadsAlong leads may key (verdict_of said)
reads_at_end leads may key true led can = (led, can)
reads_at_end leads may key false led can = (led, can)
