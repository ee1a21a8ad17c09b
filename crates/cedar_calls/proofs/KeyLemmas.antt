-- What a key holds after a change.
use Rattle.std.proofs.Common.{◌≡◌, nat_eq, Bool, true, false, ℕ, ℤ, List, [], ◌∷◌, Option, Some, None, cond, fold, refl, ap, sym, ◌∙◌, true≢false}
use Rattle.std.specs.List.{Contains, filter, starts_with}
use Rattle.cedarwood.specs.Tree.{Tree, cut, number_at, put, IsSoundBelow}
use Rattle.cedarwood.specs.Queries.{Entry, is_path, last_at, walk}
use Rattle.cedarwood.specs.State.{State, after_erase, after_put}
use Rattle.cedarwood.proofs.EntryLemmas.Built.{is_path_itself, same_path}
use Rattle.cedarwood.proofs.TreeLemmas.{number_at-cut_other, number_at-cut_same, number_at-empty, number_at-put_other, number_at-put_same, sound-cut}
use Rattle.cedarwood.proofs.MemberLemmas.{contains_first_or_later, contains_none, either_part, into_filter, walk_from_held}
use Rattle.cedarwood.specs.declared.error.CedarError.{CedarError}
use Rattle.cedarwood.specs.Words.{entries_of, keys_of}
use Rattle.cedarwood.specs.Batches.{keys_erased}
use Rattle.cedarwood.specs.Builds.{all_stored, first_fault}
use Rattle.cedarwood.specs.Erasures.{all_erased, erased_under}
use Rattle.cedarwood.specs.Fault.{fault}
use Rattle.cedarwood.specs.Ranges.{entries_with}
use Rattle.cedar_calls.specs.Keys.{held_after, held_unless_among, AreSoundAlong}
use Rattle.cedar_calls.specs.Plain.{changed_state, faultless_front, kept_at_fault}
use Rattle.cedar_calls.specs.declared.call.Change.{Change}
use Rattle.cedar_calls.specs.declared.call.Change.TheVariants as change

apart : (q k : List ℕ) → is_path q k ≡ false → q ≡ k → ⊥
apart q k e same = true≢false (sym (is_path_itself q) ∙ ap (is_path q) same ∙ e)

pub put_goes : (t : Tree) (ordered : Bool) (k : List ℕ) (v : ℤ) (q : List ℕ) (b : Bool) → is_path q k ≡ b → number_at (put t ordered k v) q ≡ cond b (Some v) (number_at t q)
put_goes t ordered k v q true e = ap (number_at (put t ordered k v)) (same_path q k e) ∙ number_at-put_same t ordered k v
put_goes t ordered k v q false e = number_at-put_other t ordered k v q (apart q k e)

pub cut_goes : (t : Tree) (k q : List ℕ) → IsSoundBelow t.children → (b : Bool) → is_path q k ≡ b → number_at (cut t k) q ≡ cond b None (number_at t q)
cut_goes t k q sound true e = ap (number_at (cut t k)) (same_path q k e) ∙ number_at-cut_same t k sound
cut_goes t k q sound false e = number_at-cut_other t k q sound (apart q k e)

-- some keys erased one after another
pub keys_go_out : (s : State) (keys : List (List ℕ)) (q : List ℕ) → IsSoundBelow s.tree.children → number_at (keys_erased s keys).tree q ≡ held_unless_among q (number_at s.tree q) keys
keys_go_out s [] q sound = refl
keys_go_out s (k ∷ keys) q sound =
    keys_go_out (after_erase s k) keys q (sound-cut s.tree k sound) ∙ ap (λ n. held_unless_among q n keys) (cut_goes s.tree k q sound (is_path q k) refl)

-- ---- entries erased one after another

-- what holds nothing holds nothing afterwards
stays_none : (s : State) (es : List Entry) (q : List ℕ) → IsSoundBelow s.tree.children → number_at s.tree q ≡ None → number_at (all_erased s es).tree q ≡ None
stays_none s [] q sound h = h
stays_none s (e ∷ es) q sound h =
    stays_none (after_erase s e.0) es q (sound-cut s.tree e.0 sound) (cut_goes s.tree e.0 q sound (is_path q e.0) refl ∙ ap (cond (is_path q e.0) None) h ∙ none_or_none (is_path q e.0))
  where
    none_or_none : (b : Bool) → cond {A = Option ℤ} b None None ≡ None
    none_or_none true = refl
    none_or_none false = refl

-- nor does the key of one of them
erased_one : (s : State) (es : List Entry) (q : List ℕ) (v : ℤ) → IsSoundBelow s.tree.children → Contains es (q, v) → number_at (all_erased s es).tree q ≡ None
erased_one s [] q v sound there = absurd (contains_none (q, v) there)
erased_one s (e ∷ es) q v sound there =
    either_part (contains_first_or_later e es (q, v) there)
    (λ first. stays_none (after_erase s e.0) es q (sound-cut s.tree e.0 sound) (ap (λ (x : Entry). number_at (cut s.tree x.0) q) first ∙ number_at-cut_same s.tree q sound))
    (λ later. erased_one (after_erase s e.0) es q v (sound-cut s.tree e.0 sound) later)

-- and at any other key is held what was
erased_others : (s : State) (p q : List ℕ) (es : List Entry) → IsSoundBelow s.tree.children → starts_with nat_eq q p ≡ false
    → number_at (all_erased s (filter (λ e. starts_with nat_eq e.0 p) es)).tree q ≡ number_at s.tree q
erased_others s p q [] sound apart_from = refl
erased_others s p q (e ∷ es) sound apart_from =
    (elim (starts_with nat_eq e.0 p) as (λ b. starts_with nat_eq e.0 p ≡ b
    → number_at (all_erased s (cond b (e ∷ filter (λ x. starts_with nat_eq x.0 p) es) (filter (λ x. starts_with nat_eq x.0 p) es))).tree q ≡ number_at s.tree q) [
      | true ↦ λ begins.
          erased_others (after_erase s e.0) p q es (sound-cut s.tree e.0 sound) apart_from
          ∙ number_at-cut_other s.tree e.0 q sound (λ same. true≢false (sym begins ∙ ap (λ k. starts_with nat_eq k p) (sym same) ∙ apart_from))
      | false ↦ λ _. erased_others s p q es sound apart_from
    ]) refl

under_goes : (s : State) (p q : List ℕ) → IsSoundBelow s.tree.children → number_at (erased_under s p).tree q ≡ cond (starts_with nat_eq q p) None (number_at s.tree q)
under_goes s p q sound =
    (elim (starts_with nat_eq q p) as (λ b. starts_with nat_eq q p ≡ b → number_at (erased_under s p).tree q ≡ cond b None (number_at s.tree q)) [
      | true ↦ λ begins. by_number begins (number_at s.tree q) refl
      | false ↦ λ apart_from. erased_others s p q (walk s.tree) sound apart_from
    ]) refl
  where
    by_number : starts_with nat_eq q p ≡ true → (n : Option ℤ) → number_at s.tree q ≡ n → number_at (erased_under s p).tree q ≡ None
    by_number begins None is = stays_none s (entries_with s.tree p) q sound is
    by_number begins (Some v) is =
        erased_one s (entries_with s.tree p) q v sound (into_filter (λ (e : Entry). starts_with nat_eq e.0 p) (walk s.tree) (q, v) begins (walk_from_held s.tree q v sound is))

pub all_go : (s : State) (es : List Entry) (q : List ℕ) → number_at (all_stored s es).tree q ≡ last_at q (number_at s.tree q) es
all_go s [] q = refl
all_go s (e ∷ es) q =
    all_go (record { tree = put s.tree s.ordered e.0 e.1; ordered = s.ordered }) es q ∙ ap (λ n. last_at q n es) (put_goes s.tree s.ordered e.0 e.1 q (is_path q e.0) refl)

at_fault : (f : Option CedarError) (s s' : State) (q : List ℕ) (n : Option ℤ) → number_at s'.tree q ≡ n → number_at (kept_at_fault f s s').tree q ≡ kept_at_fault f (number_at s.tree q) n
at_fault None s s' q n h = h
at_fault (Some e) s s' q n h = refl

key_goes : (s : State) (c : Change) (q : List ℕ) → IsSoundBelow s.tree.children → number_at (changed_state s c).tree q ≡ held_after q (number_at s.tree q) c
key_goes s (change.Update k v) q sound = at_fault (fault k.now v) s (after_put s k.now v) q (cond (is_path q k.now) (Some v) (number_at s.tree q)) (put_goes s.tree s.ordered k.now v q (is_path q k.now) refl)
key_goes s (change.Insert k v) q sound = at_fault (fault k.now v) s (after_put s k.now v) q (cond (is_path q k.now) (Some v) (number_at s.tree q)) (put_goes s.tree s.ordered k.now v q (is_path q k.now) refl)
key_goes s (change.Erase k) q sound = cut_goes s.tree k.now q sound (is_path q k.now) refl
key_goes s (change.EraseFound k) q sound = cut_goes s.tree k.now q sound (is_path q k.now) refl
key_goes s (change.EraseBatch keys) q sound = keys_go_out s (keys_of keys.now) q sound
key_goes s (change.ErasePrefix prefix) q sound = under_goes s prefix.now q sound
key_goes s change.Clear q sound = number_at-empty q
key_goes s change.Shrink q sound = refl
key_goes s (change.Renew settings) q sound = number_at-empty q
key_goes s (change.Reserve n) q sound = refl
key_goes s (change.SetSearchLimit n) q sound = refl
key_goes s (change.UpdateBatch pairs) q sound = all_go s (faultless_front (entries_of pairs.now)) q
key_goes s (change.Build pairs) q sound = at_fault (first_fault (entries_of pairs.now)) s (all_stored s (entries_of pairs.now)) q (last_at q (number_at s.tree q) (entries_of pairs.now)) (all_go s (entries_of pairs.now) q)

pub keys_go : (s : State) (changes : List Change) (q : List ℕ) → AreSoundAlong s changes
    → number_at (fold changed_state s changes).tree q ≡ fold (held_after q) (number_at s.tree q) changes
keys_go s [] q sound = refl
keys_go s (c ∷ changes) q sound = keys_go (changed_state s c) changes q sound.1 ∙ ap (λ n. fold (held_after q) n changes) (key_goes s c q sound.0)
