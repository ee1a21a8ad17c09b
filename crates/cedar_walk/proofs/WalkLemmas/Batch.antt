-- Keys looked up some at a time.
use Rattle.std.proofs.Common.{◌≡◌, ℕ, ◌≤◌, ◌++◌, ◌-◌, List, length, take, drop, ◌+◌, sym, ◌∙◌, ap, arith, Option, map, ℤ, inl, inr}
use Rattle.std.specs.Borrow.{Bor}
use borrow.Rule.Slice.PartMut.{put_mid}
use Rattle.std.proofs.Math.Seq.{take-add}
use Rattle.std.proofs.lemmas.Slice.{drop-put_mid, take-put_mid}
use Rattle.std.proofs.lemmas.List.{drop-append-le, drop-drop, drop-map, drop_all, length-drop, length-map, length-take-le, map-append, take-append-drop, take-append-le, take-map, take_all}
use Rattle.std.proofs.lemmas.Bool.{cases_lt}
use Rattle.cedar_model.specs.Tree.{Tree}
use Rattle.cedar_model.specs.Queries.{exact}
use Rattle.cedar_walk.specs.Batch.{keys_of}
use Rattle.cedar_walk.proofs.WalkLemmas.Lanes.{key_count}

-- the keys of a part
part_of : (keys : List (Bor (List ℕ))) (s m : ℕ) → keys_of (take m (drop s keys)) ≡ take m (drop s (keys_of keys))
part_of keys s m = sym (take-map (λ (k : Bor (List ℕ)). k.now) m (drop s keys)) ∙ ap (take m) (sym (drop-map (λ (k : Bor (List ℕ)). k.now) s keys))

-- m keys more
pub batch_goes_on : (t : Tree) (keys : List (Bor (List ℕ))) (old now new : List (Option (ℤ × ℕ))) (s n m : ℕ) → n ≡ m → s + m ≤ length keys → s + m ≤ length old
    → length now ≡ length old → now ≡ map (exact t) (take s (keys_of keys)) ++ drop s old → new ≡ map (exact t) (keys_of (take n (drop s keys)))
    → put_mid s n now new ≡ map (exact t) (take (s + m) (keys_of keys)) ++ drop (s + m) old
batch_goes_on t keys old now new s n m same inside room long so_far call =
    let ks : List (List ℕ) = keys_of keys in
    let front : List (Option (ℤ × ℕ)) = map (exact t) (take s ks) in
    let all : length ks ≡ length keys = key_count keys in
    let front_long : length front ≡ s = length-map (take s ks) (exact t) ∙ length-take-le s ks (omega arith) in
    let part : new ≡ map (exact t) (take m (drop s ks)) = call ∙ ap (λ k. map (exact t) (keys_of (take k (drop s keys)))) same ∙ ap (map (exact t)) (part_of keys s m) in
    let rest : length (drop s ks) ≡ length ks - s = length-drop s ks in
    let count : length new ≡ m = ap length part ∙ length-map (take m (drop s ks)) (exact t) ∙ length-take-le m (drop s ks) (omega arith) in
    let before : take s now ≡ front = ap (take s) so_far ∙ take-append-le s front (drop s old) (omega arith) ∙ take_all s front (omega arith) in
    let behind : drop s now ≡ drop s old = ap (drop s) so_far ∙ drop-append-le s front (drop s old) (omega arith) ∙ ap (λ x. x ++ drop s old) (drop_all s front (omega arith)) in
    let after : drop (s + m) now ≡ drop (s + m) old = sym (drop-drop m s now) ∙ ap (drop m) behind ∙ drop-drop m s old in
    let joined : front ++ new ≡ map (exact t) (take (s + m) ks) = ap (λ x. front ++ x) part ∙ sym (map-append (exact t) (take s ks) (take m (drop s ks))) ∙ ap (map (exact t)) (sym (take-add s m ks)) in
    sym (take-append-drop (s + m) (put_mid s n now new))
    ∙ ap (λ x. x ++ drop (s + m) (put_mid s n now new)) (take-put_mid s n now new (s + m) (omega arith) (omega arith) ∙ ap (λ x. x ++ new) before ∙ joined)
    ∙ ap (λ x. map (exact t) (take (s + m) ks) ++ x) (drop-put_mid s n now new (s + m) (omega arith) (omega arith) (omega arith) ∙ after)

-- as far as keys and room go
pub batch_ends : (t : Tree) (keys : List (Bor (List ℕ))) (old now : List (Option (ℤ × ℕ))) (s : ℕ) → (length keys ≤ length old → s ≡ length keys) → (length old ≤ length keys → s ≡ length old)
    → now ≡ map (exact t) (take s (keys_of keys)) ++ drop s old → now ≡ map (exact t) (take (length old) (keys_of keys)) ++ drop (length keys) old
batch_ends t keys old now s fewer more so_far =
    let ks : List (List ℕ) = keys_of keys in
    let all : length ks ≡ length keys = key_count keys in
    elim (cases_lt (length keys) (length old)) [
      | inl h ↦
          let e : s ≡ length keys = fewer (omega arith) in
          let taken : take s ks ≡ take (length old) ks = take_all s ks (omega arith) ∙ sym (take_all (length old) ks (omega arith)) in
          so_far ∙ ap (λ x. map (exact t) x ++ drop s old) taken ∙ ap (λ x. map (exact t) (take (length old) ks) ++ drop x old) e
      | inr h ↦
          let e : s ≡ length old = more h in
          so_far ∙ ap (λ x. map (exact t) (take x ks) ++ drop s old) e
          ∙ ap (λ x. map (exact t) (take (length old) ks) ++ x) (drop_all s old (omega arith) ∙ sym (drop_all (length keys) old (omega arith)))
    ]
