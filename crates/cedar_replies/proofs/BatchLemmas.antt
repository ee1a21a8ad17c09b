-- Results of some keys, for each of which there was an element.
use Rattle.std.proofs.Common.{◌≡◌, ℕ, List, [], ◌++◌, drop, length, map, take, ap, sym, ◌∙◌, append-nil, arith}
use Rattle.std.proofs.lemmas.List.{drop_all, length-map}
use Rattle.std.proofs.Math.Seq.{take-length}

-- where there are as many elements as results, nothing but these is in them
pub each_filled : {Y : Type 0} (n : ℕ) (before after held results : List Y) → length before ≡ n → length held ≡ n → length results ≡ n
    → after ≡ results ++ drop n before → (after ≡ results) × (take n (after ++ drop (length after) held) ≡ results)
each_filled n before after held results room size count h =
    let filled : drop n before ≡ [] = drop_all n before (omega (arith, room)) in
    let answered : after ≡ results = h ∙ ap (λ left. results ++ left) filled ∙ append-nil results in
    let long : length after ≡ n = ap length answered ∙ count in
    let none : drop (length after) held ≡ [] = drop_all (length after) held (omega (arith, long, size)) in
    (answered, ap (λ left. take n (after ++ left)) none ∙ ap (take n) (append-nil after) ∙ ap (λ m. take m after) (sym long) ∙ take-length after ∙ answered)

-- as many elements as keys are enough for all of them
pub all_asked : {X : Type 0} (keys : List X) (n m : ℕ) → length keys ≡ n → m ≡ n → take m keys ≡ keys
all_asked keys n m count room = ap (λ k. take k keys) (room ∙ sym count) ∙ take-length keys

-- where there are as many elements as keys, nothing but the answers is in them
pub all_filled : {X Y : Type 0} (f : X → Y) (keys : List X) (n : ℕ) (before after held : List Y) → length keys ≡ n → length before ≡ n → length held ≡ n
    → after ≡ map f (take (length before) keys) ++ drop n before → take n (after ++ drop (length after) held) ≡ map f keys
all_filled f keys n before after held count room size h =
    let asked = all_asked keys n (length before) count room in
    (each_filled n before after held (map f keys) room size (length-map keys f ∙ count) (h ∙ ap (λ ks. map f ks ++ drop n before) asked)).1
