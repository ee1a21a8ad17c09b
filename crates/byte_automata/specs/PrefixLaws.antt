-- What an automaton of a prefix knows: the laws that it proves.
use Rattle.std.proofs.Common.{◌≡◌, ℕ, suc, ◌+◌, Bool, true, false, cond, ◌&&◌, eqb, leb, List, []}
use Rattle.std.proofs.Common.{◌∷◌, ◌++◌, length, get_or, drop, Some, None, Option, is_some, refl}
use Rattle.std.proofs.Common.{sym, ◌∙◌, ap, inl, inr, add-one, drop-cons, drop_of_length-le}
use Rattle.std.specs.Prelude.{fold}
use Rattle.std.proofs.lemmas.Bool.{leb-true, leb-false, cases_Bool}
use Rattle.std.proofs.lemmas.List.Sums.{fold-append}
use Rattle.byte_automata.specs.Prefixes.{begins_with, prefix_after, prefix_ended}

-- a byte that differed ends it
none_stays : (prefix read : List ℕ) → fold (prefix_after prefix) None read ≡ None
none_stays prefix [] = refl
none_stays prefix (b ∷ read) = none_stays prefix read

-- so does the prefix's end
all_stays : (prefix read : List ℕ) (n : ℕ) → leb (length prefix) n ≡ true → fold (prefix_after prefix) (Some n) read ≡ Some n
all_stays prefix [] n h = refl
all_stays prefix (b ∷ read) n h =
    ap (λ t. fold (prefix_after prefix) (cond t (Some n) (cond (eqb (get_or prefix n 0) b) (Some (n + 1)) None)) read) h ∙ all_stays prefix read n h

-- the same with one byte more, where the prefix goes on
tells_one_more : (prefix read : List ℕ) (n b : ℕ) → prefix_ended prefix (fold (prefix_after prefix) (Some (n + 1)) read) ≡ begins_with (drop (n + 1) prefix) read
    → leb (length prefix) n ≡ false → prefix_ended prefix (fold (prefix_after prefix) (Some n) (b ∷ read)) ≡ begins_with (drop n prefix) (b ∷ read)
tells_one_more prefix read n b later more =
    let head = get_or prefix n 0 in
    let split : begins_with (drop n prefix) (b ∷ read) ≡ (eqb head b && begins_with (drop (suc n) prefix) read) =
    ap (λ w. begins_with w (b ∷ read)) (drop-cons prefix n 0 (leb-false (length prefix) n more)) in
    let opened : prefix_ended prefix (fold (prefix_after prefix) (Some n) (b ∷ read)) ≡ prefix_ended prefix (fold (prefix_after prefix) (cond (eqb head b) (Some (n + 1)) None) read) =
    ap (λ t. prefix_ended prefix (fold (prefix_after prefix) (cond t (Some n) (cond (eqb head b) (Some (n + 1)) None)) read)) more in
    let each : (t : Bool) → prefix_ended prefix (fold (prefix_after prefix) (cond t (Some (n + 1)) None) read) ≡ (t && begins_with (drop (suc n) prefix) read) =
    elim [ true ↦ later ∙ ap (λ m. begins_with (drop m prefix) read) (add-one n) | false ↦ ap (prefix_ended prefix) (none_stays prefix read) ] in
    opened ∙ each (eqb head b) ∙ sym split

-- where all of the prefix was read, nothing more is asked
all_read : (prefix read : List ℕ) (n : ℕ) → leb (length prefix) n ≡ true → prefix_ended prefix (fold (prefix_after prefix) (Some n) read) ≡ begins_with (drop n prefix) read
all_read prefix read n all =
    ap (prefix_ended prefix) (all_stays prefix read n all) ∙ all
    ∙ sym (ap (λ w. begins_with w read) (drop_of_length-le prefix (leb-true (length prefix) n all)))

-- what is left of the prefix is what the bytes have to begin with
tells_from : (prefix read : List ℕ) (n : ℕ) → prefix_ended prefix (fold (prefix_after prefix) (Some n) read) ≡ begins_with (drop n prefix) read
tells_from prefix [] n =
    elim (cases_Bool (leb (length prefix) n)) [
      | inl all ↦ all_read prefix [] n all
      | inr more ↦ more ∙ sym (ap (λ w. begins_with w []) (drop-cons prefix n 0 (leb-false (length prefix) n more)))
    ]
tells_from prefix (b ∷ read) n =
    elim (cases_Bool (leb (length prefix) n)) [
      | inl all ↦ all_read prefix (b ∷ read) n all
      | inr more ↦ tells_one_more prefix read n b (tells_from prefix read (n + 1)) more
    ]

-- what is known after some bytes says whether they begin with the prefix
pub prefix_tells : (prefix read : List ℕ) → prefix_ended prefix (fold (prefix_after prefix) (Some 0) read) ≡ begins_with prefix read
prefix_tells prefix read = tells_from prefix read 0

-- where a byte differed, nothing that goes on begins with the prefix
pub prefix_prunes : (prefix read rest : List ℕ) → is_some (fold (prefix_after prefix) (Some 0) read) ≡ false → begins_with prefix (read ++ rest) ≡ false
prefix_prunes prefix read rest h =
    let at = fold (prefix_after prefix) (Some 0) read in
    let ended : at ≡ None = none_of at h in
    sym (prefix_tells prefix (read ++ rest))
    ∙ ap (prefix_ended prefix) (fold-append (prefix_after prefix) (Some 0) read rest ∙ ap (λ s. fold (prefix_after prefix) s rest) ended ∙ none_stays prefix rest)
  where
    none_of : (at : Option ℕ) → is_some at ≡ false → at ≡ None
    none_of None h = refl
    none_of (Some n) h = cc
