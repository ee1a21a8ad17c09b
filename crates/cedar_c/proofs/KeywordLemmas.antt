-- Keywords written one after another.
use Rattle.std.proofs.Common.{◌≡◌, ℕ, ◌+◌, ◌<◌, ℤ, List, [], ◌∷◌, ◌++◌, length, map, take, drop, set, Option, Some, None, sym, ap, ◌∙◌, arith}
use Rattle.std.proofs.lemmas.List.{append_assoc, drop-drop, length-drop, take_more_set}
use Rattle.cedarwood.specs.Tree.{Tree}
use Rattle.cedar_words.specs.Words.{keywords_of, longest}
use Rattle.cedar_words.proofs.TokenLemmas.{tokens_next}
use Rattle.cedar_c.specs.Scans.{WritesOn, found_keyword, found_keywords, found_spot}
use Rattle.cedar_c.specs.declared.scans.Found.{Found}

module _ (t : Tree) (text : List ℕ) (next : ℕ) (xs : List Found) (count : ℕ) where
  -- a key at the position is the next keyword
  pub keyword_told : (found : ℤ × ℕ) → next < length text → count < length xs → longest t (drop next text) ≡ Some found
      → WritesOn (found_keywords t) text next (next + (found.1 + 1)) (take count xs) (take (count + 1) (set xs count (found_spot next found)))
  keyword_told found low room is =
      let some : 0 < length (drop next text) = omega (arith, length-drop next text, low) in
      let later = found_keywords t (next + (found.1 + 1)) (drop (next + (found.1 + 1)) text) in
      ap (λ ts. take count xs ++ map found_keyword (keywords_of ts)) (tokens_next t next (drop next text) some (Some found) is)
      ∙ ap (λ r. take count xs ++ found_spot next found ∷ found_keywords t (next + (found.1 + 1)) r) (drop-drop (found.1 + 1) next text)
      ∙ sym (append_assoc (take count xs) (found_spot next found ∷ []) later)
      ∙ ap (λ l. l ++ later) (sym (take_more_set xs count (found_spot next found) room))

  -- a byte that no key begins with is passed
  pub byte_passed : next < length text → ◌≡◌ {A = Option (ℤ × ℕ)} (longest t (drop next text)) None
      → WritesOn (found_keywords t) text next (next + 1) (take count xs) (take count xs)
  byte_passed low is =
      let some : 0 < length (drop next text) = omega (arith, length-drop next text, low) in
      ap (λ ts. take count xs ++ map found_keyword (keywords_of ts)) (tokens_next t next (drop next text) some None is)
      ∙ ap (λ r. take count xs ++ found_keywords t (next + 1) r) (drop-drop 1 next text)
