-- Lines that are put together in room, from its end.
use Rattle.std.proofs.Common.{◌≡◌, ◌≤◌, ℕ, ℤ, List, [], ◌∷◌, ◌++◌, ap, sym, ◌∙◌, arith, length, length-drop, take, drop, ◌-◌}
use Rattle.std.proofs.lemmas.List.{drop_all, take_all}
use Rattle.std.specs.Fmt.{signed_decimal}
use Rattle.word_lists.specs.Lines.{entry_line, word_text}
use Rattle.word_lists.specs.Texts.{tab_field}

-- the bytes from a position on, as a slice of an array has them
pub all_from : (size : ℕ) (room bytes : List ℕ) (at : ℕ) → length room ≤ size → drop at room ≡ bytes → take (size - at) (drop at room) ≡ bytes
all_from size room bytes at fits e = take_all (size - at) (drop at room) (omega (arith, length-drop at room)) ∙ e

-- a byte at the end of the room
pub at_end : (room : List ℕ) (at byte : ℕ) (bytes : List ℕ) → length room ≤ at → bytes ≡ byte ∷ drop at room → bytes ≡ byte ∷ []
at_end room at byte bytes h e = e ∙ ap (λ l. byte ∷ l) (drop_all at room h)

-- a word, a tab, its number and byte 10, put one before the other
pub entry_put : (word line tabbed figures end : List ℕ) (number : ℤ) → word_text word ≡ word → line ≡ word ++ tabbed → tabbed ≡ 9 ∷ figures
    → figures ≡ signed_decimal number ++ end → end ≡ 10 ∷ [] → line ≡ entry_line (word, number)
entry_put word line tabbed figures end number plain a b c d =
    a ∙ ap (λ l. word ++ l) (b ∙ ap (λ l. 9 ∷ l) (c ∙ ap (λ l. signed_decimal number ++ l) d)) ∙ ap (λ l. l ++ 9 ∷ (signed_decimal number ++ 10 ∷ [])) (sym plain)

-- two fields before the line of a word
pub fields_put : (size : ℕ) (room placed entry : List ℕ) (start line column : ℕ) (told : List ℕ) → length room ≤ size → drop start room ≡ tab_field line ++ placed
    → placed ≡ tab_field column ++ entry → entry ≡ told → take (size - start) (drop start room) ≡ tab_field line ++ (tab_field column ++ told)
fields_put size room placed entry start line column told fits a b c =
    all_from size room (tab_field line ++ (tab_field column ++ told)) start fits (a ∙ ap (λ l. tab_field line ++ l) (b ∙ ap (λ l. tab_field column ++ l) c))
