-- Text entries as their keys decide them.
use Rattle.std.proofs.Common.{◌≡◌, ℤ, Bool, true, false, cond, List, [], ◌∷◌, map, Option, option_map, Some, None, refl, ap, subst, sym, ◌∙◌, string_bytes}
use Rattle.std.specs.Prelude.{String}
use Rattle.std.specs.Str.{is_utf8, IsUtf8}
use Rattle.std.proofs.lemmas.Str.{is_utf8-from_IsUtf8, IsUtf8-from_is_utf8, IsUtf8-string_bytes}
use Rattle.cedarwood.specs.Queries.{Entry}
use Rattle.cedar_replies.specs.Replies.{AreTexts}
use Rattle.cedar_calls.specs.Plain.{text_entries_of}

-- each entry's text follows from its key's bytes
text_is : (b : Bool) (e : Entry) → is_utf8 e.0 ≡ b → (IsUtf8 e.0 → ⊥) → cond b (Some e) None ≡ None
text_is true e same lacks = absurd (lacks (IsUtf8-from_is_utf8 e.0 same))
text_is false e same lacks = refl

pub texts_are : {A : Type 0} (items : List (Option (String A × ℤ))) (es : List Entry) → AreTexts (map (option_map (λ e. (string_bytes e.0, e.1))) items) es
    → map (option_map (λ e. (string_bytes e.0, e.1))) items ≡ text_entries_of es
texts_are [] [] h = refl
texts_are [] (e ∷ es) h = absurd h
texts_are (Some text ∷ items) [] h = absurd h
texts_are (None ∷ items) [] h = absurd h
texts_are (Some text ∷ items) (e ∷ es) h =
    let whole : is_utf8 e.0 ≡ true = subst (λ x. is_utf8 x.0 ≡ true) h.0 (is_utf8-from_IsUtf8 (string_bytes text.0) (IsUtf8-string_bytes text.0)) in
    ap (λ x. Some x ∷ map (option_map (λ e. (string_bytes e.0, e.1))) items) h.0 ∙ ap (λ b. cond b (Some e) None ∷ map (option_map (λ e. (string_bytes e.0, e.1))) items) (sym whole)
    ∙ ap (λ xs. cond (is_utf8 e.0) (Some e) None ∷ xs) (texts_are items es h.1)
texts_are (None ∷ items) (e ∷ es) h =
    ap (λ x. x ∷ map (option_map (λ e. (string_bytes e.0, e.1))) items) (sym (text_is (is_utf8 e.0) e refl h.0))
    ∙ ap (λ xs. cond (is_utf8 e.0) (Some e) None ∷ xs) (texts_are items es h.1)
