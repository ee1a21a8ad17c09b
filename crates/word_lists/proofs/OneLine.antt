-- What one line stores, and what is reported of it.
use Rattle.std.proofs.Common.{◌≡◌, ◌∙◌, ℕ, ℤ, List, Bool, true, cond, is_some, Option, Some, None, refl, sym, ap}
use Rattle.std.specs.List.{before_first}
use Rattle.cedarwood.specs.State.{State}
use Rattle.cedarwood.specs.Tree.{number_at}
use Rattle.cedarwood.specs.Fault.{fault}
use Rattle.word_lists.specs.Reading.{read_as}
use Rattle.word_lists.specs.Stored.{is_tab, line_stored, line_told, number_of_line, stored_by, stored_with, told_by, told_with, word_of}
use Rattle.device_lines.specs.Lines.{is_filled}
use Rattle.word_lists.specs.declared.lines.LineFault.{LineFault as Fault}
use Rattle.word_lists.specs.declared.lines.LineFault.TheVariants as faults

-- a line that has a number stores its word with it
pub stored_as : (s : State) (number : ℕ) (line text word : List ℕ) (v : ℤ) → is_filled line ≡ true → text ≡ before_first is_tab line → word ≡ read_as text → number_of_line number line ≡ Some v
    → stored_by (fault word v) s word v ≡ line_stored s number line
stored_as s number line text word v filled is reads numbered = sym (
    ap (λ f. cond f (stored_with (number_of_line number line) s (word_of line)) s) filled ∙ ap (λ o. stored_with o s (word_of line)) numbered
    ∙ ap (λ x. stored_by (fault x v) s x v) (sym (reads ∙ ap read_as is)))

pub told_as : (s : State) (number : ℕ) (line text word : List ℕ) (v : ℤ) → is_filled line ≡ true → text ≡ before_first is_tab line → word ≡ read_as text → number_of_line number line ≡ Some v
    → told_by (fault word v) (is_some (number_at s.tree word)) ≡ line_told s number line
told_as s number line text word v filled is reads numbered = sym (
    ap (λ (f : Bool). cond f (told_with (number_of_line number line) s (word_of line)) None) filled ∙ ap (λ o. told_with o s (word_of line)) numbered
    ∙ ap (λ x. told_by (fault x v) (is_some (number_at s.tree x))) (sym (reads ∙ ap read_as is)))

-- one that has none stores nothing, and is reported
pub unnumbered_stored : (s : State) (number : ℕ) (line : List ℕ) → is_filled line ≡ true → number_of_line number line ≡ None → s ≡ line_stored s number line
unnumbered_stored s number line filled lacks =
    sym (ap (λ f. cond f (stored_with (number_of_line number line) s (word_of line)) s) filled ∙ ap (λ o. stored_with o s (word_of line)) lacks)

pub unnumbered_told : (s : State) (number : ℕ) (line : List ℕ) → is_filled line ≡ true → number_of_line number line ≡ None → ◌≡◌ {A = Option Fault} (Some faults.Number) (line_told s number line)
unnumbered_told s number line filled lacks =
    sym (ap (λ (f : Bool). cond f (told_with (number_of_line number line) s (word_of line)) None) filled ∙ ap (λ o. told_with o s (word_of line)) lacks)

-- a number that is no number is none
pub lacks_number : (o : Option ℤ) → ((v : ℤ) → o ≡ Some v → ⊥) → o ≡ None
lacks_number None never = refl
lacks_number (Some v) never = absurd (never v refl)
