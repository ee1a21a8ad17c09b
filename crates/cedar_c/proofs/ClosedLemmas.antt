-- A closed handle holds no key.
use Rattle.std.proofs.Common.{◌≡◌, ℕ, List, [], ◌∷◌, Option, None, refl, ap, ◌∙◌}
use Rattle.std.specs.Prelude.{ℤ}
use Rattle.cedarwood.specs.Tree.{empty_tree, number_at}
use Rattle.cedar_c.specs.Content.{content_tree}
use Rattle.either_layout.specs.declared.any.AnyCedar.{AnyCedar}

empty : (key : List ℕ) → ◌≡◌ {A = Option ℤ} (number_at empty_tree key) None
empty [] = refl
empty (b ∷ key) = empty key

pub closed_holds_nothing : (d : Option AnyCedar) (key : List ℕ) → d ≡ None → ◌≡◌ {A = Option ℤ} (number_at (content_tree d) key) None
closed_holds_nothing d key closed = ap (λ d. number_at (content_tree d) key) closed ∙ empty key

pub closed_is_empty : (d : Option AnyCedar) → d ≡ None → content_tree d ≡ empty_tree
closed_is_empty d closed = ap content_tree closed
