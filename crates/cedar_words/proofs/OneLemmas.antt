-- That there is one cheapest cut, and that cuts cover their texts.
use Rattle.std.proofs.Common.{◌≡◌, ℕ, ◌+◌, ℤ, List, [], ◌∷◌, length, Option, Some, None, MatchOption, refl, sym, ap, subst, ◌∙◌, arith}
use Rattle.cedarwood.specs.Tree.{Tree}
use Rattle.cedarwood.proofs.MemberLemmas.{either_part}
use Rattle.cedar_words.specs.Cuts.{IsAhead, IsCheapestBy, IsCutFrom}
use Rattle.cedar_words.specs.Models.{IsBestCut}
use Rattle.cedar_words.specs.Tokens.{AreAdjacent, Token}
use Rattle.cedar_words.specs.declared.models.UnknownRun.{UnknownRun}
use Rattle.cedar_words.proofs.ModelCutLemmas.{cut_covers_by}

pub cut_covers : (t : Tree) (text : List ℕ) (tokens : List Token) (place : ℕ) → IsCutFrom t text place tokens → AreAdjacent tokens place (length text)
cut_covers t text [] place is = is
cut_covers t text (x ∷ tokens) place is = (is.0, is.1, cut_covers t text tokens (place + x.1) is.3)

same_value : (a b : Option ℤ) → MatchOption b (Unit {0}) (λ v. a ≡ Some v) → MatchOption a (Unit {0}) (λ v. b ≡ Some v) → a ≡ b
same_value None None h k = refl
same_value None (Some w) h k = h
same_value (Some v) None h k = sym k
same_value (Some v) (Some w) h k = h

-- two lists of tokens that cover a text, of which each is ahead of the other
one_adjacent : (place end : ℕ) (one other : List Token) → AreAdjacent one place end → AreAdjacent other place end → IsAhead one other → IsAhead other one → one ≡ other
one_adjacent place end [] [] a b ahead behind = refl
one_adjacent place end [] (y ∷ other) a b ahead behind = absurd behind
one_adjacent place end (x ∷ one) [] a b ahead behind = absurd ahead
one_adjacent place end (x ∷ one) (y ∷ other) a b ahead behind =
    either_part ahead
    (λ more. either_part behind (λ less. absurd (omega (arith, more, less))) (λ same. let len = same.0 in absurd (omega (arith, more, len))))
    (λ here. either_part behind
    (λ less. let len = here.0 in absurd (omega (arith, less, len)))
    (λ there.
    let len : x.1 ≡ y.1 = here.0 in
    let begin : x.0 ≡ y.0 = a.0 ∙ sym b.0 in
    let value : x.2 ≡ y.2 = same_value x.2 y.2 here.1 there.1 in
    let later : one ≡ other = one_adjacent (place + x.1) end one other a.2 (subst (λ n. AreAdjacent other (place + n) end) (sym len) b.2) here.2 there.2 in
    ap (λ s. (s, x.1, x.2) ∷ one) begin ∙ ap (λ n. (y.0, n, x.2) ∷ one) len ∙ ap (λ (v : Option ℤ). (y.0, y.1, v) ∷ one) value ∙ ap (λ ts. y ∷ ts) later))

pub cheapest_same : (t : Tree) (u : ℕ → ℕ) (text : List ℕ) (one other : List Token) → IsCheapestBy t u text one → IsCheapestBy t u text other → one ≡ other
cheapest_same t u text one other a b =
    one_adjacent 0 (length text) one other (cut_covers t text one 0 a.cut) (cut_covers t text other 0 b.cut) (a.ahead other b.cut (b.least one a.cut)) (b.ahead one a.cut (a.least other b.cut))

pub best_same : (t : Tree) (key : ℤ → ℕ) (run : ℕ → UnknownRun) (text : List ℕ) (one other : List Token) → IsBestCut t key run text one → IsBestCut t key run text other → one ≡ other
best_same t key run text one other a b =
    one_adjacent 0 (length text) one other (cut_covers_by t run text one 0 a.cut) (cut_covers_by t run text other 0 b.cut) (a.first other b.cut b.throughout) (b.first one a.cut a.throughout)
