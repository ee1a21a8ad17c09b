use Rattle.std.proofs.Common.{◌≡◌, ◌++◌, ℕ, ℤ, List, All, Bor, map}
use Rattle.cedar_words.specs.Words.{AreWholeCharacters, keywords_in, Spot}
use Rattle.uses.specs.Parts.{term_of}
use Rattle.uses.proofs.glossary.Glossary.terms_in.Given as goal

-- the keywords that are left are whole characters of the text, and the terms are the keywords before them
abbrev pub invariant-loop-keyword : goal.invariant-loop-keyword
invariant-loop-keyword l =
    All (λ (s : Spot). AreWholeCharacters l.text s.0 s.1) l.keyword-iterator
    × (map (λ (term : Bor (List ℕ) × ℤ). (term.0.now, term.1)) l.found.items ++ map (term_of l.text) l.keyword-iterator ≡ map (term_of l.text) (keywords_in l.self.tree l.text))
