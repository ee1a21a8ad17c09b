use Rattle.std.proofs.Common.{◌≡◌, ◌+◌, ◌++◌, ◌≤◌, ℕ, List, All, Bor, length, map}
use Rattle.cedar_words.specs.Words.{segments}
use Rattle.uses.specs.Parts.{piece_of}
use Rattle.uses.proofs.tokenizer.pieces_of.Given as goal

-- the tokens that are left lie within the text, and the pieces are those of the tokens before them
abbrev pub invariant-loop-token : goal.invariant-loop-token
invariant-loop-token g l =
    All (λ token. token.0 + token.1 ≤ length l.text) l.token-iterator
    × (map (λ (piece : Bor (List ℕ)). piece.now) l.pieces.items ++ map (piece_of l.text) l.token-iterator ≡ map (piece_of l.text) (segments l.words.state.tree l.text))
