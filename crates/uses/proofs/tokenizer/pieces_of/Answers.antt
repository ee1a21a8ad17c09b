use Rattle.std.proofs.Common.{◌≡◌, ◌∙◌, ◌+◌, ◌++◌, ◌≤◌, ◌∷◌, ℕ, List, Bor, ap, arith, length, map, rules, sym}
use Rattle.std.proofs.lemmas.List.Elements.{All-head, All-same, All-tail}
use Rattle.cedar_words.specs.Words.{segments, Token}
use Rattle.cedar_words.proofs.TokenLemmas.{segments_within}
use Rattle.uses.specs.Parts.{piece_of}
use Rattle.uses.proofs.PartLemmas.{all_parts, part_is, part_more}
use Rattle.uses.proofs.tokenizer.pieces_of.Goals as goal

pub loop-token-init : goal.loop-token-init
loop-token-init g c =
    let tree = c.args.words.now.state.tree in
    let text = c.args.text.now in
    let all : c.into_iter-token-iterator.result ≡ segments c.args.words.now.state.tree c.args.text.now = search rules in (
      All-same (λ (token : Token). token.0 + token.1 ≤ length text) c.into_iter-token-iterator.result (segments tree text) all (segments_within tree text),
      ap (λ (xs : List (Bor (List ℕ))). map (λ piece. piece.now) xs ++ map (piece_of text) c.into_iter-token-iterator.result) c.new-pieces.ensures.items
          ∙ ap (λ (tokens : List Token). map (piece_of text) tokens) all,
    )

pub overflow_add-start : goal.overflow_add-start
overflow_add-start g c =
    let P = λ (token : Token). token.0 + token.1 ≤ length c.args.text.now in
    let all = All-same P (c.in-Some.token ∷ c.next.new.self) c.loop-token.token-iterator (sym c.in-Some.ensures.steps) c.loop-token.invariant.0 in
    let within : c.in-Some.token.0 + c.in-Some.token.1 ≤ length c.args.text.now = All-head P c.in-Some.token c.next.new.self all in
    omega (arith, within)

pub slice_bounds-push-end : goal.slice_bounds-push-end
slice_bounds-push-end g c =
    let P = λ (token : Token). token.0 + token.1 ≤ length c.args.text.now in
    let all = All-same P (c.in-Some.token ∷ c.next.new.self) c.loop-token.token-iterator (sym c.in-Some.ensures.steps) c.loop-token.invariant.0 in
    All-head P c.in-Some.token c.next.new.self all

pub loop-token-preserved : goal.loop-token-preserved
loop-token-preserved g c =
    let text = c.args.text.now in
    let P = λ (token : Token). token.0 + token.1 ≤ length c.args.text.now in
    let all = All-same P (c.in-Some.token ∷ c.next.new.self) c.loop-token.token-iterator (sym c.in-Some.ensures.steps) c.loop-token.invariant.0 in (
      All-tail P c.in-Some.token c.next.new.self all,
      part_more (λ (piece : Bor (List ℕ)). piece.now) (piece_of text) c.loop-token.pieces.items c.push.new.self.items _ c.in-Some.token c.loop-token.token-iterator c.next.new.self
          (map (piece_of text) (segments c.args.words.now.state.tree text)) c.loop-token.invariant.1 c.in-Some.ensures.steps c.in_ok-push.ensures.items (part_is text c.in-Some.token.0 c.in-Some.token.1),
    )

pub returns : goal.returns
returns g c =
    let text = c.args.text.now in
    all_parts (λ (piece : Bor (List ℕ)). piece.now) (piece_of text) c.loop-token.pieces.items c.loop-token.token-iterator (map (piece_of text) (segments c.args.words.now.state.tree text))
    c.loop-token.invariant.1 c.in-None.ensures.steps.0
