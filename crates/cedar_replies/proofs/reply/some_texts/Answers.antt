use Rattle.std.proofs.Common.{rules, arith, ◌≡◌, ◌+◌, [], ◌∷◌, map, length, option_map, string_bytes, sym, subst, append-nil}
use Rattle.cedarwood.specs.Queries.{walk}
use Rattle.cedarwood.specs.Walks.{IsEntryError}
use Rattle.cedarwood.specs.declared.queries.entries.EntryError.TheVariants.{Utf8}
use Rattle.cedar_replies.specs.Replies.{AreTexts}
use Rattle.cedar_replies.proofs.TextLemmas.{text_given, text_missing, texts_more, IsTextStep}
use Rattle.cedar_replies.proofs.reply.some_texts.Goals as goal
use Rattle.cedar_replies.proofs.reply.some_texts.Goals.{in-Ok, in-Err-Utf8}

pub loop-entry-preserved : goal.loop-entry-preserved
loop-entry-preserved g c =
    let rest = c.loop-entry.entry-iterator in
    let next = c.next.new.self in
    let s = c.in-Some.ensures.steps in
    let step : IsTextStep rest next (option_map (λ e. (string_bytes e.0, e.1)) c.match-entry.text) =
    elim c.match-entry.branch [
      | in-Ok w ↦ let t = rw w.in-Ok.is at s in rw w.text-is (text_given rest next (string_bytes w.in-Ok.text.0, w.in-Ok.text.1) t)
      | in-Err-Utf8 w ↦
          let t : IsEntryError rest (Utf8 w.in-Err-Utf8.field-0-0) next = search rules in
          rw w.text-is (text_missing rest next (t.0, t.1, t.3))
    ] in
    let p = c.push_reserved.ensures in
    let inv = c.loop-entry.invariant in
    let shorter : length rest ≡ length next + 1 = step.shorter in (
      (λ later h. rw p.items (rw (texts_more (option_map (λ e. (string_bytes e.0, e.1))) c.loop-entry.found.items c.match-entry.text later)
          (inv.0 (option_map (λ e. (string_bytes e.0, e.1)) c.match-entry.text ∷ later) (step.texts later h)))),
      omega (arith, p.len, p.capacity, inv.1, shorter),
    )

pub returns : goal.returns
returns g c =
    let inv = c.loop-entry.invariant in
    let shown = map (option_map (λ e. (string_bytes e.0, e.1))) c.loop-entry.found.items in
    let ends : AreTexts [] c.loop-entry.entry-iterator = subst (AreTexts []) (sym c.in-None.ensures.steps.0) tt in
    subst (λ texts. AreTexts texts (walk c.args.trie.now.state.tree)) (append-nil shown) (inv.0 [] ends)
