use Rattle.std.proofs.Common.{◌≡◌, ◌∷◌, false, not, sym, ap, ◌∙◌}
use Rattle.std.specs.Prelude.{codes, is_some, option_map}
use Rattle.cedar_cli.specs.Options.{request_besides, is_new, request_in, words}
use Rattle.cedar_cli.proofs.Begun.{given_before, limit_first, limit_wrong, load_first, none_given, ordered_given, other_word, reduced_first, save_first, some_given, unordered_first, v1_0_first}
use Rattle.cedar_cli.proofs.options.+with_options.Goals as goal
use Rattle.cedar_cli.proofs.options.+with_options.Goals.{else-eq-via-then-eq+else-options, else-eq-via-else-eq, else-eq-2-via-then-eq-2+else-not-options, else-eq-2-via-else-eq-2, else-eq-3-via-then-eq-3+else-not-options-2, else-eq-3-via-else-eq-3, else-eq-4-via-then-eq-4+else-is_none, else-eq-4-via-else-eq-4, else-eq-5-via-then-eq-5+else-is_none-2, else-eq-5-via-else-eq-5}

pub returns-then-options : goal.returns-then-options
returns-then-options t c =
    let asked = request_in c.args.options in
    c.with_options.ensures
    ∙ sym (unordered_first asked c.in-Some.word.now.now (words c.in-Some.after.now) (sym c.eq.ensures ∙ c.if-eq.true) c.if-options.true)
    ∙ ap (λ ws. request_besides asked (words ws)) (sym c.in-Some.ensures.cases.0)

pub returns-then-not-options : goal.returns-then-not-options
returns-then-not-options t c =
    let asked = request_in c.args.options in
    let word = c.in-Some.word.now.now in
    let other : is_new word (codes "--unordered") (not asked.ordered) ≡ false = elim c.else-eq.branch [
      | else-eq-via-then-eq+else-options w ↦ ordered_given word (codes "--unordered") asked.ordered w.if-options.false
      | else-eq-via-else-eq w ↦ other_word word (codes "--unordered") (not asked.ordered) (sym c.eq.ensures ∙ w.if-eq.false)
    ] in
    c.with_options-then-not-options.ensures
    ∙ sym (v1_0_first asked word (words c.in-Some.after.now) other (sym c.eq-2.ensures ∙ c.if-eq-2.true) c.if-not-options.true)
    ∙ ap (λ ws. request_besides asked (words ws)) (sym c.in-Some.ensures.cases.0)

pub returns-then-not-options-2 : goal.returns-then-not-options-2
returns-then-not-options-2 t c =
    let asked = request_in c.args.options in
    let word = c.in-Some.word.now.now in
    let other : is_new word (codes "--unordered") (not asked.ordered) ≡ false = elim c.else-eq.branch [
      | else-eq-via-then-eq+else-options w ↦ ordered_given word (codes "--unordered") asked.ordered w.if-options.false
      | else-eq-via-else-eq w ↦ other_word word (codes "--unordered") (not asked.ordered) (sym c.eq.ensures ∙ w.if-eq.false)
    ] in
    let kept : is_new word (codes "--v1-0") asked.v1_0 ≡ false = elim c.else-eq-2.branch [
      | else-eq-2-via-then-eq-2+else-not-options w ↦ given_before word (codes "--v1-0") asked.v1_0 w.if-not-options.false
      | else-eq-2-via-else-eq-2 w ↦ other_word word (codes "--v1-0") asked.v1_0 (sym c.eq-2.ensures ∙ w.if-eq-2.false)
    ] in
    c.with_options-then-not-options-2.ensures
    ∙ sym (reduced_first asked word (words c.in-Some.after.now) other kept (sym c.eq-3.ensures ∙ c.if-eq-3.true) c.if-not-options-2.true)
    ∙ ap (λ ws. request_besides asked (words ws)) (sym c.in-Some.ensures.cases.0)

pub returns-then-is_none : goal.returns-then-is_none
returns-then-is_none t c =
    let asked = request_in c.args.options in
    let word = c.in-Some.word.now.now in
    let other : is_new word (codes "--unordered") (not asked.ordered) ≡ false = elim c.else-eq.branch [
      | else-eq-via-then-eq+else-options w ↦ ordered_given word (codes "--unordered") asked.ordered w.if-options.false
      | else-eq-via-else-eq w ↦ other_word word (codes "--unordered") (not asked.ordered) (sym c.eq.ensures ∙ w.if-eq.false)
    ] in
    let kept : is_new word (codes "--v1-0") asked.v1_0 ≡ false = elim c.else-eq-2.branch [
      | else-eq-2-via-then-eq-2+else-not-options w ↦ given_before word (codes "--v1-0") asked.v1_0 w.if-not-options.false
      | else-eq-2-via-else-eq-2 w ↦ other_word word (codes "--v1-0") asked.v1_0 (sym c.eq-2.ensures ∙ w.if-eq-2.false)
    ] in
    let wide : is_new word (codes "--reduced") asked.reduced ≡ false = elim c.else-eq-3.branch [
      | else-eq-3-via-then-eq-3+else-not-options-2 w ↦ given_before word (codes "--reduced") asked.reduced w.if-not-options-2.false
      | else-eq-3-via-else-eq-3 w ↦ other_word word (codes "--reduced") asked.reduced (sym c.eq-3.ensures ∙ w.if-eq-3.false)
    ] in
    c.with_options-then-is_none.ensures
    ∙ sym (load_first asked word c.in_ok-value.value.now.now (words c.in_ok-value.after.now) other kept wide (sym c.eq-4.ensures ∙ c.if-eq-4.true) (none_given c.args.options.load (c.is_none.ensures ∙ ap not c.if-is_none.true)))
    ∙ ap (λ ws. request_besides asked (word ∷ words ws)) (sym c.in_ok-value.ensures.cases.0)
    ∙ ap (λ ws. request_besides asked (words ws)) (sym c.in-Some.ensures.cases.0)

pub returns-then-is_none-2 : goal.returns-then-is_none-2
returns-then-is_none-2 t c =
    let asked = request_in c.args.options in
    let word = c.in-Some.word.now.now in
    let other : is_new word (codes "--unordered") (not asked.ordered) ≡ false = elim c.else-eq.branch [
      | else-eq-via-then-eq+else-options w ↦ ordered_given word (codes "--unordered") asked.ordered w.if-options.false
      | else-eq-via-else-eq w ↦ other_word word (codes "--unordered") (not asked.ordered) (sym c.eq.ensures ∙ w.if-eq.false)
    ] in
    let kept : is_new word (codes "--v1-0") asked.v1_0 ≡ false = elim c.else-eq-2.branch [
      | else-eq-2-via-then-eq-2+else-not-options w ↦ given_before word (codes "--v1-0") asked.v1_0 w.if-not-options.false
      | else-eq-2-via-else-eq-2 w ↦ other_word word (codes "--v1-0") asked.v1_0 (sym c.eq-2.ensures ∙ w.if-eq-2.false)
    ] in
    let wide : is_new word (codes "--reduced") asked.reduced ≡ false = elim c.else-eq-3.branch [
      | else-eq-3-via-then-eq-3+else-not-options-2 w ↦ given_before word (codes "--reduced") asked.reduced w.if-not-options-2.false
      | else-eq-3-via-else-eq-3 w ↦ other_word word (codes "--reduced") asked.reduced (sym c.eq-3.ensures ∙ w.if-eq-3.false)
    ] in
    let old : is_new word (codes "--load") (is_some asked.load) ≡ false = elim c.else-eq-4.branch [
      | else-eq-4-via-then-eq-4+else-is_none w ↦ given_before word (codes "--load") (is_some asked.load) (some_given c.args.options.load (w.is_none.ensures ∙ ap not w.if-is_none.false))
      | else-eq-4-via-else-eq-4 w ↦ other_word word (codes "--load") (is_some asked.load) (sym c.eq-4.ensures ∙ w.if-eq-4.false)
    ] in
    c.with_options-then-is_none-2.ensures
    ∙ sym (save_first asked word c.in_ok-value.value.now.now (words c.in_ok-value.after.now) other kept wide old (sym c.eq-5.ensures ∙ c.if-eq-5.true) (none_given c.args.options.save (c.is_none-then-eq-5.ensures ∙ ap not c.if-is_none-2.true)))
    ∙ ap (λ ws. request_besides asked (word ∷ words ws)) (sym c.in_ok-value.ensures.cases.0)
    ∙ ap (λ ws. request_besides asked (words ws)) (sym c.in-Some.ensures.cases.0)

pub returns-then-is_none-3 : goal.returns-then-is_none-3
returns-then-is_none-3 t c =
    let asked = request_in c.args.options in
    let word = c.in-Some.word.now.now in
    let other : is_new word (codes "--unordered") (not asked.ordered) ≡ false = elim c.else-eq.branch [
      | else-eq-via-then-eq+else-options w ↦ ordered_given word (codes "--unordered") asked.ordered w.if-options.false
      | else-eq-via-else-eq w ↦ other_word word (codes "--unordered") (not asked.ordered) (sym c.eq.ensures ∙ w.if-eq.false)
    ] in
    let kept : is_new word (codes "--v1-0") asked.v1_0 ≡ false = elim c.else-eq-2.branch [
      | else-eq-2-via-then-eq-2+else-not-options w ↦ given_before word (codes "--v1-0") asked.v1_0 w.if-not-options.false
      | else-eq-2-via-else-eq-2 w ↦ other_word word (codes "--v1-0") asked.v1_0 (sym c.eq-2.ensures ∙ w.if-eq-2.false)
    ] in
    let wide : is_new word (codes "--reduced") asked.reduced ≡ false = elim c.else-eq-3.branch [
      | else-eq-3-via-then-eq-3+else-not-options-2 w ↦ given_before word (codes "--reduced") asked.reduced w.if-not-options-2.false
      | else-eq-3-via-else-eq-3 w ↦ other_word word (codes "--reduced") asked.reduced (sym c.eq-3.ensures ∙ w.if-eq-3.false)
    ] in
    let old : is_new word (codes "--load") (is_some asked.load) ≡ false = elim c.else-eq-4.branch [
      | else-eq-4-via-then-eq-4+else-is_none w ↦ given_before word (codes "--load") (is_some asked.load) (some_given c.args.options.load (w.is_none.ensures ∙ ap not w.if-is_none.false))
      | else-eq-4-via-else-eq-4 w ↦ other_word word (codes "--load") (is_some asked.load) (sym c.eq-4.ensures ∙ w.if-eq-4.false)
    ] in
    let saved : is_new word (codes "--save") (is_some asked.save) ≡ false = elim c.else-eq-5.branch [
      | else-eq-5-via-then-eq-5+else-is_none-2 w ↦ given_before word (codes "--save") (is_some asked.save) (some_given c.args.options.save (w.is_none-then-eq-5.ensures ∙ ap not w.if-is_none-2.false))
      | else-eq-5-via-else-eq-5 w ↦ other_word word (codes "--save") (is_some asked.save) (sym c.eq-5.ensures ∙ w.if-eq-5.false)
    ] in
    c.with_options-then-is_none-3.ensures
    ∙ sym (limit_first asked word c.in_ok-value.value.now.now (words c.in_ok-value.after.now) other kept wide old saved c.in_ok-bytes.bytes (sym c.eq-6.ensures ∙ c.if-eq-6.true) (c.is_none-then-eq-6.ensures ∙ ap not c.if-is_none-3.true) (sym c.in_ok-bytes.ensures))
    ∙ ap (λ ws. request_besides asked (word ∷ words ws)) (sym c.in_ok-value.ensures.cases.0)
    ∙ ap (λ ws. request_besides asked (words ws)) (sym c.in-Some.ensures.cases.0)

pub returns-in_err-bytes : goal.returns-in_err-bytes
returns-in_err-bytes t c =
    let asked = request_in c.args.options in
    let word = c.in-Some.word.now.now in
    let other : is_new word (codes "--unordered") (not asked.ordered) ≡ false = elim c.else-eq.branch [
      | else-eq-via-then-eq+else-options w ↦ ordered_given word (codes "--unordered") asked.ordered w.if-options.false
      | else-eq-via-else-eq w ↦ other_word word (codes "--unordered") (not asked.ordered) (sym c.eq.ensures ∙ w.if-eq.false)
    ] in
    let kept : is_new word (codes "--v1-0") asked.v1_0 ≡ false = elim c.else-eq-2.branch [
      | else-eq-2-via-then-eq-2+else-not-options w ↦ given_before word (codes "--v1-0") asked.v1_0 w.if-not-options.false
      | else-eq-2-via-else-eq-2 w ↦ other_word word (codes "--v1-0") asked.v1_0 (sym c.eq-2.ensures ∙ w.if-eq-2.false)
    ] in
    let wide : is_new word (codes "--reduced") asked.reduced ≡ false = elim c.else-eq-3.branch [
      | else-eq-3-via-then-eq-3+else-not-options-2 w ↦ given_before word (codes "--reduced") asked.reduced w.if-not-options-2.false
      | else-eq-3-via-else-eq-3 w ↦ other_word word (codes "--reduced") asked.reduced (sym c.eq-3.ensures ∙ w.if-eq-3.false)
    ] in
    let old : is_new word (codes "--load") (is_some asked.load) ≡ false = elim c.else-eq-4.branch [
      | else-eq-4-via-then-eq-4+else-is_none w ↦ given_before word (codes "--load") (is_some asked.load) (some_given c.args.options.load (w.is_none.ensures ∙ ap not w.if-is_none.false))
      | else-eq-4-via-else-eq-4 w ↦ other_word word (codes "--load") (is_some asked.load) (sym c.eq-4.ensures ∙ w.if-eq-4.false)
    ] in
    let saved : is_new word (codes "--save") (is_some asked.save) ≡ false = elim c.else-eq-5.branch [
      | else-eq-5-via-then-eq-5+else-is_none-2 w ↦ given_before word (codes "--save") (is_some asked.save) (some_given c.args.options.save (w.is_none-then-eq-5.ensures ∙ ap not w.if-is_none-2.false))
      | else-eq-5-via-else-eq-5 w ↦ other_word word (codes "--save") (is_some asked.save) (sym c.eq-5.ensures ∙ w.if-eq-5.false)
    ] in
    ap (option_map request_in) c.from_residual-in_err-bytes.ensures
    ∙ sym (limit_wrong asked word c.in_ok-value.value.now.now (words c.in_ok-value.after.now) other kept wide old saved (sym c.in_err-bytes.ensures))
    ∙ ap (λ ws. request_besides asked (word ∷ words ws)) (sym c.in_ok-value.ensures.cases.0)
    ∙ ap (λ ws. request_besides asked (words ws)) (sym c.in-Some.ensures.cases.0)
