use Rattle.std.proofs.Common.{rules, ◌≡◌, ◌<◌, ◌≤◌, length, sym, subst, slice_set, refl, Some, None}
use Rattle.std.specs.List.{slice_get}
use Rattle.cedar_calls.specs.declared.answer.Answer.TheVariants as answer
use Rattle.cedar_calls.specs.Runs.{IsStep}
use Rattle.cedar_calls.proofs.PlaceLemmas.{stands_at}
use Rattle.std.proofs.lemmas.Option.{slice_get_past}
use Rattle.cedar_calls.proofs.run.make_call.Goals as goal

pub returns-in-Sorted-clause-step : goal.returns-in-Sorted-clause-step
returns-in-Sorted-clause-step g c =
    let m = c.from_sorted_bytes_with-made in
    subst (λ call. IsStep {A = g.row.A.Denot} g.L.Layout.kind g.row.SLOTS c.args.tries.now.items call (answer.Made c.join-in-Sorted.result) c.join-in-Sorted.new.tries.items) (sym c.in-Sorted.is)
    (m.result, m.ensures.built, c.join-in-Sorted.ensures.joins)

pub returns-in-Unsorted-clause-step : goal.returns-in-Unsorted-clause-step
returns-in-Unsorted-clause-step g c =
    let m = c.from_pairs_bytes_with-made in
    subst (λ call. IsStep {A = g.row.A.Denot} g.L.Layout.kind g.row.SLOTS c.args.tries.now.items call (answer.Made c.join-in-Unsorted.result) c.join-in-Unsorted.new.tries.items) (sym c.in-Unsorted.is)
    (m.result, m.ensures.built, c.join-in-Unsorted.ensures.joins)

pub returns-in-Some-clause-step : goal.returns-in-Some-clause-step
returns-in-Some-clause-step g c =
    let found = c.in-Some.ensures.lookup in
    let i = c.in-Clone.index in
    let here : slice_get c.args.tries.now.items i ≡ Some c.in-Some.trie.now =
    subst (λ xs. slice_get xs i ≡ Some c.in-Some.trie.now) c.deref.ensures.value (stands_at c.deref.result.now i c.in-Some.trie.now found.3.0 found.1) in
    subst (λ call. IsStep {A = g.row.A.Denot} g.L.Layout.kind g.row.SLOTS c.args.tries.now.items call (answer.Made c.join-in-Some.result) c.join-in-Some.new.tries.items) (sym c.in-Clone.is)
    (c.in-Some.trie.now, here, (c.copy-copied.result, c.copy-copied.ensures, c.join-in-Some.ensures.joins))

pub returns-in-None-clause-step : goal.returns-in-None-clause-step
returns-in-None-clause-step g c =
    let found = c.in-None.ensures.lookup in
    let i = c.in-Clone.index in
    let missed : slice_get c.args.tries.now.items i ≡ None = subst (λ xs. slice_get xs i ≡ None) c.deref.ensures.value (slice_get_past c.deref.result.now i found.3) in
    subst (λ call. IsStep {A = g.row.A.Denot} g.L.Layout.kind g.row.SLOTS c.args.tries.now.items call answer.Missing c.args.tries.now.items) (sym c.in-Clone.is) (missed, refl)

pub returns-in-Some-get_mut-clause-step : goal.returns-in-Some-get_mut-clause-step
returns-in-Some-get_mut-clause-step g c =
    let found = c.in-Some-get_mut.ensures in
    let i = c.in-Change.index in
    let within : i < length c.args.tries.now.items = search rules in
    subst (λ call. IsStep {A = g.row.A.Denot} g.L.Layout.kind g.row.SLOTS c.args.tries.now.items call (answer.Changed c.make_change.result) (slice_set c.args.tries.now.items i c.make_change.new.trie)) (sym c.in-Change.is)
    (c.in-Some-get_mut.trie.now, c.make_change.new.trie, stands_at c.args.tries.now.items i c.in-Some-get_mut.trie.now within found.value, (c.is_valid.ensures, c.make_change.ensures), refl)

pub returns-in-None-get_mut-clause-step : goal.returns-in-None-get_mut-clause-step
returns-in-None-get_mut-clause-step g c =
    let i = c.in-Change.index in
    let past : length c.args.tries.now.items ≤ i = search rules in
    subst (λ call. IsStep {A = g.row.A.Denot} g.L.Layout.kind g.row.SLOTS c.args.tries.now.items call answer.Missing c.args.tries.now.items) (sym c.in-Change.is) (slice_get_past c.args.tries.now.items i past, refl)

pub returns-in-Some-get-clause-step : goal.returns-in-Some-get-clause-step
returns-in-Some-get-clause-step g c =
    let found = c.in-Some-get.ensures.lookup in
    let i = c.in-Ask.index in
    let here : slice_get c.args.tries.now.items i ≡ Some c.in-Some-get.trie.now =
    subst (λ xs. slice_get xs i ≡ Some c.in-Some-get.trie.now) c.deref-in-Ask.ensures.value (stands_at c.deref-in-Ask.result.now i c.in-Some-get.trie.now found.3.0 found.1) in
    subst (λ call. IsStep {A = g.row.A.Denot} g.L.Layout.kind g.row.SLOTS c.args.tries.now.items call (answer.Replied c.reply_to.result) c.args.tries.now.items) (sym c.in-Ask.is) (c.in-Some-get.trie.now, here, (c.stands_on_its_table.ensures, c.reply_to.ensures), refl)

pub returns-in-None-get-clause-step : goal.returns-in-None-get-clause-step
returns-in-None-get-clause-step g c =
    let found = c.in-None-get.ensures.lookup in
    let i = c.in-Ask.index in
    let missed : slice_get c.args.tries.now.items i ≡ None = subst (λ xs. slice_get xs i ≡ None) c.deref-in-Ask.ensures.value (slice_get_past c.deref-in-Ask.result.now i found.3) in
    subst (λ call. IsStep {A = g.row.A.Denot} g.L.Layout.kind g.row.SLOTS c.args.tries.now.items call answer.Missing c.args.tries.now.items) (sym c.in-Ask.is) (missed, refl)
