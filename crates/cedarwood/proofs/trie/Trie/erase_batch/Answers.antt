use Rattle.std.proofs.Common.{◌<◌, [], arith, length, take}
use Rattle.std.specs.Borrow.{Bor}
use Rattle.std.specs.Prelude.{List, ℕ}
use Rattle.cedar_walk.specs.Batch.{keys_of}
use Rattle.cedarwood.proofs.BatchLemmas.{all_answers, all_erasures, behind_stay, erasure_more, sizes_of, state_of}
use Rattle.cedarwood.proofs.trie.Trie.erase_batch.Goals as goal

-- what follows the keys
abbrev blank : Bor (List ℕ)
blank = record { ref_ptr = (0, 0); now = [] }

pub loop-index-preserved : goal.loop-index-preserved
loop-index-preserved g c =
    let e = c.erase_bytes.ensures in
    let i = c.loop-index.index in
    let inside : i < length c.args.keys.now = omega (arith, c.loop-index-test.true) in
    let room : i < length c.loop-index.answers = omega (arith, c.loop-index.auto.answers, c.loop-index-test.true) in (
      erasure_more c.args.self.now c.loop-index.self c.erase_bytes.new.self c.args.keys.now c.loop-index.answers i blank c.erase_bytes.result inside room c.loop-index.invariant.0
          (record { answer = e.answer; state = e.after; marks = e.marks; marked = e.marked; size = e.size; max_trial = e.max_trial; search_limit = e.search_limit }),
      behind_stay c.args.answers.now c.loop-index.answers i c.erase_bytes.result c.loop-index.invariant.1,
    )

pub returns-clause-erasures : goal.returns-clause-erasures
returns-clause-erasures g c =
    all_erasures c.args.self.now c.loop-index.self c.args.keys.now c.args.answers.now c.loop-index.answers c.loop-index.index (λ h. omega (arith, h, c.loop-index.auto.index-end, c.loop-index-test.false))
    (λ h. omega (arith, h, c.loop-index.auto.index-end, c.loop-index-test.false)) c.loop-index.auto.answers c.loop-index.invariant.0 c.loop-index.invariant.1

pub returns-clause-answers : goal.returns-clause-answers
returns-clause-answers g c =
    all_answers c.args.self.now c.loop-index.self c.args.keys.now c.args.answers.now c.loop-index.answers c.loop-index.index (λ h. omega (arith, h, c.loop-index.auto.index-end, c.loop-index-test.false))
    (λ h. omega (arith, h, c.loop-index.auto.index-end, c.loop-index-test.false)) c.loop-index.auto.answers c.loop-index.invariant.0 c.loop-index.invariant.1

pub returns-clause-after : goal.returns-clause-after
returns-clause-after g c =
    let all = all_erasures c.args.self.now c.loop-index.self c.args.keys.now c.args.answers.now c.loop-index.answers c.loop-index.index (λ h. omega (arith, h, c.loop-index.auto.index-end, c.loop-index-test.false))
    (λ h. omega (arith, h, c.loop-index.auto.index-end, c.loop-index-test.false)) c.loop-index.auto.answers c.loop-index.invariant.0 c.loop-index.invariant.1 in
    state_of c.args.self.now c.loop-index.self (take (length c.args.answers.now) (keys_of c.args.keys.now)) (take (length c.args.keys.now) c.loop-index.answers) all

pub returns-clause-size : goal.returns-clause-size
returns-clause-size g c =
    let sizes = sizes_of c.args.self.now c.loop-index.self (take c.loop-index.index (keys_of c.args.keys.now)) (take c.loop-index.index c.loop-index.answers) c.loop-index.invariant.0 in
    (sizes.0, sizes.1)

pub returns-clause-max_trial : goal.returns-clause-max_trial
returns-clause-max_trial g c =
    (sizes_of c.args.self.now c.loop-index.self (take c.loop-index.index (keys_of c.args.keys.now)) (take c.loop-index.index c.loop-index.answers) c.loop-index.invariant.0).2

pub returns-clause-search_limit : goal.returns-clause-search_limit
returns-clause-search_limit g c =
    (sizes_of c.args.self.now c.loop-index.self (take c.loop-index.index (keys_of c.args.keys.now)) (take c.loop-index.index c.loop-index.answers) c.loop-index.invariant.0).3
