use Rattle.std.proofs.Common.{◌≡◌, ℕ, ◌+◌, ◌-◌, List, ◌∙◌, ap, arith, drop, get_or, length, suc, sym, take}
use Rattle.std.proofs.Math.Seq.{take-suc}
use Rattle.std.proofs.lemmas.List.{length-drop, take_all}
use Rattle.cedar_scan.specs.Automata.{slot_of_path}
use Rattle.cedar_scan.specs.Suffixes.{held_suffix}
use Rattle.cedar_scan.proofs.ResumedLemmas.{held_behind, held_last_bytes, rest_of, step_behind}
use Rattle.cedar_scan.proofs.SuffixLemmas.{held_goes_on, held_is_node}
use Rattle.cedar_scan.proofs.owned.state_behind.Goals as goal

-- the bytes of a slice from a position on
abbrev bytes_of : List ℕ → ℕ → List ℕ
bytes_of read first = take (length read - first) (drop first read)

pub loop-byte-init : goal.loop-byte-init
loop-byte-init g c = record { stands = sym c.requires.automaton.1.placing.root; cost = omega arith }

pub step-state-requires : goal.step-state-requires
step-state-requires g c =
    step_behind (g.T.Placed.tree c.args.trie.now) (slot_of_path c.args.states.now) c.args.states.now c.requires.automaton.0 c.requires.automaton.1 (take c.loop-byte.byte-index (bytes_of c.args.read.now c.saturating_sub-first.result)) c.loop-byte.state c.loop-byte.invariant.stands

pub loop-byte-preserved : goal.loop-byte-preserved
loop-byte-preserved g c =
    let t = g.T.Placed.tree c.args.trie.now in
    let slots = slot_of_path c.args.states.now in
    let bytes = bytes_of c.args.read.now c.saturating_sub-first.result in
    let k = c.loop-byte.byte-index in
    let held = held_suffix t (take k bytes) in
    let goes = c.step-state.ensures.goes held (held_is_node t (take k bytes)) c.loop-byte.invariant.stands in
    let spent = c.step-state.ensures.cost held (held_is_node t (take k bytes)) c.loop-byte.invariant.stands in
    let so_far = c.loop-byte.invariant.cost in
    let one : k + 1 ≡ suc k = omega arith in
    let next = ap (λ n. take n bytes) one ∙ take-suc bytes k 0 c.loop-byte-test.true in
    let same = ap length (held_goes_on t (take k bytes) (get_or bytes k 0)) in
    let long = ap (λ w. length (held_suffix t w)) next in
    record {
      stands = held_behind t slots c.args.states.now c.requires.automaton.0 c.requires.automaton.1 bytes k c.step-state.result c.loop-byte-test.true goes;
      cost = omega (arith, spent, so_far, same, long);
    }

-- the bytes that are read
all_read : goal.returns-clause-state
all_read g c =
    let t = g.T.Placed.tree c.args.trie.now in
    let slots = slot_of_path c.args.states.now in
    let read = c.args.read.now in
    let bytes = bytes_of c.args.read.now c.saturating_sub-first.result in
    let past = c.loop-byte-test.false in
    c.loop-byte.invariant.stands
    ∙ ap (λ w. slots (held_suffix t w)) (take_all c.loop-byte.byte-index bytes past ∙ rest_of read c.saturating_sub-first.result)
    ∙ ap slots (held_last_bytes t c.args.height c.requires.height read c.saturating_sub-first.result c.saturating_sub-first.ensures)

pub returns-clause-state : goal.returns-clause-state
returns-clause-state g c = all_read g c

pub returns-clause-cost : goal.returns-clause-cost
returns-clause-cost g c =
    let so_far = c.loop-byte.invariant.cost in
    let within = c.loop-byte.auto.byte-index-end in
    let first = c.saturating_sub-first.ensures in
    let long = ap length (rest_of c.args.read.now c.saturating_sub-first.result) ∙ length-drop c.saturating_sub-first.result c.args.read.now in
    omega (arith, so_far, within, first, long)
