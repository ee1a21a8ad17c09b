use Rattle.std.proofs.Common.{◌≡◌, ◌∙◌, ◌+◌, ℕ, ℤ, FitsSigned, ap, arith, rules, w32, to_z, of_z}
use Rattle.std.proofs.lemmas.Int.{to_z-of_z}
use Rattle.cedar_scan.proofs.FallLemmas.{all_copied, copied_inside, none_copied, one_copied}
use Rattle.cedar_scan.proofs.falls.copy_popped.Goals as goal

pub loop-index-init : goal.loop-index-init
loop-index-init g c = none_copied c.args.popped.now.items c.args.fall c.args.shift

pub index-key-requires : goal.index-key-requires
index-key-requires g c =
    let inside = copied_inside c.args.popped.now.items c.args.fall c.args.shift c.loop-index.index c.loop-index.popped.items c.loop-index.invariant c.loop-index-test.true c.requires.inside in
    let same = c.loop-index.popped.ok in
    omega (arith, inside, same)

pub loop-index-preserved : goal.loop-index-preserved
loop-index-preserved g c =
    let key = c.index-key.result.now in
    let fits : FitsSigned w32 key.value = search rules in
    let before : c.in-Some.before ≡ c.args.shift + key.before = omega (arith, c.in-Some.ensures) in
    one_copied c.args.popped.now.items c.args.fall c.args.shift c.loop-index.index c.loop-index.popped.items key (record { before = c.in-Some.before; len = key.len; value = to_z w32 (of_z w32 key.value) }) c.push.new.self.items c.loop-index.invariant c.loop-index.auto.index c.loop-index-test.true c.requires.inside
    c.index-key.ensures (ap (λ (n : ℕ). (n, key.len, to_z w32 (of_z w32 key.value))) before ∙ ap (λ (v : ℤ). (c.args.shift + key.before, key.len, v)) (to_z-of_z w32 key.value fits)) c.in_ok-push.ensures.items

pub returns : goal.returns
returns g c = all_copied c.args.popped.now.items c.args.fall c.args.shift c.loop-index.index c.loop-index.popped.items c.loop-index.invariant c.loop-index-test.false (c.loop-index.auto.index-end c.requires.range)
