use Rattle.std.proofs.Common.{rules, ap, ◌≡◌, ℤ, to_z, of_z, w32, FitsSigned, ◌∙◌}
use Rattle.std.proofs.lemmas.Int.{to_z-of_z}
use Rattle.cedarwood.specs.State.{after_put}
use Rattle.cedar_cli.proofs.BlockCounts.{same_blocks}
use Rattle.cedar_cli.proofs.Orders.{put_back}
use Rattle.cedar_cli.proofs.verbs.take_back.Goals as goal

pub returns-in-Some : goal.returns-in-Some
returns-in-Some g c =
    let key = c.args.key.now in
    let old = c.args.trie.now.state in
    let new = c.update_bytes.new.self.state in
    let v = c.in-Some.value in
    let fits : FitsSigned w32 v = search rules in
    let same : to_z w32 (of_z w32 v) ≡ v = to_z-of_z w32 v fits in
    let back = put_back c.update_bytes.result old new key (to_z w32 (of_z w32 v)) c.update_bytes.ensures.updated.ok c.update_bytes.ensures.updated.refused in
    record { max_trial = c.update_bytes.ensures.updated.max_trial; blocks = rw c.in-Some.is (λ held. c.update_bytes.ensures.updated.over held); state = rw c.in-Some.is (λ fine held. back (rw same fine) held ∙ ap (λ (w : ℤ). after_put old key w) same) }

pub returns-in-None-clause-blocks : goal.returns-in-None-clause-blocks
returns-in-None-clause-blocks g c = rw c.in-None.is (same_blocks c.args.trie.now c.erase_bytes.new.self c.erase_bytes.ensures.size)
