use Rattle.std.proofs.Common.{◌≡◌, ◌+◌, ◌-◌, ◌++◌, ◌∙◌, ap, arith, length, take}
use Rattle.std.proofs.lemmas.Slice.{take-put_mid}
use Rattle.cedar_walk.specs.Visits.{path_to}
use Rattle.cedar_c.proofs.entries.write_entry.Goals as goal

pub returns-then-starts_with-clause-written : goal.returns-then-starts_with-clause-written
returns-then-starts_with-clause-written g c =
    let key = c.args.start.now ++ path_to (g.T.Walked.shown c.args.trie.now) c.args.at.depth c.args.at.slot in
    let len = c.key_length-len.result in
    let used = c.args.used in
    let is : c.write_key.new.key ≡ key = c.write_key.ensures in
    let whole : used + len ≡ used + length c.write_key.new.key = omega (arith, ap length is, c.key_length-len.ensures.whole) in
    take-put_mid used (used + len - used) c.args.bytes.now c.write_key.new.key (used + len) whole c.requires.used ∙ ap (λ x. take used c.args.bytes.now ++ x) is
