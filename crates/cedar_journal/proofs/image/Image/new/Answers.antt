use Rattle.std.proofs.Common.{◌≡◌, [], ap, length, rules}
use Rattle.cedar_journal.specs.Images.{image_of}
use Rattle.cedar_journal.proofs.Images.{new_payloads, new_shape, new_whole}
use Rattle.cedar_journal.proofs.image.Image.new.Goals as goal

pub invariant_of-result : goal.invariant_of-result
invariant_of-result g c =
    let bytes = c.push.new.self.items in
    let is : bytes ≡ image_of [] = search rules in
    record { shape = new_shape bytes is; whole = new_whole bytes is }

pub returns-clause-none : goal.returns-clause-none
returns-clause-none g c =
    let bytes = c.push.new.self.items in
    let is : bytes ≡ image_of [] = search rules in
    new_payloads bytes is

pub returns-clause-length : goal.returns-clause-length
returns-clause-length g c =
    let is : c.push.new.self.items ≡ image_of [] = search rules in
    ap length is
