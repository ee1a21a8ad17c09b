use Rattle.std.proofs.Common.{◌<◌, arith, inl, refl, rules}
use Rattle.std.specs.Prelude.{length}
use Rattle.cedar_table.specs.Table.Views.{fields}
use Rattle.cedar_model.proofs.UpdateLemmas.AlongKey.{walked_all}
use Rattle.cedar_edit.proofs.PackingLemmas.{rest_walked}
use Rattle.cedar_edit.proofs.keys.put.walk_in.Goals as goal

pub returns-then-length-key-clause-walked : goal.returns-then-length-key-clause-walked
returns-then-length-key-clause-walked g c =
    let T = fields c.args.table.now in
    walked_all g.row.SLOTS T T c.args.key.now c.known_front-front.result.1 c.known_front-front.result.0 (omega (arith, c.if-length-key.true)) c.known_front-front.ensures.walked

pub add_rest-requires : goal.add_rest-requires
add_rest-requires g c =
    let front = c.known_front-front in
    let more : front.result.1 < length c.args.key.now = omega (arith, c.if-length-key.false, front.ensures.within) in
    (search rules, (c.requires.well_formed, (c.requires.key, (c.requires.way, (more, (front.ensures.walked, front.ensures.ends more))))))

pub returns-then-length-key-clause-packs : goal.returns-then-length-key-clause-packs
returns-then-length-key-clause-packs g c = inl refl

pub returns-clause-packs : goal.returns-clause-packs
returns-clause-packs g c =
    let front = c.known_front-front in
    rest_walked g.row.SLOTS (fields c.args.table.now) (fields c.add_rest.new.table) c.args.key.now front.result.1 front.result.0 c.add_rest.result front.ensures.within front.ensures.walked c.add_rest.ensures.leaf c.add_rest.ensures.packs
