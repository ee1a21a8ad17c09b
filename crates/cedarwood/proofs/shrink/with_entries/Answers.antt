use Rattle.std.proofs.Common.{rules, sym}
use Rattle.cedarwood.proofs.ShrinkLemmas.{none_put, put_as_asked}
use Rattle.cedarwood.proofs.shrink.with_entries.Goals as goal

pub put_entries-requires : goal.put_entries-requires
put_entries-requires g c = (search rules, (c.requires.well_formed, (c.requires.places, none_put g.L.Layout.kind c.args.builder c.in_ok-made.made c.in_ok-made.ensures.made)))

pub returns : goal.returns
returns g c =
    let e = c.in_ok-made.ensures.made in
    put_as_asked g.L.Layout.kind _ c.args.builder.ordered _ c.args.builder.max_trial _ c.args.builder.search_limit _ _ _ e.ordered e.max_trial e.search_limit (sym c.requires.places.same) c.in_ok-put_entries.ensures
