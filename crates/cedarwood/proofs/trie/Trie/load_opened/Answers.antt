use Rattle.std.proofs.Common.{◌∙◌, inl, inr, sym}
use Rattle.cedarwood.proofs.LoadLemmas.{file_left, loads_opened}
use Rattle.cedarwood.proofs.trie.Trie.load_opened.Goals as goal

pub returns-in_default-clause-loads : goal.returns-in_default-clause-loads
returns-in_default-clause-loads g c = inl c.no_room.ensures

pub returns-clause-loads : goal.returns-clause-loads
returns-clause-loads g c =
    let buffered = c.in-Ok.ensures in
    let left = file_left g.R.Read.remaining c.new-reader.result.device c.in-Ok.buffered c.args.file c.new-reader.ensures.device buffered.inner buffered.empty buffered.capacity in
    let uncut = sym c.cut-cut.ensures ∙ c.if-cut.false in
    loads_opened g.L.Layout.kind g.row.SLOTS c.args.memory_limit _ _ _ _ _ c.load_from_reader_with_limit-loaded.result left uncut c.load_from_reader_with_limit-loaded.ensures.loads

pub returns-then-cut-clause-loads : goal.returns-then-cut-clause-loads
returns-then-cut-clause-loads g c = inr (inl tt)
