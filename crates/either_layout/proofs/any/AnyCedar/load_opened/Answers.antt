use Rattle.std.proofs.Common.{◌≡◌, ◌∙◌, ◌<◌, ◌≤◌, List, ℕ, Option, Some, ap, inl, inr, length, refl, rules, subst, sym, take}
use Rattle.std.proofs.lemmas.List.{take_all}
use Rattle.std.specs.Io.Buffered.{reader_remaining}
use Rattle.std.specs.Io.Chain.{chain_remaining}
use Rattle.std.specs.Io.Cursor.{cursor_remaining}
use Rattle.std.specs.Io.KnownBytes.{Consumes, IsAtEnd}
use Rattle.cedarwood.proofs.LoadLemmas.{file_left}
use Rattle.either_layout.proofs.EitherLemmas.{at_none, behind, cursor_left, lacks_either, loads_long, loads_short}
use Rattle.either_layout.proofs.any.AnyCedar.load_opened.Goals as goal

pub returns-in_default-clause-lacks : goal.returns-in_default-clause-lacks
returns-in_default-clause-lacks g c = inl (inl refl)

pub returns-then-count-lt-HEAD_LEN-clause-loads : goal.returns-then-count-lt-HEAD_LEN-clause-loads
returns-then-count-lt-HEAD_LEN-clause-loads g c =
    let buffered = c.in-Ok.ensures in
    let read = c.read_available-count in
    let left = file_left g.R.Read.remaining c.new-reader.result.device c.in-Ok.buffered c.args.file c.new-reader.ensures.device buffered.inner buffered.empty buffered.capacity in
    let short : read.result.0 < length read.new.buf = search rules in
    let ended = at_none read.result.1 _ read.ensures.ended (λ v e. c.in_default-fault.not-Some v e) short in
    loads_short c.args.memory_limit _ _ _ (take read.result.0 read.new.buf) c.load_any.result left read.ensures.bytes ended c.load_any.ensures.layout c.load_any.ensures.loads

pub returns-then-count-lt-HEAD_LEN-clause-lacks : goal.returns-then-count-lt-HEAD_LEN-clause-lacks
returns-then-count-lt-HEAD_LEN-clause-lacks g c = lacks_either _ c.args.memory_limit _ _ _ _ c.load_any.result c.load_any.ensures.loads.1

pub returns-clause-formed : goal.returns-clause-formed
returns-clause-formed g c = c.load_as-loaded.ensures.loads.formed

pub returns-clause-lacks : goal.returns-clause-lacks
returns-clause-lacks g c = lacks_either _ c.args.memory_limit _ _ _ _ c.load_as-loaded.result c.load_as-loaded.ensures.loads

pub returns-clause-loads : goal.returns-clause-loads
returns-clause-loads g c =
    let buffered = c.in-Ok.ensures in
    let read = c.read_available-count in
    let head = read.new.buf in
    let named = c.names_reduced-is_reduced in
    let remaining = reader_remaining g.R.Read.remaining in
    let left = file_left g.R.Read.remaining c.new-reader.result.device c.in-Ok.buffered c.args.file c.new-reader.ensures.device buffered.inner buffered.empty buffered.capacity in
    let long : 13 < length head = search rules in
    let all : length head ≤ read.result.0 = search rules in
    let taken = subst (Consumes _ _) (take_all read.result.0 head all) read.ensures.bytes in
    let cursor = cursor_left c.new-2.result.pos c.new-2.result.inner head c.new-2.ensures.position c.new-2.ensures.inner in
    let whole =
    ap (chain_remaining (cursor_remaining (λ (bytes : List ℕ). Some bytes)) remaining) c.new-whole.ensures.device ∙ c.chain.ensures.bytes
    ∙ ap (λ (o : Option (List ℕ)). behind o (remaining c.into_inner.result)) cursor ∙ ap (λ r. behind (Some head) (remaining r)) c.into_inner.ensures in
    loads_long c.args.memory_limit named.result _ _ _ c.load_as-loaded.result _ _ _ _ head left taken whole long named.ensures c.load_as-loaded.ensures.layout c.load_as-loaded.ensures.loads (sym c.cut-cut.ensures ∙ c.if-cut.false)

pub returns-then-cut-clause-loads : goal.returns-then-cut-clause-loads
returns-then-cut-clause-loads g c = inr (inl tt)

pub returns-then-cut-clause-lacks : goal.returns-then-cut-clause-lacks
returns-then-cut-clause-lacks g c = inl (inr tt)
