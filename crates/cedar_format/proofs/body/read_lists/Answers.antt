use Rattle.std.proofs.Common.{arith, ◌++◌, length-append}
use Rattle.std.proofs.lemmas.Result.{err_from_is_err_and}
use Rattle.std.proofs.KnownBytes.{Consumes-trans}
use Rattle.std.specs.List.{flat_map}
use Rattle.cedar_format.specs.Records.{node_bytes, info_bytes, block_bytes}
use Rattle.cedar_format.specs.Numbers.{i16_bytes}
use Rattle.cedar_format.proofs.Missing.{EndsShort-after, Misses-after}
use Rattle.cedar_format.proofs.body.read_lists.Goals as goal

pub returns-in_err-read_records-2-clause-misses : goal.returns-in_err-read_records-2-clause-misses
returns-in_err-read_records-2-clause-misses g c =
    let exit = c.from_residual-in_err-read_records-2 in
    let p = err_from_is_err_and exit.result exit.ensures.1 in
    rw (p.1, p.2) (Misses-after _ _ (flat_map node_bytes c.read_records.new.records.items) _ _ _ _ c.in_ok-read_records.ensures.bytes c.in_err-read_records-2.ensures.misses (omega (arith, c.in_ok-read_records.ensures.len)))

pub returns-in_err-read_records-2-clause-short : goal.returns-in_err-read_records-2-clause-short
returns-in_err-read_records-2-clause-short g c =
    let exit = c.from_residual-in_err-read_records-2 in
    let p = err_from_is_err_and exit.result exit.ensures.1 in
    rw (p.1, p.2) (EndsShort-after _ _ (flat_map node_bytes c.read_records.new.records.items) _ _ _ _ c.in_ok-read_records.ensures.bytes c.in_err-read_records-2.ensures.short (omega (arith, c.in_ok-read_records.ensures.len)))

pub returns-in_err-read_records-3-clause-misses : goal.returns-in_err-read_records-3-clause-misses
returns-in_err-read_records-3-clause-misses g c =
    let exit = c.from_residual-in_err-read_records-3 in
    let p = err_from_is_err_and exit.result exit.ensures.1 in
    rw (p.1, p.2) (Misses-after _ _ ((flat_map node_bytes c.read_records.new.records.items) ++ flat_map info_bytes c.read_records-2.new.records.items) _ _ _ _ (Consumes-trans _ _ _ _ _ c.in_ok-read_records.ensures.bytes c.in_ok-read_records-2.ensures.bytes) c.in_err-read_records-3.ensures.misses (omega (arith, length-append (flat_map node_bytes c.read_records.new.records.items) (flat_map info_bytes c.read_records-2.new.records.items), c.in_ok-read_records.ensures.len, c.in_ok-read_records-2.ensures.len)))

pub returns-in_err-read_records-3-clause-short : goal.returns-in_err-read_records-3-clause-short
returns-in_err-read_records-3-clause-short g c =
    let exit = c.from_residual-in_err-read_records-3 in
    let p = err_from_is_err_and exit.result exit.ensures.1 in
    rw (p.1, p.2) (EndsShort-after _ _ ((flat_map node_bytes c.read_records.new.records.items) ++ flat_map info_bytes c.read_records-2.new.records.items) _ _ _ _ (Consumes-trans _ _ _ _ _ c.in_ok-read_records.ensures.bytes c.in_ok-read_records-2.ensures.bytes) c.in_err-read_records-3.ensures.short (omega (arith, length-append (flat_map node_bytes c.read_records.new.records.items) (flat_map info_bytes c.read_records-2.new.records.items), c.in_ok-read_records.ensures.len, c.in_ok-read_records-2.ensures.len)))

pub returns-in_err-read_records-4-clause-misses : goal.returns-in_err-read_records-4-clause-misses
returns-in_err-read_records-4-clause-misses g c =
    let exit = c.from_residual-in_err-read_records-4 in
    let p = err_from_is_err_and exit.result exit.ensures.1 in
    rw (p.1, p.2) (Misses-after _ _ (((flat_map node_bytes c.read_records.new.records.items) ++ flat_map info_bytes c.read_records-2.new.records.items) ++ flat_map block_bytes c.read_records-3.new.records.items) _ _ _ _ (Consumes-trans _ _ _ _ _ (Consumes-trans _ _ _ _ _ c.in_ok-read_records.ensures.bytes c.in_ok-read_records-2.ensures.bytes) c.in_ok-read_records-3.ensures.bytes) c.in_err-read_records-4.ensures.misses (omega (arith, length-append (flat_map node_bytes c.read_records.new.records.items) (flat_map info_bytes c.read_records-2.new.records.items), length-append ((flat_map node_bytes c.read_records.new.records.items) ++ flat_map info_bytes c.read_records-2.new.records.items) (flat_map block_bytes c.read_records-3.new.records.items), c.in_ok-read_records.ensures.len, c.in_ok-read_records-2.ensures.len, c.in_ok-read_records-3.ensures.len)))

pub returns-in_err-read_records-4-clause-short : goal.returns-in_err-read_records-4-clause-short
returns-in_err-read_records-4-clause-short g c =
    let exit = c.from_residual-in_err-read_records-4 in
    let p = err_from_is_err_and exit.result exit.ensures.1 in
    rw (p.1, p.2) (EndsShort-after _ _ (((flat_map node_bytes c.read_records.new.records.items) ++ flat_map info_bytes c.read_records-2.new.records.items) ++ flat_map block_bytes c.read_records-3.new.records.items) _ _ _ _ (Consumes-trans _ _ _ _ _ (Consumes-trans _ _ _ _ _ c.in_ok-read_records.ensures.bytes c.in_ok-read_records-2.ensures.bytes) c.in_ok-read_records-3.ensures.bytes) c.in_err-read_records-4.ensures.short (omega (arith, length-append (flat_map node_bytes c.read_records.new.records.items) (flat_map info_bytes c.read_records-2.new.records.items), length-append ((flat_map node_bytes c.read_records.new.records.items) ++ flat_map info_bytes c.read_records-2.new.records.items) (flat_map block_bytes c.read_records-3.new.records.items), c.in_ok-read_records.ensures.len, c.in_ok-read_records-2.ensures.len, c.in_ok-read_records-3.ensures.len)))

pub returns-clause-bytes : goal.returns-clause-bytes
returns-clause-bytes g c = Consumes-trans _ _ _ _ _ c.in_ok-read_records.ensures.bytes (Consumes-trans _ _ _ _ _ c.in_ok-read_records-2.ensures.bytes (Consumes-trans _ _ _ _ _ c.in_ok-read_records-3.ensures.bytes c.in_ok-read_records-4.ensures.bytes))

pub returns-clause-len : goal.returns-clause-len
returns-clause-len g c =
    let nodes = flat_map node_bytes c.read_records.new.records.items in
    let infos = flat_map info_bytes c.read_records-2.new.records.items in
    let blocks = flat_map block_bytes c.read_records-3.new.records.items in
    let reject = flat_map i16_bytes c.read_records-4.new.records.items in
    omega (arith, length-append nodes (infos ++ (blocks ++ reject)), length-append infos (blocks ++ reject), length-append blocks reject, c.in_ok-read_records.ensures.len, c.in_ok-read_records-2.ensures.len, c.in_ok-read_records-3.ensures.len, c.in_ok-read_records-4.ensures.len)
