use Rattle.std.proofs.Common.{rules}
use Rattle.cedarwood.proofs.MemoryLemmas.{table_fits}
use Rattle.cedarwood.proofs.trie.Trie.save_file.Goals as goal

pub send-requires : goal.send-requires
send-requires g c =
    let told = c.in-Ok-Some.ensures.told c.in-Ok-Some.special c.in-Ok-Some.field-0-is in
    let empty = c.in-Ok-Some.ensures.buffer c.in-Ok-Some.special c.in-Ok-Some.field-0-is in
    (search rules, (c.requires.version, (told, empty)))

pub allocator-requires : goal.allocator-requires
allocator-requires g c = search table_fits
