use Rattle.cedar_disk.specs.NotedFiles.{noted_calls}
use Rattle.cedar_disk.proofs.Writing.{new_file, new_file_only}
use Rattle.std.proofs.Common.{◌≡◌, ◌∷◌, ◌∙◌, ap, rules, true}
use Rattle.whole_files.specs.Calls.{seen_after, sync_call}
use Rattle.cedar_disk.proofs.writes.fill.Goals as goal

pub returns-clause-bytes : goal.returns-clause-bytes
returns-clause-bytes g c =
    let noted : noted_calls c.sync.new.self ≡ sync_call true ∷ noted_calls c.write_all.new.file = search rules in
    ap seen_after noted ∙ new_file c.args.bytes.now (noted_calls c.args.file.now) (noted_calls c.write_all.new.file) c.requires.made c.in_ok-write_all.ensures.written

pub returns-clause-durable : goal.returns-clause-durable
returns-clause-durable g c =
    let noted : noted_calls c.sync.new.self ≡ sync_call true ∷ noted_calls c.write_all.new.file = search rules in
    new_file_only c.args.bytes.now (noted_calls c.args.file.now) (noted_calls c.write_all.new.file) (noted_calls c.sync.new.self) c.requires.made c.in_ok-write_all.ensures.written noted
