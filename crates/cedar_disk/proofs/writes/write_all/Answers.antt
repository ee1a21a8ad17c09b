use Rattle.std.proofs.Common.{◌≡◌, ◌+◌, ◌∙◌, ap, length, refl, take, arith, rules}
use Rattle.whole_files.specs.Calls.{faults_in, full_in}
use Rattle.cedar_disk.specs.NotedFiles.{noted_calls}
use Rattle.cedar_disk.proofs.Writing.{are_written_none, front_length, has_failed, lacked_room, wrote_all, wrote_more, wrote_no_more, wrote_perhaps, wrote_well}
use Rattle.cedar_disk.proofs.writes.write_all.Goals as goal

pub loop-done-init : goal.loop-done-init
loop-done-init g c = record { within = omega arith; written = are_written_none c.args.at (length c.args.bytes.now) (noted_calls c.args.file.now); name = refl }

pub loop-done-preserved-in-Bytes : goal.loop-done-preserved-in-Bytes
loop-done-preserved-in-Bytes g c =
    let inv = c.loop-done.invariant in
    let took = c.in-Bytes.ensures.took in
    let from : c.saturating_add.result ≡ c.args.at + c.loop-done.done = omega (arith, c.saturating_add.ensures, took.2) in
    record {
      within = search rules;
      written =
          wrote_more c.args.at c.loop-done.done c.saturating_add.result c.args.bytes.now (noted_calls c.args.file.now) (noted_calls c.loop-done.file) (noted_calls c.write.new.self)
          c.requires.within inv.within inv.written c.in-Bytes.count from (search rules) c.in-Bytes.ensures.noted;
      name = c.in-Bytes.ensures.name ∙ inv.name;
    }

pub returns-in-Failed-clause-spoils : goal.returns-in-Failed-clause-spoils
returns-in-Failed-clause-spoils g c =
    let inv = c.loop-done.invariant in
    wrote_perhaps c.args.at c.loop-done.done c.saturating_add.result c.args.bytes.now (noted_calls c.args.file.now) (noted_calls c.loop-done.file) (noted_calls c.write.new.self)
    c.requires.within inv.within inv.written (omega (arith, c.saturating_add.ensures)) (omega (arith, c.saturating_add.ensures)) c.in-Failed.ensures.noted

pub returns-in-Full-clause-spoils : goal.returns-in-Full-clause-spoils
returns-in-Full-clause-spoils g c =
    (wrote_no_more c.args.at (length c.args.bytes.now) (take c.loop-done.done c.args.bytes.now) (noted_calls c.args.file.now) (noted_calls c.loop-done.file) (noted_calls c.write.new.self)
    c.loop-done.invariant.written c.in-Full.ensures.noted).spoils

pub returns-in-Full-clause-no_room : goal.returns-in-Full-clause-no_room
returns-in-Full-clause-no_room g c =
    let front = take c.loop-done.done c.args.bytes.now in
    let size = front_length c.args.bytes.now c.loop-done.done c.loop-done.invariant.within in
    λ _. (
      front,
      omega (arith, size, c.loop-done.invariant.within),
      wrote_no_more c.args.at (length c.args.bytes.now) front (noted_calls c.args.file.now) (noted_calls c.loop-done.file) (noted_calls c.write.new.self)
          c.loop-done.invariant.written c.in-Full.ensures.noted,
    )

pub returns-clause-written : goal.returns-clause-written
returns-clause-written g c =
    wrote_all c.args.at c.loop-done.done c.args.bytes.now (noted_calls c.args.file.now) (noted_calls c.loop-done.file) (search rules) c.loop-done.invariant.written

pub returns-clause-spoils : goal.returns-clause-spoils
returns-clause-spoils g c = c.loop-done.invariant.written.spoils

pub returns-in-Failed-clause-cause : goal.returns-in-Failed-clause-cause
returns-in-Failed-clause-cause g c =
    let inv = c.loop-done.invariant in
    has_failed c.args.at (length c.args.bytes.now) (take c.loop-done.done c.args.bytes.now) (noted_calls c.args.file.now) (noted_calls c.loop-done.file) (noted_calls c.write.new.self)
    inv.written (ap faults_in c.in-Failed.ensures.noted) (ap full_in c.in-Failed.ensures.noted)

pub returns-in-Full-clause-cause : goal.returns-in-Full-clause-cause
returns-in-Full-clause-cause g c =
    lacked_room c.args.at (length c.args.bytes.now) (take c.loop-done.done c.args.bytes.now) (noted_calls c.args.file.now) (noted_calls c.loop-done.file) (noted_calls c.write.new.self)
    c.loop-done.invariant.written c.in-Full.ensures.noted

pub returns-clause-cause : goal.returns-clause-cause
returns-clause-cause g c = wrote_well c.args.at (length c.args.bytes.now) (take c.loop-done.done c.args.bytes.now) (noted_calls c.args.file.now) (noted_calls c.loop-done.file) c.loop-done.invariant.written
