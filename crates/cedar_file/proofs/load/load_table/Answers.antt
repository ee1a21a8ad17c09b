use Rattle.std.proofs.Common.{arith, refl, rules}
use Rattle.std.proofs.lemmas.Result.{err_from_is_err_and}
use Rattle.cedar_table.specs.Table.Views.{fields}
use Rattle.cedar_file.proofs.LoadLemmas.{accepted, can_be_tested, read_bytes, reads_within, refused_early, refused_table, refused_trials, refuses}
use Rattle.cedar_format.proofs.Lacking.{no_lack}
use Rattle.cedar_file.proofs.load.load_table.Goals as goal

pub returns-in_err-decoded-clause-loads : goal.returns-in_err-decoded-clause-loads
returns-in_err-decoded-clause-loads g c =
    let p = err_from_is_err_and c.from_residual.result c.from_residual.ensures.1 in
    let told = rw c.file_byte.ensures at c.in_err-decoded.ensures.decodes in
    rw (p.1, p.2) (refuses (λ t. fields t) g.L.Layout.kind g.row.SLOTS c.args.memory_limit _ _ _ _ _ (refused_early g.L.Layout.kind g.row.SLOTS c.args.memory_limit _ _ _ told.answer) (λ no_io. (refused_early g.L.Layout.kind g.row.SLOTS c.args.memory_limit _ _ _ (told.decided no_io))) told.io told.lacks)

pub returns-in_err-check_trials-clause-loads : goal.returns-in_err-check_trials-clause-loads
returns-in_err-check_trials-clause-loads g c =
    let exit = c.from_residual-in_err-check_trials in
    let p = err_from_is_err_and exit.result exit.ensures.1 in
    let d = c.in_ok-decoded.decoded in
    let told = rw c.file_byte.ensures at c.in_ok-decoded.ensures.decodes in
    let wrong = c.in_err-check_trials.ensures in
    rw (p.1, p.2) (refuses (λ t. fields t) g.L.Layout.kind g.row.SLOTS c.args.memory_limit _ _ _ _ _
    (refused_trials g.L.Layout.kind g.row.SLOTS c.args.memory_limit d.header d.nodes.items d.n_infos.items d.blocks.items d.reject.items told.file told.bytes.0 told.bytes.1 _ refl _ _ _ _ told.bytes.2
    told.answer wrong.refusal)
    (λ no_io. (refused_trials g.L.Layout.kind g.row.SLOTS c.args.memory_limit d.header d.nodes.items d.n_infos.items d.blocks.items d.reject.items told.file told.bytes.0 told.bytes.1 _ refl _ _ _ _ told.bytes.2
    (told.decided (λ none. none)) wrong.refusal))
    (λ io. absurd (wrong.io io)) (no_lack _ _ wrong.room))

pub check_well_formed-requires : goal.check_well_formed-requires
check_well_formed-requires g c =
    let d = c.in_ok-decoded.decoded in
    let told = rw c.file_byte.ensures at c.in_ok-decoded.ensures.decodes in
    let read = told.bytes in
    let T = fields c.table_of-table.result in
    let asked = can_be_tested g.L.Layout.kind g.row.SLOTS c.args.memory_limit d.header d.nodes.items d.n_infos.items d.blocks.items d.reject.items told.file read.0 read.1 T c.table_of-table.ensures c.in_ok-check_trials.ensures.refusal in
    search (rules, asked)

pub returns-in-Ok-clause-loads : goal.returns-in-Ok-clause-loads
returns-in-Ok-clause-loads g c =
    let d = c.in_ok-decoded.decoded in
    let told = rw c.file_byte.ensures at c.in_ok-decoded.ensures.decodes in
    let T = fields c.table_of-table.result in
    let made = c.table_of-table.ensures in
    let formed = c.in-Ok.ensures.answer.0 in record {
      bytes = read_bytes g.L.Layout.kind g.row.SLOTS c.args.memory_limit d.header d.nodes.items d.n_infos.items d.blocks.items d.reject.items told.file told.bytes.0 told.bytes.1 T made _ _ told.bytes.2;
      formed = formed;
      answer = accepted g.L.Layout.kind g.row.SLOTS c.args.memory_limit d.header d.nodes.items d.n_infos.items d.blocks.items d.reject.items told.file told.bytes.0 told.bytes.1 T made (λ t. fields t) _ _ _ c.table_of-table.result refl told.bytes.2 told.at_end
          told.answer c.in_ok-check_trials.ensures.refusal formed;
      decided = λ no_io. accepted g.L.Layout.kind g.row.SLOTS c.args.memory_limit d.header d.nodes.items d.n_infos.items d.blocks.items d.reject.items told.file told.bytes.0 told.bytes.1 T made (λ t. fields t) _ _ _ c.table_of-table.result refl told.bytes.2 told.whole
          (told.decided (λ none. none)) c.in_ok-check_trials.ensures.refusal formed;
      io = tt;
      lacks = tt;
    }

pub returns-in-Err-clause-loads : goal.returns-in-Err-clause-loads
returns-in-Err-clause-loads g c =
    let d = c.in_ok-decoded.decoded in
    let told = rw c.file_byte.ensures at c.in_ok-decoded.ensures.decodes in
    let T = fields c.table_of-table.result in
    let corrupt = c.corrupt_data.ensures in
    refuses (λ t. fields t) g.L.Layout.kind g.row.SLOTS c.args.memory_limit _ _ _ _ _
    (refused_table g.L.Layout.kind g.row.SLOTS c.args.memory_limit d.header d.nodes.items d.n_infos.items d.blocks.items d.reject.items told.file told.bytes.0 told.bytes.1 T c.table_of-table.ensures _ _ _ c.corrupt_data.result told.bytes.2 told.at_end
    told.answer c.in_ok-check_trials.ensures.refusal corrupt.refusal c.in-Err.ensures.answer (search (rules, arith)))
    (λ no_io. (refused_table g.L.Layout.kind g.row.SLOTS c.args.memory_limit d.header d.nodes.items d.n_infos.items d.blocks.items d.reject.items told.file told.bytes.0 told.bytes.1 T c.table_of-table.ensures _ _ _ c.corrupt_data.result told.bytes.2 told.whole
    (told.decided (λ none. none)) c.in_ok-check_trials.ensures.refusal corrupt.refusal c.in-Err.ensures.answer (search (rules, arith))))
    (λ io. absurd (corrupt.io io)) (no_lack _ _ corrupt.room)

pub returns-in_err-decoded-clause-asked : goal.returns-in_err-decoded-clause-asked
returns-in_err-decoded-clause-asked g c = rw c.file_byte.ensures at c.decode_counted.ensures.asked

pub returns-in_err-check_trials-clause-asked : goal.returns-in_err-check_trials-clause-asked
returns-in_err-check_trials-clause-asked g c = rw c.file_byte.ensures at c.decode_counted.ensures.asked

pub returns-in-Ok-clause-asked : goal.returns-in-Ok-clause-asked
returns-in-Ok-clause-asked g c = rw c.file_byte.ensures at c.decode_counted.ensures.asked

pub returns-in-Err-clause-asked : goal.returns-in-Err-clause-asked
returns-in-Err-clause-asked g c = rw c.file_byte.ensures at c.decode_counted.ensures.asked

pub returns-in-Ok-clause-reads : goal.returns-in-Ok-clause-reads
returns-in-Ok-clause-reads g c =
    let d = c.in_ok-decoded.decoded in
    let told = rw c.file_byte.ensures at c.in_ok-decoded.ensures.decodes in
    let read = told.bytes in
    let T = fields c.table_of-table.result in
    reads_within g.L.Layout.kind g.row.SLOTS c.args.memory_limit d.header d.nodes.items d.n_infos.items d.blocks.items d.reject.items told.file read.0 read.1 T c.table_of-table.ensures _ _ _ (rw c.file_byte.ensures at c.in_ok-decoded.ensures.passes) c.check_well_formed.ensures.cost

pub returns-in-Err-clause-reads : goal.returns-in-Err-clause-reads
returns-in-Err-clause-reads g c =
    let d = c.in_ok-decoded.decoded in
    let told = rw c.file_byte.ensures at c.in_ok-decoded.ensures.decodes in
    let read = told.bytes in
    let T = fields c.table_of-table.result in
    reads_within g.L.Layout.kind g.row.SLOTS c.args.memory_limit d.header d.nodes.items d.n_infos.items d.blocks.items d.reject.items told.file read.0 read.1 T c.table_of-table.ensures _ _ _ (rw c.file_byte.ensures at c.in_ok-decoded.ensures.passes) c.check_well_formed.ensures.cost
