use Rattle.std.proofs.Common.{◌≡◌}
use Rattle.std.proofs.lemmas.Result.{err_from_is_err_and}
use Rattle.cedar_disk.proofs.OpenErrors.{unlocked}
use Rattle.cedar_disk.proofs.ReadByPath.{of_file}
use Rattle.cedar_disk.proofs.system.read_file.Goals as goal

pub returns : goal.returns
returns g c =
    record {
      bytes = of_file g.F.File.Read.remaining c.args.path.now c.in_ok-open_to_read.field-0 c.read_opened.result (λ bytes all. bytes.items ≡ all) c.in_ok-open_to_read.ensures.noted c.read_opened.ensures.bytes;
      err = c.read_opened.ensures.err;
    }

pub returns-in_err-open_to_read-clause-err : goal.returns-in_err-open_to_read-clause-err
returns-in_err-open_to_read-clause-err g c =
    let told = err_from_is_err_and c.from_residual.result c.from_residual.ensures.1 in rw told.1 (unlocked _ told.0 told.2)
