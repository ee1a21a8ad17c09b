use Rattle.std.proofs.Common.{◌∙◌, subst}
use Rattle.std.proofs.lemmas.Result.{on_ok_weaker}
use Rattle.std.specs.Io.KnownBytes.{Appends}
use Rattle.cedar_format.proofs.header.write_header.Goals as goal

pub returns-clause-bytes : goal.returns-clause-bytes
returns-clause-bytes g c =
    on_ok_weaker c.write_bytes.result (λ written. subst (Appends _ _) (c.as_slice.ensures.value ∙ c.header_buffer-bytes.ensures.bytes) written) c.write_bytes.ensures.bytes
