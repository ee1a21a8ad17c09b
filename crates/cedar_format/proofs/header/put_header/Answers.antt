use Rattle.std.proofs.Common.{◌∙◌, ap, arith, length}
use Rattle.cedar_format.proofs.HeaderSpelling.{length-header_bytes}
use Rattle.cedar_format.proofs.header.put_header.Goals as goal

pub copy_from_slice-requires : goal.copy_from_slice-requires
copy_from_slice-requires c =
    let spelled = c.as_slice.ensures.value ∙ c.header_buffer-buffer.ensures.bytes in
    omega (arith, ap length spelled, length-header_bytes c.args.layout c.args.header, c.requires)
