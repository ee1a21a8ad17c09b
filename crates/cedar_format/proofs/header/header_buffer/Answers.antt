use Rattle.std.proofs.Common.{rules, append_assoc, append-nil, ◌≡◌, to_z, of_z, w32}
use Rattle.cedar_format.specs.Format.{flags_of, header_bytes}
use Rattle.cedar_format.proofs.header.header_buffer.Goals as goal

pub returns-clause-bytes : goal.returns-clause-bytes
returns-clause-bytes c =
    let h = c.args.header in
    let max_trial : to_z w32 (of_z w32 h.max_trial) ≡ h.max_trial = search rules in
    let full : to_z w32 (of_z w32 h.full_head) ≡ h.full_head = search rules in
    let closed : to_z w32 (of_z w32 h.closed_head) ≡ h.closed_head = search rules in
    let opened : to_z w32 (of_z w32 h.open_head) ≡ h.open_head = search rules in
    let flags : c.from.result ≡ flags_of h = search rules in
    let first = c.put_i32.ensures.bytes in
    let second = c.put_i32-2.ensures.bytes in
    let third = c.put_i32-3.ensures.bytes in
    let fourth = c.put_i32-4.ensures.bytes in
    let settings = c.put_u16-3.ensures.bytes in
    rw (c.put_usize-7.ensures.bytes, c.put_usize-6.ensures.bytes, c.put_usize-5.ensures.bytes, c.put_usize-4.ensures.bytes, c.put_usize-3.ensures.bytes, c.put_usize-2.ensures.bytes, c.put_usize.ensures.bytes)
    (rw (rw opened at fourth, rw closed at third, rw full at second, rw max_trial at first, rw flags at settings, c.put_bytes-2.ensures.bytes, c.put_u16-2.ensures.bytes, c.put_u16.ensures.bytes, c.put_bytes.ensures.bytes, c.new-bytes.ensures)
    (simp (append_assoc, append-nil)))
