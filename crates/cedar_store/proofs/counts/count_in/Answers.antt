use Rattle.std.proofs.Common.{◌≡◌, ◌+◌, ◌-◌, ◌≤◌, length, take, drop, ap, arith, length-drop, subst, sym}
use Rattle.cedar_journal.specs.declared.format.Format.{Format}
use Rattle.cedar_journal.specs.declared.format.Format.TheVariants.{Plain, Summed}
use Rattle.cedar_journal.specs.Formats.{AreUndamaged, overhead, payloads_read, records_read}
use Rattle.cedar_store.proofs.Payloads.{rest_is}
use Rattle.cedar_store.proofs.Reading.{next_sound, payloads}
use Rattle.cedar_store.proofs.counts.count_in.Goals as goal

some_bytes : (f : Format) → 1 ≤ overhead f
some_bytes Plain = omega arith
some_bytes Summed = omega arith

pub loop-payload-init : goal.loop-payload-init
loop-payload-init c = record { within = omega arith; sound = c.requires.sound; few = omega arith; same = omega arith }

pub loop-payload-preserved : goal.loop-payload-preserved
loop-payload-preserved c =
    let before = c.loop-payload.invariant in
    let f = c.args.format in
    let bytes = c.args.bytes.now in
    let at = c.loop-payload.at in
    let b = take (length bytes - at) (drop at bytes) in
    let p = c.in-Some.payload.now in
    let n = overhead f + length p in
    let size : c.overhead.result + length p ≡ n = ap (λ k. k + length p) c.overhead.ensures in
    let fits = c.in-Some.ensures.some in
    let read = c.in-Some.ensures.read (subst (AreUndamaged f) (sym (rest_is at bytes)) before.sound) in
    let sound = next_sound bytes b p f at n (rest_is at bytes) before.sound read in
    let turn = ap length (payloads bytes b p f at n (rest_is at bytes) before.sound read) in
    let further = ap (λ k. length (payloads_read (records_read f (drop (at + k) bytes)))) size in
    record {
      within = omega (arith, before.within, size, fits, ap length (rest_is at bytes), length-drop at bytes);
      sound = subst (λ k. AreUndamaged f (drop (at + k) bytes)) (sym size) sound;
      few = omega (arith, before.few, size, some_bytes f);
      same = omega (arith, before.same, turn, further);
    }

pub returns : goal.returns
returns c =
    let before = c.loop-payload.invariant in
    let f = c.args.format in
    let bytes = c.args.bytes.now in
    let at = c.loop-payload.at in
    let ended = c.in_default.ensures.none (subst (AreUndamaged f) (sym (rest_is at bytes)) before.sound) in
    omega (arith, before.same, ap (λ r. length (payloads_read r)) ended, ap (λ l. length (payloads_read (records_read f l))) (rest_is at bytes))
