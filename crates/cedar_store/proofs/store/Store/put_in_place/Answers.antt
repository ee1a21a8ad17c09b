use Rattle.std.specs.Prelude.{option_map, Some}
use Rattle.std.proofs.Common.{◌≡◌, ◌∙◌, ap, arith, length, refl, subst, sym}
use Rattle.std.proofs.lemmas.Bool.{false≢true}
use Rattle.cedar_journal.specs.Device.{Only}
use Rattle.cedar_journal.proofs.Images.{replaced_settled, replaced_stands, some_gate}
use Rattle.cedar_journal.proofs.Moments.{weakens}
use Rattle.cedar_store.specs.Files.{record_count}
use Rattle.cedar_store.proofs.Compacted.{at_kept, failed_ready, image_or_before, kept_ready, stands_of_image}
use Rattle.cedar_store.proofs.store.Store.put_in_place.Goals as goal

pub returns-in-Ok-clause-ready : goal.returns-in-Ok-clause-ready
returns-in-Ok-clause-ready g c = λ before.
    let d = g.D.Device in
    let image = c.args.image.now in
    let is = c.in-Ok.ensures.replaced ∙ c.bytes.ensures in
    let some = some_gate image.bytes.items image.shape in
    let size = ap length c.bytes-in-Ok.ensures in
    record {
      ordered = before.ordered;
      consistent = λ _. record {
        settled =
            replaced_settled d.seen d.may_leave c.replace.new.self image.bytes.items image.shape image.whole is c.saturating_sub-end.result (omega (arith, some, size, c.saturating_sub-end.ensures))
            (subst (λ l. Only l (d.may_leave c.replace.new.self)) c.bytes.ensures c.in-Ok.ensures.durable);
        same = stands_of_image image.bytes.items (d.seen c.replace.new.self) (g.T.Words.state c.args.self.now.words) image.shape image.whole c.requires.made is;
      };
    }

pub returns-in-Err-Kept-clause-ready : goal.returns-in-Err-Kept-clause-ready
returns-in-Err-Kept-clause-ready g c = λ before.
    let d = g.D.Device in
    let old = c.args.self.now in
    let s = g.T.Words.state old.words in
    kept_ready d.seen d.may_leave old.journal.device c.replace.new.self old.journal.format old.journal.end old.journal.end s s old.failed old.failed (at_kept _ c.in-Err-Kept.field-0 c.in-Err-Kept.error c.in-Err-Kept.field-0-is c.in-Err-Kept.ensures.kept_seen)
    (at_kept _ c.in-Err-Kept.field-0 c.in-Err-Kept.error c.in-Err-Kept.field-0-is c.in-Err-Kept.ensures.kept_crash) refl refl refl before

pub returns-in-Err-Failed-clause-ready : goal.returns-in-Err-Failed-clause-ready
returns-in-Err-Failed-clause-ready g c = λ before.
    let d = g.D.Device in
    let old = c.args.self.now in
    failed_ready d.seen d.may_leave c.replace.new.self old.journal.format old.journal.end (g.T.Words.state old.words) _ refl before.ordered

pub returns-in-Ok-clause-any_moment : goal.returns-in-Ok-clause-any_moment
returns-in-Ok-clause-any_moment g c =
    let d = g.D.Device in
    let image = c.args.image.now in
    let device = c.args.self.now.journal.device in
    weakens d.moment d.left_since device c.replace.new.self _ _
    (image_or_before (d.may_leave device) image.bytes.items c.bytes.result.now (g.T.Words.state c.args.self.now.words) image.shape image.whole c.requires.made c.bytes.ensures)
    c.replace.ensures.any_moment

pub returns-in-Err-Kept-clause-any_moment : goal.returns-in-Err-Kept-clause-any_moment
returns-in-Err-Kept-clause-any_moment g c =
    let d = g.D.Device in
    let image = c.args.image.now in
    let device = c.args.self.now.journal.device in
    weakens d.moment d.left_since device c.replace.new.self _ _
    (image_or_before (d.may_leave device) image.bytes.items c.bytes.result.now (g.T.Words.state c.args.self.now.words) image.shape image.whole c.requires.made c.bytes.ensures)
    c.replace.ensures.any_moment

pub returns-in-Err-Failed-clause-any_moment : goal.returns-in-Err-Failed-clause-any_moment
returns-in-Err-Failed-clause-any_moment g c =
    let d = g.D.Device in
    let image = c.args.image.now in
    let device = c.args.self.now.journal.device in
    weakens d.moment d.left_since device c.replace.new.self _ _
    (image_or_before (d.may_leave device) image.bytes.items c.bytes.result.now (g.T.Words.state c.args.self.now.words) image.shape image.whole c.requires.made c.bytes.ensures)
    c.replace.ensures.any_moment

pub returns-in-Ok-clause-counted : goal.returns-in-Ok-clause-counted
returns-in-Ok-clause-counted g c = λ was usable.
    let d = g.D.Device in
    let image = c.args.image.now in
    let is = c.in-Ok.ensures.replaced ∙ c.bytes.ensures in
    ap (option_map length) (replaced_stands d.seen d.may_leave c.replace.new.self image.bytes.items image.shape image.whole is)
    ∙ ap (λ n. Some n) (c.requires.count ∙ sym c.count-records.ensures.entries)

pub returns-in-Ok-clause-each : goal.returns-in-Ok-clause-each
returns-in-Ok-clause-each g c =
    let d = g.D.Device in
    let image = c.args.image.now in
    let is = c.in-Ok.ensures.replaced ∙ c.bytes.ensures in
    ap (option_map length) (replaced_stands d.seen d.may_leave c.replace.new.self image.bytes.items image.shape image.whole is)
    ∙ ap (λ n. Some n) c.requires.count

pub returns-in-Ok-clause-whole : goal.returns-in-Ok-clause-whole
returns-in-Ok-clause-whole g c =
    let image = c.args.image.now in
    let is = c.in-Ok.ensures.replaced ∙ c.bytes.ensures in
    let some = some_gate image.bytes.items image.shape in
    let size = ap length c.bytes-in-Ok.ensures in
    let long = ap length is in
    omega (arith, some, size, long, c.saturating_sub-end.ensures)

pub returns-in-Err-Kept-clause-counted : goal.returns-in-Err-Kept-clause-counted
returns-in-Err-Kept-clause-counted g c = λ was usable.
    let seen = g.D.Device.seen in
    let same : seen c.replace.new.self ≡ seen c.args.self.now.journal.device =
    at_kept _ c.in-Err-Kept.field-0 c.in-Err-Kept.error c.in-Err-Kept.field-0-is c.in-Err-Kept.ensures.kept_seen in
    ap record_count same ∙ was usable

pub returns-in-Err-Failed-clause-counted : goal.returns-in-Err-Failed-clause-counted
returns-in-Err-Failed-clause-counted g c = λ was usable. absurd (false≢true (sym usable))
