use Rattle.std.specs.Prelude.{option_and_then, option_map}
use Rattle.std.proofs.Common.{◌≡◌, ◌<◌, ◌∙◌, ap, arith, length, refl, rules, subst, sym}
use Rattle.cedar_journal.specs.Device.{FoundNoRoom}
use Rattle.cedar_journal.specs.Files.{file_payloads, format_of, HasExtent}
use Rattle.cedarwood.specs.State.{new_state}
use Rattle.cedar_store.specs.Changes.{after_payloads}
use Rattle.cedar_store.specs.Files.{format_named, record_count}
use Rattle.cedar_store.proofs.Opened.{format_there, told_of}
use Rattle.cedar_store.proofs.Ordered.{is_ordered}
use Rattle.cedar_store.proofs.States.{not_corrupt}
use Rattle.cedar_store.proofs.store.Store.open.Goals as goal

pub returns-in-Ok-open_read-clause-sound : goal.returns-in-Ok-open_read-clause-sound
returns-in-Ok-open_read-clause-sound g c = not_corrupt (g.D.Device.seen c.args.device) _ c.in-Ok.ensures.made

pub returns-in-Ok-open_read-clause-ready : goal.returns-in-Ok-open_read-clause-ready
returns-in-Ok-open_read-clause-ready g c =
    let s = g.T.Words.state c.in-Ok.words in (
      refl,
      record {
        ordered = is_ordered (g.D.Device.seen c.args.device) s c.in-Ok.ensures.made;
        consistent = λ _. record {
          settled = c.in-Ok-open_read.ensures.settled.0;
          same = ap (option_and_then (after_payloads new_state)) (c.in-Ok-open_read.ensures.settled.1 ∙ ap file_payloads c.read_words.ensures.seen) ∙ c.in-Ok.ensures.made;
        };
      },
    )

pub returns-in-Ok-open_read-clause-format : goal.returns-in-Ok-open_read-clause-format
returns-in-Ok-open_read-clause-format g c =
    let seen = g.D.Device.seen in
    c.in-Ok-open_read.ensures.format
    ∙ format_there (seen c.read_words.new.device) c.in-Ok.extent c.in-Ok.ensures.extent
    ∙ ap (λ f. format_named (format_of f)) c.read_words.ensures.seen

pub count_records-records-requires : goal.count_records-records-requires
count_records-records-requires g c =
    let same : c.deref.result.now ≡ c.in-Ok.bytes.items = search rules in
    record { extent = subst (λ f. HasExtent f c.in-Ok.extent) (sym (same ∙ c.in-Ok.ensures.bytes)) c.in-Ok.ensures.extent }

pub returns-in-Ok-open_read-clause-counted : goal.returns-in-Ok-open_read-clause-counted
returns-in-Ok-open_read-clause-counted g c = λ usable.
    let same : c.deref.result.now ≡ c.in-Ok.bytes.items = search rules in
    ap (option_map length) c.in-Ok-open_read.ensures.settled.1 ∙ ap record_count (sym (same ∙ c.in-Ok.ensures.bytes)) ∙ c.count_records-records.ensures

pub returns-in-Err-open_read-clause-cause : goal.returns-in-Err-open_read-clause-cause
returns-in-Err-open_read-clause-cause g c =
    let d = g.D.Device in
    let device = c.args.device in
    let mid = c.read_words.new.device in
    let new = c.in-Err-open_read.device in
    let same : d.faults mid ≡ d.faults device = c.in-Ok.ensures.done in
    let room : d.full mid ≡ d.full device = c.read_words.ensures.room in
    let told = c.in-Err-open_read.ensures in
    told_of (d.faults device < d.faults new) (FoundNoRoom d.faults d.full device new) c.in-Err-open_read.error
    (λ is. let more : d.faults mid < d.faults new = told.failed is in omega (arith, same, more))
    (λ is. let more : d.faults mid < d.faults new = told.memory is in omega (arith, same, more))
    (λ is. let more : FoundNoRoom d.faults d.full mid new = told.no_room is in (omega (arith, room, more.0), more.1 ∙ same))
