use Rattle.std.specs.Prelude.{Some, OnOk, IfErr}
use Rattle.std.proofs.Common.{◌≡◌, ◌-◌, ◌∙◌, length, take, drop, ap, sym, subst}
use Rattle.cedar_journal.specs.Files.{HasExtent}
use Rattle.cedar_journal.specs.Formats.{AreUndamaged, payloads_read, records_read}
use Rattle.cedarwood.specs.State.{new_state}
use Rattle.cedar_store.specs.Causes.{ReplayCause}
use Rattle.cedar_store.specs.Changes.{after_payloads}
use Rattle.cedar_store.proofs.Payloads.{rest_is}
use Rattle.cedar_store.proofs.Reading.{new_stands, records_stand, load_causes}
use Rattle.cedar_store.proofs.replay.make_changes.Goals as goal

pub returns-in-New-clause-state : goal.returns-in-New-clause-state
returns-in-New-clause-state g c = new_stands c.args.bytes.now (subst (HasExtent c.args.bytes.now) c.in-New.is c.requires.extent) ∙ ap Some (sym c.requires.new)

pub replay-requires : goal.replay-requires
replay-requires g c =
    let file = c.args.bytes.now in
    let records = subst (HasExtent file) c.in-Until.is c.requires.extent in
    record { sound = subst (AreUndamaged c.in-Until.format) (sym (rest_is 13 file)) records.sound }

pub returns-in-Until-clause-state : goal.returns-in-Until-clause-state
returns-in-Until-clause-state g c =
    let file = c.args.bytes.now in
    let f = c.in-Until.format in
    let records = subst (HasExtent file) c.in-Until.is c.requires.extent in
    let same = (λ i. after_payloads (c.requires.new i) (payloads_read (records_read f (rest_is 13 file i)))) ∙ sym (records_stand file f c.in-Until.field-1 records) in
    subst (λ o. OnOk c.replay.result (o ≡ Some (g.T.Words.state c.replay.new.words))) same c.replay.ensures.state

pub returns-in-Until-clause-cause : goal.returns-in-Until-clause-cause
returns-in-Until-clause-cause g c =
    let file = c.args.bytes.now in
    let f = c.in-Until.format in
    let records = subst (HasExtent file) c.in-Until.is c.requires.extent in
    let same : after_payloads (g.T.Words.state c.args.words.now) (payloads_read (records_read f (take (length file - 13) (drop 13 file)))) ≡ after_payloads new_state (payloads_read (records_read f (drop 13 file))) = (λ i. after_payloads (c.requires.new i) (payloads_read (records_read f (rest_is 13 file i)))) in
    load_causes file f c.in-Until.field-1 c.replay.result records (subst (λ o. IfErr c.replay.result (λ e. ReplayCause o e)) same c.replay.ensures.cause)
