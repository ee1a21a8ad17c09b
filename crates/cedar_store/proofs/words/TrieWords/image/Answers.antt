use Rattle.std.specs.Prelude.{IfOk, None, Some}
use Rattle.std.specs.List.{AllByRecursion}
use Rattle.std.proofs.Common.{◌≡◌, ◌∙◌, ap, length, subst, sym}
use Rattle.cedar_journal.specs.Image.{image_bytes, payloads_of}
use Rattle.cedarwood.specs.Queries.{Entry}
use Rattle.cedarwood.specs.State.{new_state}
use Rattle.cedarwood.specs.Builds.{all_stored}
use Rattle.cedarwood.specs.Fault.{fault}
use Rattle.cedar_store.specs.Changes.{after_payloads}
use Rattle.cedar_store.specs.Compactions.{compacted_length}
use Rattle.cedar_store.proofs.Compacted.{entries_are_sound, made_again}
use Rattle.cedar_store.proofs.words.TrieWords.image.Goals as goal

pub image_of-requires : goal.image_of-requires
image_of-requires g c =
    let valid = c.len.ensures.valid in
    subst (AllByRecursion (λ (e : Entry). fault e.0 e.1 ≡ None)) (sym c.in-Ok.ensures.entries)
    (entries_are_sound c.args.self.now.state.tree valid.sound valid.values)

pub returns-in-Ok-clause-made : goal.returns-in-Ok-clause-made
returns-in-Ok-clause-made g c = λ ordered.
    let state = c.args.self.now.state in
    let valid = c.len.ensures.valid in
    subst (λ s. IfOk c.image_of.result (λ image. after_payloads new_state (payloads_of image) ≡ Some s))
    (ap (all_stored new_state) c.in-Ok.ensures.entries ∙ made_again state valid.sound (valid.ascending ordered) ordered) c.image_of.ensures.made

pub returns-in-Ok-clause-length : goal.returns-in-Ok-clause-length
returns-in-Ok-clause-length g c =
    subst (λ l. IfOk c.image_of.result (λ image. length (image_bytes image) ≡ compacted_length l)) c.in-Ok.ensures.entries c.image_of.ensures.length

pub returns-in-Ok-clause-count : goal.returns-in-Ok-clause-count
returns-in-Ok-clause-count g c =
    subst (λ l. IfOk c.image_of.result (λ image. length (payloads_of image) ≡ length l)) c.in-Ok.ensures.entries c.image_of.ensures.count
