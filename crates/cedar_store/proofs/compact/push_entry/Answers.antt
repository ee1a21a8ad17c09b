use Rattle.std.specs.Prelude.{FitsSigned, Some}
use Rattle.std.proofs.Common.{◌≡◌, ◌∙◌, [], ◌∷◌, ◌++◌, ap, rules}
use Rattle.std.proofs.lemmas.Int.{to_z-of_z}
use mir.Syntax.{w32}
use Rattle.cedar_journal.specs.Frames.{payload_of}
use Rattle.cedar_journal.specs.Image.{payloads_of}
use Rattle.cedar_store.specs.Changes.{put_at}
use Rattle.cedar_store.proofs.compact.push_entry.Goals as goal

pub returns-clause-pushed : goal.returns-clause-pushed
returns-clause-pushed g c =
    let fits : FitsSigned w32 c.args.value = search rules in
    let payload = c.in_ok-payload.payload.items in
    let before = payloads_of c.args.image.now in
    let is : payload_of c.in_ok-frame.frame ≡ payload = search rules in
    let behind : payloads_of c.push.new.self ≡ before ++ payload_of c.in_ok-frame.frame ∷ [] = search rules in
    record {
      payload = payload;
      behind = behind ∙ ap (λ p. before ++ p ∷ []) is;
      change = c.in_ok-payload.ensures.alone ∙ ap (λ v. Some (put_at c.args.key.now v ∷ [])) (to_z-of_z w32 c.args.value fits);
    }
