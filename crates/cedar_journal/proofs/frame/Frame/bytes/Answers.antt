use Rattle.std.proofs.Common.{◌≡◌, ◌-◌, ◌∙◌, List, ℕ, length, take, drop, ap, sym, rules}
use Rattle.cedar_journal.specs.Formats.{frame_of, payload_of_frame}
use Rattle.cedar_journal.proofs.Framed.{plain_part}
use Rattle.cedar_journal.proofs.frame.Frame.bytes.Goals as goal

pub returns-in-Plain-clause-bytes : goal.returns-in-Plain-clause-bytes
returns-in-Plain-clause-bytes g c =
    let bytes = c.args.self.now.bytes.items in
    let is : c.deref.result.now ≡ bytes = search rules in
    ap (λ (l : List ℕ). take (length l - 4) (drop 4 l)) is ∙ plain_part bytes c.args.self.now.framed
    ∙ ap (λ f. frame_of f (payload_of_frame bytes)) (sym c.in-Plain.is)
