use Rattle.std.specs.Prelude.{OnOk}
use Rattle.std.proofs.Common.{◌≡◌, ◌++◌, ◌∙◌, ap, subst, sym}
use Rattle.cedar_journal.specs.Image.{payloads_of}
use Rattle.cedar_salvage.specs.Whole.{found_of, salvaged_by}
use Rattle.cedar_salvage.proofs.whole.push_records.Goals as goal

pub returns-in-Some : goal.returns-in-Some
returns-in-Some g c =
    let bytes = c.args.bytes.now in
    let same = ap (found_of c.in-Some.format) c.behind_header.ensures ∙ ap (λ f. salvaged_by f bytes) (sym c.in-Some.is ∙ c.format_of.ensures) in
    subst (λ l. OnOk c.push_of.result (payloads_of c.push_of.new.image ≡ payloads_of c.args.image.now ++ l)) same c.push_of.ensures

pub returns-in-None : goal.returns-in-None
returns-in-None g c =
    let bytes = c.args.bytes.now in
    let same = ap (λ f. salvaged_by f bytes) (sym c.in-None.is ∙ c.format_of.ensures) in
    subst (λ l. OnOk c.push_whole.result (payloads_of c.push_whole.new.image ≡ payloads_of c.args.image.now ++ l)) same c.push_whole.ensures
