use Rattle.std.proofs.Common.{rules, w32, to_z, of_z, FitsSigned, ℕ, ◌≡◌, ◌+◌, ◌++◌, ◌∙◌, ap, ap₂, take}
use Rattle.std.proofs.lemmas.Int.{to_z-of_z}
use Rattle.cedarwood.specs.Queries.{Entry}
use Rattle.device_lines.proofs.Writing.{breaks_first, then_writes, writes_same}
use Rattle.word_lists.specs.Lines.{entry_line}
use Rattle.word_lists.specs.Texts.{characters, tab_field, text_part}
use Rattle.word_lists.proofs.scan.write_spot.Goals as goal

pub returns-in_err-write_field : goal.returns-in_err-write_field
returns-in_err-write_field g c =
    let column = 1 + characters (take c.args.spot.0 c.args.text.now) in
    let told : Entry = (text_part c.args.text.now c.args.spot.0 c.args.spot.1, c.args.spot.2) in
    breaks_first (tab_field column ++ entry_line told) c.from_residual.ensures.1 c.in_err-write_field.ensures

pub returns-in_err-write_field-2 : goal.returns-in_err-write_field-2
returns-in_err-write_field-2 g c =
    let told : Entry = (text_part c.args.text.now c.args.spot.0 c.args.spot.1, c.args.spot.2) in
    let place : c.column_of-column.result ≡ 1 + characters (take c.args.spot.0 c.args.text.now) = c.column_of-column.ensures ∙ ap (λ k. 1 + k) c.requires.before in
    then_writes c.in_ok-write_field.ensures
    (writes_same (ap (λ (n : ℕ). tab_field n ++ entry_line told) place)
    (breaks_first (entry_line told) c.from_residual-in_err-write_field-2.ensures.1 c.in_err-write_field-2.ensures))

pub returns-then-finds_room : goal.returns-then-finds_room
returns-then-finds_room g c =
    let told : Entry = (text_part c.args.text.now c.args.spot.0 c.args.spot.1, c.args.spot.2) in
    let place : c.column_of-column.result ≡ 1 + characters (take c.args.spot.0 c.args.text.now) = c.column_of-column.ensures ∙ ap (λ k. 1 + k) c.requires.before in
    let fits : FitsSigned w32 c.args.spot.2 = search rules in
    let entry : Entry = (c.part-word.result.now, to_z w32 (of_z w32 c.args.spot.2)) in
    let same : entry ≡ told = λ k. (c.part-word.ensures k, to_z-of_z w32 c.args.spot.2 fits k) in
    writes_same (ap₂ (λ (n : ℕ) (e : Entry). tab_field c.args.line ++ (tab_field n ++ entry_line e)) place same) c.write_short.ensures

pub returns : goal.returns
returns g c =
    let told : Entry = (text_part c.args.text.now c.args.spot.0 c.args.spot.1, c.args.spot.2) in
    let place : c.column_of-column.result ≡ 1 + characters (take c.args.spot.0 c.args.text.now) = c.column_of-column.ensures ∙ ap (λ k. 1 + k) c.requires.before in
    let fits : FitsSigned w32 c.args.spot.2 = search rules in
    let entry : Entry = (c.part-word.result.now, to_z w32 (of_z w32 c.args.spot.2)) in
    let same : entry ≡ told = λ k. (c.part-word.ensures k, to_z-of_z w32 c.args.spot.2 fits k) in
    then_writes c.in_ok-write_field.ensures
    (writes_same (ap₂ (λ (n : ℕ) (e : Entry). tab_field n ++ entry_line e) place same) (then_writes c.in_ok-write_field-2.ensures c.write_entry.ensures))
