use Rattle.std.proofs.Common.{◌∙◌, ap, arith, drop, length, sym, take}
use Rattle.std.proofs.lemmas.List.{drop_all, take_all}
use Rattle.device_lines.proofs.Figures.{not_true}
use Rattle.word_lists.proofs.PlainLines.{one_suc, through_at, through_none}
use Rattle.word_lists.proofs.parts.first_len.Goals as goal

pub returns-in-None-clause-first : goal.returns-in-None-clause-first
returns-in-None-clause-first c =
    let text = c.args.text.now in
    take_all (length text) text (omega arith) ∙ sym (through_none text (λ k low. not_true (c.in-None.ensures k (omega arith) low))).0

pub returns-in-None-clause-rest : goal.returns-in-None-clause-rest
returns-in-None-clause-rest c =
    let text = c.args.text.now in
    drop_all (length text) text (omega arith) ∙ sym (through_none text (λ k low. not_true (c.in-None.ensures k (omega arith) low))).1

pub returns-in-Some-clause-first : goal.returns-in-Some-clause-first
returns-in-Some-clause-first c =
    let text = c.args.text.now in
    let at = c.in-Some.at in
    let found = c.in-Some.ensures in
    ap (λ n. take n text) (one_suc at) ∙ (through_at text at found.0.high (λ k low. not_true (found.0.before k (omega arith) low)) found.1).0

pub returns-in-Some-clause-rest : goal.returns-in-Some-clause-rest
returns-in-Some-clause-rest c =
    let text = c.args.text.now in
    let at = c.in-Some.at in
    let found = c.in-Some.ensures in
    ap (λ n. drop n text) (one_suc at) ∙ (through_at text at found.0.high (λ k low. not_true (found.0.before k (omega arith) low)) found.1).1
