use Rattle.std.proofs.Common.{rules, ◌≡◌, ◌+◌, ◌-◌, ◌≤◌, ◌∙◌, ap, ap₂, arith, drop, take}
use Rattle.word_lists.specs.Texts.{characters}
use Rattle.word_lists.proofs.Texts.{characters_between, characters_front_within}
use Rattle.word_lists.proofs.parts.characters_before.Goals as goal

pub returns-clause-all : goal.returns-clause-all
returns-clause-all c =
    let le : c.args.known.0 ≤ c.args.place = search rules in
    let second : c.characters-2.result ≡ characters (take (c.args.place - c.args.known.0) (drop c.args.known.0 c.args.text.now)) = c.characters-2.ensures.all ∙ ap characters c.part-2.ensures in
    ap₂ (λ m n. m + n) c.requires second ∙ characters_between c.args.text.now c.args.known.0 c.args.place le

pub overflow_add-result : goal.overflow_add-result
overflow_add-result c =
    let le : c.args.known.0 ≤ c.args.place = search rules in
    let second : c.characters-2.result ≡ characters (take (c.args.place - c.args.known.0) (drop c.args.known.0 c.args.text.now)) = c.characters-2.ensures.all ∙ ap characters c.part-2.ensures in
    let all = ap₂ (λ m n. m + n) c.requires second ∙ characters_between c.args.text.now c.args.known.0 c.args.place le in
    let within = characters_front_within c.args.place c.args.text.now in
    search (rules, all, within)

pub returns-clause-within : goal.returns-clause-within
returns-clause-within c =
    let le : c.args.known.0 ≤ c.args.place = search rules in
    let second : c.characters-2.result ≡ characters (take (c.args.place - c.args.known.0) (drop c.args.known.0 c.args.text.now)) = c.characters-2.ensures.all ∙ ap characters c.part-2.ensures in
    let all = ap₂ (λ m n. m + n) c.requires second ∙ characters_between c.args.text.now c.args.known.0 c.args.place le in
    let within = characters_front_within c.args.place c.args.text.now in
    omega (arith, all, within)
