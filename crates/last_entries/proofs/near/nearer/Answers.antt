use Rattle.std.proofs.Common.{rules, ◌≡◌, ◌<◌, ℕ, List, length, get_or, Option, option_map, sym, ◌∙◌, Bor}
use Rattle.std.proofs.lemmas.List.{get_or_default}
use Rattle.last_entries.specs.Nearness.{before_end}
use Rattle.last_entries.proofs.NearLemmas.{deeper, deeper_less, listed_before}
use Rattle.last_entries.proofs.near.nearer.Goals as goal

pub returns-then-index-near : goal.returns-then-index-near
returns-then-index-near g c =
    let to : Option (List ℕ) = option_map {T = Bor (List ℕ)} {U = List ℕ} (λ z. z.now) c.args.to in
    let entries = g.S.Ascending.entries c.args.source.now in
    let es = before_end to entries in
    let near = c.args.near.now in
    let key = near.key.items in
    let within : near.depth < length key = search rules in
    let at : c.index.result.now ≡ near.highest = search rules in
    let is : get_or key near.depth 0 ≡ near.highest = get_or_default key near.depth 0 c.index.result.now within ∙ sym c.index.ensures ∙ at in
    (deeper es key near.value near.depth near.highest (listed_before to entries c.requires.listed).1 c.requires.near within is, deeper_less es key near.depth near.highest within)
