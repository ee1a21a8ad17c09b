use Rattle.std.proofs.Common.{rules, inl, ◌≡◌, ◌∙◌, ◌<◌, ◌≤◌, ◌++◌, ap, drop, length, map, take, arith}
use Rattle.std.proofs.lemmas.List.{length-drop}
use Rattle.cedarwood.specs.Queries.{front}
use Rattle.cedar_c.specs.Scans.{found_spot}
use Rattle.cedar_words.proofs.SpotLemmas.{rest_of}
use Rattle.cedar_c.proofs.ScanLemmas.{place_told}
use Rattle.cedar_c.proofs.scans.scan.Goals as goal

pub loop-next-preserved : goal.loop-next-preserved
loop-next-preserved g c =
    let t = g.T.Scanned.scanned c.args.trie.now in
    let kept = c.loop-next.invariant in
    let next = c.loop-next.next in
    let text = c.args.text.now in
    let more : 0 < length (drop next text) = omega (arith, length-drop next text, c.loop-next-test.true) in
    let told : take c.in-Some.now c.tell_fronts.new.found ≡ take c.loop-next.count c.loop-next.found ++ map (found_spot next) (front t (drop next text)) = c.in-Some.ensures.told ∙ ap (λ r. take c.loop-next.count c.loop-next.found ++ map (found_spot next) (front t r)) (rest_of text next) in
    let within : c.in-Some.now ≤ length c.tell_fronts.new.found = search rules in (
      place_told t text _ (take c.loop-next.count c.loop-next.found) (take c.in-Some.now c.tell_fronts.new.found) next kept.0 more told,
      within,
      (let before : c.args.next.now ≤ next = kept.2 in omega (arith, before)),
      c.tell_fronts.ensures.room ∙ kept.3,
      inl (omega (arith, c.loop-next-test.true)),
    )
