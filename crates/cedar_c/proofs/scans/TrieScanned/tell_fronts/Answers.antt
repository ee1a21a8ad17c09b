use Rattle.std.proofs.Common.{rules, ◌≡◌, ◌<◌, ◌+◌, ◌^◌, ◌++◌, IfSome, List, ℕ, ℤ, None, length, map, subst, sym, take}
use Rattle.cedar_c.specs.Matches.{Fit}
use Rattle.cedar_c.specs.Scans.{found_spot}
use Rattle.cedar_c.proofs.ScanLemmas.{fronts_are_short}
use Rattle.cedar_c.proofs.scans.TrieScanned.tell_fronts.Goals as goal

pub tell-requires-clause-fit : goal.tell-requires-clause-fit
tell-requires-clause-fit g c =
    let short : length c.args.text.now < 2 ^ 64 = search rules in
    subst (Fit 1) (sym c.common_prefix_iter_bytes.ensures.rest) (fronts_are_short c.args.self.now.state.tree c.args.text.now short)

pub returns-clause-told : goal.returns-clause-told
returns-clause-told g c =
    subst (λ (xs : List (ℤ × ℕ)). IfSome c.tell.result (λ n. take n c.tell.new.found ≡ take c.args.count c.args.found.now ++ map (found_spot c.args.place) xs))
    c.common_prefix_iter_bytes.ensures.rest c.tell.ensures.told

pub returns-clause-no_room : goal.returns-clause-no_room
returns-clause-no_room g c =
    subst (λ (xs : List (ℤ × ℕ)). c.tell.result ≡ None → (length c.tell.new.found < c.args.count + length xs) × (take c.args.count c.tell.new.found ≡ take c.args.count c.args.found.now))
    c.common_prefix_iter_bytes.ensures.rest c.tell.ensures.no_room
