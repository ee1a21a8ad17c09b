use Rattle.std.proofs.Common.{◌≡◌, [], MatchOption, refl, subst, sym}
use Rattle.cedar_tree.specs.Queries.{node_at, walk}
use Rattle.cedar_tree.specs.Walks.{visited_entries}
use Rattle.cedar_tree.proofs.PredictLemmas.{predict-node}
use Rattle.cedar_walk.specs.Visits.{left_at}
use Rattle.cedar_model.specs.Meaning.WellFormed.{tree_of}
use Rattle.cedarwood.specs.declared.queries.predict.PredictPlace.{PredictPlace}
use Rattle.cedarwood.specs.declared.queries.predict.PredictPlace.TheVariants.{Node, Start}
use Rattle.cedarwood.specs.WalkPlaces.{GoesOnTo, IsPredictPlace, predicted_from}
use Rattle.cedarwood.proofs.PredictionLemmas.{goes_on}
use Rattle.cedarwood.proofs.queries.predict.numbered_next.Goals as goal

pub returns-in-Start : goal.returns-in-Start
returns-in-Start g c =
    let T = g.T.Walked.shown c.args.trie.now in
    let query = c.args.query.now in
    let siblings = c.first_with_pending.new.siblings in
    subst (λ place. MatchOption c.first_with_pending.result (predicted_from T query place ≡ []) (GoesOnTo T query place siblings)) (sym c.in-Start.is)
    (goes_on T query Start siblings (walk (node_at (tree_of T) query)) c.first_with_pending.result (predict-node (tree_of T) query c.requires.well_formed.sound) c.first_with_pending.ensures.found c.first_with_pending.ensures.kept)

pub next_with_pending-requires : goal.next_with_pending-requires
next_with_pending-requires g c =
    let T = g.T.Walked.shown c.args.trie.now in
    let query = c.args.query.now in
    let here : IsPredictPlace T query (Node c.in-Node.slot c.in-Node.depth) c.args.siblings.now = subst (λ (place : PredictPlace). IsPredictPlace T query place c.args.siblings.now) c.in-Node.is c.requires.place in
    record { well_formed = c.requires.well_formed; below = (query, here.0); kept = here.1 }

pub returns-in-Node : goal.returns-in-Node
returns-in-Node g c =
    let T = g.T.Walked.shown c.args.trie.now in
    let query = c.args.query.now in
    let siblings = c.next_with_pending.new.siblings in
    let here : IsPredictPlace T query (Node c.in-Node.slot c.in-Node.depth) c.args.siblings.now = subst (λ (place : PredictPlace). IsPredictPlace T query place c.args.siblings.now) c.in-Node.is c.requires.place in
    subst (λ place. MatchOption c.next_with_pending.result (predicted_from T query place ≡ []) (GoesOnTo T query place siblings)) (sym c.in-Node.is)
    (goes_on T query (Node c.in-Node.slot c.in-Node.depth) siblings (visited_entries (left_at T query c.in-Node.depth c.in-Node.slot)) c.next_with_pending.result refl (c.next_with_pending.ensures.found query here.0.0) c.next_with_pending.ensures.kept)
