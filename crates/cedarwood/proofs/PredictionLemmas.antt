-- How a prediction goes on.
use Rattle.std.proofs.Common.{◌≡◌, ℕ, List, [], ◌∷◌, Option, Some, None, ap, ◌∙◌, IfSome, MatchOption}
use Rattle.cedar_tree.specs.Queries.{Entry}
use Rattle.cedar_tree.specs.Walks.{visited_entries}
use Rattle.cedar_walk.specs.declared.pending.PendingSibling.{PendingSibling}
use Rattle.cedar_walk.specs.declared.visits.Numbered.{Numbered}
use Rattle.cedar_model.specs.Table.TableFields.{Fields}
use Rattle.cedar_walk.specs.Pending.{IsPending}
use Rattle.cedar_walk.specs.Visits.{ComesToNumber, left_at}
use Rattle.cedar_walk.proofs.WalkLemmas.NextNode.{path_length}
use Rattle.cedarwood.specs.declared.queries.predict.PredictPlace.{PredictPlace}
use Rattle.cedarwood.specs.WalkPlaces.{answers_of, GoesOnTo, predicted_from}

-- what is left of a prediction are the results of the entries that its walk has left
pub goes_on : (T : Fields) (query : List ℕ) (place : PredictPlace) (siblings : List PendingSibling) (left : List Entry) (found : Option Numbered) → predicted_from T query place ≡ answers_of left
    → MatchOption found (left ≡ []) (ComesToNumber T query left) → IfSome found (λ (next : Numbered). IsPending T siblings next.depth next.slot)
    → MatchOption found (predicted_from T query place ≡ []) (GoesOnTo T query place siblings)
goes_on T query place siblings left None is gone kept = is ∙ ap answers_of gone
goes_on T query place siblings left (Some next) is comes kept = record {
  stands = ((comes.below, next.number, comes.number), kept);
  rest =
      is
      ∙ ap answers_of comes.entries
      ∙ ap (λ n. (next.number, n) ∷ answers_of (visited_entries (left_at T query next.depth next.slot))) (path_length T next.depth next.slot);
}
