-- The cut of a text without a byte, which has no token.
use Rattle.std.proofs.Common.{◌≡◌, ◌≤◌, ℕ, ℤ, unsigned_abs, List, [], arith, refl, sym, subst}
use Rattle.cedarwood.specs.Tree.{Tree}
use Rattle.cedar_words.specs.Models.{IsBestCut}
use Rattle.cedar_words.specs.Runs.{byte_run}
use Rattle.cedar_words.specs.Tokens.{Token}
use Rattle.cedar_words.specs.declared.models.UnknownRun.{UnknownRun}
use Rattle.cedar_replies.specs.Texts.{IsCheapCut}

nothing_best : (t : Tree) (key : ℤ → ℕ) (run : ℕ → UnknownRun) → IsBestCut t key run [] []
nothing_best t key run = record {
  cut = refl;
  least = λ other is. omega arith;
  ahead = λ other is less. tt;
  throughout = tt;
  first = λ other is throughout. tt;
}

nothing_cheap : (t : Tree) (price : ℕ → ℕ) → IsCheapCut t price [] []
nothing_cheap t price = record {
  cut = refl;
  least = λ short. record {
    cut = refl;
    least = λ other is. omega arith;
    ahead = λ other is less. tt;
  };
  capped = λ other is. omega arith;
  ahead = λ other is less. tt;
  best = nothing_best t unsigned_abs (λ place. byte_run (price place));
}

pub no_best_cut : (t : Tree) (key : ℤ → ℕ) (run : ℕ → UnknownRun) (text : List ℕ) (tokens : List Token) → text ≡ [] → tokens ≡ [] → IsBestCut t key run text tokens
no_best_cut t key run text tokens none empty =
    subst (λ x. IsBestCut t key run x tokens) (sym none) (subst (λ y. IsBestCut t key run [] y) (sym empty) (nothing_best t key run))

pub no_cheap_cut : (t : Tree) (price : ℕ → ℕ) (text : List ℕ) (tokens : List Token) → text ≡ [] → tokens ≡ [] → IsCheapCut t price text tokens
no_cheap_cut t price text tokens none empty =
    subst (λ x. IsCheapCut t price x tokens) (sym none) (subst (λ y. IsCheapCut t price [] y) (sym empty) (nothing_cheap t price))
