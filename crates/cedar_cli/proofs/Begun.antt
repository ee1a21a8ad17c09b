-- What a run of the program begins with, and what its arguments ask for.
use Rattle.std.proofs.Common.{◌≡◌, ℕ, Bool, true, false, List, [], ◌∷◌, Option, Some, None, Bor, not, ◌&&◌, ap, refl, ◌∙◌}
use Rattle.std.specs.Prelude.{MatchOption, Result, Ok, Err, IfOk, bytes_eq, codes, is_some, option_map}
use Rattle.cedarwood.specs.Tree.{Tree, empty_tree}
use Rattle.cedarwood.specs.Layouts.{LayoutKind, default_layout, reduced_layout}
use Rattle.cedarwood.specs.Dictionary.{Dictionary}
use Rattle.cedar_cli.specs.Options.{Request, BeginsWith, limit_of, request_besides, empty, with_reduced, with_v1_0, is_new, with_limit, with_load, with_save, request_in, with_any_order}
use Rattle.cedar_cli.specs.declared.options.Options.{Options}
use Rattle.cedar_cli.specs.View.{View, marked_in, view_of}

by_load : (load : Option (List ℕ)) (s : View) → MatchOption load (s ≡ s) (λ _. Unit {0})
by_load None s = refl
by_load (Some path) s = tt

-- an empty dictionary will do, whatever was asked
pub begins_empty : (layout : LayoutKind) (a : Request) → BeginsWith layout a (empty layout a.ordered)
begins_empty layout a = (refl, by_load a.load (empty layout a.ordered))

-- a new dictionary is seen as an empty one
pub seen_new : (layout : LayoutKind) (d : Dictionary) (ordered : Bool) → d.state.tree ≡ empty_tree → d.marked ≡ empty_tree → d.state.ordered ≡ ordered
    → view_of layout d ≡ empty layout ordered
seen_new layout d ordered tree unmarked order = same (marked_in layout d) (by_layout layout) where
  by_layout : (l : LayoutKind) → marked_in l d ≡ empty_tree
  by_layout default_layout = tree
  by_layout reduced_layout = unmarked

  same : (m : Tree) → m ≡ empty_tree → ◌≡◌ {A = View} (record { layout = layout; state = d.state; marked = m }) (empty layout ordered)
  same m e =
      ap (λ (t : Tree). record { layout = layout; state = d.state; marked = t }) e
      ∙ ap (λ (t : Tree). record { layout = layout; state = record { tree = t; ordered = d.state.ordered }; marked = empty_tree }) tree
      ∙ ap (λ (o : Bool). record { layout = layout; state = record { tree = empty_tree; ordered = o }; marked = empty_tree }) order

-- where one is loaded a run begins with that, whatever it is
pub begins_loaded : {E : Type 0} (layout : LayoutKind) (o : Options) (path : Bor (List ℕ)) (r : Result Dictionary E) → o.load ≡ Some path
    → IfOk r (λ d. BeginsWith layout (request_in o) (view_of layout d))
begins_loaded layout o path (Ok d) given = (refl, rw given tt)
begins_loaded layout o path (Err e) given = tt

-- and a load was asked for
pub asks_load : (o : Options) (path : Bor (List ℕ)) → o.load ≡ Some path → is_some (request_in o).load ≡ true
asks_load o path given = rw given refl

-- so was a save
pub asks_save : (o : Options) (path : Bor (List ℕ)) → o.save ≡ Some path → is_some (request_in o).save ≡ true
asks_save o path given = rw given refl

-- so a run may begin with one where none is loaded
pub begins_new : (layout : LayoutKind) (o : Options) (d : Dictionary) → o.load ≡ None → d.state.tree ≡ empty_tree → d.marked ≡ empty_tree → d.state.ordered ≡ o.ordered
    → BeginsWith layout (request_in o) (view_of layout d)
begins_new layout o d none tree unmarked order = (refl, rw none (seen_new layout d o.ordered tree unmarked order))

and_false : (b : Bool) → (b && false) ≡ false
and_false true = refl
and_false false = refl

-- an option that has been given is not new, and neither is another word
pub given_before : (word option : List ℕ) (given : Bool) → given ≡ true → is_new word option given ≡ false
given_before word option given e = rw e (and_false (bytes_eq word option))

pub other_word : (word option : List ℕ) (given : Bool) → bytes_eq word option ≡ false → is_new word option given ≡ false
other_word word option given e = rw e refl

pub ordered_given : (word option : List ℕ) (ordered : Bool) → ordered ≡ false → is_new word option (not ordered) ≡ false
ordered_given word option ordered e = rw e (and_false (bytes_eq word option))

-- what is there, and what is not
pub none_given : (o : Option (Bor (List ℕ))) → is_some o ≡ false → is_some (option_map (λ p. p.now) o) ≡ false
none_given None h = refl
none_given (Some p) h = h

pub some_given : (o : Option (Bor (List ℕ))) → is_some o ≡ true → is_some (option_map (λ p. p.now) o) ≡ true
some_given None h = h
some_given (Some p) h = refl

-- an option and what follows it
pub unordered_first : (a : Request) (word : List ℕ) (rest : List (List ℕ)) → bytes_eq word (codes "--unordered") ≡ true → a.ordered ≡ true
    → request_besides a (word ∷ rest) ≡ request_besides (with_any_order a) rest
unordered_first a word [] e o = rw (e, o) refl
unordered_first a word (path ∷ rest) e o = rw (e, o) refl

pub v1_0_first : (a : Request) (word : List ℕ) (rest : List (List ℕ)) → is_new word (codes "--unordered") (not a.ordered) ≡ false
    → bytes_eq word (codes "--v1-0") ≡ true → a.v1_0 ≡ false → request_besides a (word ∷ rest) ≡ request_besides (with_v1_0 a) rest
v1_0_first a word [] other e new = rw (other, e, new) refl
v1_0_first a word (path ∷ rest) other e new = rw (other, e, new) refl

pub reduced_first : (a : Request) (word : List ℕ) (rest : List (List ℕ)) → is_new word (codes "--unordered") (not a.ordered) ≡ false
    → is_new word (codes "--v1-0") a.v1_0 ≡ false
    → bytes_eq word (codes "--reduced") ≡ true → a.reduced ≡ false → request_besides a (word ∷ rest) ≡ request_besides (with_reduced a) rest
reduced_first a word [] other full e new = rw (other, full, e, new) refl
reduced_first a word (path ∷ rest) other full e new = rw (other, full, e, new) refl

pub load_first : (a : Request) (word path : List ℕ) (rest : List (List ℕ)) → is_new word (codes "--unordered") (not a.ordered) ≡ false
    → is_new word (codes "--v1-0") a.v1_0 ≡ false → is_new word (codes "--reduced") a.reduced ≡ false
    → bytes_eq word (codes "--load") ≡ true → is_some a.load ≡ false → request_besides a (word ∷ path ∷ rest) ≡ request_besides (with_load a path) rest
load_first a word path rest other full wide e new = rw (other, full, wide, e, new) refl

pub save_first : (a : Request) (word path : List ℕ) (rest : List (List ℕ)) → is_new word (codes "--unordered") (not a.ordered) ≡ false
    → is_new word (codes "--v1-0") a.v1_0 ≡ false → is_new word (codes "--reduced") a.reduced ≡ false
    → is_new word (codes "--load") (is_some a.load) ≡ false
    → bytes_eq word (codes "--save") ≡ true → is_some a.save ≡ false → request_besides a (word ∷ path ∷ rest) ≡ request_besides (with_save a path) rest
save_first a word path rest other full wide old e new = rw (other, full, wide, old, e, new) refl

module _ (a : Request) (word value : List ℕ) (rest : List (List ℕ)) (other : is_new word (codes "--unordered") (not a.ordered) ≡ false) (full : is_new word (codes "--v1-0") a.v1_0 ≡ false)
    (wide : is_new word (codes "--reduced") a.reduced ≡ false) (old : is_new word (codes "--load") (is_some a.load) ≡ false) (kept : is_new word (codes "--save") (is_some a.save) ≡ false) where
  pub limit_first : (n : ℕ) → bytes_eq word (codes "--limit") ≡ true → is_some a.limit ≡ false → limit_of value ≡ Some n → request_besides a (word ∷ value ∷ rest) ≡ request_besides (with_limit a (Some n)) rest
  limit_first n e new is = rw (other, full, wide, old, kept, e, new, is) refl

  pub limit_wrong : limit_of value ≡ None → request_besides a (word ∷ value ∷ rest) ≡ None
  limit_wrong is = rw (other, full, wide, old, kept, is, and_false (is_new word (codes "--limit") (is_some a.limit))) refl
