-- What the program's arguments ask for.
use Rattle.std.specs.Prelude.{◌≡◌, ℕ, Bool, true, false, not, ◌&&◌, ◌||◌, nat_le, List, [], ◌∷◌}
use Rattle.std.specs.Prelude.{codes, bytes_eq, map, Option, Some, None, MatchOption, is_some}
use Rattle.std.specs.Prelude.{option_map, if◌then◌else◌}
use Rattle.std.specs.Borrow.{Bor}
use Rattle.std.specs.List.{list_all}
use Rattle.std.specs.Str.Parse.{without_leading_plus, digits_value}
use Rattle.cedarwood.specs.Tree.{empty_tree}
use Rattle.cedarwood.specs.Layouts.{LayoutKind, default_layout, reduced_layout}
use Rattle.cedarwood.specs.Limits.{default_load_limit}
use Rattle.device_lines.specs.Lines.{is_digit, is_filled}
use Rattle.cedar_cli.specs.View.{View}
use Rattle.cedar_cli.specs.declared.options.Options.{Options}

-- what is seen of an empty dictionary of a layout, whose labels ascend or not
abbrev pub empty : LayoutKind → Bool → View
empty layout ordered = record { layout = layout; state = record { tree = empty_tree; ordered = ordered }; marked = empty_tree }

-- what the arguments ask for
pub record Request : Type 0 where
  -- whether labels ascend
  pub ordered : Bool
  -- the file that is loaded
  pub load : Option (List ℕ)
  -- how many bytes of memory a load may ask for
  pub limit : Option ℕ
  -- the file that is saved
  pub save : Option (List ℕ)
  -- whether that is to be of format 1.0
  pub v1_0 : Bool
  -- whether the layout is the reduced one
  pub reduced : Bool

-- what no argument asks for: labels that ascend, in the default layout, without files
abbrev pub no_request : Request
no_request = record { ordered = true; load = None; limit = None; save = None; v1_0 = false; reduced = false }

-- what is asked for with `--unordered` besides
abbrev pub with_any_order : Request → Request
with_any_order a = record { ordered = false; load = a.load; limit = a.limit; save = a.save; v1_0 = a.v1_0; reduced = a.reduced }

-- what is asked for with `--load` and a path besides
abbrev pub with_load : Request → List ℕ → Request
with_load a path = record { ordered = a.ordered; load = Some path; limit = a.limit; save = a.save; v1_0 = a.v1_0; reduced = a.reduced }

-- what is asked for with `--limit` and a number besides
abbrev pub with_limit : Request → Option ℕ → Request
with_limit a limit = record { ordered = a.ordered; load = a.load; limit = limit; save = a.save; v1_0 = a.v1_0; reduced = a.reduced }

-- what is asked for with `--save` and a path besides
abbrev pub with_save : Request → List ℕ → Request
with_save a path = record { ordered = a.ordered; load = a.load; limit = a.limit; save = Some path; v1_0 = a.v1_0; reduced = a.reduced }

-- what is asked for with `--v1-0` besides
abbrev pub with_v1_0 : Request → Request
with_v1_0 a = record { ordered = a.ordered; load = a.load; limit = a.limit; save = a.save; v1_0 = true; reduced = a.reduced }

-- what is asked for with `--reduced` besides
abbrev pub with_reduced : Request → Request
with_reduced a = record { ordered = a.ordered; load = a.load; limit = a.limit; save = a.save; v1_0 = a.v1_0; reduced = true }

-- the layout that is asked for
abbrev pub asked_layout : Request → LayoutKind
asked_layout a = if a.reduced then reduced_layout else default_layout

-- how many bytes of memory a load may ask for, 2^29 if nothing is said
abbrev pub limit_or_default : Option ℕ → ℕ
limit_or_default None = default_load_limit
limit_or_default (Some n) = n

-- how many bytes of memory a load may ask for by these arguments
abbrev pub asked_limit : Request → ℕ
asked_limit a = limit_or_default a.limit

-- options that don't go together: `--unordered` beside `--load`, `--v1-0` without `--save`, `--limit` without `--load`
abbrev pub is_excluded : Request → Bool
is_excluded a = (not a.ordered && is_some a.load) || (a.v1_0 && not (is_some a.save)) || (is_some a.limit && not (is_some a.load))

-- whether a number is one of 64 bits
abbrev pub fits_limit : ℕ → Bool
fits_limit n = nat_le n 18446744073709551615

-- the number of bytes that a text says: `+` or nothing, and then one or more decimal digits, below 2^64
abbrev pub limit_of : List ℕ → Option ℕ
limit_of text =
    if is_filled (without_leading_plus text) && list_all is_digit (without_leading_plus text) && fits_limit (digits_value 10 (without_leading_plus text))
    then Some (digits_value 10 (without_leading_plus text)) else None

-- whether an option hasn't been given yet
abbrev pub is_new : List ℕ → List ℕ → Bool → Bool
is_new word option given = bytes_eq word option && not given

-- what some arguments ask for besides what was asked for: `--unordered`, `--v1-0`, `--reduced`, and `--load`,
-- `--save` and `--limit`, each with the argument after it. Each may occur once, in any order, `--unordered` not
-- beside `--load`, `--v1-0` only beside `--save`, and `--limit` only beside `--load`
abbrev pub request_besides : Request → List (List ℕ) → Option Request
request_besides a [] = if is_excluded a then None else Some a
request_besides a (word ∷ []) =
    if is_new word (codes "--unordered") (not a.ordered) then request_besides (with_any_order a) []
    else if is_new word (codes "--v1-0") a.v1_0 then request_besides (with_v1_0 a) []
    else if is_new word (codes "--reduced") a.reduced then request_besides (with_reduced a) []
    else None
request_besides a (word ∷ value ∷ rest) =
    if is_new word (codes "--unordered") (not a.ordered) then request_besides (with_any_order a) (value ∷ rest)
    else if is_new word (codes "--v1-0") a.v1_0 then request_besides (with_v1_0 a) (value ∷ rest)
    else if is_new word (codes "--reduced") a.reduced then request_besides (with_reduced a) (value ∷ rest)
    else if is_new word (codes "--load") (is_some a.load) then request_besides (with_load a value) rest
    else if is_new word (codes "--save") (is_some a.save) then request_besides (with_save a value) rest
    else if is_new word (codes "--limit") (is_some a.limit) && is_some (limit_of value) then request_besides (with_limit a (limit_of value)) rest
    else None

-- the bytes of some arguments
abbrev pub words : List (Bor (List ℕ)) → List (List ℕ)
words arguments = map (λ word. word.now) arguments

-- what the program's arguments ask for, or nothing if they are wrong
abbrev pub request_of : List (Bor (List ℕ)) → Option Request
request_of arguments = request_besides no_request (words arguments)

-- what some options ask for
abbrev pub request_in : Options → Request
request_in o = record { ordered = o.ordered; load = option_map (λ path. path.now) o.load; limit = o.limit; save = option_map (λ path. path.now) o.save; v1_0 = o.v1_0; reduced = o.reduced }

-- a run over this layout begins with s: an empty dictionary, or any if one is loaded
abbrev pub BeginsWith : LayoutKind → Request → View → Type 0
BeginsWith layout a s = (s.layout ≡ layout) × MatchOption a.load (s ≡ empty layout a.ordered) (λ _. Unit {0})
