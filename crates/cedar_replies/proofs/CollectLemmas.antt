-- What is collected, and refused only if there is something to collect.
use Rattle.std.proofs.Common.{◌≡◌, ◌<◌, ◌↔◌, ◌==◌, ℕ, Bool, true, false, List, [], ◌∷◌, ◌++◌, length, length-append, map, Option, Some, None, is_some, Ok, Err, IfOk, IfErr, IsTrue, arith, refl, ap, sym, subst, ◌∙◌}
use Rattle.std.specs.Prelude.{MatchOption, Vec}
use Rattle.std.specs.declared.result.Result.{Result}
use Rattle.std.proofs.lemmas.Bool.{eqb-true, false≢true, true≢false}
use Rattle.cedarwood.specs.declared.error.CedarError.{CedarError}
use Rattle.cedarwood.specs.declared.error.CedarError.TheVariants.{Memory}
use Rattle.cedarwood.specs.Fault.{IsShortage}
use Rattle.cedar_replies.specs.Replies.{Collects, CollectsSome}

-- what has a part that isn't empty isn't empty
pub some_of : {X : Type 0} (front rest all : List X) → front ++ rest ≡ all → 0 < length rest → 0 < length all
some_of front rest all whole some = subst (λ xs. 0 < length xs) whole (omega (arith, length-append front rest, some))

pub some_if_not_empty : {X : Type 0} (xs : List X) (b : Bool) → (IsTrue b ↔ (xs ≡ [])) → b ≡ false → 0 < length xs
some_if_not_empty [] b h is = absurd (false≢true (sym is ∙ h.1 refl))
some_if_not_empty (x ∷ xs) b h is = omega arith

-- a first item that was given, and none
pub some_first : {X : Type 0} (has later : List X) (given : Option X) → is_some given ≡ true → MatchOption given ((has ≡ []) × (later ≡ [])) (λ x. has ≡ x ∷ later) → 0 < length has
some_first has later None some h = absurd (false≢true some)
some_first has later (Some x) some h = subst (λ xs. 0 < length xs) (sym h) (omega arith)

pub no_first : {X : Type 0} (has later : List X) (given : Option X) → is_some given ≡ false → MatchOption given ((has ≡ []) × (later ≡ [])) (λ x. has ≡ x ∷ later) → has ≡ []
no_first has later None none h = h.0
no_first has later (Some x) none h = absurd (true≢false none)

-- what is collected where there is something to collect
pub some_collected : {X Y : Type 0} (result : Result X CedarError) (P : X → Type 0) (items : List Y) → Collects result P → 0 < length items → CollectsSome result P items
some_collected (Ok x) P items h some = h
some_collected (Err e) P items h some = (h, some)

pub some_listed : {X A : Type 0} (result : Result (Vec X A) CedarError) (items : List X) → IfOk result (λ v. v.items ≡ items) → IfErr result (λ e. e ≡ Memory) → 0 < length items
    → CollectsSome result (λ v. v.items ≡ items) items
some_listed (Ok v) items ok err some = ok
some_listed (Err e) items ok err some = (err, some)

-- lack of memory is no fault of the call
pub short : (e : CedarError) → e ≡ Memory → IsShortage e
short e h = subst IsShortage (sym h) tt

-- what can't be collected for want of memory, where there is something to collect
pub refused : {X Y : Type 0} (result : Result X CedarError) (e : CedarError) (P : X → Type 0) (items : List Y) → result ≡ Err e → e ≡ Memory → 0 < length items → CollectsSome result P items
refused result e P items is memory some = subst (λ r. CollectsSome r P items) (sym is) (memory, some)

-- one of what is left is collected
pushed : {X : Type 0} (found : List X) (x : X) (next : List X) → (found ++ x ∷ []) ++ next ≡ found ++ x ∷ next
pushed [] x next = refl
pushed (y ∷ found) x next = ap (λ xs. y ∷ xs) (pushed found x next)

pub one_more : {X : Type 0} (found more rest next all : List X) (x : X) → found ++ rest ≡ all → rest ≡ x ∷ next → more ≡ found ++ x ∷ [] → more ++ next ≡ all
one_more found more rest next all x whole first added = ap (λ xs. xs ++ next) added ∙ pushed found x next ∙ ap (λ xs. found ++ xs) (sym first) ∙ whole

-- the same where what is shown of it is what is left
shown_pushed : {X Y : Type 0} (f : X → Y) (found : List X) (x : X) (next : List Y) → map f (found ++ x ∷ []) ++ next ≡ map f found ++ f x ∷ next
shown_pushed f [] x next = refl
shown_pushed f (y ∷ found) x next = ap (λ ys. f y ∷ ys) (shown_pushed f found x next)

pub one_shown : {X Y : Type 0} (f : X → Y) (found more : List X) (rest next all : List Y) (x : X) (y : Y) → map f found ++ rest ≡ all → rest ≡ y ∷ next → f x ≡ y
    → more ≡ found ++ x ∷ [] → map f more ++ next ≡ all
one_shown f found more rest next all x y whole first same added =
    ap (λ xs. map f xs ++ next) added ∙ shown_pushed f found x next ∙ ap (λ z. map f found ++ z ∷ next) same ∙ ap (λ ys. map f found ++ ys) (sym first) ∙ whole

-- where one is left, there is something to collect
pub some_more : {X : Type 0} (found rest next all : List X) (x : X) → found ++ rest ≡ all → rest ≡ x ∷ next → 0 < length all
some_more found rest next all x whole first = some_of found rest all whole (subst (λ xs. 0 < length xs) (sym first) (omega arith))

-- whether a text has a byte
pub no_text : (text : List ℕ) (b : Bool) → b ≡ (length text == 0) → b ≡ true → text ≡ []
no_text [] b same empty = refl
no_text (x ∷ text) b same empty = let none = eqb-true (length (x ∷ text)) 0 (sym same ∙ empty) in absurd (omega (arith, none))

pub some_text : (text : List ℕ) (b : Bool) → b ≡ (length text == 0) → b ≡ false → 0 < length text
some_text [] b same not_empty = absurd (false≢true (sym not_empty ∙ same))
some_text (x ∷ text) b same not_empty = omega arith
