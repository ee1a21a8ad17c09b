-- Blocks that come while a script is run, against the bytes of its lines.
use Rattle.std.proofs.Common.{◌≡◌, ℕ, suc, ℤ, ◌+◌, ◌*◌, ◌≤◌, ◌==◌, ◌&&◌, List, [], ◌∷◌, ◌++◌, length, Option, Some, None, Bool, true, false, cond, refl, sym, ap, subst, arith, length-append}
use Rattle.std.proofs.lemmas.List.{length-take}
use Rattle.std.specs.Prelude.{Result, Ok, Err, option_map, option_and_then, nat_eq, IfSome, IsSome, MatchOption}
use Rattle.std.specs.Io.KnownBytes.{Consumes}
use Rattle.std.specs.List.{before_first, after_first, position_or_len}
use Rattle.std.specs.Result.{result_ok}
use Rattle.hex.specs.Hex.{decode_of}
use Rattle.hex.specs.declared.error.FromHexError.{FromHexError}
use Rattle.hex.proofs.HexLemmas.{decode_of-ok}
use Rattle.cedarwood.specs.State.{after_put, State}
use Rattle.cedarwood.specs.Tree.{number_at}
use Rattle.cedarwood.proofs.TreeLemmas.{number_at-put_same}
use Rattle.cedarwood.specs.Dictionary.{Dictionary, Grows, capacity_after}
use Rattle.cedarwood.proofs.GrowthLemmas.{grows_further, grows_none}
use Rattle.cedar_cli.specs.Blocks.{GrowsWithin, GrowsBefore}
use Rattle.cedar_cli.specs.Command.{Order, order_of, key_of, with_key, with_key_and_value, is_space}
use Rattle.device_lines.specs.Lines.{figures_number}
use Rattle.cedar_cli.specs.declared.command.Verb.{Verb}
use Rattle.cedar_cli.specs.declared.command.Verb.TheVariants.{Put, Erase, Exact, Segment, Prefixes, Predict, Count, Entries, Figures}

-- none came
pub no_blocks : (most : ℕ) (d : Dictionary) → GrowsWithin most d d
no_blocks most d = (0, omega arith, grows_none d)

-- none came where the slots in use and all that there are stayed as many
pub same_blocks : (a b : Dictionary) → (b.size ≡ a.size) × (b.capacity ≡ a.capacity) → Grows 0 a b
unfolding capacity_after
same_blocks a b same = record { size = omega (arith, same.0); capacity = same.1 }

-- no more than these, so no more than those
pub within_more : (most more : ℕ) (a b : Dictionary) → most ≤ more → GrowsWithin most a b → GrowsWithin more a b
within_more most more a b few h = (h.0, omega (arith, h.1), h.2)

-- some, and then some more
pub within_further : (m n most : ℕ) (a b c : Dictionary) → m + n ≤ most → GrowsWithin m a b → GrowsWithin n b c → GrowsWithin most a c
within_further m n most a b c few p q = (p.0 + q.0, omega (arith, p.1, q.1), grows_further p.0 q.0 a b c p.2 q.2)

-- a decoded key has half as many bytes as its digits
decoded_short : (text : List ℕ) (r : Result (List ℕ) FromHexError) → decode_of text ≡ r → IfSome (result_ok r) (λ key. 2 * length key ≤ length text)
decoded_short text (Ok key) e = let same : length text ≡ 2 * length key = (decode_of-ok text key e).2 in omega (arith, same)
decoded_short text (Err x) e = tt

-- and so has each key, but the empty one
key_short : (text : List ℕ) → IfSome (key_of text) (λ key. 2 * length key ≤ length text)
key_short [] = tt
key_short (b ∷ bs) =
    (elim (b == 46 && nat_eq (length bs) 0) as (λ point. IfSome (cond point (Some []) (result_ok (decode_of (b ∷ bs)))) (λ key. 2 * length key ≤ length (b ∷ bs))) [
      | true ↦ omega arith
      | false ↦ decoded_short (b ∷ bs) (decode_of (b ∷ bs)) refl
    ])

-- an order's key has half as many bytes as these, at most
abbrev pub HasShortKey : ℕ → Option Order → Type 0
HasShortKey bytes order = IfSome order (λ o. 2 * length o.1 ≤ bytes)

alone_short : (verb : Verb) (bytes : ℕ) (key : Option (List ℕ)) → IfSome key (λ k. 2 * length k ≤ bytes) → HasShortKey (suc (suc bytes)) (option_map (λ k. (verb, k)) key)
alone_short verb bytes None h = tt
alone_short verb bytes (Some k) h = omega (arith, h)

beside_short : (value : Option ℤ) (bytes : ℕ) (key : Option (List ℕ)) → IfSome key (λ k. 2 * length k ≤ bytes)
    → HasShortKey (suc (suc bytes)) (option_and_then (λ k. option_map (λ v. (Put v, k)) value) key)
beside_short value bytes None h = tt
beside_short None bytes (Some k) h = tt
beside_short (Some v) bytes (Some k) h = omega (arith, h)

either_short : (bytes : ℕ) (test : Bool) (x y : Option Order) → HasShortKey bytes x → HasShortKey bytes y → HasShortKey bytes (cond test x y)
either_short bytes true x y p q = p
either_short bytes false x y p q = q

front_short : (bytes more : ℕ) (key : Option (List ℕ)) → bytes ≤ more → IfSome key (λ k. 2 * length k ≤ bytes) → IfSome key (λ k. 2 * length k ≤ more)
front_short bytes more None few h = tt
front_short bytes more (Some k) few h = omega (arith, few, h)

put_short : (rest : List ℕ) → HasShortKey (suc (suc (length rest))) (with_key_and_value rest)
put_short rest =
    let first = before_first is_space rest in
    let few : length first ≤ length rest = omega (arith, length-take (position_or_len is_space rest) rest) in
    beside_short (figures_number (after_first is_space rest)) (length rest) (key_of first) (front_short (length first) (length rest) (key_of first) few (key_short first))

-- a line's key has half as many bytes as the line, at most
pub line_short : (line : List ℕ) → HasShortKey (length line) (order_of line)
line_short [] = tt
line_short (c ∷ []) = either_short (length (c ∷ [])) (c == 42) (Some (Entries, [])) _ (omega arith) (either_short (length (c ∷ [])) (c == 35) (Some (Figures, [])) None (omega arith) tt)
line_short (c ∷ space ∷ rest) =
    let n = length (c ∷ space ∷ rest) in
    let alone : (verb : Verb) → HasShortKey n (with_key verb rest) = λ verb. alone_short verb (length rest) (key_of rest) (key_short rest) in
    either_short n (space == 32) _ None
    (either_short n (c == 43) _ _ (put_short rest)
    (either_short n (c == 45) _ _ (alone Erase)
    (either_short n (c == 61) _ _ (alone Exact)
    (either_short n (c == 60) _ _ (alone Prefixes)
    (either_short n (c == 62) _ _ (alone Predict)
    (either_short n (c == 63) _ _ (alone Count)
    (either_short n (c == 47) _ None (alone Segment) tt))))))) tt

-- what is put back over a number that is held makes none
pub back_blocks : (before : Option ℤ) (Held : Type 0) (mid new : Dictionary) → MatchOption before (Grows 0 mid new) (λ _. Held → Grows 0 mid new) → Held → Grows 0 mid new
back_blocks None Held mid new h held = h
back_blocks (Some found) Held mid new h held = h held

-- a stored number is held
pub held_after : (old mid : State) (key : List ℕ) (v : ℤ) → mid ≡ after_put old key v → IsSome (number_at mid.tree key)
held_after old mid key v done = rw (done, number_at-put_same old.tree old.ordered key v) refl

-- the blocks of an order, by its line
pub key_blocks : (line key : List ℕ) (verb : Verb) (a b : Dictionary) → Some (verb, key) ≡ order_of line → GrowsWithin (length key) a b → GrowsWithin (length line) a b
key_blocks line key verb a b is h =
    let few : 2 * length key ≤ length line = subst (HasShortKey (length line)) (sym is) (line_short line) in
    within_more (length key) (length line) a b (omega (arith, few)) h

-- no line has been answered yet
pub none_before : (line : List ℕ) (d : Dictionary) → GrowsBefore (length line) (length line + length {A = ℕ} []) d d
none_before line d = (0, omega arith, grows_none d)

-- one more line of a chunk was answered
pub further_line : (gone piece begun line left : List ℕ) (a b c : Dictionary) → GrowsBefore (length line) (length begun + length gone) a b
    → GrowsWithin (length line + length piece) b c → left ≡ [] → GrowsBefore (length left) (length begun + length (gone ++ (piece ++ 10 ∷ []))) a c
further_line gone piece begun line left a b c p q empty = (
  p.0 + q.0,
  (let none = ap length empty in omega (arith, none, p.1, q.1, length-append gone (piece ++ 10 ∷ []), length-append piece (10 ∷ []))),
  grows_further p.0 q.0 a b c p.2 q.2,
)

-- or it was not
pub stopped_line : (gone piece after begun line chunk : List ℕ) (a b c : Dictionary) → GrowsBefore (length line) (length begun + length gone) a b
    → GrowsWithin (length line + length piece) b c → chunk ≡ (gone ++ (piece ++ 10 ∷ [])) ++ after → GrowsWithin (length begun + length chunk) a c
stopped_line gone piece after begun line chunk a b c p q whole = (
  p.0 + q.0,
  (let all = ap length whole in omega (arith, all, p.1, q.1, length-append (gone ++ (piece ++ 10 ∷ [])) after, length-append gone (piece ++ 10 ∷ []), length-append piece (10 ∷ []))),
  grows_further p.0 q.0 a b c p.2 q.2,
)

-- the rest of a chunk begins the next line
pub rest_begun : (gone rest begun line next chunk : List ℕ) (a b : Dictionary) → GrowsBefore (length line) (length begun + length gone) a b
    → chunk ≡ gone ++ rest → next ≡ line ++ rest → GrowsBefore (length next) (length begun + length chunk) a b
rest_begun gone rest begun line next chunk a b p whole joined = (
  p.0,
  (let all = ap length whole in let longer = ap length joined in omega (arith, all, longer, p.1, length-append gone rest, length-append line rest)),
  p.2,
)

-- or finds no room
pub rest_lost : (gone rest begun line chunk : List ℕ) (a b : Dictionary) → GrowsBefore (length line) (length begun + length gone) a b
    → chunk ≡ gone ++ rest → GrowsWithin (length begun + length chunk) a b
rest_lost gone rest begun line chunk a b p whole = (
  p.0,
  (let all = ap length whole in omega (arith, all, p.1, length-append gone rest)),
  p.2,
)

-- what came of a script is no longer than it
pub came_blocks : (a b : Option (List ℕ)) (came : List ℕ) (x y : Dictionary) → Consumes a b came → GrowsWithin (length came) x y → IfSome a (λ input. GrowsWithin (length input) x y)
came_blocks None b came x y p h = tt
came_blocks (Some input) None came x y p h = absurd p
came_blocks (Some input) (Some rest) came x y p h = within_more (length came) (length input) x y (let all = ap length p in omega (arith, all, length-append came rest)) h

-- a chunk was taken, behind what came before it
pub chunk_taken : (came more line next : List ℕ) (a b c : Dictionary) → GrowsBefore (length line) (length came) a b
    → GrowsBefore (length next) (length line + length more) b c → GrowsBefore (length next) (length (came ++ more)) a c
chunk_taken came more line next a b c p q = (p.0 + q.0, omega (arith, p.1, q.1, length-append came more), grows_further p.0 q.0 a b c p.2 q.2)

-- the run stopped in it
pub chunk_left : (came more line : List ℕ) (a b c : Dictionary) → GrowsBefore (length line) (length came) a b
    → GrowsWithin (length line + length more) b c → GrowsWithin (length (came ++ more)) a c
chunk_left came more line a b c p q = (p.0 + q.0, omega (arith, p.1, q.1, length-append came more), grows_further p.0 q.0 a b c p.2 q.2)

-- the last piece was answered, or not
pub last_blocks : (came line : List ℕ) (a b c : Dictionary) → GrowsBefore (length line) (length came) a b → GrowsWithin (length line) b c → GrowsWithin (length came) a c
last_blocks came line a b c p q = (p.0 + q.0, omega (arith, p.1, q.1), grows_further p.0 q.0 a b c p.2 q.2)

-- or there is none
pub so_far_blocks : (came line : List ℕ) (a b : Dictionary) → GrowsBefore (length line) (length came) a b → GrowsWithin (length came) a b
so_far_blocks came line a b p = (p.0, omega (arith, p.1), p.2)
