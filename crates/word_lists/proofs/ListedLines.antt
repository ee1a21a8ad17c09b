-- The lines of a list, taken one after another from a reader.
use Rattle.std.proofs.Common.{◌≡◌, ◌<◌, ◌≤◌, ◌+◌, suc, ℕ, List, [], ◌∷◌, ◌++◌, Bool, true, false, Option, Some, None, refl, sym, ap, subst, ◌∙◌, append_assoc, append-nil, length, length-append, map, Bor, arith, cond, ◌==◌}
use Rattle.std.proofs.lemmas.Bool.{eqb-true, false≢true, le-ltb, lt-ltb}
use Rattle.std.proofs.lemmas.List.{map-append}
use Rattle.std.specs.Prelude.{ltb, IfSome}
use Rattle.std.specs.Io.BufRead.{DropsThrough, drop_through, take_through}
use Rattle.cedarwood.specs.State.{State}
use Rattle.word_lists.specs.Stored.{Adds, AreFirstLines, OnKnown, TakesLines, TakesNext, Told, line_absent, line_erased, line_stored, line_told, lines_absent, lines_erased, lines_in, lines_stored, lines_told, told_one}
use Rattle.device_lines.specs.Lines.{onto_first}
use Rattle.word_lists.specs.Texts.{body_of}

-- ---- lists that grow

pub Adds-append : {T : Type 0} (a b c : Option (List T)) (x y : List T) → Adds a b x → Adds b c y → Adds a c (x ++ y)
Adds-append None b c x y p q = tt
Adds-append (Some xs) None c x y p q = absurd p
Adds-append (Some xs) (Some ys) None x y p q = absurd q
Adds-append (Some xs) (Some ys) (Some zs) x y p q = q ∙ ap (λ l. l ++ y) p ∙ append_assoc xs x y

pub Adds-none : {T : Type 0} (a : Option (List T)) → Adds a a []
Adds-none None = tt
Adds-none (Some xs) = sym (append-nil xs)

-- ---- one line more

no_more : (n : ℕ) → n + 0 ≡ n
no_more n = omega arith

one_more : (n len : ℕ) → (n + 1) + len ≡ n + suc len
one_more n len = omega arith

pub stored_push : (s : State) (n : ℕ) (came : List (List ℕ)) (line : List ℕ)
    → lines_stored s n (came ++ line ∷ []) ≡ line_stored (lines_stored s n came) (n + length came) (body_of line)
stored_push s n [] line = ap (λ k. line_stored s k (body_of line)) (sym (no_more n))
stored_push s n (x ∷ came) line =
    stored_push (line_stored s n (body_of x)) (n + 1) came line
    ∙ ap (λ k. line_stored (lines_stored (line_stored s n (body_of x)) (n + 1) came) k (body_of line)) (one_more n (length came))

pub told_push : (s : State) (n : ℕ) (came : List (List ℕ)) (line : List ℕ)
    → lines_told s n (came ++ line ∷ []) ≡ lines_told s n came ++ told_one (n + length came) (body_of line) (line_told (lines_stored s n came) (n + length came) (body_of line))
told_push s n [] line = append-nil (told_one n (body_of line) (line_told s n (body_of line))) ∙ ap (λ k. told_one k (body_of line) (line_told s k (body_of line))) (sym (no_more n))
told_push s n (x ∷ came) line =
    let first = told_one n (body_of x) (line_told s n (body_of x)) in
    let t = line_stored s n (body_of x) in
    let last = λ (k : ℕ). told_one k (body_of line) (line_told (lines_stored t (n + 1) came) k (body_of line)) in
    ap (λ l. first ++ l) (told_push t (n + 1) came line ∙ ap (λ k. lines_told t (n + 1) came ++ last k) (one_more n (length came)))
    ∙ sym (append_assoc first (lines_told t (n + 1) came) (last (n + suc (length came))))

pub erased_push : (s : State) (came : List (List ℕ)) (line : List ℕ) → lines_erased s (came ++ line ∷ []) ≡ line_erased (lines_erased s came) (body_of line)
erased_push s [] line = refl
erased_push s (x ∷ came) line = erased_push (line_erased s (body_of x)) came line

pub absent_push : (s : State) (came : List (List ℕ)) (line : List ℕ)
    → lines_absent s (came ++ line ∷ []) ≡ lines_absent s came + line_absent (lines_erased s came) (body_of line)
absent_push s [] line = zero_first (line_absent s (body_of line)) where
  zero_first : (n : ℕ) → n + 0 ≡ 0 + n
  zero_first n = omega arith
absent_push s (x ∷ came) line =
    let ih = absent_push (line_erased s (body_of x)) came line in
    ap (λ k. line_absent s (body_of x) + k) ih
    ∙ in_sums (line_absent s (body_of x)) (lines_absent (line_erased s (body_of x)) came) (line_absent (lines_erased (line_erased s (body_of x)) came) (body_of line)) where
      in_sums : (a b c : ℕ) → a + (b + c) ≡ (a + b) + c
      in_sums a b c = omega arith

-- ---- what was taken

pub took_none : (a : Option (List ℕ)) → TakesLines a a []
took_none None = tt
took_none (Some xs) = (xs, refl, refl)

took_from : (a : Option (List ℕ)) (rest : List ℕ) (c : Option (List ℕ)) (came more : List (List ℕ)) (xs : List ℕ) → lines_in xs ≡ came ++ lines_in rest
    → TakesLines (Some rest) c more → TakesLines (Some xs) c (came ++ more)
took_from a rest c came more xs e q = (q.0, q.1, e ∙ ap (λ l. came ++ l) q.2 ∙ sym (append_assoc came more (lines_in q.0)))

pub took_more : (a b c : Option (List ℕ)) (came more : List (List ℕ)) → TakesLines a b came → TakesLines b c more → TakesLines a c (came ++ more)
took_more None b c came more p q = tt
took_more (Some xs) b c came more p q = took_from b p.0 c came more xs p.2 (subst (λ (o : Option (List ℕ)). TakesLines o c more) p.1 q)

pub first_ones : (a b : Option (List ℕ)) (came : List (List ℕ)) → TakesLines a b came → AreFirstLines a came
first_ones None b came p = tt
first_ones (Some xs) b came p = (lines_in p.0, p.2)

-- those that came are all
ends_so : (rest : List ℕ) (line : List ℕ) (c : Option (List ℕ)) (came : List (List ℕ)) → TakesNext (Some rest) c line false → came ++ lines_in rest ≡ came
ends_so rest line c came q = ap (λ l. came ++ lines_in l) q ∙ append-nil came

pub all_came : (P : List (List ℕ) → Type 0) (a b c : Option (List ℕ)) (line : List ℕ) (came : List (List ℕ)) → TakesLines a b came → TakesNext b c line false → P came
    → OnKnown a (λ input. P (lines_in input))
all_came P None b c line came p q h = tt
all_came P (Some xs) b c line came p q h = λ few.
    subst P (sym (p.2 ∙ ends_so p.0 line c came (subst (λ (o : Option (List ℕ)). TakesNext o c line false) p.1 q))) h

onto_within : (b n : ℕ) (lines : List (List ℕ)) → length lines ≤ n → length (onto_first b lines) ≤ suc n
onto_within b n [] h = omega arith
onto_within b n (l ∷ lines) h = omega (arith, h)

lines_within : (xs : List ℕ) → length (lines_in xs) ≤ length xs
lines_within [] = omega arith
lines_within (b ∷ rest) =
    elim (b == 10) as (λ ends. length (cond ends ((b ∷ []) ∷ lines_in rest) (onto_first b (lines_in rest))) ≤ suc (length rest)) [
      | true ↦ let below = lines_within rest in omega (arith, below)
      | false ↦ onto_within b (length rest) (lines_in rest) (lines_within rest)
    ]

-- there are no more lines than bytes
pub too_many : (P : List ℕ → Type 0) (a b : Option (List ℕ)) (came : List (List ℕ)) → TakesLines a b came → 9223372036854775808 ≤ length came → OnKnown a P
too_many P None b came p many = tt
too_many P (Some xs) b came p many = λ few.
    let whole : length (lines_in xs) ≡ length (came ++ lines_in p.0) = ap (λ (l : List (List ℕ)). length l) p.2 in
    let within = lines_within xs in
    let less : length xs < 9223372036854775808 = few in
    absurd (omega (arith, within, whole, less, many, length-append came (lines_in p.0)))

-- ---- one line of a reader

onto_next : (b : ℕ) (rest : List ℕ) (lines : List (List ℕ)) → lines_in rest ≡ lines → (0 < length rest → lines ≡ take_through 10 rest ∷ lines_in (drop_through 10 rest))
    → onto_first b lines ≡ (b ∷ take_through 10 rest) ∷ lines_in (drop_through 10 rest)
onto_next b [] lines is step = ap (onto_first b) (sym is)
onto_next b (c ∷ rest) lines is step = ap (onto_first b) (step (omega arith))

next_of : (xs : List ℕ) → 0 < length xs → lines_in xs ≡ take_through 10 xs ∷ lines_in (drop_through 10 xs)
next_of [] some = absurd (omega (arith, some))
next_of (b ∷ rest) some =
    elim (b == 10) as (λ ends. cond ends ((b ∷ []) ∷ lines_in rest) (onto_first b (lines_in rest)) ≡ cond ends (b ∷ []) (b ∷ take_through 10 rest) ∷ lines_in (cond ends rest (drop_through 10 rest))) [
      | true ↦ refl
      | false ↦ onto_next b rest (lines_in rest) refl (next_of rest)
    ]

-- a text of no byte
pub none_left : (text : List ℕ) → true ≡ (length text == 0) → text ≡ []
none_left [] h = refl
none_left (b ∷ text) h = let e : suc (length text) ≡ 0 = eqb-true (suc (length text)) 0 (sym h) in absurd (omega (arith, e))

-- the lines from one on, where the first is known and what follows it
pub next_in : (rest first left : List ℕ) → 0 < length rest → first ≡ take_through 10 rest → left ≡ drop_through 10 rest → lines_in rest ≡ first ∷ lines_in left
next_in rest first left some is goes =
    next_of rest some ∙ ap (λ l. l ∷ lines_in (drop_through 10 rest)) (sym is) ∙ ap (λ l. first ∷ lines_in l) (sym goes)

-- the bodies of the lines that came are listed, and that of the next one
pub listed_more : (whole : List (List ℕ)) (items after : List (Bor (List ℕ))) (line : Bor (List ℕ)) (rest first left : List ℕ)
    → lines_in rest ≡ first ∷ lines_in left → after ≡ items ++ line ∷ [] → line.now ≡ body_of first
    → map body_of whole ≡ map (λ l. l.now) items ++ map body_of (lines_in rest) → map body_of whole ≡ map (λ l. l.now) after ++ map body_of (lines_in left)
listed_more whole items after line rest first left step pushed body so_far =
    let texts = λ (ls : List (Bor (List ℕ))). map (λ l. l.now) ls in
    let others = map body_of (lines_in left) in
    so_far ∙ ap (λ ls. texts items ++ map body_of ls) step ∙ ap (λ b. texts items ++ (b ∷ others)) (sym body)
    ∙ sym (append_assoc (texts items) (line.now ∷ []) others)
    ∙ ap (λ l. l ++ others) (sym (ap texts pushed ∙ map-append (λ (l : Bor (List ℕ)). l.now) items (line ∷ [])))

taken_some : (b : ℕ) (rest : List ℕ) → 0 < length (take_through 10 (b ∷ rest))
taken_some b rest =
    elim (b == 10) as (λ ends. 0 < length (cond ends (b ∷ []) (b ∷ take_through 10 rest))) [
      | true ↦ omega arith
      | false ↦ omega arith
    ]

took_some : (xs line : List ℕ) (more : Bool) → line ≡ take_through 10 xs → more ≡ ltb 0 (length line) → TakesNext (Some xs) (Some (drop_through 10 xs)) line more
took_some [] line false is any = refl
took_some [] line true is any = absurd (false≢true (sym (any ∙ ap (λ (l : List ℕ). ltb 0 (length l)) is ∙ le-ltb 0 0 (omega arith))))
took_some (b ∷ rest) line true is any = (
  drop_through 10 (b ∷ rest),
  refl,
  next_of (b ∷ rest) (omega arith) ∙ ap (λ l. l ∷ lines_in (drop_through 10 (b ∷ rest))) (sym is),
)
took_some (b ∷ rest) line false is any =
    absurd (false≢true (any ∙ ap (λ (l : List ℕ). ltb 0 (length l)) is ∙ lt-ltb 0 (length (take_through 10 (b ∷ rest))) (taken_some b rest)))

-- what a reader that read up to a byte 10 has taken: a line, or nothing at the end
pub took_next : (a b : Option (List ℕ)) (old line : List ℕ) (more : Bool) → old ≡ [] → IfSome a (λ xs. line ≡ old ++ take_through 10 xs) → DropsThrough a b 10
    → more ≡ ltb 0 (length line) → TakesNext a b line more
took_next None b old line true none bytes rest any = tt
took_next None b old line false none bytes rest any = tt
took_next (Some xs) b old line more none bytes rest any =
    subst (λ (o : Option (List ℕ)). TakesNext (Some xs) o line more) (sym rest) (took_some xs line more (bytes ∙ ap (λ l. l ++ take_through 10 xs) none) any)

-- ---- one turn over the lines of a list

pub store_step : (s u t : State) (n : ℕ) (came : List (List ℕ)) (line body : List ℕ) → n ≡ 1 + length came → body ≡ body_of line → u ≡ lines_stored s 1 came → t ≡ line_stored u n body
    → t ≡ lines_stored s 1 (came ++ line ∷ [])
store_step s u t n came line body at text so_far step =
    step ∙ ap (λ b. line_stored u n b) text ∙ ap (λ k. line_stored u k (body_of line)) at ∙ ap (λ x. line_stored x (1 + length came) (body_of line)) so_far
    ∙ sym (stored_push s 1 came line)

pub told_step : (a b d : Option (List Told)) (s u : State) (n : ℕ) (came : List (List ℕ)) (line body : List ℕ) → n ≡ 1 + length came → body ≡ body_of line → u ≡ lines_stored s 1 came
    → Adds a b (lines_told s 1 came) → Adds b d (told_one n body (line_told u n body)) → Adds a d (lines_told s 1 (came ++ line ∷ []))
told_step a b d s u n came line body at text so_far told more =
    subst (Adds a d) (sym (told_push s 1 came line))
    (Adds-append a b d (lines_told s 1 came) (told_one (1 + length came) (body_of line) (line_told (lines_stored s 1 came) (1 + length came) (body_of line))) told
    (subst (Adds b d) (ap (λ x. told_one n x (line_told u n x)) text ∙ ap (λ k. told_one k (body_of line) (line_told u k (body_of line))) at
    ∙ ap (λ x. told_one (1 + length came) (body_of line) (line_told x (1 + length came) (body_of line))) so_far) more))

pub erase_step : (s u t : State) (came : List (List ℕ)) (line body : List ℕ) → body ≡ body_of line → u ≡ lines_erased s came → t ≡ line_erased u body
    → t ≡ lines_erased s (came ++ line ∷ [])
erase_step s u t came line body text so_far step =
    step ∙ ap (λ b. line_erased u b) text ∙ ap (λ x. line_erased x (body_of line)) so_far ∙ sym (erased_push s came line)

pub absent_step : (s u : State) (came : List (List ℕ)) (line body : List ℕ) (n m : ℕ) → body ≡ body_of line → u ≡ lines_erased s came → n ≡ lines_absent s came → m ≡ line_absent u body
    → n + m ≡ lines_absent s (came ++ line ∷ [])
absent_step s u came line body n m text so_far before step =
    let one : m ≡ line_absent (lines_erased s came) (body_of line) = step ∙ ap (λ b. line_absent u b) text ∙ ap (λ x. line_absent x (body_of line)) so_far in
    let both = absent_push s came line in
    omega (arith, before, one, both)
