-- What a ring is after a turn, after a member was taken out, and after one was put in.
use Rattle.std.proofs.Common.{◌≡◌, ℕ, zero, suc, ◌+◌, ◌<◌, ◌≤◌, ◌⊎◌, List, [], ◌∷◌, ◌++◌, length, length-append, cond, refl, sym, ap, subst, inl, inr, ◌∙◌, arith}
use Rattle.std.proofs.lemmas.List.{append-nil}
use Rattle.std.proofs.lemmas.Bool.{eq-eqb, ne_eqb, cases_eq}
use Rattle.cedar_slots.specs.Ring.{occurs, Chain, Ring, Relinked}

-- ---- how often a number occurs in a list

pub occurs-append : (x : ℕ) (xs ys : List ℕ) → occurs x (xs ++ ys) ≡ occurs x xs + occurs x ys
occurs-append x [] ys = omega arith
occurs-append x (y ∷ xs) ys = omega (arith, occurs-append x xs ys)

pub occurs_same : (x : ℕ) (xs : List ℕ) → occurs x (x ∷ xs) ≡ 1 + occurs x xs
occurs_same x xs = ap (λ b. cond b 1 0 + occurs x xs) (eq-eqb x x refl)

pub occurs_other : (x y : ℕ) (xs : List ℕ) → (x ≡ y → ⊥) → occurs x (y ∷ xs) ≡ occurs x xs
occurs_other x y xs h = ap (λ b. cond b 1 0 + occurs x xs) (ne_eqb x y h) ∙ omega arith

-- ---- the last member

abbrev pub last_of : ℕ → List ℕ → ℕ
last_of a [] = a
last_of a (x ∷ xs) = last_of x xs

pub last_occurs : (a : ℕ) (xs : List ℕ) → 0 < occurs (last_of a xs) (a ∷ xs)
last_occurs a [] = omega (arith, occurs_same a [])
last_occurs a (x ∷ xs) = omega (arith, last_occurs x xs)

module _ (Link : ℕ → ℕ → Type 0) where
  pub last_linked : (a : ℕ) (xs : List ℕ) (b : ℕ) → Chain Link a xs b → Link (last_of a xs) b
  last_linked a [] b h = h
  last_linked a (x ∷ xs) b h = last_linked x xs b h.1

  pub Chain-append : (a : ℕ) (xs : List ℕ) (y : ℕ) (ys : List ℕ) (b : ℕ) → Chain Link a xs y → Chain Link y ys b → Chain Link a (xs ++ y ∷ ys) b
  Chain-append a [] y ys b p q = (p, q)
  Chain-append a (x ∷ xs) y ys b p q = (p.0, Chain-append x xs y ys b p.1 q)

  pub Chain-split : (a : ℕ) (xs : List ℕ) (y : ℕ) (ys : List ℕ) (b : ℕ) → Chain Link a (xs ++ y ∷ ys) b → Chain Link a xs y × Chain Link y ys b
  Chain-split a [] y ys b h = h
  Chain-split a (x ∷ xs) y ys b h = let r = Chain-split x xs y ys b h.1 in ((h.0, r.0), r.1)

  -- a ring may be read from any of its members
  pub Ring-turn : (xs ys : List ℕ) → Ring Link (xs ++ ys) → Ring Link (ys ++ xs)
  Ring-turn [] ys h = subst (Ring Link) (sym (append-nil ys)) h
  Ring-turn (x ∷ xs) [] h = subst (Ring Link) (append-nil (x ∷ xs)) h
  Ring-turn (x ∷ xs) (y ∷ ys) h = let r = Chain-split x xs y ys x h in Chain-append y ys x xs y r.1 r.0

module _ (Before After : ℕ → ℕ → Type 0) (a b : ℕ) (step : Relinked Before After a b) where
  -- a chain that does not leave a and does not come to b
  pub Chain-kept : (x : ℕ) (xs : List ℕ) (y : ℕ) → occurs a (x ∷ xs) ≡ 0 → occurs b xs ≡ 0 → (y ≡ b → ⊥) → Chain Before x xs y → Chain After x xs y
  Chain-kept x [] y p q r h = step.kept x y (λ e. absurd (omega (arith, p, subst (λ n. occurs n (x ∷ []) ≡ 1) e (occurs_same x [])))) r h
  Chain-kept x (z ∷ zs) y p q r h = (step.kept x z (λ e. absurd (omega (arith, p, subst (λ n. occurs n (x ∷ z ∷ zs) ≡ 1 + occurs n (z ∷ zs)) e (occurs_same x (z ∷ zs))))) (λ e. absurd (omega (arith, q, subst (λ n. occurs n (z ∷ zs) ≡ 1 + occurs n zs) e (occurs_same z zs)))) h.0, Chain-kept z zs y (omega arith) (omega arith) r h.1)

  -- a chain whose last member is now linked to b
  pub Chain-retarget : (x : ℕ) (xs : List ℕ) (y : ℕ) → last_of x xs ≡ a → occurs a (x ∷ xs) ≡ 1 → occurs b xs ≡ 0 → Chain Before x xs y → Chain After x xs b
  Chain-retarget x [] y l p q h = subst (λ n. After n b) (sym l) step.made
  Chain-retarget x (z ∷ zs) y l p q h = let more : 0 < occurs a (z ∷ zs) = subst (λ n. 0 < occurs n (z ∷ zs)) l (last_occurs z zs) in (step.kept x z (λ e. absurd (omega (arith, p, more, subst (λ n. occurs n (x ∷ z ∷ zs) ≡ 1 + occurs n (z ∷ zs)) e (occurs_same x (z ∷ zs))))) (λ e. absurd (omega (arith, q, subst (λ n. occurs n (z ∷ zs) ≡ 1 + occurs n zs) e (occurs_same z zs)))) h.0, Chain-retarget z zs y l (omega arith) (omega arith) h.1)

-- ---- a member taken out of a ring, and a number put in

-- where e is in xs
pub record Place (e : ℕ) (xs : List ℕ) : Type 0 where
  pub before : List ℕ
  pub after : List ℕ
  pub is : xs ≡ before ++ e ∷ after

pub place_of : (e : ℕ) (xs : List ℕ) → 0 < occurs e xs → Place e xs
place_of e [] h = absurd (omega arith)
place_of e (x ∷ xs) h = elim (cases_eq e x) [
  | inl same ↦ record { before = []; after = xs; is = ap (λ n. n ∷ xs) (sym same) }
  | inr other ↦ let more : 0 < occurs e xs = omega (arith, occurs_other e x xs other) in
      let rest = place_of e xs more in
      record { before = x ∷ rest.before; after = rest.after; is = ap (λ ys. x ∷ ys) rest.is }
]

-- each number is in xs once at most
abbrev pub Apart : List ℕ → Type 0
Apart xs = (s : ℕ) → occurs s xs ≤ 1

pub Apart-turn : (xs ys : List ℕ) → Apart (xs ++ ys) → Apart (ys ++ xs)
Apart-turn xs ys h s = omega (arith, h s, occurs-append s xs ys, occurs-append s ys xs)

-- a link fixes both of its ends
pub record OneToOne (Link : ℕ → ℕ → Type 0) : Type 0 where
  pub next : (x y z : ℕ) → Link x y → Link x z → y ≡ z
  pub prev : (x y z : ℕ) → Link x z → Link y z → x ≡ y

module _ (Before : ℕ → ℕ → Type 0) (fixed : OneToOne Before) where
  last_once : (x : ℕ) (xs : List ℕ) (a : ℕ) → last_of x xs ≡ a → Apart (x ∷ xs) → occurs a (x ∷ xs) ≡ 1
  last_once x xs a e h = let more : 0 < occurs a (x ∷ xs) = subst (λ n. 0 < occurs n (x ∷ xs)) e (last_occurs x xs) in omega (arith, h a, more)

  first_once : (x : ℕ) (xs : List ℕ) → Apart (x ∷ xs) → occurs x xs ≡ 0
  first_once x xs h = omega (arith, h x, occurs_same x xs)

  module _ (After : ℕ → ℕ → Type 0) where
    Ring-remove_first : (e l c : ℕ) (rest : List ℕ) → 0 < length rest → Apart (e ∷ rest) → Before l e → Before e c → Relinked Before After l c → Ring Before (e ∷ rest) → Ring After rest
    Ring-remove_first e l c [] some apart le ec step h = absurd (omega arith)
    Ring-remove_first e l c (y ∷ ys) some apart le ec step h =
        let same_next : c ≡ y = fixed.next e c y ec h.0 in
        let same_last : last_of y ys ≡ l = fixed.prev _ _ e (last_linked Before y ys e h.1) le in
        let rest_apart : Apart (y ∷ ys) = λ s. omega (arith, apart s) in
        let step' : Relinked Before After l y = subst (Relinked Before After l) same_next step in
        Chain-retarget Before After l y step' y ys e same_last (last_once y ys l same_last rest_apart) (first_once y ys rest_apart) h.1

    -- e is taken out: the one before it is linked to the one after it
    pub Ring-remove : (e l c : ℕ) (before after : List ℕ) → 0 < length (before ++ after) → Apart (before ++ e ∷ after) → Before l e → Before e c → Relinked Before After l c → Ring Before (before ++ e ∷ after) → Ring After (before ++ after)
    Ring-remove e l c before after some apart le ec step h =
        Ring-turn After after before (Ring-remove_first e l c (after ++ before) (omega (arith, some, length-append before after, length-append after before)) (Apart-turn before (e ∷ after) apart) le ec step (Ring-turn Before before (e ∷ after) h))

    module _ (Middle : ℕ → ℕ → Type 0) where
      -- e is put in before the first member h, and so after the last member l
      pub Ring-push : (e h l : ℕ) (ys : List ℕ) → Apart (h ∷ ys) → occurs e (h ∷ ys) ≡ 0 → Before l h → Relinked Before Middle l e → Relinked Middle After e h → Ring Before (h ∷ ys) → Ring After (e ∷ h ∷ ys)
      Ring-push e h l ys apart new lh first second ring =
          let same_last : last_of h ys ≡ l = fixed.prev _ _ h (last_linked Before h ys h ring) lh in
          let other : e ≡ h → ⊥ = λ same. absurd (omega (arith, new, subst (λ n. occurs n (h ∷ ys) ≡ 1 + occurs h ys) (sym same) (occurs_same h ys))) in
          (second.made, Chain-kept Middle After e h second h ys e new (first_once h ys apart) other (Chain-retarget Before Middle l e first h ys h same_last (last_once h ys l same_last apart) (omega (arith, new)) ring))

      -- e is put in after the first member h, and so before its next member c
      pub Ring-insert : (e h c : ℕ) (ys : List ℕ) → Apart (h ∷ ys) → occurs e (h ∷ ys) ≡ 0 → Before h c → Relinked Before Middle h e → Relinked Middle After e c → Ring Before (h ∷ ys) → Ring After (h ∷ e ∷ ys)
      Ring-insert e h c [] apart new hc first second ring =
          let same : c ≡ h = fixed.next h c h hc ring in
          Ring-turn After (e ∷ []) (h ∷ []) (Ring-push e h h [] apart new ring first (subst (Relinked Middle After e) same second) ring)
      Ring-insert e h c (y ∷ ys) apart new hc first second ring =
          let same : c ≡ y = fixed.next h c y hc ring.0 in
          let turned : Ring Before ((y ∷ ys) ++ h ∷ []) = Ring-turn Before (h ∷ []) (y ∷ ys) ring in
          let turned_new : occurs e ((y ∷ ys) ++ h ∷ []) ≡ 0 = omega (arith, new, occurs-append e (y ∷ ys) (h ∷ [])) in
          Ring-turn After (e ∷ y ∷ ys) (h ∷ []) (Ring-push e y h (ys ++ h ∷ []) (Apart-turn (h ∷ []) (y ∷ ys) apart) turned_new ring.0 first (subst (Relinked Middle After e) same second) turned)

-- ---- what a ring's links say at one member, and rings that a change leaves alone

module _ (Link : ℕ → ℕ → Type 0) where
  -- the neighbours of e in its ring, which are other members unless e is alone
  pub record Around (e : ℕ) (rest : List ℕ) : Type 0 where
    pub last : ℕ
    pub next : ℕ
    pub into : Link last e
    pub from : Link e next
    pub alone : length rest ≡ 0 → (last ≡ e) × (next ≡ e)
    pub others : 0 < length rest → (0 < occurs last rest) × (0 < occurs next rest)
    pub first : (y : ℕ) (ys : List ℕ) → rest ≡ y ∷ ys → next ≡ y

  pub around_first : (e : ℕ) (rest : List ℕ) → Ring Link (e ∷ rest) → Around e rest
  around_first e [] h = record { last = e; next = e; into = h; from = h; alone = λ _. (refl, refl); others = λ p. absurd (omega arith); first = λ y ys p. absurd (cc) }
  around_first e (y ∷ ys) h = record {
    last = last_of y ys;
    next = y;
    into = last_linked Link y ys e h.1;
    from = h.0;
    alone = λ p. absurd (omega arith);
    others = λ _. (last_occurs y ys, omega (arith, occurs_same y ys));
    first = λ z zs p. cc;
  }

  pub around : (e : ℕ) (before after : List ℕ) → Ring Link (before ++ e ∷ after) → Around e (after ++ before)
  around e before after h = around_first e (after ++ before) (Ring-turn Link before (e ∷ after) h)

module _ (Before After : ℕ → ℕ → Type 0) where
  Chain-frame : (a : ℕ) (xs : List ℕ) (b : ℕ) → ((x y : ℕ) → 0 < occurs x (a ∷ xs) → 0 < occurs y xs ⊎ (y ≡ b) → Before x y → After x y) → Chain Before a xs b → Chain After a xs b
  Chain-frame a [] b same h = same a b (omega (arith, occurs_same a [])) (inr refl) h
  Chain-frame a (x ∷ xs) b same h = (
    same a x (omega (arith, occurs_same a (x ∷ xs))) (inl (omega (arith, occurs_same x xs))) h.0,
    Chain-frame x xs b (λ y z p q. same y z (omega arith) (elim q [ inl r ↦ inl (omega arith) | inr r ↦ inr r ])) h.1,
  )

  -- the links between members are kept
  pub Ring-frame : (xs : List ℕ) → ((x y : ℕ) → 0 < occurs x xs → 0 < occurs y xs → Before x y → After x y) → Ring Before xs → Ring After xs
  Ring-frame [] same h = tt
  Ring-frame (x ∷ xs) same h = Chain-frame x xs x (λ y z p q. same y z p (elim q [ inl r ↦ omega arith | inr r ↦ subst (λ n. 0 < occurs n (x ∷ xs)) (sym r) (omega (arith, occurs_same x xs)) ])) h

pub occurs-le-length : (x : ℕ) (xs : List ℕ) → occurs x xs ≤ length xs
occurs-le-length x [] = omega arith
occurs-le-length x (y ∷ xs) = elim (cases_eq x y) [
  | inl same ↦ omega (arith, occurs-le-length x xs, subst (λ n. occurs x (n ∷ xs) ≡ 1 + occurs x xs) same (occurs_same x xs))
  | inr other ↦ omega (arith, occurs-le-length x xs, occurs_other x y xs other)
]

-- a list of numbers from low on and below low + n, none of which is in it twice, has at most n members
pub length-le-range : (low n : ℕ) (xs : List ℕ) → Apart xs → ((s : ℕ) → 0 < occurs s xs → (low ≤ s) × (s < low + n)) → length xs ≤ n
length-le-range low zero [] apart inside = omega arith
length-le-range low zero (x ∷ xs) apart inside = let r = inside x (omega (arith, occurs_same x xs)) in absurd (omega (arith, r.0, r.1))
length-le-range low (suc n) xs apart inside = elim (cases_eq (occurs (low + n) xs) 0) [
  | inl none ↦ let short = length-le-range low n xs apart (λ s p. let r = inside s p in (r.0, below s p r.1 (λ same. absurd (omega (arith, p, subst (λ m. occurs m xs ≡ 0) (sym same) none))))) in omega (arith, short)
  | inr some ↦ let place = place_of (low + n) xs (omega arith) in
      let all : (s : ℕ) → occurs s xs ≡ occurs s (place.before ++ (low + n) ∷ place.after) = λ s. ap (occurs s) place.is in
      let less : (s : ℕ) → occurs s (place.before ++ place.after) ≤ occurs s xs = λ s. omega (arith, all s, occurs-append s place.before ((low + n) ∷ place.after), occurs-append s place.before place.after) in
      let gone : occurs (low + n) (place.before ++ place.after) ≡ 0 = omega (arith, apart (low + n), all (low + n), occurs-append (low + n) place.before ((low + n) ∷ place.after), occurs-append (low + n) place.before place.after, occurs_same (low + n) place.after) in
      let short = length-le-range low n (place.before ++ place.after) (λ s. omega (arith, apart s, less s)) (λ s p. let r = inside s (omega (arith, p, less s)) in (r.0, below s p r.1 (λ same. absurd (omega (arith, p, subst (λ m. occurs m (place.before ++ place.after) ≡ 0) (sym same) gone))))) in
      omega (arith, short, ap length place.is, length-append place.before ((low + n) ∷ place.after), length-append place.before place.after)
]
  where
    below : {P : Type 0} → (s : ℕ) → P → s < low + suc n → (s ≡ low + n → ⊥) → s < low + n
    below s p h other = elim (cases_eq s (low + n)) [ inl same ↦ absurd (other same) | inr differs ↦ omega arith ]

-- ---- a ring is what a walk along the links sees

module _ (next : ℕ → ℕ) where
  -- the first n numbers of the walk that begins at x
  abbrev pub walk : ℕ → ℕ → List ℕ
  walk x zero = []
  walk x (suc n) = x ∷ walk (next x) n

  -- where the walk is after n steps
  abbrev pub after_steps : ℕ → ℕ → ℕ
  after_steps x zero = x
  after_steps x (suc n) = after_steps (next x) n

  module _ (Link : ℕ → ℕ → Type 0) where
    -- each of the first n steps goes along a link
    abbrev pub Along : ℕ → ℕ → Type 0
    Along x zero = Unit {0}
    Along x (suc n) = Link x (next x) × Along (next x) n

    Chain-walk : (x n : ℕ) → Along x (suc n) → Chain Link x (walk (next x) n) (after_steps x (suc n))
    Chain-walk x zero h = h.0
    Chain-walk x (suc n) h = (h.0, Chain-walk (next x) n h.1)

    -- a walk along links that comes back has seen a ring
    pub Ring-walk : (x n : ℕ) → Along x (suc n) → after_steps x (suc n) ≡ x → Ring Link (walk x (suc n))
    Ring-walk x n h back = subst (Chain Link x (walk (next x) n)) back (Chain-walk x n h)

    module _ (steps : (x y : ℕ) → Link x y → next x ≡ y) where
      walk-Chain : (x : ℕ) (xs : List ℕ) (y : ℕ) → Chain Link x xs y → (walk (next x) (length xs) ≡ xs) × (after_steps x (suc (length xs)) ≡ y) × Along x (suc (length xs))
      walk-Chain x [] y h = (refl, steps x y h, (subst (Link x) (sym (steps x y h)) h, tt))
      walk-Chain x (z ∷ zs) y h =
          let at : next x ≡ z = steps x z h.0 in
          let rest = walk-Chain z zs y h.1 in (
            subst (λ n. n ∷ walk (next n) (length zs) ≡ z ∷ zs) (sym at) (ap (λ ys. z ∷ ys) rest.0),
            subst (λ n. after_steps (next n) (length zs) ≡ y) (sym at) rest.1,
            (subst (Link x) (sym at) h.0, subst (λ n. Along n (suc (length zs))) (sym at) rest.2),
          )

      -- a ring is seen by the walk of its length from its first member, which comes back
      pub walk-Ring : (x : ℕ) (xs : List ℕ) → Ring Link (x ∷ xs) → (walk x (suc (length xs)) ≡ x ∷ xs) × (after_steps x (suc (length xs)) ≡ x) × Along x (suc (length xs))
      walk-Ring x xs h = let r = walk-Chain x xs x h in (ap (λ ys. x ∷ ys) r.0, r.1, r.2)

      -- so two rings of one length that begin alike are one
      pub Ring-unique : (x : ℕ) (xs ys : List ℕ) → length xs ≡ length ys → Ring Link (x ∷ xs) → Ring Link (x ∷ ys) → x ∷ xs ≡ x ∷ ys
      Ring-unique x xs ys same p q = sym (walk-Ring x xs p).0 ∙ ap (λ n. walk x (suc n)) same ∙ (walk-Ring x ys q).0
