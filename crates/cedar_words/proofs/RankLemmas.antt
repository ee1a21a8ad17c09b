-- Ways in their order, and the best of them.
use Rattle.std.proofs.Common.{◌≡◌, ℕ, zero, suc, ◌<◌, ◌≤◌, ◌⊎◌, inl, inr, cond, true, false, List, [], ◌∷◌, length, take, refl, sym, ap, subst, ◌∙◌, arith}
use Rattle.std.specs.List.{Contains}
use Rattle.std.proofs.lemmas.List.{length-take-le}
use Rattle.cedarwood.proofs.MemberLemmas.{contains_first_or_later, contains_here, contains_later, contains_none, either_part}
use Rattle.cedar_words.specs.Ranked.{insert_way, kind_number, put_way, put_ways, way_before}
use Rattle.cedar_words.specs.declared.ranked.Way.{Way}
use Rattle.cedar_words.proofs.ModelStepLemmas.{ltb_tells}

-- one number is less than another, or the same and something else holds
abbrev pub Less : ℕ → ℕ → Type 0 → Type 0
Less a b R = (a < b) ⊎ ((a ≡ b) × R)

pub less_trans : {R S T : Type 0} (a b c : ℕ) → (R → S → T) → Less a b R → Less b c S → Less a c T
less_trans a b c f (inl h) (inl k) = inl (omega (arith, h, k))
less_trans a b c f (inl h) (inr k) = let same = k.0 in inl (omega (arith, h, same))
less_trans a b c f (inr h) (inl k) = let same = h.0 in inl (omega (arith, same, k))
less_trans a b c f (inr h) (inr k) = inr (h.0 ∙ k.0, f h.1 k.1)

-- the same, for a number that is to be greater
abbrev pub More : ℕ → ℕ → Type 0 → Type 0
More a b R = (b < a) ⊎ ((a ≡ b) × R)

pub more_trans : {R S T : Type 0} (a b c : ℕ) → (R → S → T) → More a b R → More b c S → More a c T
more_trans a b c f (inl h) (inl k) = inl (omega (arith, h, k))
more_trans a b c f (inl h) (inr k) = let same = k.0 in inl (omega (arith, h, same))
more_trans a b c f (inr h) (inl k) = let same = h.0 in inl (omega (arith, same, k))
more_trans a b c f (inr h) (inr k) = inr (h.0 ∙ k.0, f h.1 k.1)

-- a way comes before another
abbrev pub Before : Way → Way → Type 0
Before a b = Less a.cost b.cost (More a.len b.len (Less (kind_number a.value) (kind_number b.value) (a.rank < b.rank)))

pub before_trans : (a b c : Way) → Before a b → Before b c → Before a c
before_trans a b c h k =
    less_trans a.cost b.cost c.cost (more_trans a.len b.len c.len (less_trans (kind_number a.value) (kind_number b.value) (kind_number c.value) (λ (m : a.rank < b.rank) (n : b.rank < c.rank). omega (arith, m, n)))) h k

pub before_none : (a : Way) → Before a a → ⊥
before_none a (inl h) = absurd (omega (arith, h))
before_none a (inr h) = by h.1
  where
    by : More a.len a.len (Less (kind_number a.value) (kind_number a.value) (a.rank < a.rank)) → ⊥
    by (inl k) = absurd (omega (arith, k))
    by (inr k) = last k.1
      where
        last : Less (kind_number a.value) (kind_number a.value) (a.rank < a.rank) → ⊥
        last (inl l) = absurd (omega (arith, l))
        last (inr l) = let m = l.1 in absurd (omega (arith, m))

-- what a test of two numbers tells, of what holds where the first is less or both are the same
not_less : {R : Type 0} (a b : ℕ) → b ≤ a → (a ≡ b → R → ⊥) → Less a b R → ⊥
not_less a b high none (inl h) = absurd (omega (arith, high, h))
not_less a b high none (inr h) = none h.0 h.1

not_more : {R : Type 0} (a b : ℕ) → a ≤ b → (a ≡ b → R → ⊥) → More a b R → ⊥
not_more a b low none (inl h) = absurd (omega (arith, low, h))
not_more a b low none (inr h) = none h.0 h.1

pub before_tells : (a b : Way) → ((way_before a b ≡ true) × Before a b) ⊎ ((way_before a b ≡ false) × (Before a b → ⊥))
before_tells a b = elim (ltb_tells a.cost b.cost) [
  | inl is ↦ inl (rw is.0 refl, inl is.1)
  | inr c ↦ elim (ltb_tells b.cost a.cost) [
    | inl is ↦ let less = is.1 in inr (rw c.0 (rw is.0 refl), not_less a.cost b.cost c.1 (λ same _. absurd (omega (arith, same, less))))
    | inr d ↦
        let low = c.1 in
        let high = d.1 in
        let cost : a.cost ≡ b.cost = omega (arith, low, high) in
        elim (ltb_tells b.len a.len) [
          | inl is ↦ inl (rw c.0 (rw d.0 (rw is.0 refl)), inr (cost, inl is.1))
          | inr e ↦ elim (ltb_tells a.len b.len) [
            | inl is ↦ let less = is.1 in inr (rw c.0 (rw d.0 (rw e.0 (rw is.0 refl))), not_less a.cost b.cost low (λ _. not_more a.len b.len e.1 (λ same _. absurd (omega (arith, same, less)))))
            | inr f ↦
                let short = e.1 in
                let long = f.1 in
                let len : a.len ≡ b.len = omega (arith, short, long) in
                elim (ltb_tells (kind_number a.value) (kind_number b.value)) [
                  | inl is ↦ inl (rw c.0 (rw d.0 (rw e.0 (rw f.0 (rw is.0 refl)))), inr (cost, inr (len, inl is.1)))
                  | inr g ↦ elim (ltb_tells (kind_number b.value) (kind_number a.value)) [
                    | inl is ↦
                        let less = is.1 in
                        inr (
                          rw c.0 (rw d.0 (rw e.0 (rw f.0 (rw g.0 (rw is.0 refl))))),
                          not_less a.cost b.cost low (λ _. not_more a.len b.len short (λ _. not_less (kind_number a.value) (kind_number b.value) g.1 (λ same _. absurd (omega (arith, same, less))))),
                        )
                    | inr h ↦
                        let one = g.1 in
                        let two = h.1 in
                        let kind : kind_number a.value ≡ kind_number b.value = omega (arith, one, two) in
                        elim (ltb_tells a.rank b.rank) [
                          | inl is ↦ inl (rw c.0 (rw d.0 (rw e.0 (rw f.0 (rw g.0 (rw h.0 is.0))))), inr (cost, inr (len, inr (kind, is.1))))
                          | inr isnt ↦
                              let rank = isnt.1 in
                              inr (
                                rw c.0 (rw d.0 (rw e.0 (rw f.0 (rw g.0 (rw h.0 isnt.0))))),
                                not_less a.cost b.cost low (λ _. not_more a.len b.len short (λ _. not_less (kind_number a.value) (kind_number b.value) one (λ _ (less : a.rank < b.rank). absurd (omega (arith, rank, less))))),
                              )
                        ]
                  ]
                ]
          ]
        ]
  ]
]

-- two ways that differ in their tokens' lengths or kinds, or in their ranks
abbrev pub Differ : Way → Way → Type 0
Differ a b = (a.len ≡ b.len → ⊥) ⊎ (((kind_number a.value ≡ kind_number b.value) → ⊥) ⊎ (a.rank ≡ b.rank → ⊥))

abbrev pub AreApart : Way → Way → Type 0
AreApart a b = Before a b ⊎ Before b a

number_apart : {R S : Type 0} (a b : ℕ) → (a ≡ b → R ⊎ S) → Less a b R ⊎ Less b a S
number_apart a b rest = elim (ltb_tells a b) [
  | inl is ↦ inl (inl is.1)
  | inr isnt ↦ elim (ltb_tells b a) [
    | inl is ↦ inr (inl is.1)
    | inr same ↦
        let low = isnt.1 in
        let high = same.1 in
        let is : a ≡ b = omega (arith, low, high) in
        either_part (rest is) (λ r. inl (inr (is, r))) (λ s. inr (inr (sym is, s)))
  ]
]

len_apart : {R S : Type 0} (a b : ℕ) → (a ≡ b → R ⊎ S) → More a b R ⊎ More b a S
len_apart a b rest = elim (ltb_tells a b) [
  | inl is ↦ inr (inl is.1)
  | inr isnt ↦ elim (ltb_tells b a) [
    | inl is ↦ inl (inl is.1)
    | inr same ↦
        let low = isnt.1 in
        let high = same.1 in
        let is : a ≡ b = omega (arith, low, high) in
        either_part (rest is) (λ r. inl (inr (is, r))) (λ s. inr (inr (sym is, s)))
  ]
]

rank_apart : (a b : ℕ) → (a ≡ b → ⊥) → (a < b) ⊎ (b < a)
rank_apart a b differ = elim (ltb_tells a b) [
  | inl is ↦ inl is.1
  | inr isnt ↦ let low = isnt.1 in inr (omega (arith, low, differ))
]

pub differ_apart : (a b : Way) → Differ a b → AreApart a b
differ_apart a b differ =
    number_apart a.cost b.cost (λ _. len_apart a.len b.len (λ len. number_apart (kind_number a.value) (kind_number b.value) (λ kind.
    either_part differ (λ no. absurd (no len)) (λ more. either_part more (λ no. absurd (no kind)) (λ rank. rank_apart a.rank b.rank rank)))))

-- ways one after another, each before those behind it
abbrev pub IsSorted : List Way → Type 0
IsSorted [] = Unit {0}
IsSorted (w ∷ ways) = ((v : Way) → Contains ways v → Before w v) × IsSorted ways

ins_held : (x : Way) (ways : List Way) (w : Way) → Contains (insert_way x ways) w → (x ≡ w) ⊎ Contains ways w
ins_held x [] w c = contains_first_or_later x [] w c
ins_held x (y ∷ ways) w c =
    (elim (way_before x y) as (λ b. Contains (cond b (x ∷ y ∷ ways) (y ∷ insert_way x ways)) w → (x ≡ w) ⊎ Contains (y ∷ ways) w) [
      | true ↦ λ here. contains_first_or_later x (y ∷ ways) w here
      | false ↦ λ here. either_part (contains_first_or_later y (insert_way x ways) w here)
          (λ same. inr (subst (Contains (y ∷ ways)) same (contains_here y ways)))
          (λ more. either_part (ins_held x ways w more) (λ same. inl same) (λ later. inr (contains_later y ways w later)))
    ]) c

ins_here : (x : Way) (ways : List Way) → Contains (insert_way x ways) x
ins_here x [] = contains_here x []
ins_here x (y ∷ ways) =
    (elim (way_before x y) as (λ b. Contains (cond b (x ∷ y ∷ ways) (y ∷ insert_way x ways)) x) [
      | true ↦ contains_here x (y ∷ ways)
      | false ↦ contains_later y (insert_way x ways) x (ins_here x ways)
    ])

ins_keeps : (x : Way) (ways : List Way) (w : Way) → Contains ways w → Contains (insert_way x ways) w
ins_keeps x [] w c = absurd (contains_none w c)
ins_keeps x (y ∷ ways) w c =
    (elim (way_before x y) as (λ b. Contains (cond b (x ∷ y ∷ ways) (y ∷ insert_way x ways)) w) [
      | true ↦ contains_later x (y ∷ ways) w c
      | false ↦ either_part (contains_first_or_later y ways w c)
          (λ same. subst (Contains (y ∷ insert_way x ways)) same (contains_here y (insert_way x ways)))
          (λ more. contains_later y (insert_way x ways) w (ins_keeps x ways w more))
    ])

ins_length : (x : Way) (ways : List Way) → length (insert_way x ways) ≡ suc (length ways)
ins_length x [] = refl
ins_length x (y ∷ ways) =
    (elim (way_before x y) as (λ b. length (cond b (x ∷ y ∷ ways) (y ∷ insert_way x ways)) ≡ suc (suc (length ways))) [
      | true ↦ refl
      | false ↦ ap suc (ins_length x ways)
    ])

ins_sorted : (x : Way) (ways : List Way) → IsSorted ways → ((w : Way) → Contains ways w → AreApart x w) → IsSorted (insert_way x ways)
ins_sorted x [] sorted apart = (λ v c. absurd (contains_none v c), tt)
ins_sorted x (y ∷ ways) sorted apart = elim (before_tells x y) [
  | inl is ↦
      let picked : insert_way x (y ∷ ways) ≡ x ∷ y ∷ ways = rw is.0 refl in
      subst IsSorted (sym picked) (
        λ v c. either_part (contains_first_or_later y ways v c) (λ same. subst (Before x) same is.1) (λ more. before_trans x y v is.1 (sorted.0 v more)),
        sorted,
      )
  | inr isnt ↦
      let picked : insert_way x (y ∷ ways) ≡ y ∷ insert_way x ways = rw isnt.0 refl in
      let behind : Before y x = either_part (apart y (contains_here y ways)) (λ before. absurd (isnt.1 before)) (λ before. before) in
      subst IsSorted (sym picked) (
        λ v c. either_part (ins_held x ways v c) (λ same. subst (Before y) same behind) (λ more. sorted.0 v more),
        ins_sorted x ways sorted.1 (λ w c. apart w (contains_later y ways w c)),
      )
]

-- a way that is among as many as there were comes before one of them, or is one
ins_early : (x : Way) (ways : List Way) (n : ℕ) → length ways ≡ n → Contains (take n (insert_way x ways)) x → Contains ways x ⊎ ((u : Way) × Contains ways u × Before x u)
ins_early x [] zero e c = absurd (contains_none x c)
ins_early x [] (suc n) e c = absurd (omega (arith, e))
ins_early x (y ∷ ways) zero e c = absurd (omega (arith, e))
ins_early x (y ∷ ways) (suc n) e c = elim (before_tells x y) [
  | inl is ↦ inr (y, contains_here y ways, is.1)
  | inr isnt ↦
      let picked : insert_way x (y ∷ ways) ≡ y ∷ insert_way x ways = rw isnt.0 refl in
      either_part (contains_first_or_later y (take n (insert_way x ways)) x (subst (λ l. Contains (take (suc n) l) x) picked c))
      (λ same. inl (subst (Contains (y ∷ ways)) same (contains_here y ways)))
      (λ more. either_part (ins_early x ways n (omega (arith, e)) more)
      (λ one. inl (contains_later y ways x one))
      (λ other. inr (other.0, contains_later y ways other.0 other.1, other.2)))
]

take_held : (n : ℕ) (ways : List Way) (w : Way) → Contains (take n ways) w → Contains ways w
take_held zero ways w c = absurd (contains_none w c)
take_held (suc n) [] w c = c
take_held (suc n) (y ∷ ways) w c = either_part (contains_first_or_later y (take n ways) w c) (λ same. subst (Contains (y ∷ ways)) same (contains_here y ways)) (λ more. contains_later y ways w (take_held n ways w more))

take_sorted : (n : ℕ) (ways : List Way) → IsSorted ways → IsSorted (take n ways)
take_sorted zero ways sorted = tt
take_sorted (suc n) [] sorted = tt
take_sorted (suc n) (y ∷ ways) sorted = (λ v c. sorted.0 v (take_held n ways v c), take_sorted n ways sorted.1)

take_few : (n : ℕ) (ways : List Way) → length (take n ways) ≤ n
take_few zero ways = omega arith
take_few (suc n) [] = omega arith
take_few (suc n) (y ∷ ways) = let more = take_few n ways in omega (arith, more)

-- a way that isn't taken comes behind all that are, which are as many as may be
take_full : (n : ℕ) (ways : List Way) → IsSorted ways → (w : Way) → Contains ways w → Contains (take n ways) w ⊎ ((length (take n ways) ≡ n) × ((v : Way) → Contains (take n ways) v → Before v w))
take_full zero ways sorted w c = inr (refl, λ v none. absurd (contains_none v none))
take_full (suc n) [] sorted w c = absurd (contains_none w c)
take_full (suc n) (y ∷ ways) sorted w c =
    either_part (contains_first_or_later y ways w c)
    (λ same. inl (subst (Contains (y ∷ take n ways)) same (contains_here y (take n ways))))
    (λ more. either_part (take_full n ways sorted.1 w more)
    (λ here. inl (contains_later y (take n ways) w here))
    (λ all. inr (ap suc all.0, λ v there. either_part (contains_first_or_later y (take n ways) v there) (λ same. subst (λ (u : Way). Before u w) same (sorted.0 w more)) (λ later. all.1 v later))))

-- the best of those of which something holds: in order, so many at most, and any other comes behind all of them
pub record IsBestOf (most : ℕ) (ways : List Way) (P : Way → Type 0) : Type 0 where
  pub sorted : IsSorted ways
  pub few : length ways ≤ most
  pub sound : (w : Way) → Contains ways w → P w
  pub full : (w : Way) → P w → Contains ways w ⊎ ((length ways ≡ most) × ((v : Way) → Contains ways v → Before v w))

pub none_best : (most : ℕ) (P : Way → Type 0) → ((w : Way) → P w → ⊥) → IsBestOf most [] P
none_best most P none = record { sorted = tt; few = omega arith; sound = λ w c. absurd (contains_none w c); full = λ w p. absurd (none w p) }

put_best : (most : ℕ) (ways : List Way) (x : Way) (P : Way → Type 0) → IsBestOf most ways P → ((w : Way) → P w → AreApart x w) → IsBestOf most (put_way most ways x) (λ w. (x ≡ w) ⊎ P w)
put_best most ways x P best apart =
    let all : List Way = insert_way x ways in
    let sorted : IsSorted all = ins_sorted x ways best.sorted (λ w c. apart w (best.sound w c)) in
    let long = ins_length x ways in
    record {
      sorted = take_sorted most all sorted;
      few = take_few most all;
      sound = λ w c. either_part (ins_held x ways w (take_held most all w c)) (λ same. inl same) (λ more. inr (best.sound w more));
      full = λ w p. either_part p
          (λ same. take_full most all sorted w (subst (Contains all) same (ins_here x ways)))
          (λ holds. either_part (best.full w holds)
          (λ c. take_full most all sorted w (ins_keeps x ways w c))
          (λ behind.
          let many = behind.0 in
          inr (
            length-take-le most all (omega (arith, long, many)),
            λ v c.
                either_part (ins_held x ways v (take_held most all v c))
                (λ same. subst (λ (u : Way). Before u w) same
                (either_part (ins_early x ways most many (subst (Contains (take most all)) (sym same) c)) (λ one. behind.1 x one) (λ other. before_trans x other.0 w other.2 (behind.1 other.0 other.1))))
                (λ more. behind.1 v more),
          )));
    }

pub best_same : (most : ℕ) (ways : List Way) (P Q : Way → Type 0) → IsBestOf most ways P → ((w : Way) → P w → Q w) → ((w : Way) → Q w → P w) → IsBestOf most ways Q
best_same most ways P Q best to from = record { sorted = best.sorted; few = best.few; sound = λ w c. to w (best.sound w c); full = λ w q. best.full w (from w q) }

-- each of some ways is apart from those behind it
abbrev pub ArePairsApart : List Way → Type 0
ArePairsApart [] = Unit {0}
ArePairsApart (x ∷ ways) = ((w : Way) → Contains ways w → AreApart w x) × ArePairsApart ways

all_best_from : (most : ℕ) (more ways : List Way) (P : Way → Type 0) → IsBestOf most ways P → ((w x : Way) → P w → Contains more x → AreApart x w) → ArePairsApart more
    → IsBestOf most (put_ways most ways more) (λ w. P w ⊎ Contains more w)
all_best_from most [] ways P best apart pairs = best_same most ways P (λ w. P w ⊎ Contains [] w) best (λ w p. inl p) (λ w q. either_part q (λ p. p) (λ none. absurd (contains_none w none)))
all_best_from most (x ∷ more) ways P best apart pairs =
    let put : IsBestOf most (put_way most ways x) (λ w. (x ≡ w) ⊎ P w) = put_best most ways x P best (λ w p. apart w x p (contains_here x more)) in
    let rest : IsBestOf most (put_ways most (put_way most ways x) more) (λ w. ((x ≡ w) ⊎ P w) ⊎ Contains more w) =
    all_best_from most more (put_way most ways x) (λ w. (x ≡ w) ⊎ P w) put
    (λ w y p c. either_part p (λ same. subst (AreApart y) same (pairs.0 y c)) (λ holds. apart w y holds (contains_later x more y c))) pairs.1 in
    best_same most (put_ways most (put_way most ways x) more) (λ w. ((x ≡ w) ⊎ P w) ⊎ Contains more w) (λ w. P w ⊎ Contains (x ∷ more) w) rest
    (λ w q. either_part q (λ one. either_part one (λ same. inr (subst (Contains (x ∷ more)) same (contains_here x more))) (λ p. inl p)) (λ c. inr (contains_later x more w c)))
    (λ w q. either_part q (λ p. inl (inr p)) (λ c. either_part (contains_first_or_later x more w c) (λ same. inl (inl same)) (λ later. inr later)))

pub all_best : (most : ℕ) (more : List Way) → ArePairsApart more → IsBestOf most (put_ways most [] more) (Contains more)
all_best most more pairs =
    best_same most (put_ways most [] more) (λ w. ⊥ ⊎ Contains more w) (Contains more)
    (all_best_from most more [] (λ _. ⊥) (none_best most (λ _. ⊥) (λ w none. none)) (λ w x none c. absurd none) pairs)
    (λ w q. either_part q (λ none. absurd none) (λ c. c)) (λ w c. inr c)
