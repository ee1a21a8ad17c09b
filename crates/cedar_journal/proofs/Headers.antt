-- What a file is read as, by its header; and headers that a crash has cut short.
use Rattle.std.specs.Prelude.{◌&&◌, ◌||◌, ◌==◌, nat_eq, nat_le}
use Rattle.std.proofs.Common.{◌≡◌, ◌≢◌, inl, inr, ℕ, zero, suc, ◌≤◌, ◌<◌, Bool, true, false, List, [], ◌∷◌, ◌++◌, length, take, drop, Option, Some, None, refl, sym, subst, ◌∙◌, ap, arith, append_assoc, length-append, length-take, take-append-drop}
use Rattle.std.specs.List.{starts_with}
use Rattle.std.specs.Cmp.Lexicographic.{pointwise, same_text}
use Rattle.std.proofs.lemmas.Bool.{cases_Bool, cases_eq, cond-true, cond-false, le-leb, leb-true, false≢true, and_parts, eq-eqb, ne_eqb, and_from, or_cases, or_right, or_left}
use Rattle.std.proofs.lemmas.List.{append-nil}
use Rattle.cedar_journal.specs.declared.format.Format.{Format}
use Rattle.cedar_journal.specs.declared.format.Format.TheVariants.{Plain, Summed}
use Rattle.cedar_journal.specs.Formats.{ArePieces, read_behind, records_read, stands}
use Rattle.cedar_journal.specs.Files.{IsFileFront, IsNewFile, IsWholeFront, with_payload, file_reading, format_of, header_frame, journal_header, is_begun, read_by, file_payloads, recovered_by}
use Rattle.cedar_journal.proofs.Readings.{behind_behind, few_end, nothing_read}
use Rattle.std.proofs.lemmas.Option.{none-some, same_Some}

-- ---- by the header

pub named_reads : (file : List ℕ) (f : Format) → format_of file ≡ Some f → file_reading file ≡ Some (read_behind 13 [] (records_read f (drop 13 file)))
unfolding file_reading
named_reads file f named = ap (λ (o : Option Format). read_by o file) named

pub header_names : (f : Format) (rest : List ℕ) → format_of (journal_header f ++ rest) ≡ Some f
unfolding format_of
header_names Plain rest = refl
header_names Summed rest = refl

pub header_is_front : (f : Format) → IsFileFront f (journal_header f) []
header_is_front f rest = named_reads (journal_header f ++ rest) f (header_names f rest) ∙ ap (λ (l : List ℕ). Some (read_behind 13 [] (records_read f l))) (header_off f rest) ∙ ap (λ n. Some (read_behind n [] (records_read f rest))) (header_long f)
  where
    header_off : (f : Format) (rest : List ℕ) → drop 13 (journal_header f ++ rest) ≡ rest
    header_off Plain rest = refl
    header_off Summed rest = refl

    header_long : (f : Format) → 13 ≡ length (journal_header f)
    header_long Plain = refl
    header_long Summed = refl

starts_there : (file header : List ℕ) → starts_with nat_eq file header ≡ true → header ≡ take (length header) file
starts_there file header is = same_text header (take (length header) file) (sym is)

pub named_header : (file : List ℕ) (f : Format) → format_of file ≡ Some f → journal_header f ≡ take 13 file
unfolding format_of
named_header file f named = elim (cases_Bool (starts_with nat_eq file (journal_header Summed))) [
  | inl second ↦
      let is : Summed ≡ f = same_Some Summed f (sym (cond-true _ _ _ second) ∙ named) in
      subst (λ g. journal_header g ≡ take 13 file) is (starts_there file (journal_header Summed) second)
  | inr other ↦ elim (cases_Bool (starts_with nat_eq file (journal_header Plain))) [
    | inl first ↦
        let is : Plain ≡ f = same_Some Plain f (sym (cond-false _ _ _ other ∙ cond-true _ _ _ first) ∙ named) in
        subst (λ g. journal_header g ≡ take 13 file) is (starts_there file (journal_header Plain) first)
    | inr none ↦ absurd (none-some f (sym (cond-false _ _ _ other ∙ cond-false _ _ _ none) ∙ named))
  ]
]

-- what the code finds
pub second_named : (file : List ℕ) → starts_with nat_eq file (journal_header Summed) ≡ true → Some Summed ≡ format_of file
unfolding format_of
second_named file is = sym (cond-true _ _ _ is)

module _ (file : List ℕ) (other : starts_with nat_eq file (journal_header Summed) ≡ false) where
  pub first_named : starts_with nat_eq file (journal_header Plain) ≡ true → Some Plain ≡ format_of file
  unfolding format_of
  first_named is = sym (cond-false _ _ _ other ∙ cond-true _ _ _ is)

  pub none_named : starts_with nat_eq file (journal_header Plain) ≡ false → None ≡ format_of file
  unfolding format_of
  none_named lacks = sym (cond-false _ _ _ other ∙ cond-false _ _ _ lacks)

header_size : (f : Format) → length (journal_header f) ≡ 13
header_size Plain = refl
header_size Summed = refl

pub named_long : (file : List ℕ) (f : Format) → format_of file ≡ Some f → 13 ≤ length file
named_long file f named = let size = ap length (named_header file f named) in omega (arith, size, header_size f, length-take 13 file)

pub named_front : (file : List ℕ) (f : Format) → format_of file ≡ Some f → IsWholeFront f (take 13 file)
named_front file f named = ([], subst (λ (l : List ℕ). IsFileFront f l []) (named_header file f named) (header_is_front f))

-- the header of a front is that of what it is the front of
pub header_stays : (front rest : List ℕ) (f : Format) → format_of front ≡ Some f → format_of (front ++ rest) ≡ Some f
header_stays front rest f named =
    let apart : front ++ rest ≡ journal_header f ++ (drop 13 front ++ rest) =
    ap (λ (l : List ℕ). l ++ rest) (sym (take-append-drop 13 front) ∙ ap (λ (l : List ℕ). l ++ drop 13 front) (sym (named_header front f named)))
    ∙ append_assoc (journal_header f) (drop 13 front) rest in
    ap format_of apart ∙ header_names f (drop 13 front ++ rest)

-- ---- fronts

pub front_and : (f : Format) (a b : List ℕ) (ps qs : List (List ℕ)) → IsFileFront f a ps → ArePieces f b qs → IsFileFront f (a ++ b) (ps ++ qs)
front_and f a b ps qs first second rest =
    ap file_reading (append_assoc a b rest) ∙ first (b ++ rest) ∙ ap (λ r. Some (read_behind (length a) ps r)) (second rest)
    ∙ ap Some (behind_behind (length a) (length b) ps qs (records_read f rest))
    ∙ ap (λ n. Some (read_behind n (ps ++ qs) (records_read f rest))) (sym (length-append a b))

module _ (f : Format) (front : List ℕ) (ps : List (List ℕ)) (is_front : IsFileFront f front ps) where
  pub front_stands : (rest : List ℕ) (qs : List (List ℕ)) → records_read f rest ≡ stands qs → file_payloads (front ++ rest) ≡ Some (ps ++ qs)
  unfolding file_payloads
  front_stands rest qs is = ap recovered_by (is_front rest ∙ ap (λ r. Some (read_behind (length front) ps r)) is)

  pub front_ends : (rest : List ℕ) → records_read f rest ≡ stands [] → file_payloads (front ++ rest) ≡ Some ps
  front_ends rest is = front_stands rest [] is ∙ ap Some (append-nil ps)

  pub front_alone : file_payloads front ≡ Some ps
  front_alone = ap file_payloads (sym (append-nil front)) ∙ front_ends [] (nothing_read f)

pub one_more : (file c payload : List ℕ) (ps : List (List ℕ)) → file_payloads file ≡ Some ps → file_payloads c ≡ Some (ps ++ payload ∷ []) → file_payloads c ≡ with_payload payload (file_payloads file)
one_more file c payload ps was is = is ∙ sym (ap (with_payload payload) was)

-- ---- no header

pub begun_stands : (file : List ℕ) → format_of file ≡ None → is_begun file ≡ true → file_payloads file ≡ Some []
unfolding file_payloads file_reading
begun_stands file unnamed begun = ap recovered_by (ap (λ (o : Option Format). read_by o file) unnamed ∙ cond-true (is_begun file) _ _ begun)

pub is_new : (file : List ℕ) → format_of file ≡ None → is_begun file ≡ true → IsNewFile file
is_new file unnamed begun = record { unnamed = unnamed; begun = begun; stands = begun_stands file unnamed begun }

pub foreign_reads : (file : List ℕ) → format_of file ≡ None → is_begun file ≡ false → file_reading file ≡ None
unfolding file_reading
foreign_reads file unnamed begun = ap (λ (o : Option Format). read_by o file) unnamed ∙ cond-false (is_begun file) _ _ begun

-- ---- headers that are cut short

pub empty_begun : is_begun [] ≡ true
unfolding is_begun
empty_begun = refl

pub none_begun : (file : List ℕ) → length file ≡ 0 → true ≡ is_begun file
none_begun [] none = sym empty_begun
none_begun (x ∷ file) none = absurd (omega (arith, none))

byte_begun : (gate : ℕ) → is_begun (gate ∷ []) ≡ true
unfolding is_begun
byte_begun gate = refl

framed_begun : (gate : ℕ) → is_begun (gate ∷ header_frame Summed) ≡ true
unfolding is_begun
framed_begun gate = refl

closed_begun : (rest : List ℕ) → length rest ≤ 13 → is_begun (0 ∷ rest) ≡ true
unfolding is_begun
closed_begun rest few = or_right _ _ (or_right _ _ (le-leb (length (0 ∷ rest)) 14 (omega (arith, few))))

cut_starts : (m : ℕ) (xs ys : List ℕ) → pointwise nat_eq xs (take (length xs) ys) ≡ true → pointwise nat_eq (take m xs) (take (length (take m xs)) ys) ≡ true
cut_starts zero xs ys starts = refl
cut_starts (suc m) [] ys starts = refl
cut_starts (suc m) (x ∷ xs) [] starts = absurd (false≢true starts)
cut_starts (suc m) (x ∷ xs) (y ∷ ys) starts =
    let parts = and_parts (nat_eq x y) (pointwise nat_eq xs (take (length xs) ys)) starts in
    and_from (nat_eq x y) (pointwise nat_eq (take m xs) (take (length (take m xs)) ys)) parts.0 (cut_starts m xs ys parts.1)

cut_begun : (n : ℕ) (file : List ℕ) → is_begun file ≡ true → is_begun (take n file) ≡ true
unfolding is_begun
cut_begun zero file begun = refl
cut_begun (suc n) [] begun = refl
cut_begun (suc n) (x ∷ file) begun =
    let front = take n file in
    let second = starts_with nat_eq (header_frame Summed) front in
    let first = starts_with nat_eq (header_frame Plain) front in
    let shut = x == 0 && nat_le (length (x ∷ front)) 14 in
    elim (or_cases _ _ begun) [
      | inl starts ↦ or_left second (first || shut) (cut_starts n file (header_frame Summed) starts)
      | inr others ↦ elim (or_cases _ _ others) [
        | inl starts ↦ or_right second (first || shut) (or_left first shut (cut_starts n file (header_frame Plain) starts))
        | inr few ↦
            let parts = and_parts (x == 0) (nat_le (length (x ∷ file)) 14) few in
            let size = length-take n file in
            or_right second (first || shut) (or_right first shut (and_from (x == 0) (nat_le (length (x ∷ front)) 14) parts.0
            (le-leb (length (x ∷ front)) 14 (omega (arith, size, leb-true (length (x ∷ file)) 14 parts.1)))))
      ]
    ]

-- what the code finds
module _ (file rest : List ℕ) (gate : ℕ) (same : file ≡ gate ∷ rest) (second first : Bool) (by_second : second ≡ starts_with nat_eq (header_frame Summed) rest) where
  pub second_begun : second ≡ true → second ≡ is_begun file
  unfolding is_begun
  second_begun is = is ∙ sym (ap is_begun same ∙ or_left _ _ (sym by_second ∙ is))

  module _ (by_first : first ≡ starts_with nat_eq (header_frame Plain) rest) (lacks : second ≡ false) where
    pub first_begun : first ≡ true → first ≡ is_begun file
    unfolding is_begun
    first_begun is = is ∙ sym (ap is_begun same ∙ or_right _ _ (or_left _ _ (sym by_first ∙ is)))

    not_started : first ≡ false → is_begun file ≡ (gate == 0 && nat_le (length file) 14)
    unfolding is_begun
    not_started none =
        ap is_begun same ∙ ap (λ b. b || (starts_with nat_eq (header_frame Plain) rest || (gate == 0 && nat_le (length (gate ∷ rest)) 14))) (sym by_second ∙ lacks)
        ∙ ap (λ b. b || (gate == 0 && nat_le (length (gate ∷ rest)) 14)) (sym by_first ∙ none)
        ∙ ap (λ (l : List ℕ). gate == 0 && nat_le (length l) 14) (sym same)

    pub shut_begun : first ≡ false → gate ≡ 0 → nat_le (length file) 14 ≡ is_begun file
    shut_begun none shut = sym (not_started none ∙ ap (λ b. b && nat_le (length file) 14) (eq-eqb gate 0 shut))

    pub ajar_begun : first ≡ false → gate ≢ 0 → nat_eq gate 0 ≡ is_begun file
    ajar_begun none ajar =
        let is : nat_eq gate 0 ≡ false = ne_eqb gate 0 ajar in
        is ∙ sym (not_started none ∙ ap (λ b. b && nat_le (length file) 14) is)

-- ---- what a crash leaves of a file that has no whole header

none_from : (o : Option Format) → ((f : Format) → o ≡ Some f → ⊥) → o ≡ None
none_from None not = refl
none_from (Some f) not = absurd (not f refl)

pub cut_stands : (n : ℕ) (file : List ℕ) → IsNewFile file → file_payloads (take n file) ≡ Some []
cut_stands n file new =
    begun_stands (take n file)
    (none_from _ (λ f named. none-some f (sym new.unnamed ∙ ap format_of (sym (take-append-drop n file)) ∙ header_stays (take n file) (drop n file) f named)))
    (cut_begun n file new.begun)

-- a gate that isn't open begins no header
shut_unnamed : (gate : ℕ) (rest : List ℕ) → gate ≢ 1 → format_of (gate ∷ rest) ≡ None
shut_unnamed gate rest shut = none_from _ (λ f named. shut (first_gate f (named_header (gate ∷ rest) f named)))
  where
    first_gate : (f : Format) → journal_header f ≡ take 13 (gate ∷ rest) → gate ≡ 1
    first_gate Plain is = let same : 1 ∷ drop 1 (journal_header Plain) ≡ gate ∷ take 12 rest = is in cc
    first_gate Summed is = let same : 1 ∷ drop 1 (journal_header Summed) ≡ gate ∷ take 12 rest = is in cc

few_unnamed : (file : List ℕ) → length file < 13 → format_of file ≡ None
few_unnamed file few = none_from _ (λ f named. let long = named_long file f named in absurd (omega (arith, few, long)))

pub empty_stands : file_payloads [] ≡ Some []
empty_stands = begun_stands [] (few_unnamed [] (omega arith)) empty_begun

pub byte_stands : (gate : ℕ) → file_payloads (gate ∷ []) ≡ Some []
byte_stands gate = begun_stands (gate ∷ []) (few_unnamed (gate ∷ []) (omega arith)) (byte_begun gate)

pub closed_stands : (rest : List ℕ) → length rest ≤ 13 → file_payloads (0 ∷ rest) ≡ Some []
closed_stands rest few = begun_stands (0 ∷ rest) (shut_unnamed 0 rest (omega arith)) (closed_begun rest few)

-- the whole header, and the closed gate behind it
pub header_stands : file_payloads (1 ∷ header_frame Summed) ≡ Some []
header_stands = front_ends Summed (journal_header Summed) [] (header_is_front Summed) (0 ∷ []) (few_end Summed (0 ∷ []) (omega arith))

pub gate_stands : (gate : ℕ) → file_payloads (gate ∷ header_frame Summed) ≡ Some []
gate_stands gate = elim (cases_eq gate 1) [
  | inl is_open ↦ ap (λ g. file_payloads (g ∷ header_frame Summed)) is_open ∙ header_stands
  | inr shut ↦ begun_stands (gate ∷ header_frame Summed) (shut_unnamed gate (header_frame Summed) shut) (framed_begun gate)
]
