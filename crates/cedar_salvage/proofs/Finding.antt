-- Whole records, found one after another.
use Rattle.std.specs.Prelude.{◌&&◌, not}
use Rattle.std.proofs.Common.{◌≡◌, ◌≢◌, ℕ, zero, suc, ◌+◌, ◌≤◌, ◌<◌, true, false, List, [], ◌∷◌, ◌++◌, length, take, drop, get_or, refl, sym, ◌∙◌, ap, arith, length-drop, length-take-le, append_assoc}
use Rattle.std.proofs.lemmas.Bool.{cond-true, cond-false, eq-eqb, ne_eqb, and_parts, false_from_ne_true, false≢true, and_from}
use Rattle.std.proofs.lemmas.List.{drop_more, drop_all, drop-drop, append-nil}
use Rattle.crc32c.specs.Sums.{crc32c}
use Rattle.cedar_journal.specs.Formats.{four_at, is_summed}
use Rattle.cedar_journal.specs.Records.{behind_record, has_record, payload, payload_length, payloads_in}
use Rattle.cedar_journal.proofs.Found.{lacks_short}
use Rattle.cedar_journal.proofs.Reading.{payloads_first, payloads_none}
use Rattle.cedar_journal.proofs.Readings as readings
use Rattle.cedar_salvage.specs.Whole.{first_changes, found_behind, found_in, has_some, is_change, is_whole, payload_there}

-- ---- what isn't whole

pub shut : (bytes : List ℕ) → get_or bytes 0 0 ≡ 0 → is_whole bytes ≡ false
unfolding is_whole
shut bytes closed = ap (λ b. not b && (is_summed bytes && is_change (payload_there bytes))) (eq-eqb (get_or bytes 0 0) 0 closed)

unsummed : (bytes : List ℕ) → (is_summed bytes ≡ true → ⊥) → is_whole bytes ≡ false
unfolding is_whole
unsummed bytes lacks = false_from_ne_true _ (λ has. lacks (and_parts _ _ (and_parts _ _ has).1).0)

pub few : (bytes : List ℕ) → length bytes < 9 → is_whole bytes ≡ false
few bytes short = unsummed bytes (λ has. let fits = readings.is_whole bytes has in absurd (omega (arith, short, fits)))

pub short : (bytes : List ℕ) (n : ℕ) → n ≡ four_at bytes 5 → length bytes < 9 + n → is_whole bytes ≡ false
short bytes n is low = unsummed bytes (λ has. let fits = readings.is_whole bytes has in absurd (omega (arith, low, is, fits)))

pub other : (bytes : List ℕ) (n m : ℕ) → n ≡ four_at bytes 5 → m ≡ n → is_change (take m (drop 9 bytes)) ≡ false → is_whole bytes ≡ false
unfolding is_whole
other bytes n m is same none =
    false_from_ne_true _ (λ has. false≢true (sym none ∙ ap (λ k. is_change (take k (drop 9 bytes))) (same ∙ is) ∙ (and_parts _ _ (and_parts _ _ has).1).1))

pub unlike : (bytes : List ℕ) (n m : ℕ) → n ≡ four_at bytes 5 → m ≡ 4 + n → crc32c (take m (drop 5 bytes)) ≢ four_at bytes 1 → is_whole bytes ≡ false
unlike bytes n m is same differs =
    unsummed bytes (λ has. differs (ap (λ k. crc32c (take k (drop 5 bytes))) (same ∙ ap (λ k. 4 + k) is) ∙ readings.has_sum bytes has))

-- ---- what is

pub whole : (bytes : List ℕ) (n m k : ℕ) → get_or bytes 0 0 ≢ 0 → n ≡ four_at bytes 5 → 9 + n ≤ length bytes → m ≡ 4 + n → crc32c (take m (drop 5 bytes)) ≡ four_at bytes 1
    → k ≡ n → is_change (take k (drop 9 bytes)) ≡ true → is_whole bytes ≡ true
unfolding is_whole
whole bytes n m k ajar is fits same sum size change =
    let told : 9 + four_at bytes 5 ≤ length bytes = omega (arith, fits, is) in
    let text : crc32c (take (4 + four_at bytes 5) (drop 5 bytes)) ≡ four_at bytes 1 = ap (λ j. crc32c (take j (drop 5 bytes))) (sym (same ∙ ap (λ j. 4 + j) is)) ∙ sum in
    let is_one : is_change (payload_there bytes) ≡ true = ap (λ j. is_change (take j (drop 9 bytes))) (sym (size ∙ is)) ∙ change in
    and_from _ _ (ap not (ne_eqb (get_or bytes 0 0) 0 ajar)) (and_from _ _ (readings.summed bytes told text) is_one)

-- ---- one position after another

skips : (n : ℕ) (bytes : List ℕ) → found_behind n bytes ≡ found_behind zero (drop n bytes)
unfolding found_behind
skips zero bytes = refl
skips (suc n) [] = refl
skips (suc n) (b ∷ rest) = skips n rest

first_there : (bytes : List ℕ) → is_whole bytes ≡ true → found_in bytes ≡ payload_there bytes ∷ found_in (drop (9 + four_at bytes 5) bytes)
unfolding found_behind
first_there [] has = absurd (false≢true (sym (few [] (omega arith)) ∙ has))
first_there (b ∷ rest) has =
    let n = four_at (b ∷ rest) 5 in
    let next : 9 + n ≡ suc (8 + n) = omega arith in
    cond-true (is_whole (b ∷ rest)) _ _ has
    ∙ ap (λ l. payload_there (b ∷ rest) ∷ l) (skips (8 + n) rest ∙ ap (λ k. found_in (drop k (b ∷ rest))) (sym next))

pub taken : (bytes : List ℕ) (n m : ℕ) → n ≡ four_at bytes 5 → m ≡ n → 9 + n ≤ length bytes → is_whole bytes ≡ true
    → found_in bytes ≡ take m (drop 9 bytes) ∷ found_in (drop (9 + length (take m (drop 9 bytes))) bytes)
taken bytes n m is same fits has =
    let size : length (take m (drop 9 bytes)) ≡ n = length-take-le m (drop 9 bytes) (omega (arith, same, fits, length-drop 9 bytes)) ∙ same in
    let told : four_at bytes 5 ≡ m = sym (same ∙ is) in
    let long : four_at bytes 5 ≡ length (take m (drop 9 bytes)) = sym (size ∙ is) in
    first_there bytes has ∙ (λ i. take (told i) (drop 9 bytes) ∷ found_in (drop (9 + long i) bytes))

passed_one : (b : ℕ) (rest : List ℕ) → is_whole (b ∷ rest) ≡ false → found_in (b ∷ rest) ≡ found_in rest
unfolding found_behind
passed_one b rest lacks = cond-false (is_whole (b ∷ rest)) _ _ lacks

pub passed : (bytes b : List ℕ) (at : ℕ) → b ≡ drop at bytes → at < length bytes → is_whole b ≡ false → found_in (drop (at + 1) bytes) ≡ found_in (drop at bytes)
passed bytes b at here low lacks =
    let more : drop at bytes ≡ get_or bytes at 0 ∷ drop (at + 1) bytes = drop_more bytes at 0 low in
    sym (ap found_in more ∙ passed_one (get_or bytes at 0) (drop (at + 1) bytes) (ap is_whole (sym (here ∙ more)) ∙ lacks))

pub none_behind : (bytes : List ℕ) (at : ℕ) → length bytes ≤ at → found_in (drop at bytes) ≡ []
unfolding found_behind
none_behind bytes at far = ap found_in (drop_all at bytes far)

-- a record that was taken at a position, and the rest behind it
pub found_next : (bytes b p : List ℕ) (at : ℕ) → b ≡ drop at bytes → found_in b ≡ p ∷ found_in (drop (9 + length p) b)
    → found_in (drop at bytes) ≡ p ∷ found_in (drop (at + 9 + length p) bytes)
found_next bytes b p at here read =
    let next : drop (9 + length p) b ≡ drop (at + 9 + length p) bytes = ap (drop (9 + length p)) here ∙ drop-drop (9 + length p) at bytes ∙ ap (λ n. drop n bytes) (omega arith) in
    ap found_in (sym here) ∙ read ∙ ap (λ l. p ∷ found_in l) next

-- a payload that was taken is pushed behind those before it
pub pushed : (bytes behind p : List ℕ) (old new : List (List ℕ)) → found_in bytes ≡ p ∷ found_in behind → new ≡ old ++ p ∷ [] → new ++ found_in behind ≡ old ++ found_in bytes
pushed bytes behind p old new read is =
    ap (λ l. l ++ found_in behind) is ∙ append_assoc old (p ∷ []) (found_in behind) ∙ ap (λ l. old ++ l) (sym read)

pub all_found : (bytes : List ℕ) (now : List (List ℕ)) → found_in bytes ≡ [] → now ≡ now ++ found_in bytes
all_found bytes now none = sym (ap (λ l. now ++ l) none ∙ append-nil now)

pub some_found : (bytes p : List ℕ) (l : List (List ℕ)) → found_in bytes ≡ p ∷ l → true ≡ has_some (found_in bytes)
some_found bytes p l is = sym (ap has_some is)

-- ---- version 1

first_is : (p : List ℕ) (l : List (List ℕ)) → is_change p ≡ true → first_changes (p ∷ l) ≡ p ∷ first_changes l
unfolding first_changes
first_is p l one = cond-true (is_change p) _ _ one

first_none : (p : List ℕ) (l : List (List ℕ)) → is_change p ≡ false → first_changes (p ∷ l) ≡ []
unfolding first_changes
first_none p l none = cond-false (is_change p) _ _ none

pub no_record : (bytes : List ℕ) → has_record bytes ≡ false → first_changes (payloads_in bytes) ≡ []
unfolding first_changes
no_record bytes lacks = ap first_changes (payloads_none bytes lacks)

module _ (bytes p : List ℕ) (there : has_record bytes ≡ true) (is : p ≡ payload bytes) where
  pub stops_there : is_change p ≡ false → first_changes (payloads_in bytes) ≡ []
  stops_there none = ap first_changes (payloads_first bytes there) ∙ first_none (payload bytes) (payloads_in (behind_record bytes)) (ap is_change (sym is) ∙ none)

  pub taken_there : is_change p ≡ true → drop (5 + length p) bytes ≡ behind_record bytes
      → first_changes (payloads_in bytes) ≡ p ∷ first_changes (payloads_in (drop (5 + length p) bytes))
  taken_there one next =
      ap first_changes (payloads_first bytes there)
      ∙ first_is (payload bytes) (payloads_in (behind_record bytes)) (ap is_change (sym is) ∙ one)
      ∙ (λ i. sym is i ∷ first_changes (payloads_in (sym next i)))

abbrev pub plain_in : List ℕ → List (List ℕ)
plain_in bytes = first_changes (payloads_in bytes)

pub pushed_plain : (bytes b p : List ℕ) (at : ℕ) (old new : List (List ℕ)) → b ≡ drop at bytes → plain_in b ≡ p ∷ plain_in (drop (5 + length p) b) → new ≡ old ++ p ∷ []
    → new ++ plain_in (drop (at + (5 + length p)) bytes) ≡ old ++ plain_in (drop at bytes)
pushed_plain bytes b p at old new here read is =
    let next : drop (5 + length p) b ≡ drop (at + (5 + length p)) bytes = ap (drop (5 + length p)) here ∙ drop-drop (5 + length p) at bytes in
    let there : plain_in (drop at bytes) ≡ p ∷ plain_in (drop (at + (5 + length p)) bytes) = ap plain_in (sym here) ∙ read ∙ ap (λ l. p ∷ plain_in l) next in
    ap (λ l. l ++ plain_in (drop (at + (5 + length p)) bytes)) is
    ∙ append_assoc old (p ∷ []) (plain_in (drop (at + (5 + length p)) bytes))
    ∙ ap (λ l. old ++ l) (sym there)

pub ends_plain : (bytes b : List ℕ) (at : ℕ) (now : List (List ℕ)) → b ≡ drop at bytes → plain_in b ≡ [] → now ≡ now ++ plain_in (drop at bytes)
ends_plain bytes b at now here none = sym (ap (λ l. now ++ l) (ap plain_in (sym here) ∙ none) ∙ append-nil now)

-- ---- behind a record of version 1

pub none_further : (bytes : List ℕ) → length bytes < 5 + payload_length bytes → has_record (behind_record bytes) ≡ false
unfolding behind_record
none_further bytes few =
    let none : drop (5 + payload_length bytes) bytes ≡ [] = drop_all (5 + payload_length bytes) bytes (omega (arith, few)) in
    lacks_short (drop (5 + payload_length bytes) bytes) (omega (arith, ap length none))

pub further_on : (bytes : List ℕ) (n : ℕ) → n ≡ payload_length bytes → drop (5 + n) bytes ≡ behind_record bytes
unfolding behind_record
further_on bytes n is = ap (λ k. drop (5 + k) bytes) is
