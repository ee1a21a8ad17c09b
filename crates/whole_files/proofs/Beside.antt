-- The path of the file that is written beside another one, and that of the folder of both.
use Rattle.std.specs.Prelude.{◌==◌}
use Rattle.std.proofs.Common.{◌≡◌, ℕ, ◌+◌, ◌<◌, ◌∙◌, Bool, true, false, List, [], ◌∷◌, ◌++◌, ap, append_assoc, arith, codes, drop, inl, inr, length, length-append, length-take, MatchOption, None, Option, refl, Some, subst, sym, take-append-drop}
use Rattle.std.specs.Str.Pattern.{RFindsChar, SplitsAroundMatch}
use Rattle.std.proofs.lemmas.Bool.{eqb-false, eqb-true}
use Rattle.std.proofs.lemmas.Str.Pattern.{drop_at_char}
use Rattle.arrayvec.specs.ArrayString.{ArrayString}
use Rattle.whole_files.specs.Names.{HasNoSlash, KeepsFront, LiesBeside, LiesIn, mark_of, new_suffix}

-- what a path is cut into at its last slash
pub split_whole : (path folder name : List ℕ) → SplitsAroundMatch (RFindsChar 47) path folder name → path ≡ folder ++ codes "/" ++ name
split_whole path folder name cut =
    let split : drop cut.0 path ≡ 47 ∷ drop cut.1 path = drop_at_char 47 path cut.0 cut.1 cut.2.1 (omega arith) in
    sym (take-append-drop cut.0 path)
    ∙ ap (λ (w : List ℕ). w ++ drop cut.0 path) (sym cut.3)
    ∙ ap (λ (w : List ℕ). folder ++ w) (split ∙ ap (λ (w : List ℕ). 47 ∷ w) (sym cut.4))
    ∙ sym (append_assoc folder (47 ∷ []) name)

pub split_last : (path folder name : List ℕ) → SplitsAroundMatch (RFindsChar 47) path folder name → HasNoSlash name
split_last path folder name cut = subst HasNoSlash (sym cut.4) cut.2.0

-- what is added makes another path of it, by its length
other_path : (folder name kept end : List ℕ) → 0 < length end → KeepsFront (length end) name kept → folder ++ (kept ++ end) ≡ folder ++ name → ⊥
other_path folder name kept end some keeps same =
    let long : length kept + length end ≡ length name = omega (arith, ap length same, length-append folder (kept ++ end), length-append kept end, length-append folder name) in
    elim keeps.other [
      | inl e ↦ let same_long = ap length e in omega (arith, long, same_long, some)
      | inr less ↦ omega (arith, long, less)
    ]

-- its pieces, the mark and the suffix make a path beside it, unless that is too long
pub beside_of : (path folder slash name kept mark : List ℕ) (number more : ℕ) (made : Option ArrayString) → path ≡ folder ++ slash ++ name → HasNoSlash name → number < 100
    → mark ≡ mark_of number → more ≡ length mark + 4 → KeepsFront more name kept
    → MatchOption made (4088 < length folder + length slash + length kept) (λ s. s.bytes ≡ folder ++ slash ++ kept ++ mark ++ new_suffix)
    → MatchOption made (4088 < length path) (λ s. LiesBeside path s.bytes)
beside_of path folder slash name kept mark number more None whole last few marked is_more keeps long =
    let over : 4088 < length folder + length slash + length kept = long in
    let fewer = ap length keeps.front ∙ length-take (length kept) name in
    omega (arith, over, fewer, ap length whole, length-append (folder ++ slash) name, length-append folder slash)
beside_of path folder slash name kept mark number more (Some s) whole last few marked is_more keeps is =
    let four : length new_suffix ≡ 4 = refl in
    let end = mark_of number ++ new_suffix in
    let size : more ≡ length end = omega (arith, is_more, four, ap length marked, length-append (mark_of number) new_suffix) in
    let some : 0 < length end = omega (arith, four, length-append (mark_of number) new_suffix) in
    let keep : KeepsFront (length end) name kept = subst (λ (n : ℕ). KeepsFront n name kept) size keeps in
    let pieces : s.bytes ≡ (folder ++ slash) ++ (kept ++ end) =
    is ∙ ap (λ (m : List ℕ). folder ++ slash ++ kept ++ m ++ new_suffix) marked
    ∙ append_assoc (folder ++ slash ++ kept) (mark_of number) new_suffix ∙ append_assoc (folder ++ slash) kept end in
    ∣ record {
      folder = folder ++ slash;
      name = name;
      kept = kept;
      number = number;
      whole = whole;
      last = last;
      few = few;
      keeps = keep;
      is = pieces;
      other = λ same. other_path (folder ++ slash) name kept end some keep (sym pieces ∙ same ∙ whole);
    } ∣₁

-- ---- the folder of a path

at_start : (path name folder : List ℕ) → length folder ≡ 0 → path ≡ folder ++ codes "/" ++ name → path ≡ codes "/" ++ name
at_start path name [] none is = is
at_start path name (byte ∷ folder) none is = absurd (omega (arith, none))

module _ (path folder name : List ℕ) (cut : SplitsAroundMatch (RFindsChar 47) path folder name) (is_empty : Bool) (told : is_empty ≡ (length folder == 0)) where
  pub before_slash : is_empty ≡ false → LiesIn path folder
  before_slash some =
      let apart = eqb-false (length folder) 0 (sym told ∙ some) in
      ∣ record { name = name; last = split_last path folder name cut; is = inl (split_whole path folder name cut, omega (arith, apart)) } ∣₁

  pub at_root : is_empty ≡ true → LiesIn path (codes "/")
  at_root none =
      let whole : path ≡ codes "/" ++ name = at_start path name folder (eqb-true (length folder) 0 (sym told ∙ none)) (split_whole path folder name cut) in
      ∣ record { name = name; last = split_last path folder name cut; is = inr (inl (whole, refl)) } ∣₁

pub without_slash : (path : List ℕ) → HasNoSlash path → LiesIn path (codes ".")
without_slash path none = ∣ record { name = path; last = none; is = inr (inr (refl, refl)) } ∣₁
