-- The entries that a tree lacks, and their lines behind a sign, in parts.
use Rattle.std.proofs.Common.{◌≡◌, suc, ℕ, List, [], ◌∷◌, ◌++◌, Bool, true, false, ◌||◌, cond, Option, refl, sym, ap, subst, ◌∙◌, append_assoc, append-nil, length, arith}
use Rattle.std.proofs.lemmas.Bool.{lt-ltb}
use Rattle.std.specs.Prelude.{ltb}
use Rattle.std.specs.Io.KnownBytes.{Appends}
use Rattle.cedarwood.specs.Queries.{Entry}
use Rattle.cedarwood.specs.State.{after_put, State}
use Rattle.cedarwood.specs.Tree.{Tree}
use Rattle.cedarwood.specs.Builds.{all_stored}
use Rattle.device_lines.specs.Written.{AppendsFront, WritesFront}
use Rattle.word_lists.specs.Lines.{entries_missing, holds_entry, signed_line, signed_lines}
use Rattle.device_lines.proofs.Bytes.{front_after, front_more}

-- entries that are stored, and one more
pub stored_more : (s : State) (came : List Entry) (e : Entry) → all_stored s (came ++ e ∷ []) ≡ after_put (all_stored s came) e.0 e.1
stored_more s [] e = refl
stored_more s (x ∷ came) e = stored_more (after_put s x.0 x.1) came e

lacking-append : (tree : Tree) (a b : List Entry) → entries_missing tree (a ++ b) ≡ entries_missing tree a ++ entries_missing tree b
lacking-append tree [] b = refl
lacking-append tree (x ∷ a) b =
    elim (holds_entry tree x) as (λ held. cond held (entries_missing tree (a ++ b)) (x ∷ entries_missing tree (a ++ b)) ≡ cond held (entries_missing tree a) (x ∷ entries_missing tree a) ++ entries_missing tree b) [
      | true ↦ lacking-append tree a b
      | false ↦ ap (λ l. x ∷ l) (lacking-append tree a b)
    ]

signed-append : (sign : List ℕ) (a b : List Entry) → signed_lines sign (a ++ b) ≡ signed_lines sign a ++ signed_lines sign b
signed-append sign [] b = refl
signed-append sign (e ∷ a) b = ap (λ l. signed_line sign e ++ l) (signed-append sign a b) ∙ sym (append_assoc (signed_line sign e) (signed_lines sign a) (signed_lines sign b))

-- the lines of those that are lacking, in two parts
pub lacking_lines : (sign : List ℕ) (tree : Tree) (a b : List Entry)
    → signed_lines sign (entries_missing tree (a ++ b)) ≡ signed_lines sign (entries_missing tree a) ++ signed_lines sign (entries_missing tree b)
lacking_lines sign tree a b = ap (signed_lines sign) (lacking-append tree a b) ∙ signed-append sign (entries_missing tree a) (entries_missing tree b)

some_of : (a b : List Entry) → ltb 0 (length (a ++ b)) ≡ (ltb 0 (length a) || ltb 0 (length b))
some_of [] b = refl
some_of (e ∷ a) b = lt-ltb 0 (suc (length (a ++ b))) (omega arith) ∙ ap (λ t. t || ltb 0 (length b)) (sym (lt-ltb 0 (suc (length a)) (omega arith)))

-- whether one is lacking, in two parts
pub lacking_some : (tree : Tree) (a b : List Entry) → ltb 0 (length (entries_missing tree (a ++ b))) ≡ (ltb 0 (length (entries_missing tree a)) || ltb 0 (length (entries_missing tree b)))
lacking_some tree a b = ap (λ (l : List Entry). ltb 0 (length l)) (lacking-append tree a b) ∙ some_of (entries_missing tree a) (entries_missing tree b)

-- the line of one entry that is lacking
pub one_lacking : (sign : List ℕ) (tree : Tree) (e : Entry) → holds_entry tree e ≡ false → signed_line sign e ≡ signed_lines sign (entries_missing tree (e ∷ []))
one_lacking sign tree e lacks =
    sym (append-nil (signed_line sign e)) ∙ ap (λ (held : Bool). signed_lines sign (cond held [] (e ∷ []))) (sym lacks)

-- and one that is held has none
pub none_lacking : (sign : List ℕ) (tree : Tree) (e : Entry) → holds_entry tree e ≡ true → [] ≡ signed_lines sign (entries_missing tree (e ∷ []))
none_lacking sign tree e held = ap (λ (held : Bool). signed_lines sign (cond held [] (e ∷ []))) (sym held)

pub nothing_lacking : (tree : Tree) (e : Entry) → holds_entry tree e ≡ true → false ≡ ltb 0 (length (entries_missing tree (e ∷ [])))
nothing_lacking tree e held = ap (λ (held : Bool). ltb 0 (length (cond held [] (e ∷ [])))) (sym held)

pub some_lacking : (tree : Tree) (e : Entry) → holds_entry tree e ≡ false → true ≡ ltb 0 (length (entries_missing tree (e ∷ [])))
some_lacking tree e lacks =
    sym (lt-ltb 0 1 (omega arith)) ∙ ap (λ (held : Bool). ltb 0 (length (cond held [] (e ∷ [])))) (sym lacks)

-- the lines of some entries were written, and a front of the next one's
pub lacking_stopped : (sign : List ℕ) (tree : Tree) (a b d : Option (List ℕ)) (entries came later : List Entry) (e : Entry) → entries ≡ came ++ e ∷ later
    → Appends a b (signed_lines sign (entries_missing tree came)) → WritesFront b d (signed_lines sign (entries_missing tree (e ∷ [])))
    → WritesFront a d (signed_lines sign (entries_missing tree entries))
lacking_stopped sign tree a b d entries came later e whole written front =
    subst (WritesFront a d) (sym (ap (λ l. signed_lines sign (entries_missing tree l)) whole ∙ lacking_lines sign tree came (e ∷ later)
    ∙ ap (λ l. signed_lines sign (entries_missing tree came) ++ l) (lacking_lines sign tree (e ∷ []) later)))
    (front_after a b d (signed_lines sign (entries_missing tree came)) (signed_lines sign (entries_missing tree (e ∷ [])) ++ signed_lines sign (entries_missing tree later)) written
    (front_more b d (signed_lines sign (entries_missing tree (e ∷ []))) (signed_lines sign (entries_missing tree later)) front))

-- the lines of some entries were written, and nothing of the others
pub lacking_begun : (sign : List ℕ) (tree : Tree) (a b : Option (List ℕ)) (entries came later : List Entry) → entries ≡ came ++ later
    → Appends a b (signed_lines sign (entries_missing tree came)) → AppendsFront a b (signed_lines sign (entries_missing tree entries))
lacking_begun sign tree a b entries came later whole written = (
  signed_lines sign (entries_missing tree came),
  signed_lines sign (entries_missing tree later),
  ap (λ l. signed_lines sign (entries_missing tree l)) whole ∙ lacking_lines sign tree came later,
  written,
)

-- a front that isn't all is one that may be
pub or_all : (a b : Option (List ℕ)) (bytes : List ℕ) → WritesFront a b bytes → AppendsFront a b bytes
or_all a b bytes h = (h.0, h.1, h.3, h.4)
