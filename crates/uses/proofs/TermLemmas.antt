-- Terms of a glossary: its keys stay texts, and in a text each is whole characters.
use Rattle.std.proofs.Common.{◌≡◌, ℕ, ℤ, List, All, Result, Ok, Err, OnErr, OnOk, IsUtf8, sym, subst}
use Rattle.cedarwood.specs.State.{after_put, State}
use Rattle.cedar_words.specs.Words.{AreWholeCharacters, HasUtf8Keys, keywords_in, Spot}
use Rattle.cedar_words.proofs.CharacterLemmas.{keywords_whole, put_utf8}

-- after an update the keys are texts still
pub updated_utf8 : {E : Type 0} (result : Result (Unit {0}) E) (before after : State) (key : List ℕ) (v : ℤ) → OnOk result (after ≡ after_put before key v) → OnErr result (after ≡ before) → IsUtf8 key
    → HasUtf8Keys before.tree → HasUtf8Keys after.tree
updated_utf8 (Ok done) before after key v ok err utf8 keys = subst (λ (s : State). HasUtf8Keys s.tree) (sym ok) (put_utf8 before.tree before.ordered key v keys utf8)
updated_utf8 (Err e) before after key v ok err utf8 keys = subst (λ (s : State). HasUtf8Keys s.tree) (sym err) keys

-- each keyword of a text is whole characters of it, as far as a state's keys are texts
pub terms_whole : (before now : State) (text : List ℕ) → before ≡ now → HasUtf8Keys before.tree → IsUtf8 text → All (λ (s : Spot). AreWholeCharacters text s.0 s.1) (keywords_in now.tree text)
terms_whole before now text same keys utf8 = keywords_whole now.tree text utf8 (subst (λ (s : State). HasUtf8Keys s.tree) same keys)
