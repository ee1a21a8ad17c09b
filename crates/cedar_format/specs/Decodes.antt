-- What a decoding promises, whatever it reads from.
use Rattle.std.specs.Prelude.{◌≡◌, ℕ, Bool, true, false, List, ◌++◌, Option, Result}
use Rattle.std.specs.Prelude.{IfErr, IfOk, IfSome, IsErrAnd, OnOk}
use Rattle.std.specs.Io.KnownBytes.{Consumes, IsAtEnd}
use Rattle.cedar_format.specs.declared.body.Decoded.{Decoded}
use Rattle.cedar_format.specs.declared.error.CedarPersistenceError.{CedarPersistenceError}
use Rattle.cedar_format.specs.Format.{listed_bytes, listed_in, DecodeAnswers}
use Rattle.cedar_format.specs.Format.{IsFile, IsHeader, Passes}
use Rattle.cedar_format.specs.Reading.{IsIo, LacksNoMore}

-- all that a decoding promises of a source that had `before` left and has `after` now. `failed` is whether a read of
-- the source has failed so far, `cut` whether one has returned the input's end as a fault
pub record DecodesBy {A : Type 0} (layout slots limit : ℕ) (before after : Option (List ℕ)) (failed cut : Bool) (result : Result (Decoded A) CedarPersistenceError) : Type 0 where
  -- whatever the source does, fields come only with exactly their bytes
  pub bytes : IfOk result (λ d. (front : List ℕ) × IsHeader layout front d.header
      × Consumes before after (front ++ listed_bytes (listed_in d.header) d.nodes.items d.n_infos.items d.blocks.items d.reject.items))
  pub file : IfOk result (λ d. IsFile slots limit d.header d.nodes.items d.n_infos.items d.blocks.items d.reject.items)
  -- a source that reports its bytes and doesn't fail gets the first refusal, if there is one
  pub answer : IfSome before (λ bytes. failed ≡ false → DecodeAnswers layout slots limit bytes result)
  pub at_end : OnOk result (failed ≡ false → IsAtEnd after)
  -- so does one that fails, unless the result is `Io`: what was read in between is as it was
  pub decided : (IsErrAnd result IsIo → ⊥) → IfSome before (λ bytes. cut ≡ false → DecodeAnswers layout slots limit bytes result)
  pub whole : OnOk result (cut ≡ false → IsAtEnd after)
  pub io : IfErr result (λ e. IsIo e → failed ≡ true)
  pub lacks : IfErr result (LacksNoMore (Passes layout slots limit before))
