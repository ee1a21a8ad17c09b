-- What is said of a watched writer by what a call returns. `before` and `after` are whether it had failed before the
-- call and after it.
use Rattle.std.specs.Prelude.{◌≡◌, Bool, true, Result, Err, OnOk}
use Rattle.word_lists.specs.declared.write.ListError.{ListError}
use Rattle.word_lists.specs.declared.write.ListError.TheVariants.{Write, Memory}

-- lines are written; or the writer failed; or memory is wanting, and then the writer didn't fail
pub record LinesOrFails {X : Type 0} (before after : Bool) (result : Result X ListError) : Type 0 where
  pub unfailed : OnOk result (after ≡ before)
  pub cause : result ≡ Err Write → after ≡ true
  pub starved : result ≡ Err Memory → after ≡ before
