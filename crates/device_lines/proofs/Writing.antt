-- What calls say that write bytes one after another.
use Rattle.std.proofs.Common.{◌≡◌, ℕ, List, [], ◌++◌, Option, ap, ◌∙◌, refl, subst}
use Rattle.std.specs.Prelude.{Result, Ok, Err}
use Rattle.std.specs.Result.{IsErrAnd}
use Rattle.device_lines.specs.WatchedDevice.{device_of}
use Rattle.device_lines.specs.declared.watched.Watched.{Watched}
use Rattle.device_lines.specs.Written.{BreaksOff, WritesBytes}
use Rattle.device_lines.proofs.Bytes.{Appends-append, Appends-none, front_after, front_more}

module _ {X Y E D : Type 0} {contents : D → Option (List ℕ)} {fault : E} where
  -- a call failed, and its fault is passed on: a front of these bytes was written
  pub breaks_off : {a b c : Watched D} {part bytes : List ℕ} {e : E} {r : Result X E}
      → IsErrAnd r (λ y. y ≡ e) → WritesBytes {X = Y} contents fault b c part (Err e) → BreaksOff contents a c bytes → WritesBytes contents fault a c bytes r
  breaks_off {r = Ok x} is w front = absurd is
  breaks_off {e = e} {r = Err y} is w front = record {
    ok = tt;
    err = front;
    faults = record { unfailed = tt; cause = (let same : e ≡ fault = let told = w.faults.cause.0 in cc in ap Err (is ∙ same), w.faults.cause.1) };
  }

  -- the same where the call was to write all of them
  pub breaks_all : {a c : Watched D} {bytes : List ℕ} {e : E} {r : Result X E}
      → IsErrAnd r (λ y. y ≡ e) → WritesBytes {X = Y} contents fault a c bytes (Err e) → WritesBytes contents fault a c bytes r
  breaks_all is w = breaks_off is w w.err

  -- and where it was to write the first part of them
  pub breaks_first : {a c : Watched D} {part : List ℕ} {e : E} {r : Result X E} (more : List ℕ)
      → IsErrAnd r (λ y. y ≡ e) → WritesBytes {X = Y} contents fault a c part (Err e) → WritesBytes contents fault a c (part ++ more) r
  breaks_first {a = a} {c = c} {part = part} more is w = breaks_off is w (front_more (contents (device_of a)) (contents (device_of c)) part more w.err)

  -- a part was written, and then a call writes the rest, or fails
  pub then_writes : {a b c : Watched D} {done bytes : List ℕ} {x : Y} {r : Result X E}
      → WritesBytes {X = Y} contents fault a b done (Ok x) → WritesBytes contents fault b c bytes r → WritesBytes contents fault a c (done ++ bytes) r
  then_writes {a = a} {b = b} {c = c} {done = done} {bytes = bytes} {r = Ok y} p w = record {
    ok = Appends-append (contents (device_of a)) (contents (device_of b)) (contents (device_of c)) done bytes p.ok w.ok;
    err = tt;
    faults = record { unfailed = w.faults.unfailed ∙ p.faults.unfailed; cause = tt };
  }
  then_writes {a = a} {b = b} {c = c} {done = done} {bytes = bytes} {r = Err y} p w = record {
    ok = tt;
    err = front_after (contents (device_of a)) (contents (device_of b)) (contents (device_of c)) done bytes p.ok w.err;
    faults = record { unfailed = tt; cause = w.faults.cause };
  }

  -- all was written, and another value is returned
  pub writes_all : {a c : Watched D} {bytes : List ℕ} {x : Y} {y : X}
      → WritesBytes {X = Y} contents fault a c bytes (Ok x) → WritesBytes {X = X} contents fault a c bytes (Ok y)
  writes_all w = record { ok = w.ok; err = tt; faults = record { unfailed = w.faults.unfailed; cause = tt } }

-- no byte is written
pub writes_nothing : {X E D : Type 0} {contents : D → Option (List ℕ)} {fault : E} {a : Watched D} {x : X} → WritesBytes contents fault a a [] (Ok x)
writes_nothing {contents = contents} {a = a} = record { ok = Appends-none (contents (device_of a)); err = tt; faults = record { unfailed = refl; cause = tt } }

-- the same bytes in other words
pub writes_same : {X E D : Type 0} {contents : D → Option (List ℕ)} {fault : E} {a b : Watched D} {bytes same : List ℕ} {r : Result X E}
    → bytes ≡ same → WritesBytes contents fault a b bytes r → WritesBytes contents fault a b same r
writes_same {contents = contents} {fault = fault} {a = a} {b = b} {r = r} e w = subst (λ l. WritesBytes contents fault a b l r) e w
