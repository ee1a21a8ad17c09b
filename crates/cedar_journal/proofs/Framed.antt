-- Frames of version 2, and what they are in version 1.
use Rattle.std.proofs.Common.{◌≡◌, ℕ, ◌+◌, ◌-◌, List, [], ◌∷◌, length, take, drop, sym, ◌∙◌, ap, arith, length-drop}
use Rattle.std.proofs.lemmas.List.{take_all, take_at}
use Rattle.cedar_journal.specs.declared.format.Format.TheVariants.{Plain, Summed}
use Rattle.cedar_journal.specs.Formats.{frame_of, payload_of_frame}
use Rattle.cedar_journal.proofs.Readings.{length-frame}

pub unframed_frame : (payload : List ℕ) → payload_of_frame (frame_of Summed payload) ≡ payload
unframed_frame payload = take_at payload (0 ∷ []) (length (frame_of Summed payload) - 9) (omega (arith, length-frame Summed payload))

module _ (bytes payload : List ℕ) (is : bytes ≡ frame_of Summed payload) where
  pub its_payload : payload_of_frame bytes ≡ payload
  its_payload = ap payload_of_frame is ∙ unframed_frame payload

  pub its_frame : bytes ≡ frame_of Summed (payload_of_frame bytes)
  its_frame = is ∙ ap (frame_of Summed) (sym its_payload)

  pub its_size : length bytes ≡ 9 + length payload
  its_size = ap length is ∙ length-frame Summed payload

-- without its sum
pub plain_part : (bytes : List ℕ) → bytes ≡ frame_of Summed (payload_of_frame bytes) → take (length bytes - 4) (drop 4 bytes) ≡ frame_of Plain (payload_of_frame bytes)
plain_part bytes is = take_all (length bytes - 4) (drop 4 bytes) (omega (arith, length-drop 4 bytes)) ∙ ap (λ (l : List ℕ). drop 4 l) is
