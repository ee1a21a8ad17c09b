-- Exclusive or as the step from a base to a slot.
use Rattle.std.proofs.Common.{◌≡◌, ℕ, ◌<◌, sym, ◌∙◌, ap, arith}
use Rattle.std.specs.Prelude.{◌%◌, pos}
use Rattle.std.specs.Int.Bits.{bit_xor, xor_self, xor_zero_l, xor_zero_r}
use lib.Bits.{xor_assoc}
use Rattle.cedar_slots.proofs.RingsLemmas.InBlock.{xor_block}

-- a step back and forth from the same base
pub xor_back : (b l : ℕ) → bit_xor b (bit_xor b l) ≡ l
xor_back b l = sym (xor_assoc b b l) ∙ ap (λ x. bit_xor x l) (xor_self b) ∙ xor_zero_l l

-- a step from a base by a label, and back by the same label
pub xor_again : (b l : ℕ) → bit_xor (bit_xor b l) l ≡ b
xor_again b l = xor_assoc b l l ∙ ap (bit_xor b) (xor_self l) ∙ xor_zero_r b

pub xor_injective : (b x y : ℕ) → bit_xor b x ≡ bit_xor b y → x ≡ y
xor_injective b x y e = sym (xor_back b x) ∙ ap (bit_xor b) e ∙ xor_back b y

-- a step by a label stays among the slots in use
pub xor_within : (size b l : ℕ) → size % 256 ≡ 0 → b < size → l < 256 → bit_xor b l < size
xor_within size b l e h s = omega (arith, xor_block b l s)

pub pos_injective : (a b : ℕ) → pos a ≡ pos b → a ≡ b
pos_injective a b e = cc
