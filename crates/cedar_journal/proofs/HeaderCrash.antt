-- What a crash leaves of a header that is under way.
use Rattle.std.proofs.Common.{◌≡◌, ℕ, List, [], ◌∷◌, length, get_or, sym, ◌∙◌, ap, arith}
use Rattle.std.specs.Prelude.{Some}
use Rattle.cedar_journal.specs.declared.format.Format.TheVariants.{Summed}
use Rattle.cedar_journal.specs.Device.{Torn, Cut}
use Rattle.cedar_journal.specs.Files.{IsNewFile, header_frame, file_payloads}
use Rattle.cedar_journal.proofs.Crash.{torn_gate}
use Rattle.cedar_journal.proofs.Tears.{torn_front}
use Rattle.cedar_journal.proofs.Headers.{cut_stands, empty_stands, byte_stands, closed_stands, gate_stands}

pub cut_leaves : (file c : List ℕ) (n : ℕ) → IsNewFile file → Cut n file c → file_payloads c ≡ Some []
cut_leaves file c n new cut = ap file_payloads (sym cut.front) ∙ cut_stands (length c) file new

-- the first byte
pub torn_byte : (c : List ℕ) → Torn 0 1 [] c → file_payloads c ≡ Some []
torn_byte [] torn = empty_stands
torn_byte (gate ∷ []) torn = byte_stands gate
torn_byte (gate ∷ other ∷ rest) torn = absurd (omega (arith, torn.no_longer))

-- what follows the closed gate
pub torn_frame : (c : List ℕ) → Torn 1 13 (0 ∷ []) c → file_payloads c ≡ Some []
torn_frame [] torn = empty_stands
torn_frame (gate ∷ rest) torn =
    let shut : gate ≡ 0 = ap (λ (l : List ℕ). get_or l 0 0) (torn_front 1 13 (0 ∷ []) (gate ∷ rest) (omega arith) torn) in
    ap (λ g. file_payloads (g ∷ rest)) shut ∙ closed_stands rest (omega (arith, torn.no_longer))

-- the gate
pub torn_gate_of_header : (c : List ℕ) → Torn 0 1 (0 ∷ header_frame Summed) c → file_payloads c ≡ Some []
torn_gate_of_header c torn = ap file_payloads (torn_gate [] 0 (omega arith) (header_frame Summed) c torn) ∙ gate_stands (get_or c 0 0)
