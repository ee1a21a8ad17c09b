use Rattle.std.proofs.Common.{◌≡◌, ℕ, List, [], ◌+◌, ◌/◌, ◌%◌, ◌∷◌, ◌++◌, ◌∙◌, append_assoc, ap, refl, arith, length, rules}
use Rattle.cedar_journal.specs.Records.{length_bytes}
use Rattle.cedar_store.proofs.Payloads.{of_erase}
use Rattle.cedar_store.proofs.frames.push_erase.Goals as goal

pub returns-clause-pushed : goal.returns-clause-pushed
returns-clause-pushed g c =
    let key = c.args.key.now in
    let m = length key + 1 in
    let before = c.args.bytes.now.items in
    let head : List ℕ = 1 ∷ m % 256 ∷ m / 256 % 256 ∷ m / 65536 % 256 ∷ m / 16777216 % 256 ∷ 0 ∷ [] in
    let payload = 0 ∷ key in
    let first : c.extend_from_slice.new.self.items ≡ before ++ head = search rules in
    let second : c.extend_from_slice-2.new.self.items ≡ c.extend_from_slice.new.self.items ++ key = search rules in
    let is : c.extend_from_slice-2.new.self.items ≡ before ++ (1 ∷ m % 256 ∷ m / 256 % 256 ∷ m / 65536 % 256 ∷ m / 16777216 % 256 ∷ payload) =
    second ∙ ap (λ (l : List ℕ). l ++ key) first ∙ append_assoc before head key in
    let long : m ≡ length payload = omega arith in
    record {
      payload = payload;
      behind = is ∙ ap (λ l. before ++ (1 ∷ (length_bytes l ++ payload))) long;
      change = of_erase payload (omega arith) refl;
      size = omega arith;
      short = omega arith;
    }
