use Rattle.std.proofs.Common.{◌≡◌, ℕ, List, [], ◌+◌, ◌/◌, ◌%◌, ◌∷◌, ◌++◌, ◌∙◌, append_assoc, ap, arith, length, rules}
use mir.Val.{of_z}
use mir.Syntax.{w32}
use Rattle.cedar_journal.specs.Records.{length_bytes}
use Rattle.cedar_journal.proofs.Numbers.{told_length}
use Rattle.cedar_store.proofs.Payloads.{fits, made_put, value_is_sound}
use Rattle.cedar_store.proofs.frames.push_put.Goals as goal

pub returns-clause-pushed : goal.returns-clause-pushed
returns-clause-pushed g c =
    let n = of_z w32 c.args.value in
    let key = c.args.key.now in
    let m = length key + 5 in
    let before = c.args.bytes.now.items in
    let head : List ℕ =
    1 ∷ m % 256 ∷ m / 256 % 256 ∷ m / 65536 % 256 ∷ m / 16777216 % 256 ∷ 1 ∷ n % 256 ∷ n / 256 % 256 ∷ n / 65536 % 256 ∷ n / 16777216 % 256 ∷ [] in
    let payload = 1 ∷ n % 256 ∷ n / 256 % 256 ∷ n / 65536 % 256 ∷ n / 16777216 % 256 ∷ key in
    let first : c.extend_from_slice.new.self.items ≡ before ++ head = search rules in
    let second : c.extend_from_slice-2.new.self.items ≡ c.extend_from_slice.new.self.items ++ key = search rules in
    let is : c.extend_from_slice-2.new.self.items ≡ before ++ (1 ∷ m % 256 ∷ m / 256 % 256 ∷ m / 65536 % 256 ∷ m / 16777216 % 256 ∷ payload) =
    second ∙ ap (λ (l : List ℕ). l ++ key) first ∙ append_assoc before head key in
    let long : m ≡ length payload = omega arith in
    record {
      payload = payload;
      behind = is ∙ ap (λ l. before ++ (1 ∷ (length_bytes l ++ payload))) long;
      change = made_put key c.args.value (n % 256) (n / 256 % 256) (n / 65536 % 256) (n / 16777216 % 256) c.requires (told_length n (fits c.args.value (value_is_sound key c.args.value c.requires)));
      size = omega arith;
      short = omega arith;
    }
