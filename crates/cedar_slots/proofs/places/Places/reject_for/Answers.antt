use Rattle.std.proofs.Common.{◌≡◌, ◌+◌, ◌≤◌, ◌≤ℤ◌, ◌∙◌, ℕ, ℤ, ap, arith, get_or, List, negsuc, of_z, pos, refl, subst, sym, to_z, w16}
use Rattle.std.proofs.lemmas.Int.{ints, to_z_pos, to_z-of_z}
use Rattle.std.proofs.lemmas.List.{get_or_read}
use Rattle.cedar_slots.specs.Places.{reject_at, Rejects, Within}
use Rattle.cedar_slots.proofs.places.Places.reject_for.Goals as goal
use lib.IntN.{nat_abs}

-- the index that a number of free slots is
index_of : (num : ℤ) → pos 0 ≤ℤ num → num ≤ℤ pos 256 → (n : ℕ) × (num ≡ pos n) × (n ≤ 256) × (nat_abs (to_z w16 (of_z w16 num)) ≡ n)
index_of (pos n) low high = (n, refl, omega (arith, ints), ap nat_abs (to_z_pos w16 n (omega (arith, ints))))
index_of (negsuc n) low high = absurd (omega (arith, ints))

-- the reject value that is read there
read_at : (rejects : List ℤ) (v : ℤ) (i n : ℕ) → Rejects rejects → n ≤ 256 → i ≡ n → v ≡ get_or rejects i v → to_z w16 (of_z w16 v) ≡ reject_at rejects n
read_at rejects v i n all few is read =
    let at : v ≡ reject_at rejects n = get_or_read rejects n v (omega (arith, all.len)) (read ∙ ap (λ k. get_or rejects k v) is) (pos 1) in
    let bounds : Within (pos 1) v (pos (n + 1)) = subst (λ z. Within (pos 1) z (pos (n + 1))) (sym at) (all.value n few) in
    to_z-of_z w16 v (omega (arith, ints)) ∙ at

wider : (z : ℤ) (n : ℕ) → n ≤ 256 → Within (pos 1) z (pos (n + 1)) → Within (pos 1) z (pos 257)
wider z n few bounds = record { least = bounds.least; most = omega (arith, ints) }

pub index-requires : goal.index-requires
index-requires g c =
    let at = index_of c.args.num c.requires.natural c.requires.at_most in
    omega (arith, at.2, at.3, c.requires.rejects.len)

pub returns-clause-value : goal.returns-clause-value
returns-clause-value g c n is =
    let at = index_of c.args.num c.requires.natural c.requires.at_most in
    let same : at.0 ≡ n = omega (arith, ap nat_abs at.1, ap nat_abs is) in
    subst (λ k. to_z w16 (of_z w16 c.index.result.now) ≡ reject_at c.args.self.now.reject.items k) same (read_at c.args.self.now.reject.items c.index.result.now _ at.0 c.requires.rejects at.2 at.3 c.index.ensures)

pub returns-clause-bounds : goal.returns-clause-bounds
returns-clause-bounds g c =
    let at = index_of c.args.num c.requires.natural c.requires.at_most in
    let is = read_at c.args.self.now.reject.items c.index.result.now _ at.0 c.requires.rejects at.2 at.3 c.index.ensures in
    subst (λ z. Within (pos 1) z (pos 257)) (sym is) (wider _ at.0 at.2 (c.requires.rejects.value at.0 at.2))
