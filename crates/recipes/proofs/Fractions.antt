-- Floors of slopes: up to 255 places from the observer, those of 65536 times the slope are ordered as the fractions are.
use Rattle.std.proofs.Common.{◌≡◌, ap, ℕ, ◌+◌, ◌*◌, ◌<◌, ◌≤◌, ℤ, pos, ◌+ℤ◌, ◌*ℤ◌, arith}
use Rattle.std.specs.Prelude.{int_lt, ◌≤ℤ◌, ◌<ℤ◌}
use Rattle.std.proofs.lemmas.Int.{ints, by_lt_z}
use Rattle.std.proofs.Math.Nat.{mul-le-mul_right}
use borrow.Author.Differences.{up, down}
use Rattle.cvl_base.specs.Integers.{IsFloor}

-- d * 65536 = f * i + l, times j
scaled : (d f : ℤ) (i j l : ℕ) → d *ℤ pos 65536 ≡ f *ℤ pos i +ℤ pos l → (d *ℤ pos j) *ℤ pos 65536 ≡ f *ℤ pos (i * j) +ℤ pos (l * j)
scaled d f i j l e =
    let parts : up d * 65536 + down f * i ≡ down d * 65536 + up f * i + l = omega (arith, ints) in
    let times = ap (λ n. n * j) parts in
    omega (arith, ints)

below_times : (a b : ℤ) (n : ℕ) → a <ℤ b → (a *ℤ pos n +ℤ pos n) ≤ℤ (b *ℤ pos n)
below_times a b n h =
    let parts : up a + down b + 1 ≤ up b + down a = omega (arith, ints) in
    let times = mul-le-mul_right n parts in
    omega (arith, ints)

at_most_times : (a b : ℤ) (n : ℕ) → a ≤ℤ b → (a *ℤ pos n) ≤ℤ (b *ℤ pos n)
at_most_times a b n h =
    let parts : up a + down b ≤ up b + down a = omega (arith, ints) in
    let times = mul-le-mul_right n parts in
    omega (arith, ints)

part_below : (l i j : ℕ) → l < i → 0 < j → l * j < i * j
part_below l i j h positive = let times = mul-le-mul_right j h in omega arith

apart : (x y a b : ℤ) (m k n : ℕ) → x *ℤ pos 65536 ≡ a +ℤ pos m → y *ℤ pos 65536 ≡ b +ℤ pos k → k < n → (b +ℤ pos n) ≤ℤ a → y <ℤ x
apart x y a b m k n p q h above = omega (arith, ints)

not_apart : (x y a b : ℤ) (m k n : ℕ) → x *ℤ pos 65536 ≡ a +ℤ pos m → y *ℤ pos 65536 ≡ b +ℤ pos k → m < n → n < 65536 → a ≤ℤ b → x ≤ℤ y
not_apart x y a b m k n p q h small below = omega (arith, ints)

both_less : (a b c d : ℤ) → a <ℤ b → c <ℤ d → int_lt a b ≡ int_lt c d
both_less a b c d p q = grind (arith, ints)

neither_less : (a b c d : ℤ) → b ≤ℤ a → d ≤ℤ c → int_lt a b ≡ int_lt c d
neither_less a b c d p q = grind (arith, ints)

-- the fractions d / i and e / j, by their floors f and g
pub floors_as_fractions : (d e f g : ℤ) (i j : ℕ) → IsFloor (d *ℤ pos 65536) i f → IsFloor (e *ℤ pos 65536) j g → i < 256 → j < 256 → int_lt g f ≡ int_lt (e *ℤ pos i) (d *ℤ pos j)
floors_as_fractions d e f g i j p q i_small j_small =
    let first = scaled d f i j p.left p.again in
    let second = scaled e g j i q.left q.again in
    let turned : g *ℤ pos (j * i) ≡ g *ℤ pos (i * j) = ap (λ n. g *ℤ pos n) (omega arith) in
    let first_left = part_below p.left i j p.smaller (omega (arith, q.smaller)) in
    let second_left : q.left * i < i * j = let h = part_below q.left j i q.smaller (omega (arith, p.smaller)) in omega arith in
    let few : i * j < 65536 = let i_most : i ≤ 255 = omega arith in omega (arith, mul-le-mul_right j i_most) in
    by_lt_z g f
    (λ below. both_less g f (e *ℤ pos i) (d *ℤ pos j) below (apart (d *ℤ pos j) (e *ℤ pos i) (f *ℤ pos (i * j)) (g *ℤ pos (i * j)) (p.left * j) (q.left * i) (i * j) first
    (omega (arith, ints)) second_left (below_times g f (i * j) below)))
    (λ above. neither_less g f (e *ℤ pos i) (d *ℤ pos j) above (not_apart (d *ℤ pos j) (e *ℤ pos i) (f *ℤ pos (i * j)) (g *ℤ pos (i * j)) (p.left * j) (q.left * i) (i * j) first
    (omega (arith, ints)) first_left few (at_most_times f g (i * j) above)))
