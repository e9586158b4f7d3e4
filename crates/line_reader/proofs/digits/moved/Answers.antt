use Rattle.line_reader.proofs.Cited.{◌≡◌, ◌+◌, ◌*◌, ◌/◌, ◌%◌, ◌^◌, ℕ, ap, ◌∙◌, arith, w8, bit_and, below_from_Fits, digits_l}
use Rattle.std.proofs.lemmas.Nat.{and_mask}
use Rattle.line_reader.proofs.DigitLanes.{moved_by, joined_halves}
use Rattle.line_reader.proofs.digits.moved.Goals as goal

pub returns : goal.returns
returns c =
    let xs = c.args.lanes in
    let below = below_from_Fits w8 xs c.fits-lanes.1 in
    let number = (c.from.result * 2 ^ 64 % 2 ^ 128 + c.from-2.result) * 2 ^ (8 * c.args.by) % 2 ^ 128 in
    let masked : bit_and number c.from-3.result ≡ number % 2 ^ 64 = ap (bit_and number) c.from-3.ensures ∙ and_mask number 64 in
    let whole : bit_and number c.from-3.result + 2 ^ 64 * (number / 2 ^ 64 + 0) ≡ number = omega (arith, masked) in
    let joined = joined_halves xs c.from-2.result c.from.result c.fits-lanes.0 below c.from-2.ensures c.from.ensures in
    ap (digits_l 256 16) whole
    ∙ moved_by xs c.args.by number c.fits-lanes.0 below c.requires (ap (λ (n : ℕ). n * 2 ^ (8 * c.args.by) % 2 ^ 128) joined)
