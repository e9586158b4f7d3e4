use Rattle.std.proofs.Common.{◌≡◌, ℕ, ◌+◌, ◌-◌, ◌/◌, ◌%◌, ◌^◌, ◌<◌, ◌∙◌, sym, ap, refl, arith, lit<, ℤ, pos, negsuc, ◌+ℤ◌, ◌-ℤ◌, ◌*ℤ◌, w32, to_z}
use Rattle.std.specs.Int.{int_wrap}
use Rattle.std.proofs.Math.Nat.{mod-lt}
use Rattle.std.proofs.Math.IntN.{*ℤ-zero}
use Rattle.std.proofs.lemmas.Int.{ints, int_wrap-mul_right, int_wrap-add_right, int_wrap_fits, SFits-int_wrap}
use Rattle.operators.specs.Integers.{IsWrapped, wrap}
use Rattle.operators.proofs.operator_laws.wrap_law.Goals as goal

-- bits of which the highest is set are one turn above their signed number
bits-turns : (r : ℕ) → r < 2 ^ 32 → pos r ≡ to_z w32 r +ℤ pos (r / 2 ^ 31) *ℤ pos (2 ^ 32)
bits-turns r h = grind (arith, ints)

is_wrapped : (x : ℤ) → IsWrapped x (wrap x)
unfolding int_wrap
is_wrapped (pos a) = record {
  fits = SFits-int_wrap w32 (pos a);
  congruent = (pos (a / 2 ^ 32 + a % 2 ^ 32 / 2 ^ 31), omega (arith, ints, bits-turns (a % 2 ^ 32) (mod-lt a (lit< tt))));
}
is_wrapped (negsuc a) = record {
  fits = SFits-int_wrap w32 (negsuc a);
  congruent = let r = 2 ^ 32 - 1 - a % 2 ^ 32 in (pos (r / 2 ^ 31) -ℤ pos (a / 2 ^ 32 + 1), omega (arith, ints, bits-turns r (omega arith)));
}

-- whole turns wrap to 0
turns-wrap : (turns : ℤ) → wrap (turns *ℤ pos (2 ^ 32)) ≡ pos 0
unfolding int_wrap
turns-wrap turns =
    sym (int_wrap-mul_right w32 turns (pos (2 ^ 32)))
    ∙ ap (λ z. wrap (turns *ℤ z)) (let whole : wrap (pos (2 ^ 32)) ≡ pos 0 = refl in whole)
    ∙ ap wrap (*ℤ-zero turns)

only_wrapped : (x wrapped : ℤ) → IsWrapped x wrapped → wrapped ≡ wrap x
only_wrapped x wrapped h =
    let turns = h.congruent.0 in
    sym (ap wrap h.congruent.1
    ∙ sym (int_wrap-add_right w32 wrapped (turns *ℤ pos (2 ^ 32)))
    ∙ ap (λ z. wrap (wrapped +ℤ z)) (turns-wrap turns)
    ∙ ap wrap (omega (arith, ints))
    ∙ int_wrap_fits w32 wrapped h.fits)

pub returns : goal.returns
returns c = record { wrapped = is_wrapped; only = only_wrapped }
