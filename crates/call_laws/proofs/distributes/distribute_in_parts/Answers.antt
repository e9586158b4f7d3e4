use Rattle.call_laws.proofs.Cited.{◌≡◌, ◌+◌, ◌+ℤ◌, ◌*ℤ◌, ◌∙◌, ℕ, ℤ, map, pos, sym, ap, arith, Ok, range_with_len, ints, map-append, get_or-map-range_with_len, length-map-range_with_len, wrap}
use Rattle.call_laws.proofs.Cited.{length_within-fits, w32, int_wrap-add_left, replicate-append-replicate, fill_by_all, range_both}
use Rattle.call_laws.proofs.distributes.distribute_in_parts.Goals as goal

-- k steps on from the place m
steps-on : (init stride : ℤ) (m k : ℕ) → init +ℤ pos (m + k) *ℤ stride ≡ (init +ℤ pos m *ℤ stride) +ℤ pos k *ℤ stride
steps-on init stride m k = omega (arith, ints)

pub returns : goal.returns
returns g c = record {
  copies = λ most value m n few.
      rw (length_within-fits most (m + n) few, length_within-fits most m (omega (arith, few)), length_within-fits most n (omega (arith, few))) (ap Ok (sym (replicate-append-replicate m n value)));
  steps = λ most init stride m n few.
      let number = λ (k : ℕ). wrap (init +ℤ pos k *ℤ stride) in
      let later = λ (k : ℕ). wrap (wrap (init +ℤ pos m *ℤ stride) +ℤ pos k *ℤ stride) in
      let on : (k : ℕ) → number (m + k) ≡ later k =
      λ k. ap wrap (steps-on init stride m k) ∙ sym (int_wrap-add_left w32 (init +ℤ pos m *ℤ stride) (pos k *ℤ stride)) in
      let second : map number (range_with_len (0 + m) n) ≡ map later (range_with_len 0 n) =
      fill_by_all later (map number (range_with_len (0 + m) n)) n init (length-map-range_with_len number (0 + m) n)
      (λ k within. get_or-map-range_with_len number (0 + m) n k (m + k) init within (omega arith) ∙ on k) in
      rw (length_within-fits most (m + n) few, length_within-fits most m (omega (arith, few)), length_within-fits most n (omega (arith, few)), range_both 0 m n)
      (ap Ok (map-append number (range_with_len 0 m) (range_with_len (0 + m) n) ∙ rw second));
}
