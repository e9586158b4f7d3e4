-- The step of an arithmetic progression, and its parts.
use Rattle.pack_dist.proofs.Cited.{◌≡◌, ◌∙◌, ℕ, zero, suc, ◌+◌, ◌^◌, ◌<◌, ◌≤◌, ℤ, pos, ◌+ℤ◌, ◌*ℤ◌, to_z, w32, [], ◌∷◌, ◌++◌, map, length, take, drop, add-one, sym, ap, arith, range_with_len}
use Rattle.pack_dist.proofs.Cited.{int_wrap-add_left, to_z_pos, length-map-range_with_len, map-range_with_len_more, take-map-range_with_len, wrap, part}
use Rattle.std.proofs.Math.IntN.{+ℤ_assoc, +ℤ_comm, suc_ℤ-*ℤ}
use Rattle.pack_dist.specs.Progressions.{numbers_from, progression}

step_more : (init stride : ℤ) (k : ℕ) → (init +ℤ pos k *ℤ stride) +ℤ stride ≡ init +ℤ pos (k + 1) *ℤ stride
step_more init stride k =
    +ℤ_assoc init (pos k *ℤ stride) stride ∙ ap (λ z. init +ℤ z) (sym (ap (λ (j : ℕ). pos j *ℤ stride) (add-one k) ∙ suc_ℤ-*ℤ (pos k) stride))

-- the number at place `from`
pub next_first : (init stride next : ℤ) (from : ℕ) → from < 2 ^ 31 → next ≡ wrap (wrap (to_z w32 from *ℤ stride) +ℤ init) → next ≡ wrap (init +ℤ pos (from + 0) *ℤ stride)
next_first init stride next from few is =
    let same : from ≡ from + 0 = omega arith in
    is
    ∙ int_wrap-add_left w32 (to_z w32 from *ℤ stride) init
    ∙ ap wrap (+ℤ_comm (to_z w32 from *ℤ stride) init)
    ∙ ap (λ z. wrap (init +ℤ z *ℤ stride)) (to_z_pos w32 from few ∙ ap pos same)

-- the number after the one at place k
pub next_more : (init stride now next : ℤ) (from k : ℕ) → now ≡ wrap (init +ℤ pos (from + k) *ℤ stride) → next ≡ wrap (now +ℤ stride)
    → next ≡ wrap (init +ℤ pos (from + (k + 1)) *ℤ stride)
next_more init stride now next from k is_now is_next =
    let same : from + k + 1 ≡ from + (k + 1) = omega arith in
    is_next
    ∙ ap (λ z. wrap (z +ℤ stride)) is_now
    ∙ int_wrap-add_left w32 (init +ℤ pos (from + k) *ℤ stride) stride
    ∙ ap wrap (step_more init stride (from + k))
    ∙ ap (λ j. wrap (init +ℤ pos j *ℤ stride)) same

-- one more number
pub numbers-more : (init stride x : ℤ) (from k : ℕ) → x ≡ wrap (init +ℤ pos (from + k) *ℤ stride) → numbers_from init stride from (k + 1) ≡ numbers_from init stride from k ++ x ∷ []
numbers-more init stride x from k is =
    map-range_with_len_more (λ j. wrap (init +ℤ pos j *ℤ stride)) from k (from + k) (omega arith) ∙ ap (λ z. numbers_from init stride from k ++ z ∷ []) (sym is)

range-part : {X : Type 0} (f : ℕ → X) (a n from count : ℕ) → from + count ≤ n → take count (drop from (map f (range_with_len a n))) ≡ map f (range_with_len (a + from) count)
range-part f a n zero count within =
    let same : a ≡ a + 0 = omega arith in take-map-range_with_len f a n count (omega arith) ∙ ap (λ k. map f (range_with_len k count)) same
range-part f a zero (suc from) count within = absurd (omega arith)
range-part f a (suc n) (suc from) count within =
    let same : a + 1 + from ≡ a + suc from = omega arith in range-part f (a + 1) n from count (omega arith) ∙ ap (λ k. map f (range_with_len k count)) same

-- a part of a progression
pub progression-part : (init stride : ℤ) (n from count : ℕ) → from + count ≤ n → part (progression init stride n) from count ≡ numbers_from init stride from count
progression-part init stride n from count within =
    let same : 0 + from ≡ from = omega arith in
    range-part (λ j. wrap (init +ℤ pos j *ℤ stride)) 0 n from count within ∙ ap (λ k. numbers_from init stride k count) same

-- the first of the numbers from one place on
pub numbers-long : (init stride : ℤ) (from n : ℕ) → length (numbers_from init stride from n) ≡ n
numbers-long init stride from n = length-map-range_with_len (λ j. wrap (init +ℤ pos j *ℤ stride)) from n

pub first_numbers : (init stride : ℤ) (from n count : ℕ) → count ≤ n → take count (numbers_from init stride from n) ≡ numbers_from init stride from count
first_numbers init stride from n count within = take-map-range_with_len (λ j. wrap (init +ℤ pos j *ℤ stride)) from n count within
