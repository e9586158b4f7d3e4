-- What goes on behind each part: the step of a loop that writes it, from the last part on.
use Rattle.std.proofs.Common.{◌≡◌, ◌+◌, ◌-◌, ◌<◌, ◌∙◌, ℕ, true, false, List, [], ◌∷◌, length, drop, get_or, zip, refl, sym, ap, arith, if◌then◌else◌, set, nat_lt}
use Rattle.std.proofs.Math.ListN.{drop_of_length-le}
use Rattle.std.proofs.lemmas.List.{drop-set, drop_more, length-drop}
use Rattle.std.proofs.lemmas.Grind.{get_or_after_one}
use Rattle.std.proofs.lemmas.Slice.Zip.{get_or-zip, length-zip}
use Rattle.run_parts.specs.Places.{last_or, next_begin, run_behinds}

last-at : (before : ℕ) (places : List ℕ) → last_or before places ≡ get_or (before ∷ places) (length places) 0
last-at before [] = refl
last-at before (place ∷ places) = last-at place places

-- the last place of a record that has one more than parts
pub last-is : (from : List ℕ) (n : ℕ) → length from ≡ n + 1 → get_or from n 0 ≡ last_or 0 from
last-is [] n long = absurd (omega (arith, long))
last-is (place ∷ places) n long = let same : n ≡ length places = omega (arith, long) in ap (λ k. get_or (place ∷ places) k 0) same ∙ sym (last-at place places)

module _ (begins from : List ℕ) (long : length from ≡ length begins + 1) where
  abbrev pub pairs : List (ℕ × ℕ)
  pairs = zip begins (drop 1 from)

  ends-long : length (drop 1 from) ≡ length begins
  ends-long = omega (arith, length-drop 1 from, long)

  pub none_behind : drop (length begins) pairs ≡ []
  none_behind = drop_of_length-le pairs (omega (arith, length-zip begins (drop 1 from), ends-long))

  module _ (k : ℕ) (within : k < length begins) where
    -- a part, and those behind it
    from_part : drop k pairs ≡ (get_or begins k 0, get_or from (k + 1) 0) ∷ drop (k + 1) pairs
    from_part =
        let in_ends : k < length (drop 1 from) = omega (arith, within, ends-long) in
        let in_pairs : k < length pairs = omega (arith, length-zip begins (drop 1 from), within, ends-long) in
        let end : get_or (drop 1 from) k 0 ≡ get_or from (k + 1) 0 = get_or_after_one from k 0 ∙ ap (λ j. get_or from j 0) (omega arith) in
        drop_more pairs k (0, 0) in_pairs ∙ ap (λ p. p ∷ drop (k + 1) pairs) (get_or-zip begins (drop 1 from) k (0, 0) within in_ends ∙ ap (λ e. (get_or begins k 0, e)) end)

    module _ (next : ℕ) (known : next ≡ next_begin (last_or 0 from) (drop (k + 1) pairs)) where
      before : next_begin (last_or 0 from) (drop k pairs) ≡ (if nat_lt (get_or begins k 0) (get_or from (k + 1) 0) then get_or begins k 0 else next)
      before =
          ap (next_begin (last_or 0 from)) from_part
          ∙ ap (λ n. if nat_lt (get_or begins k 0) (get_or from (k + 1) 0) then get_or begins k 0 else n) (sym known)

      pub begins_here : nat_lt (get_or begins k 0) (get_or from (k + 1) 0) ≡ true → get_or begins k 0 ≡ next_begin (last_or 0 from) (drop k pairs)
      begins_here is = sym (before ∙ ap (λ b. if b then get_or begins k 0 else next) is)

      pub begins_behind : nat_lt (get_or begins k 0) (get_or from (k + 1) 0) ≡ false → next ≡ next_begin (last_or 0 from) (drop k pairs)
      begins_behind is = sym (before ∙ ap (λ b. if b then get_or begins k 0 else next) is)

      pub written_before : (out : List ℕ) (more : ℕ) → k < length out → more ≡ next - get_or from (k + 1) 0 → drop (k + 1) out ≡ run_behinds (last_or 0 from) (drop (k + 1) pairs)
          → drop k (set out k more) ≡ run_behinds (last_or 0 from) (drop k pairs)
      written_before out more in_out is so_far =
          drop-set out k more in_out ∙ (λ i. (is ∙ ap (λ n. n - get_or from (k + 1) 0) known) i ∷ so_far i) ∙ sym (ap (run_behinds (last_or 0 from)) from_part)
