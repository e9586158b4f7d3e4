-- The elements of senders, pushed one after another.
use Rattle.std.proofs.Common.{◌≡◌, ◌∙◌, ℕ, zero, suc, ◌+◌, ◌<◌, ◌≤◌, List, [], ◌∷◌, ◌++◌, length, take, get_or, sym, ap, arith, slice_get, unwrap_or}
use Rattle.std.proofs.lemmas.List.{length-take-le, take_all}
use Rattle.fresh.specs.Places.{Stretch, with_items}
use Rattle.permute_walks.specs.Senders.{written_over}
use Rattle.permute_walks.proofs.Taken.{length-over}

module _ {X : Type 0} (source : List X) where
  one_more : (senders : List ℕ) (values : List X) (k : ℕ) (x y : X) → k < length senders → k < length values → x ≡ get_or values k x
      → y ≡ unwrap_or (slice_get source (get_or senders k 0)) x
      → written_over source (take k senders) (take k values) ++ y ∷ [] ≡ written_over source (take (suc k) senders) (take (suc k) values)
  one_more [] values k x y lt within reads is = absurd (omega arith)
  one_more (s ∷ senders) [] k x y lt within reads is = absurd (omega arith)
  one_more (s ∷ senders) (v ∷ values) zero x y lt within reads is = ap (λ z. z ∷ []) (is ∙ ap (unwrap_or (slice_get source s)) reads)
  one_more (s ∷ senders) (v ∷ values) (suc k) x y lt within reads is =
      ap (λ rest. unwrap_or (slice_get source s) v ∷ rest) (one_more senders values k x y (omega arith) (omega arith) reads is)

  -- one more sender
  pub written_more : (senders : List ℕ) (values : List X) (k : ℕ) (x y : X) → k < length senders → k < length values → x ≡ get_or values k x
      → y ≡ unwrap_or (slice_get source (get_or senders k 0)) x
      → written_over source (take k senders) (take k values) ++ y ∷ [] ≡ written_over source (take (k + 1) senders) (take (k + 1) values)
  written_more senders values k x y lt within reads is =
      let next : suc k ≡ k + 1 = omega arith in
      one_more senders values k x y lt within reads is ∙ ap (λ j. written_over source (take j senders) (take j values)) next

  -- the run after the first k senders has room for the next, and after the last one all are pushed
  module _ (senders : List ℕ) (values : List X) (long : length values ≡ length senders) (k : ℕ) (old : Stretch X) {run : Stretch X}
      (pushed : run ≡ with_items old (written_over source (take k senders) (take k values))) where
    pub room_for_next : length senders ≤ old.room → k < length senders → 1 ≤ run.room
    room_for_next fits lt =
        let front : length (take k senders) ≡ k = length-take-le k senders (omega (arith, lt)) in
        let back : length (take k values) ≡ k = length-take-le k values (omega (arith, lt, long)) in
        let as_many = length-over source (take k senders) (take k values) (front ∙ sym back) in
        omega (arith, ap (λ (r : Stretch X). r.room) pushed, as_many, back, fits, lt)

    pub all_pushed : length senders ≤ k → run ≡ with_items old (written_over source senders values)
    all_pushed past =
        pushed
        ∙ ap (λ ss. with_items old (written_over source ss (take k values))) (take_all k senders past)
        ∙ ap (λ vs. with_items old (written_over source senders vs)) (take_all k values (omega (arith, past, long)))
