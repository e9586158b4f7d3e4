-- Permutes by ranges of their result.
use Rattle.call_laws.proofs.Cited.{◌≡◌, ◌≤◌, ◌∙◌, ℕ, List, length, map, sym, ap, arith, ℤ, unwrap_or, Option, Ok, enumerate_from, most_places, first_fault, sent_over, sent_to, sent_to_all, wrongs}
use Rattle.call_laws.proofs.Cited.{count_destinations, last_senders, IsStored, count_sent, written_over, lasts_stored}
use Rattle.permute_walks.proofs.Taken.{taken_over_flat}
use Rattle.call_laws.proofs.Sending.{all-is_over, unless-Ok}

-- as many are counted as take part where there is a result, which is then what was written
module _ {X : Type 0} (source : List X) (ts : List (Option ℤ)) (n : ℕ) (long : length source ≡ n) (also_long : length ts ≡ n) (few : n ≤ most_places) (room : List X) where
  abbrev lasts : List ℕ
  lasts = last_senders 0 ts 0 (length room)

  stored : IsStored 0 ts (count_destinations ts) (length room) lasts
  stored = lasts_stored 0 ts (length room) (omega (arith, few))

  pub over-written : count_sent lasts ≡ count_destinations ts → sent_over source ts room ≡ Ok (written_over source lasts room)
  over-written all =
      rw (sym (stored.no_fault all), stored.are_first all) (ap Ok (sym (taken_over_flat source ts room (long ∙ sym also_long) (omega (arith, long, few)))))

  pub over-counted : (result : List X) → sent_over source ts room ≡ Ok result → count_sent lasts ≡ count_destinations ts
  over-counted result p =
      stored.apart (sym (unless-Ok (first_fault 0 (wrongs (length room) ts)) (Ok (map (λ p. unwrap_or (sent_to source ts p.0) p.1) (enumerate_from 0 room))) result p).0)

  module _ (m : ℕ) (as_room : length room ≡ m) (as_many : count_destinations ts ≡ m) where
    over_room : sent_to_all source ts m ≡ sent_over source ts room
    over_room = all-is_over m source ts (omega (arith, long)) as_many room as_room

    pub all-written : count_sent lasts ≡ m → sent_to_all source ts m ≡ Ok (written_over source lasts room)
    all-written all = over_room ∙ over-written (all ∙ sym as_many)

    pub all-counted : (result : List X) → sent_to_all source ts m ≡ Ok result → count_sent lasts ≡ m
    all-counted result p = over-counted result (sym over_room ∙ p) ∙ as_many
