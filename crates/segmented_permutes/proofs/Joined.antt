-- The segments of a segmented permute, end to end, told by their destinations.
use Rattle.std.proofs.Common.{◌≡◌, ◌∙◌, ℕ, ◌+◌, ◌≤◌, List, ◌∷◌, ◌++◌, length, filter_map, sum, take, sym, ap, ℤ, slice_get, Option, Result, Ok}
use Rattle.std.specs.Option.{option_or}
use Rattle.std.proofs.lemmas.List.Elements.{filter_map-append}
use Rattle.cvl_base.specs.declared.fault.Fault.{Fault}
use Rattle.cvl_base.specs.Gives.{◌>>=◌, unless}
use Rattle.cvl_base.specs.Lists.{joined}
use Rattle.cvl_base.specs.Permutes.{first_fault, sent_over, sent_to_all, wrongs}
use Rattle.cvl_base.specs.Segmented.{in_vector, moved}
use Rattle.fresh.specs.Parts.{part}
use Rattle.segment_sends.specs.SegmentDestinations.{fault_from, senders_from}
use Rattle.permute_walks.specs.Senders.{nobody, senders_of, written_over}
use Rattle.permute_walks.proofs.EndToEnd.{front}
use Rattle.permute_walks.proofs.Sent.{length-senders_of}
use Rattle.permute_walks.proofs.Taken.{over_part, taken_part}
use Rattle.permute_walks.proofs.Written.{written_both}

-- ---- a segment in front of others, told by its destinations: its elements stand in the source from `place` on

module _ {X : Type 0} (lengths : List ℕ) (source : List X) (few : length source ≤ nobody) (s place n m : ℕ) (ts : List (Option ℤ)) (result : Result (List X) Fault)
    (rest : Result (List (List X)) Fault)
    (segments : List (ℕ × List (Option ℤ))) (there : sum (take s lengths) ≡ place) (long : length ts ≡ n) (within : place + n ≤ length source) where
  whole : (r later : List X) → result ≡ unless (first_fault 0 (wrongs m ts)) (Ok r) → (rest >>= λ lists. Ok (joined lists)) ≡ unless (fault_from (place + n) segments) (Ok later)
      → ((moved (in_vector lengths s) result >>= λ r. rest >>= λ rs. Ok (r ∷ rs)) >>= λ lists. Ok (joined lists)) ≡ unless (fault_from place ((m, ts) ∷ segments)) (Ok (r ++ later))
  whole r later is others =
      front lengths s place result (wrongs m ts) r later rest (fault_from (place + n) segments) there is others
      ∙ ap (λ k. unless (option_or (first_fault place (wrongs m ts)) (fault_from (place + k) segments)) (Ok (r ++ later))) (sym long)

  -- the elements of the senders
  pub front_taken : result ≡ sent_to_all (part source place n) ts m
      → (rest >>= λ lists. Ok (joined lists)) ≡ unless (fault_from (place + n) segments) (Ok (filter_map (slice_get source) (senders_from (place + n) segments)))
      → ((moved (in_vector lengths s) result >>= λ r. rest >>= λ rs. Ok (r ∷ rs)) >>= λ lists. Ok (joined lists))
      ≡ unless (fault_from place ((m, ts) ∷ segments)) (Ok (filter_map (slice_get source) (senders_from place ((m, ts) ∷ segments))))
  front_taken is others =
      whole (filter_map (slice_get source) (senders_of place ts m)) (filter_map (slice_get source) (senders_from (place + n) segments))
      (is ∙ ap (λ xs. unless (first_fault 0 (wrongs m ts)) (Ok xs)) (sym (taken_part source few place n ts long within m))) others
      ∙ ap (λ xs. unless (fault_from place ((m, ts) ∷ segments)) (Ok xs))
      (ap (λ k. filter_map (slice_get source) (senders_of place ts m) ++ filter_map (slice_get source) (senders_from (place + k) segments)) (sym long)
      ∙ sym (filter_map-append (slice_get source) (senders_of place ts m) (senders_from (place + length ts) segments)))

  -- the elements or defaults of the senders
  pub front_over : (defaults others : List X) → length defaults ≡ m → result ≡ sent_over (part source place n) ts defaults
      → (rest >>= λ lists. Ok (joined lists)) ≡ unless (fault_from (place + n) segments) (Ok (written_over source (senders_from (place + n) segments) others))
      → ((moved (in_vector lengths s) result >>= λ r. rest >>= λ rs. Ok (r ∷ rs)) >>= λ lists. Ok (joined lists))
      ≡ unless (fault_from place ((m, ts) ∷ segments)) (Ok (written_over source (senders_from place ((m, ts) ∷ segments)) (defaults ++ others)))
  front_over defaults others wide is more =
      whole (written_over source (senders_of place ts m) defaults) (written_over source (senders_from (place + n) segments) others)
      (is ∙ ap (λ xs. unless (first_fault 0 (wrongs (length defaults) ts)) (Ok xs)) (sym (over_part source few place n ts long within defaults))
      ∙ ap (λ k. unless (first_fault 0 (wrongs k ts)) (Ok (written_over source (senders_of place ts k) defaults))) wide) more
      ∙ ap (λ xs. unless (fault_from place ((m, ts) ∷ segments)) (Ok xs))
      (ap (λ k. written_over source (senders_of place ts m) defaults ++ written_over source (senders_from (place + k) segments) others) (sym long)
      ∙ written_both source (senders_of place ts m) (senders_from (place + length ts) segments) defaults others (length-senders_of place ts m ∙ sym wide))
