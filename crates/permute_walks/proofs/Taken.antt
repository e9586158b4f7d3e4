-- The walk that takes the elements of senders: what it gives, and that this is what was sent.
use Rattle.permute_walks.proofs.Cited.{◌≡◌, ◌∙◌, ℕ, zero, suc, ◌+◌, ◌<◌, ◌≤◌, Bool, true, false, if◌then◌else◌, cond, List, [], ◌∷◌, length, map, filter_map, take, get_or, refl, sym, ap, arith, ℤ}
use Rattle.permute_walks.proofs.Cited.{pos, slice_get, option_map, unwrap_or, Option, Some, All, zip, find, range_with_len, enumerate_from, cons_option, slice_get-get_or, slice_get_past, drop_more}
use Rattle.permute_walks.proofs.Cited.{length-map, take_all, All-head, All-tail, is_destination, sent_to, element, part, nobody, sender_from, senders_of, written_over}
use Rattle.std.proofs.lemmas.Slice.Zip.{length-zip}

-- ---- what was sent: the destinations are those of the elements that stand in the source from `place` on

first_found : {X : Type 0} (b : Bool) (x : X) (t : Option ℤ) (place other : ℕ) (rest : Option (Option ℤ × X)) (read : ℕ → Option X)
    → read place ≡ Some x → read other ≡ option_map (λ p. p.1) rest
    → read (if b then place else other) ≡ option_map (λ p. p.1) (cond b (Some (t, x)) rest)
first_found true x t place other rest read here later = here
first_found false x t place other rest read here later = later

same_filter : {X : Type 0} (read : ℕ → Option X) (sender : ℕ → ℕ) (sent : ℕ → Option X) → ((d : ℕ) → read (sender d) ≡ sent d) → (a m : ℕ) → filter_map read (map sender (range_with_len a m))
    ≡ filter_map sent (range_with_len a m)
same_filter read sender sent each a zero = refl
same_filter read sender sent each a (suc m) = λ i. cons_option (each a i) (same_filter read sender sent each (a + 1) m i)

same_over : {X : Type 0} (read : ℕ → Option X) (sender : ℕ → ℕ) (sent : ℕ → Option X) → ((d : ℕ) → read (sender d) ≡ sent d) → (a : ℕ) (defaults : List X)
    → map (λ p. unwrap_or (read p.0) p.1) (zip (map sender (range_with_len a (length defaults))) defaults) ≡ map (λ p. unwrap_or (sent p.0) p.1) (enumerate_from a defaults)
same_over read sender sent each a [] = refl
same_over read sender sent each a (x ∷ xs) = λ i. unwrap_or (each a i) x ∷ same_over read sender sent each (a + 1) xs i

module _ {X : Type 0} (source : List X) (few : length source ≤ nobody) where
  sent_at : (place : ℕ) (ts : List (Option ℤ)) (d : ℕ) → place + length ts ≤ length source → slice_get source (sender_from place ts d) ≡ sent_to (part source place (length ts)) ts d
  sent_at place [] d within = slice_get_past source nobody few
  sent_at place (t ∷ ts) d within =
      let lt : place < length source = omega (arith, within) in
      let any = (element source place lt).0 in
      first_found (is_destination (pos d) t) (get_or source place any) t place (sender_from (place + 1) ts d) (find (λ p. is_destination (pos d) p.0) (zip ts (part source (place + 1) (length ts))))
      (slice_get source) (slice_get-get_or source place any lt) (sent_at (place + 1) ts d (omega (arith, within)))
      ∙ ap (λ ys. sent_to (take (suc (length ts)) ys) (t ∷ ts) d) (sym (drop_more source place any lt))

  module _ (place n : ℕ) (ts : List (Option ℤ)) (long : length ts ≡ n) (within : place + n ≤ length source) where
    each : (d : ℕ) → slice_get source (sender_from place ts d) ≡ sent_to (part source place n) ts d
    each d = sent_at place ts d (omega (arith, long, within)) ∙ ap (λ k. sent_to (part source place k) ts d) long

    -- the elements of the senders
    pub taken_part : (m : ℕ) → filter_map (slice_get source) (senders_of place ts m) ≡ filter_map (sent_to (part source place n) ts) (range_with_len 0 m)
    taken_part m = same_filter (slice_get source) (sender_from place ts) (sent_to (part source place n) ts) each 0 m

    -- the elements or defaults of the senders
    pub over_part : (defaults : List X) → written_over source (senders_of place ts (length defaults)) defaults
        ≡ map (λ p. unwrap_or (sent_to (part source place n) ts p.0) p.1) (enumerate_from 0 defaults)
    over_part defaults = same_over (slice_get source) (sender_from place ts) (sent_to (part source place n) ts) each 0 defaults

-- the destinations are of the whole source
pub taken_flat : {X : Type 0} (source : List X) (ts : List (Option ℤ)) (m : ℕ) → length source ≡ length ts → length source ≤ nobody
    → filter_map (slice_get source) (senders_of 0 ts m) ≡ filter_map (sent_to source ts) (range_with_len 0 m)
taken_flat source ts m long few = cc (taken_part source few 0 (length source) ts (sym long) (omega arith) m, take_all (length source) source (omega arith))

pub taken_over_flat : {X : Type 0} (source : List X) (ts : List (Option ℤ)) (defaults : List X) → length source ≡ length ts → length source ≤ nobody
    → written_over source (senders_of 0 ts (length defaults)) defaults ≡ map (λ p. unwrap_or (sent_to source ts p.0) p.1) (enumerate_from 0 defaults)
taken_over_flat source ts defaults long few =
    over_part source few 0 (length source) ts (sym long) (omega arith) defaults ∙ ap (λ xs. map (λ p. unwrap_or (sent_to xs ts p.0) p.1) (enumerate_from 0 defaults))
    (take_all (length source) source (omega arith))

-- ---- how many

-- as many as there are defaults
pub length-over : {X : Type 0} (source : List X) (senders : List ℕ) (defaults : List X) → length senders ≡ length defaults → length (written_over source senders defaults) ≡ length defaults
length-over source senders defaults long =
    omega (arith, length-map (zip senders defaults) (λ p. unwrap_or (slice_get source p.0) p.1), length-zip senders defaults, long)

-- ---- each sender is a place of the source

pub length-taken : {X : Type 0} (source : List X) (senders : List ℕ) → All (λ s. s < length source) senders → length (filter_map (slice_get source) senders) ≡ length senders
length-taken source [] below = refl
length-taken source (s ∷ senders) below =
    cc ((element source s (All-head (λ s. s < length source) s senders below)).1, length-taken source senders (All-tail (λ s. s < length source) s senders below))

-- how many elements are written
pub ruleset lengths = (length-over, length-taken)
