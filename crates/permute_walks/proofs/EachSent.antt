-- Where no place is bad and as many places take part as the result has, each place of the result has a sender.
use Rattle.permute_walks.proofs.Cited.{◌≡◌, ◌∙◌, ℕ, suc, ◌+◌, ◌<◌, ◌≤◌, Bool, true, false, not, if◌then◌else◌, cond, List, [], ◌∷◌, length, get_or, set, refl, sym, ap, arith, eqb, inl, inr, ℤ, pos}
use Rattle.permute_walks.proofs.Cited.{is_some, Option, Some, None, All, sum_by, false≢true, eqb_tells, length-set, All-from_get_or, count_by-le-length, sum_by-cons, sum_by-set, count_of}
use Rattle.permute_walks.proofs.Cited.{all_destinations, first_fault, flagged_destinations, is_destination, wrongs, length-senders_of, sender_at, is_sent, last_senders, nobody, sender_from}
use Rattle.permute_walks.proofs.Cited.{senders_of}
use Rattle.permute_walks.proofs.LastSent.{lasts_stored}

-- 1 where a place takes part
abbrev pub takes_part : Option ℤ → ℕ
takes_part t = cond (is_some t) 1 0

-- ---- where there are as many senders as places, each place has one

all_sent : (senders : List ℕ) (d : ℕ) → sum_by is_sent senders ≡ length senders → d < length senders → eqb (get_or senders d 0) nobody ≡ false
all_sent senders d total lt =
    elim (eqb_tells (get_or senders d 0) nobody) [
      | inl none ↦ absurd (omega (arith, sum_by-set is_sent senders d 0 0 lt, ap is_sent none.1, count_by-le-length (λ s. not (eqb s nobody)) (set senders d 0), length-set senders d 0, total))
      | inr some ↦ some.0
    ]

-- a sender is one of the places that sent
below_if : (b : Bool) (place other n : ℕ) → (eqb other nobody ≡ false → other < place + 1 + n) → eqb (if b then place else other) nobody ≡ false → (if b then place else other) < place + suc n
below_if true place other n rest some = omega arith
below_if false place other n rest some = omega (arith, rest some)

sender_below : (place : ℕ) (ts : List (Option ℤ)) (d : ℕ) → eqb (sender_from place ts d) nobody ≡ false → sender_from place ts d < place + length ts
sender_below place [] d some = absurd (false≢true (sym some))
sender_below place (t ∷ ts) d some = below_if (is_destination (pos d) t) place (sender_from (place + 1) ts d) (length ts) (sender_below (place + 1) ts d) some

pub each_sent : (place : ℕ) (ts : List (Option ℤ)) (m : ℕ) → place + length ts ≤ nobody → None ≡ first_fault place (wrongs m ts) → sum_by takes_part ts ≡ m
    → All (λ s. s < place + length ts) (senders_of place ts m)
each_sent place ts m small right as_many =
    let stored = lasts_stored place ts m small in
    let are : last_senders place ts 0 m ≡ senders_of place ts m = stored.are_first (stored.apart right) in
    let long = length-senders_of place ts m in
    let total : sum_by is_sent (senders_of place ts m) ≡ length (senders_of place ts m) = omega (arith, ap (sum_by is_sent) are, stored.apart right, as_many, long) in
    All-from_get_or (λ s. s < place + length ts) (senders_of place ts m) 0 (λ d lt.
    let at : get_or (senders_of place ts m) d 0 ≡ sender_from place ts d = sender_at place ts m d (omega (arith, long)) in
    let below = sender_below place ts d (ap (λ s. eqb s nobody) (sym at) ∙ all_sent (senders_of place ts m) d total lt) in
    omega (arith, at, below))

-- ---- how many places take part

pub all_take_part : (index : List ℤ) → sum_by takes_part (all_destinations index) ≡ length index
all_take_part [] = refl
all_take_part (i ∷ index) = omega (arith, sum_by-cons takes_part (Some i) (all_destinations index), all_take_part index)

pub flagged_take_part : (index : List ℤ) (flags : List Bool) → length index ≡ length flags → sum_by takes_part (flagged_destinations index flags) ≡ count_of flags
flagged_take_part [] [] same = refl
flagged_take_part [] (f ∷ flags) same = absurd (omega arith)
flagged_take_part (i ∷ index) [] same = absurd (omega arith)
flagged_take_part (i ∷ index) (true ∷ flags) same = omega (arith, sum_by-cons, flagged_take_part index flags (omega arith))
flagged_take_part (i ∷ index) (false ∷ flags) same = omega (arith, sum_by-cons, flagged_take_part index flags (omega arith))
