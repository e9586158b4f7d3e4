-- How a worker answers the places of a tile, and that what was answered once stays so.
-- Source: what the definitions of Facts imply.
use Rattle.std.proofs.Common.{◌≡◌, refl, sym, ap, ◌∙◌, ℕ, ◌+◌, ◌<◌, ◌≤◌, arith, inl, inr, [], ◌∷◌, ◌++◌, append_assoc}
use Rattle.std.proofs.lemmas.Bool.{cond_both}
use Rattle.std.proofs.lemmas.List.{length-append}
use Rattle.std.proofs.lemmas.List.Elements.{All-append, All-cons, All-nil, All-weaker}
use Rattle.tile_plan.specs.Ranges.{Tiling}
use Rattle.least_boards.specs.Seats.{Seated, with_pass}
use Rattle.least_boards.specs.Claims.{after_answer}
use Rattle.least_boards.specs.LeastBoards.{LeastView}
use Rattle.least_boards.specs.LeastPasses.{lowered_in, lowest, on_least_hand, place_lowered, seen_in}
use Rattle.least_boards.specs.declared.claim.Claim.{Claim}
use Rattle.least_boards.specs.declared.claim.Claim.TheVariants.{Done, Tile}
use Rattle.least_boards.specs.declared.least_pass.LeastPass.{LeastPass}
use Rattle.least_boards.specs.declared.least_pass.Low.{Low}
use Rattle.least_races.specs.Facts.{HasAnswered, HasLowered}

-- what was answered stays so where no less is lowered and seen
pub still_answered : (board : LeastView) (plan : Tiling) (old new : Seated LeastPass) (t : ℕ)
    → ((slot : ℕ) → lowered_in slot new.pass ≤ lowered_in slot old.pass) → ((slot : ℕ) → seen_in slot new.pass ≤ seen_in slot old.pass)
    → HasAnswered board plan old t → HasAnswered board plan new t
still_answered board plan old new t lowered seen had place slot begun not_past within is =
    elim (had place slot begun not_past within is) [
      | inl low ↦ inl (omega (arith, low, lowered slot))
      | inr less ↦ inr (omega (arith, less, seen slot))
    ]

-- a claim lowers and sees nothing
claim_adds_none : (old : Seated LeastPass) (answer : Claim)
    → ((after_answer on_least_hand old answer).pass.lowered ≡ old.pass.lowered) × ((after_answer on_least_hand old answer).pass.seen ≡ old.pass.seen)
claim_adds_none old (Tile t) = (refl, refl)
claim_adds_none old Done = cond_both old.is_done old _ (λ (s : Seated LeastPass). (s.pass.lowered ≡ old.pass.lowered) × (s.pass.seen ≡ old.pass.seen)) (λ _. (refl, refl)) (λ _. (refl, refl))

pub claim_keeps : (board : LeastView) (plan : Tiling) (old new : Seated LeastPass) (answer : Claim) (t : ℕ)
    → new ≡ after_answer on_least_hand old answer → HasAnswered board plan old t → HasAnswered board plan new t
claim_keeps board plan old new answer t is had =
    let none = claim_adds_none old answer in
    still_answered board plan old new t
    (λ slot. omega (arith, ap (λ (s : Seated LeastPass). lowered_in slot s.pass) is, ap (lowest slot) none.0))
    (λ slot. omega (arith, ap (λ (s : Seated LeastPass). seen_in slot s.pass) is, ap (lowest slot) none.1))
    had

-- the place lies in this range
abbrev lies_in : ℕ → ℕ → Low → Type 0
lies_in from to low = (from ≤ low.place) × (low.place < to)

-- nothing was lowered, or one place was
pub lowered_none : (from to : ℕ) (old new : LeastPass) → from ≤ to → new.lowered ≡ old.lowered → HasLowered from to old new
lowered_none from to old new begun same = record { added = []; lowered = same; within = All-nil _; few = omega (arith, begun) }

pub lowered_one : (slot place : ℕ) (old new : Seated LeastPass) → new ≡ with_pass old (place_lowered old.pass slot place)
    → HasLowered place (place + 1) old.pass new.pass
lowered_one slot place old new is =
    let low : Low = record { slot = slot; place = place } in
    record {
      added = low ∷ [];
      lowered = ap (λ (s : Seated LeastPass). s.pass.lowered) is;
      within = All-cons (lies_in place (place + 1)) low [] (omega arith, omega arith) (All-nil _);
      few = omega arith;
    }

-- and what was lowered in one range after another
pub lowered_later : (from to : ℕ) (old now new : LeastPass) → now.lowered ≡ old.lowered → HasLowered from to now new → HasLowered from to old new
lowered_later from to old now new same next = record {
  added = next.added;
  lowered = next.lowered ∙ ap (λ lows. next.added ++ lows) same;
  within = next.within;
  few = next.few;
}

pub lowered_on : (from at to : ℕ) (old now new : LeastPass) → from ≤ at → at ≤ to → HasLowered from at old now → HasLowered at to now new → HasLowered from to old new
lowered_on from at to old now new begun on first next =
    let before = All-weaker (lies_in from at) (lies_in from to) (λ low is. (is.0, omega (arith, is.1, on))) first.added first.within in
    let after = All-weaker (lies_in at to) (lies_in from to) (λ low is. (omega (arith, is.0, begun), is.1)) next.added next.within in
    record {
      added = next.added ++ first.added;
      lowered = next.lowered ∙ ap (λ lows. next.added ++ lows) first.lowered ∙ sym (append_assoc next.added first.added old.lowered);
      within = All-append (lies_in from to) next.added first.added after before;
      few = omega (arith, length-append next.added first.added, first.few, next.few);
    }
