-- How the seats of a board are dealt out, and what one pass has that gathers several: for the passes of any board, and for a least board's.
-- Source: what the definitions of Joined imply.
use Rattle.least_boards.proofs.Cited.{◌≡◌, refl, sym, ap, ◌∙◌, subst, ℕ, ◌+◌, ◌-◌, cond, List, [], ◌∷◌, ◌++◌, length, replicate, arith, length-append, length_push, replicate_more}
use Rattle.least_boards.proofs.Cited.{sum_by_push, sum_by, State, Hand, hands_joined, times}
use Rattle.atomic_table.specs.Seated.{TableId}
use Rattle.status_word.proofs.Dealt.{times-append}
use Rattle.least_boards.specs.declared.least_pass.LeastPass.{LeastPass}
use Rattle.least_boards.specs.Joined.{AreHandsJoined, AreLeastsJoined, IsSeatPass}
use Rattle.least_boards.specs.LeastPasses.{least_passes_joined, lowered_in, seen_in}
use Rattle.least_boards.specs.Seats.{Seated, StandsFor, idle_seat}
use Rattle.least_boards.proofs.Lowest.{lowest_push, lows-append}

-- ---- the passes of any board

-- one seat more is dealt out
pub one_dealt : {P : Type 0} (seats : List (Seated P)) (id board : TableId) (pass new : P) → seats ≡ replicate (length seats) (idle_seat board new) → id ≡ board → pass ≡ new
    → seats ++ idle_seat id pass ∷ [] ≡ replicate (length seats + 1) (idle_seat board new)
one_dealt {P} seats id board pass new dealt same_id same =
    let n = length seats in
    let named : ◌≡◌ {A = Seated P} (idle_seat id pass) (idle_seat board new) = λ i. idle_seat (same_id i) (same i) in
    ap (λ xs. xs ++ idle_seat id pass ∷ []) dealt
    ∙ ap (λ x. replicate n (idle_seat board new) ++ x ∷ []) named
    ∙ replicate_more n (idle_seat board new)

-- what is left of a pass from which one is cut, and the pass of the last worker
module _ {P : Type 0} {hand : P → Hand} {left right : P → P} {holds : State (Unit {0}) P → Type 0} where
  pub cut_again : (whole now : P) (n : ℕ) → now ≡ left whole → StandsFor hand left right holds whole n
      → StandsFor hand left right holds now (n - 1) × (right now ≡ right whole)
  cut_again whole now n cut stands =
      let all : now ≡ stands.some (n - 1) = cut ∙ ap left stands.all ∙ stands.fewer n in (
        record { some = stands.some; all = all; fewer = stands.fewer; one = stands.one; idle = stands.idle; keeps = stands.keeps },
        ap right all ∙ stands.one (n - 1) ∙ sym (ap right stands.all ∙ stands.one n),
      )

  pub one_left : (whole : P) (n : ℕ) → n ≡ 1 → StandsFor hand left right holds whole n → whole ≡ right whole
  one_left whole n one stands = stands.all ∙ ap stands.some one ∙ sym (ap right stands.all ∙ stands.one n)

module _ {P : Type 0} (hand : P → Hand) where
  -- a measure of the hands of all seats, where one is the last
  seats_push : (f : Hand → ℕ) (rest : List (Seated P)) (next : Seated P) (p : P) → IsSeatPass hand next p
      → sum_by (λ s. f (hand s.pass)) (rest ++ next ∷ []) ≡ sum_by (λ s. f (hand s.pass)) rest + f (hand p)
  seats_push f rest next p is = omega (arith, sum_by_push (λ s. f (hand s.pass)) rest next, ap (λ q. f (hand q)) is.0)

  -- one seat alone
  pub hands_first : (rest : List (Seated P)) (first : Seated P) (p : P) → IsSeatPass hand first p → AreHandsJoined hand p rest (rest ++ first ∷ [])
  hands_first rest first p is = record {
    given = λ t. omega (arith, seats_push (λ h. times t h.given) rest first p is);
    count = omega (arith, seats_push (λ h. length h.given) rest first p is);
    done = omega (arith, sum_by_push (λ s. cond s.is_done 1 0) rest first, is.2);
    shares = omega (arith, length_push rest first, is.1);
  }

  -- and one seat more
  pub hands_more : (rest all : List (Seated P)) (next : Seated P) (p whole now : P) → IsSeatPass hand next p → hand now ≡ hands_joined (hand whole) (hand p)
      → AreHandsJoined hand whole (rest ++ next ∷ []) all → AreHandsJoined hand now rest all
  hands_more rest all next p whole now is both so_far = record {
    given = λ t.
        let added = ap (λ h. times t h.given) both ∙ times-append t (hand whole).given (hand p).given in
        omega (arith, seats_push (λ h. times t h.given) rest next p is, added, so_far.given t);
    count =
        let added = ap (λ h. length h.given) both ∙ length-append (hand whole).given (hand p).given in
        omega (arith, seats_push (λ h. length h.given) rest next p is, added, so_far.count);
    done = omega (arith, sum_by_push (λ s. cond s.is_done 1 0) rest next, is.2, ap (λ h. h.done) both, so_far.done);
    shares = omega (arith, length_push rest next, is.1, ap (λ h. h.share) both, so_far.shares);
  }

-- ---- a least board's

pub leasts_first : (seats rest : List (Seated LeastPass)) (first : Seated LeastPass) (p : LeastPass) → seats ≡ rest ++ first ∷ [] → IsSeatPass (λ q. q.hand) first p
    → AreLeastsJoined p rest seats
leasts_first seats rest first p taken is = subst (AreLeastsJoined p rest) (sym taken) record {
  hands = hands_first (λ q. q.hand) rest first p is;
  lowered = λ s. omega (arith, lowest_push (λ seat. lowered_in s seat.pass) rest first, ap (lowered_in s) is.0);
  seen = λ s. omega (arith, lowest_push (λ seat. seen_in s seat.pass) rest first, ap (seen_in s) is.0);
}

pub leasts_more : (seats rest all : List (Seated LeastPass)) (next : Seated LeastPass) (p whole now : LeastPass) → seats ≡ rest ++ next ∷ [] → IsSeatPass (λ q. q.hand) next p
    → now ≡ least_passes_joined whole p → AreLeastsJoined whole seats all → AreLeastsJoined now rest all
leasts_more seats rest all next p whole now taken is both all_of =
    let so_far = subst (λ xs. AreLeastsJoined whole xs all) taken all_of in
    subst (λ q. AreLeastsJoined q rest all) (sym both) record {
      hands = hands_more (λ q. q.hand) rest all next p whole (least_passes_joined whole p) is refl so_far.hands;
      lowered = λ s. omega (arith, lowest_push (λ seat. lowered_in s seat.pass) rest next, ap (lowered_in s) is.0, lows-append s whole.lowered p.lowered, so_far.lowered s);
      seen = λ s. omega (arith, lowest_push (λ seat. seen_in s seat.pass) rest next, ap (seen_in s) is.0, lows-append s whole.seen p.seen, so_far.seen s);
    }
