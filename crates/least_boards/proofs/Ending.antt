-- What the seats of any board did in all, from the one pass that stands for all of them.
-- Source: the laws of the crate `status_word` on the hand that stands for all workers.
use Rattle.least_boards.proofs.Cited.{◌≡◌, ap, ◌∙◌, ℕ, ◌≤◌, Bool, cond, List, [], get_or, IsTrue, arith, Any, count_by, get_or-le-sum_by, Hand, IsWhole}
use Rattle.least_boards.specs.Claims.{AreGivenOnce}
use Rattle.least_boards.specs.Joined.{AreHandsJoined}
use Rattle.least_boards.specs.Seats.{Seated}

any_counts : {X : Type 0} (p : X → Bool) (xs : List X) → Any (λ x. IsTrue (p x)) xs → 1 ≤ count_by p xs
any_counts p xs found =
    let one : cond {A = ℕ} (p (get_or xs found.0 found.1)) 1 0 ≡ 1 = ap (λ b. cond {A = ℕ} b 1 0) (ap p found.3 ∙ found.4) in
    omega (arith, one, get_or-le-sum_by (λ x. cond (p x) 1 0) xs found.0 found.1 found.2)

module _ {P : Type 0} (hand : P → Hand) where
  pub one_done : (p : P) (seats : List (Seated P)) → AreHandsJoined hand p [] seats → Any (λ s. IsTrue s.is_done) seats → 1 ≤ (hand p).done
  one_done p seats joined found = omega (arith, any_counts (λ (seat : Seated P). seat.is_done) seats found, joined.done)

  pub given_once : (tiles claims : ℕ) (p : P) (seats : List (Seated P)) → IsWhole tiles claims (hand p) → AreHandsJoined hand p [] seats → AreGivenOnce hand tiles seats
  given_once tiles claims p seats whole joined = record {
    distinct = λ t. omega (arith, joined.given t, whole.distinct t);
    every = λ found t below. omega (arith, joined.given t, whole.all (one_done p seats joined found) t below);
  }
