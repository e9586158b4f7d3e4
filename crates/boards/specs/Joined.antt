-- What one pass that stands for several seats of a scan board has of them, and what is left.
-- Source: the bookkeeping behind Merrill and Garland's decoupled look-back, 2016.
use Rattle.std.specs.Prelude.{◌≡◌, ℕ, max, List}
use Rattle.status_word.specs.declared.pass.Pass.{Pass}
use Rattle.status_word.specs.Passes.{highest, seen_at, told_at}
use Rattle.least_boards.specs.Joined.{AreHandsJoined}
use Rattle.least_boards.specs.Seats.{Seated}

-- this pass and the seats that are left have done what all seats of a scan board did
pub record AreJoined {Item : Type 0} (whole : Pass Item) (rest all : List (Seated (Pass Item))) : Type 0 where
  pub hands : AreHandsJoined (λ p. p.hand) whole rest all
  pub told : (t : ℕ) → max (told_at t whole) (highest (λ s. told_at t s.pass) rest) ≡ highest (λ s. told_at t s.pass) all
  pub seen : (t : ℕ) → max (seen_at t whole) (highest (λ s. seen_at t s.pass) rest) ≡ highest (λ s. seen_at t s.pass) all
