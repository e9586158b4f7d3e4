-- How the facts of the tiles given to a worker are kept while more are given.
-- Source: what the definitions of Facts imply.
use Rattle.std.proofs.Common.{◌≡◌, ap, subst, ℕ, cond, List, ◌∷◌, arith, inl, inr}
use Rattle.std.proofs.lemmas.Bool.Decides.{eqb_tells}
use Rattle.boards.specs.Passes.{times}
use Rattle.crew.specs.Facts.{HasFacts}

module _ {Seat : Type 0} (HasFact : Seat → ℕ → Type 0) (given : Seat → List ℕ) where
  -- one tile more, with its fact, where those of the others are kept
  pub one_fact_more : (old new : Seat) (t : ℕ) → given new ≡ t ∷ given old → HasFact new t → ((k : ℕ) → HasFact old k → HasFact new k)
      → HasFacts HasFact given old → HasFacts HasFact given new
  one_fact_more old new t more fact kept facts k some =
      elim (eqb_tells t k) [
        | inl same ↦ subst (HasFact new) same.1 fact
        | inr other ↦ kept k (facts k (omega (arith, some, ap (times k) more, ap (λ b. cond {A = ℕ} b 1 0) other.0)))
      ]
