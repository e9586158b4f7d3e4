-- What stands in the places of a permute's result before elements are sent there, and what the second walk makes of it.
-- Source: what the definitions of replicate and zip imply.
use Rattle.permute_walks.proofs.Cited.{◌≡◌, ◌∙◌, suc, ℕ, List, [], ◌∷◌, length, replicate, slice_get, unwrap_or, Some, ap, refl, sym, length-replicate, copies_of_first, values_of, written_of}
use Rattle.permute_walks.proofs.Cited.{Before, elements_or, written_over}
use Rattle.permute_walks.specs.declared.before.Before.TheVariants as before
use Rattle.permute_walks.proofs.Taken.{length-over}

-- the copies of the first
pub are_copies : {X : Type 0} (values : List X) (first : X) → slice_get values 0 ≡ Some first → replicate (length values) first ≡ copies_of_first values
are_copies [] first is = absurd (cc)
are_copies (x ∷ values) first is = let same : first ≡ x = cc in ap (λ y. y ∷ replicate (length values) y) same

-- as many are written
length-copies : {X : Type 0} (values : List X) → length (copies_of_first values) ≡ length values
length-copies [] = refl
length-copies (x ∷ values) = ap suc (length-replicate (length values) x)

pub length-written : {X : Type 0} (b : Before X) → length (written_of b) ≡ length (values_of b)
length-written (before.Any values) = length-copies values.now
length-written (before.Defaults values) = refl

module _ {X : Type 0} (source : List X) (senders : List ℕ) where
  pub length-before : (b : Before X) → length senders ≡ length (values_of b) → length (written_over source senders (written_of b)) ≡ length (values_of b)
  length-before b long = length-over source senders (written_of b) (long ∙ sym (length-written b)) ∙ length-written b

-- over copies of one
over_copies : {X : Type 0} (source : List X) (other : X) (senders : List ℕ) → elements_or source other senders ≡ written_over source senders (replicate (length senders) other)
over_copies source other [] = refl
over_copies source other (s ∷ senders) = ap (λ rest. unwrap_or (slice_get source s) other ∷ rest) (over_copies source other senders)

pub over_first : {X : Type 0} (source : List X) (senders : List ℕ) (values : List X) (other : X) → length senders ≡ length values → slice_get values 0 ≡ Some other
    → elements_or source other senders ≡ written_over source senders (copies_of_first values)
over_first source senders values other long is = cc (over_copies source other senders, long, are_copies values other is)
