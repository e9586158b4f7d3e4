-- What a part's own room holds, and what its memory, after its elements were joined in it.
use Rattle.std.proofs.Common.{◌≡◌, ◌∙◌, ◌++◌, ◌+◌, ◌∷◌, map, ℕ, ℤ, Bool, true, false, List, [], drop, length, replicate, zip, Option, Some, None, Result, Ok, Err, sym, ap}
use Rattle.std.proofs.lemmas.List.{drop_at, take_at}
use Rattle.std.proofs.lemmas.Option.{none-some, same_Some}
use Rattle.std.specs.Prelude.{MatchResult, if◌then◌else◌}
use Rattle.std.specs.Result.{result_err}
use Rattle.cvl_base.proofs.Elementwise.{if_as_long-fits}
use Rattle.cvl_base.specs.declared.fault.Fault.{Fault}
use Rattle.cvl_base.specs.declared.fault.FaultNo.TheVariants.{IndexOutOfRange}
use Rattle.cvl_base.specs.Faults.{fault_at}
use Rattle.cvl_base.specs.Gives.{◌>>=◌, unless}
use Rattle.cvl_base.specs.Permutes.{first_fault, is_place}
use Rattle.permute_walks.specs.Indices.{first_outside, outside}
use Rattle.combining_permutes.specs.CombiningPermutes.{combine_of, combined}
use Rattle.combine_parts.specs.OwnRooms.{MakesOwn, may_own, own_room_of}

-- the fault of an index is that it is out of range
outside_at : (place m : ℕ) (index : List ℤ) (b : Bool) (g : Fault)
    → ((place : ℕ) (g : Fault) → first_outside place m index ≡ Some g → g.number ≡ IndexOutOfRange)
    → first_fault place ((if b then None else Some IndexOutOfRange) ∷ map (outside m) index) ≡ Some g → g.number ≡ IndexOutOfRange
outside_at place m index true g others is = others (place + 1) g is
outside_at place m index false g others is = ap (λ (f : Fault). f.number) (sym (same_Some (fault_at IndexOutOfRange place) g is))

pub outside-number : (index : List ℤ) (place m : ℕ) (g : Fault) → first_outside place m index ≡ Some g → g.number ≡ IndexOutOfRange
outside-number [] place m g is = absurd (none-some g is)
outside-number (i ∷ index) place m g is = outside_at place m index (is_place m i) g (λ p h. outside-number index p m h) is

unless_told : {Y : Type 0} (o : Option Fault) (y : Y) (f : Fault) → unless o (Ok y) ≡ Err f → o ≡ Some f
unless_told (Some g) y f is = ap result_err is
unless_told None y f is = absurd (none-some f (ap result_err is))

module _ {X : Type 0} (join : X → X → X) (source : List X) (index : List ℤ) (agree : length source ≡ length index) where
  pub combine-number : (before : List X) (f : Fault) → combine_of join source index before ≡ Err f → f.number ≡ IndexOutOfRange
  combine-number before f is =
      outside-number index 0 (length before) f
      (unless_told (first_outside 0 (length before) index) (combined join (zip index source) 0 before) f
      (sym (if_as_long-fits source index (unless (first_outside 0 (length before) index) (Ok (combined join (zip index source) 0 before))) agree) ∙ is))

  module _ (unit : X) (places : ℕ) (memory : List X) (may : may_own places (length source) (length index) (length memory) ≡ Ok tt) (room behind : List X) (long : length room ≡ places)
      (rest : behind ≡ drop places memory) where
    abbrev call : Result (List X) Fault
    call = combine_of join source index (replicate places unit)

    made : own_room_of join unit places (length memory) source index ≡ call
    made = ap (λ m. m >>= λ _. call) may

    kept : drop places (room ++ behind) ≡ drop places memory
    kept = drop_at room behind places long ∙ rest

    pub own_told : (answer : Result (Unit {0}) Fault) → MatchResult answer (λ _. call ≡ Ok room) (λ f. call ≡ Err f)
        → MakesOwn places (own_room_of join unit places (length memory) source index) answer memory (room ++ behind)
    own_told (Ok done) is = (made ∙ is ∙ ap Ok (sym (take_at room behind places long)), kept)
    own_told (Err f) is = ((made ∙ is, λ other. absurd (other (combine-number (replicate places unit) f is))), kept)
