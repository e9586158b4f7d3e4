-- What a check that passes says, and that a fault of a check is the call's.
use Rattle.std.proofs.Common.{◌≡◌, ◌+◌, ◌≤◌, ℕ, Bool, true, false, not, nat_lt, Result, Ok, Err, refl, ap, sym, eqb, eqb-true, eq-eqb}
use Rattle.std.proofs.lemmas.Bool.{le-ltb, ltb-false}
use Rattle.std.proofs.lemmas.Option.{none-some}
use Rattle.std.specs.Result.{result_ok}
use Rattle.cvl_base.specs.declared.fault.Fault.{Fault}
use Rattle.cvl_base.specs.declared.fault.FaultNo.TheVariants.{LengthMismatch, TooLong}
use Rattle.cvl_base.specs.Faults.{fault}
use Rattle.cvl_base.specs.Gives.{fault_if}
use Rattle.cvl_base.specs.Limits.{most_places}
use Rattle.permute_parts.specs.Ranges.{if_part}
use Rattle.permute_walks.specs.Marks.{words_for}

abbrev all_right : Result (Unit {0}) Fault
all_right = Ok tt

-- a test that finds no fault leaves the call
pub passed : {Y : Type 0} (b : Bool) (f : Fault) (call : Result Y Fault) → all_right ≡ fault_if b f all_right → fault_if b f call ≡ call
passed true f call is = absurd (none-some tt (sym (ap result_ok is)))
passed false f call is = refl

-- a call behind a test has a value only if the test finds no fault
found-none : (b : Bool) (f : Fault) (rest : Result (Unit {0}) Fault) → all_right ≡ fault_if b f rest → (b ≡ false) × (all_right ≡ rest)
found-none true f rest is = absurd (none-some tt (sym (ap result_ok is)))
found-none false f rest is = (refl, is)

equal : (a b : ℕ) → not (eqb a b) ≡ false → a ≡ b
equal a b is = eqb-true a b (yes (eqb a b) is) where
  yes : (c : Bool) → not c ≡ false → c ≡ true
  yes true is = refl
  yes false is = sym is

-- what the checks of a part say if they pass
pub record IsPart (elements indices from places words : ℕ) : Type 0 where
  pub few : indices ≤ most_places
  pub within : from + places ≤ most_places
  pub agree : elements ≡ indices
  pub enough : words_for places ≤ words

-- ---- a fault

abbrev fault_or : {Y : Type 0} → Fault → Result Y Fault → Fault
fault_or g (Ok y) = g
fault_or g (Err f) = f

same_fault : {Y Z : Type 0} (b : Bool) (f g : Fault) (rest : Result Y Fault) (call : Result Z Fault) → (Err g ≡ rest → call ≡ Err g) → Err g ≡ fault_if b f rest → fault_if b f call ≡ Err g
same_fault true f g rest call others is = ap (λ (h : Fault). Err h) (ap (fault_or f) (sym is))
same_fault false f g rest call others is = others is

module _ (elements indices from places words : ℕ) where
  pub is-part : all_right ≡ if_part elements indices from places words all_right → IsPart elements indices from places words
  is-part is =
      let first = found-none (nat_lt most_places indices) (fault TooLong) _ is in
      let second = found-none (nat_lt most_places (from + places)) (fault TooLong) _ first.1 in
      let third = found-none (not (eqb elements indices)) (fault LengthMismatch) _ second.1 in
      let fourth = found-none (nat_lt words (words_for places)) (fault LengthMismatch) _ third.1 in
      record {
        few = ltb-false most_places indices first.0;
        within = ltb-false most_places (from + places) second.0;
        agree = equal elements indices third.0;
        enough = ltb-false words (words_for places) fourth.0;
      }

  module _ {Y : Type 0} (call : Result Y Fault) where
    pub passes : IsPart elements indices from places words → if_part elements indices from places words call ≡ call
    passes part =
        rw (le-ltb most_places indices part.few, le-ltb most_places (from + places) part.within, eq-eqb elements indices part.agree, le-ltb words (words_for places) part.enough) refl

    pub fails : (f : Fault) → Err f ≡ if_part elements indices from places words all_right → if_part elements indices from places words call ≡ Err f
    fails f is =
        same_fault (nat_lt most_places indices) (fault TooLong) f _ _
        (same_fault (nat_lt most_places (from + places)) (fault TooLong) f _ _
        (same_fault (not (eqb elements indices)) (fault LengthMismatch) f _ _
        (same_fault (nat_lt words (words_for places)) (fault LengthMismatch) f all_right call (λ none. absurd (none-some tt (ap result_ok none))))))
        is
