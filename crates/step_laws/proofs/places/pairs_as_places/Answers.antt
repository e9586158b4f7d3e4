use Rattle.std.proofs.Common.{◌≡◌, ◌∙◌, List, length, map, nat_lt, Ok, Result, zip, ap, arith}
use Rattle.std.proofs.lemmas.Slice.Zip.{length-zip}
use Rattle.cvl_base.proofs.Elementwise.{if_as_long-fits}
use Rattle.cvl_base.specs.declared.fault.Fault.{Fault}
use Rattle.cvl_base.specs.declared.fault.FaultNo.TheVariants.{TooLong}
use Rattle.cvl_base.specs.Elementwise.{values_from}
use Rattle.cvl_base.specs.Faults.{fault}
use Rattle.cvl_base.specs.Gives.{fault_if}
use Rattle.cvl_base.specs.Limits.{most_places}
use Rattle.c_calls.specs.Calls.{in_limit}
use Rattle.step_laws.proofs.places.pairs_as_places.Goals as goal

-- there are as many pairs
on-pairs : {A B Z : Type 0} (xs : List A) (ys : List B) (call : Result Z Fault) → length xs ≡ length ys → in_limit xs call ≡ in_limit (zip xs ys) call
on-pairs xs ys call same =
    let long : length xs ≡ length (zip xs ys) = omega (arith, length-zip xs ys, same) in
    ap (λ n. fault_if (nat_lt most_places n) (fault TooLong) call) long

pub returns : goal.returns
returns g c = record {
  some = λ number operator xs ys same.
      let call = values_from number 0 (map (λ p. operator p.0 p.1) (zip xs ys)) in
      ap (in_limit xs) (if_as_long-fits xs ys call same) ∙ on-pairs xs ys call same;
  all = λ operator xs ys same.
      let call = Ok (map (λ p. operator p.0 p.1) (zip xs ys)) in
      ap (in_limit xs) (if_as_long-fits xs ys call same) ∙ on-pairs xs ys call same;
}
