-- Ranges of a transpose.
use Rattle.call_laws.proofs.Cited.{◌≡◌, ◌+◌, ◌≤◌, ◌++◌, ◌*◌, ◌∙◌, ◌>>=◌, ℕ, Bool, true, false, eqb-true, List, length, take, drop, refl, ap, arith, nat_lt, nat_tests, eqb, drop-drop}
use Rattle.call_laws.proofs.Cited.{take_all, Ok, Err, Result, Fault, pos, back_of, length-map-range_with_len, fault, fault_if, in_turn}
use Rattle.cvl_base.specs.declared.fault.FaultNo.TheVariants.{LengthMismatch}
use Rattle.std.specs.Prelude.{◌/◌, ◌%◌}
use Rattle.std.proofs.Math.Seq.{take-add}
use Rattle.transposes.specs.Transposes.{sources_of, transpose_of, transpose_range_of}
use Rattle.call_laws.proofs.BackPermutes.{back-meaning}

within : {X : Type 0} (count all : ℕ) (rest : Result (List X) Fault) → count ≤ all → fault_if (nat_lt all count) (fault LengthMismatch) rest ≡ rest
within count all rest few = grind (arith, nat_tests)

taken : {X : Type 0} (lowest count more : ℕ) (turned : List X) → take (count + more) (drop lowest turned) ≡ take count (drop lowest turned) ++ take more (drop (lowest + count) turned)
taken lowest count more turned = take-add count more (drop lowest turned) ∙ ap (λ ys. take count (drop lowest turned) ++ take more ys) (drop-drop count lowest turned)

in-order : {X : Type 0} (turned : Result (List X) Fault) (lowest count more : ℕ)
    → (turned >>= λ xs. Ok (take (count + more) (drop lowest xs))) ≡ in_turn (turned >>= λ xs. Ok (take count (drop lowest xs))) (turned >>= λ xs. Ok (take more (drop (lowest + count) xs)))
in-order (Err f) lowest count more = refl
in-order (Ok xs) lowest count more = ap Ok (taken lowest count more xs)

module _ {X : Type 0} (rows columns : ℕ) (xs : List X) where
  pub ranges-two : (lowest count more : ℕ) → lowest + (count + more) ≤ length xs
      → transpose_range_of rows columns lowest (count + more) xs ≡ in_turn (transpose_range_of rows columns lowest count xs) (transpose_range_of rows columns (lowest + count) more xs)
  ranges-two lowest count more few =
      rw (
        within (lowest + (count + more)) (length xs) (transpose_of rows columns xs >>= λ turned. Ok (take (count + more) (drop lowest turned))) few,
        within (lowest + count) (length xs) (transpose_of rows columns xs >>= λ turned. Ok (take count (drop lowest turned))) (omega (arith, few)),
        within ((lowest + count) + more) (length xs) (transpose_of rows columns xs >>= λ turned. Ok (take more (drop (lowest + count) turned))) (omega (arith, few)),
      )
      (in-order (transpose_of rows columns xs) lowest count more)

  all_there : (turned : Result (List X) Fault) → back_of xs (sources_of rows columns) ≡ turned → rows * columns ≡ length xs
      → (turned >>= λ ys. Ok (take (length xs) ys)) ≡ turned
  all_there (Err f) is shape = refl
  all_there (Ok ys) is shape =
      let many = length-map-range_with_len (λ i. pos (i % rows * columns + i / rows)) 0 (rows * columns) in
      ap Ok (take_all (length xs) ys (omega (arith, ((back-meaning xs (sources_of rows columns) ys).0 is).as_long, many, shape)))

  all_taken : (b : Bool) → eqb (rows * columns) (length xs) ≡ b → (transpose_of rows columns xs >>= λ turned. Ok (take (length xs) turned)) ≡ transpose_of rows columns xs
  all_taken true same = rw same (all_there (back_of xs (sources_of rows columns)) refl (eqb-true (rows * columns) (length xs) same))
  all_taken false other = rw other refl

  pub whole-range : transpose_range_of rows columns 0 (length xs) xs ≡ transpose_of rows columns xs
  whole-range = within (0 + length xs) (length xs) (transpose_of rows columns xs >>= λ turned. Ok (take (length xs) turned)) (omega arith) ∙ all_taken (eqb (rows * columns) (length xs)) refl
