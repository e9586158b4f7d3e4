-- Segmented calls: the flat call on the inner lists of each segment.
-- Source: CVL's segmented operations; that the first segment's fault is reported, and its place, is this library's profile.
use Rattle.std.specs.Prelude.{ℕ, ◌+◌, List, [], ◌∷◌, sum, take, option_map, Result, Ok, Err}
use Rattle.std.specs.List.{zip}
use Rattle.cvl_base.specs.declared.fault.Fault.{Fault}
use Rattle.cvl_base.specs.Elementwise.{if_as_long}
use Rattle.cvl_base.specs.Gives.{◌>>=◌}
use Rattle.operators.specs.Lists.{joined}

-- the arguments of each segment, from two lists of them that must be equal in number
abbrev pub beside : {A B : Type 0} → Result (List A) Fault → Result (List B) Fault → Result (List (A × B)) Fault
beside firsts seconds = firsts >>= λ xs. seconds >>= λ ys. if_as_long xs ys (Ok (zip xs ys))

-- a flat call of two or of three arguments, on the arguments of a segment
abbrev pub of_two : {A B R : Type 0} → (A → B → R) → A × B → R
of_two call args = call args.0 args.1

-- a call of three arguments on the arguments of a segment
abbrev pub of_three : {A B C R : Type 0} → (A → B → C → R) → (A × B) × C → R
of_three call args = of_two call args.0 args.1

-- place p of segment s, in a vector whose segments have these lengths
abbrev pub in_vector : List ℕ → ℕ → ℕ → ℕ
in_vector lengths s p = sum (take s lengths) + p

-- the place where a call takes one index for each segment
abbrev pub at_segment : ℕ → ℕ → ℕ
at_segment s p = s

-- the fault of a segment's flat call, at its place in the whole
abbrev pub moved : {X : Type 0} → (ℕ → ℕ) → Result X Fault → Result X Fault
moved to (Ok x) = Ok x
moved to (Err f) = Err (record { number = f.number; place = option_map to f.place })

-- the flat call on each of the segments, which are those from s on, or the fault of the first that has one
abbrev pub results_from : {S R : Type 0} → (ℕ → ℕ → ℕ) → (S → Result R Fault) → ℕ → List S → Result (List R) Fault
results_from place call s [] = Ok []
results_from place call s (x ∷ xs) =
    moved (place s) (call x) >>= λ r. results_from place call (s + 1) xs >>= λ rs. Ok (r ∷ rs)

-- a call whose flat results are single values: one for each segment
abbrev pub one_each : {S R : Type 0} → (ℕ → ℕ → ℕ) → (S → Result R Fault) → Result (List S) Fault → Result (List R) Fault
one_each place call segments = segments >>= λ xs. results_from place call 0 xs

-- a call whose flat results are lists: in order
abbrev pub end_to_end : {S X : Type 0} → (ℕ → ℕ → ℕ) → (S → Result (List X) Fault) → Result (List S) Fault → Result (List X) Fault
end_to_end place call segments = one_each place call segments >>= λ lists. Ok (joined lists)
