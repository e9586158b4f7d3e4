-- Segmented scans and reduces in parts. A cut may lie inside a segment: the first segment of the part after it is then the rest of that
-- segment, which continues from the carry, the join of the segment's elements before the cut.
-- Source: Blelloch's segmented scans (Vector Models for Data-Parallel Computing, 1990).
use Rattle.std.specs.Prelude.{◌≡◌, ℕ, ◌+◌, List, [], ◌∷◌, ◌++◌, length, map, sum, Result, Ok}
use Rattle.cvl_base.specs.declared.fault.Fault.{Fault}
use Rattle.cvl_base.specs.Folds.{fold_of, scan_of}
use Rattle.cvl_base.specs.Gives.{◌>>=◌}
use Rattle.cvl_base.specs.Lists.{joined}
use Rattle.cvl_base.specs.Nests.{nest}
use Rattle.call_laws.specs.InParts.{in_two}

-- a flat call on each segment, from what stands before it: the carry before the first segment, and nothing before the others
abbrev pub each_after : {Item R : Type 0} → (Item → List Item → R) → Item → Item → List (List Item) → List R
each_after call unit carry [] = []
each_after call unit carry (first ∷ others) = call carry first ∷ map (call unit) others

-- the segmented scan of a part
abbrev pub seg_scan_after : {Item : Type 0} → (Item → Item → Item) → Item → Item → List Item → List ℕ
    → Result (List Item) Fault
seg_scan_after join unit carry xs lengths = nest lengths xs >>= λ segments. Ok (joined (each_after (scan_of join) unit carry segments))

-- the segmented reduce of a part; if the cut after the part lies inside its last segment, the last reduce is the carry into the next part
abbrev pub seg_reduce_after : {Item : Type 0} → (Item → Item → Item) → Item → Item → List Item → List ℕ
    → Result (List Item) Fault
seg_reduce_after join unit carry xs lengths = nest lengths xs >>= λ segments. Ok (each_after (fold_of join) unit carry segments)

-- A segmented call that takes a carry.
abbrev pub AfterCarry : Type 0 → Type 0
AfterCarry Item = Item → List Item → List ℕ → Result (List Item) Fault

-- After a cut inside a segment, which leaves m of its elements to the first part and n to the second, the second part continues from the
-- last reduce of the first.
abbrev pub Continues : {Item : Type 0} → AfterCarry Item → AfterCarry Item → Type 0
Continues {Item = Item} reduce_after call_after =
    (carry out : Item) (xs ys closed : List Item) (lengths more : List ℕ) (m n : ℕ) →
    sum lengths + m ≡ length xs → n + sum more ≡ length ys →
    reduce_after carry xs (lengths ++ m ∷ []) ≡ Ok (closed ++ out ∷ []) →
    call_after carry (xs ++ ys) (lengths ++ (m + n) ∷ more)
    ≡ in_two (length xs) (call_after carry xs (lengths ++ m ∷ [])) (call_after out ys (n ∷ more))

-- After a cut between segments, with a segment before it, the second part starts anew: it is the call without a carry.
abbrev pub StartsAnew : {Item : Type 0} → AfterCarry Item → (List Item → List ℕ → Result (List Item) Fault) → Type 0
StartsAnew {Item = Item} call_after call =
    (carry : Item) (xs ys : List Item) (k : ℕ) (lengths more : List ℕ) →
    sum (k ∷ lengths) ≡ length xs → sum more ≡ length ys →
    call_after carry (xs ++ ys) ((k ∷ lengths) ++ more) ≡ in_two (length xs) (call_after carry xs (k ∷ lengths)) (call ys more)
