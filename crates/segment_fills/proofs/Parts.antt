-- What a part has, and how long its copies are.
use Rattle.std.proofs.Common.{◌≡◌, ◌≢◌, ◌++◌, ◌+◌, ◌-◌, ◌≤◌, ◌∙◌, ℕ, zero, suc, true, List, [], ◌∷◌, length, take, drop, get_or, not, sum, replicate, Ok, sym, ap, arith}
use Rattle.std.proofs.lemmas.Bool.{and_parts, eqb-true, leb-true}
use Rattle.std.proofs.lemmas.List.{length-replicate, length-take, nil_from_length}
use Rattle.cvl_base.specs.declared.fault.FaultNo.TheVariants as no
use Rattle.cvl_base.specs.Faults.{fault}
use Rattle.cvl_base.specs.Gives.{fault_if}
use Rattle.cvl_base.specs.Lists.{joined}
use Rattle.pack_dist.proofs.Distributed.{copies, lists-whole}
use Rattle.pack_dist.specs.Lists.{copies_of}
use Rattle.segment_parts.specs.Reduces.{but_last, is_part}
use Rattle.segment_fills.proofs.Written.{copies-cut, take-both}
use Rattle.segment_fills.specs.Fills.{copies_in_part, is_part_with, part_distribute_of, with_head}

-- a part with so many elements, and so many values, one for each of its segments
pub record PartWith (head : ℕ) (lengths : List ℕ) (values n : ℕ) : Type 0 where
  pub enough : head + sum (but_last lengths) ≤ n
  pub few : n ≤ head + sum lengths
  pub one_each : values ≡ length (with_head head lengths)

pub part-with : (head : ℕ) (lengths : List ℕ) (values n : ℕ) → is_part_with head lengths values n ≡ true → PartWith head lengths values n
part-with head lengths values n is =
    let both = and_parts (is_part head lengths n) _ is in
    let cut = and_parts _ _ both.0 in
    record {
      enough = leb-true _ _ cut.0;
      few = leb-true _ _ cut.1;
      one_each = eqb-true _ _ both.1;
    }

pub part-distributes : {X : Type 0} (head : ℕ) (lengths : List ℕ) (values : List X) (n : ℕ) → is_part_with head lengths (length values) n ≡ true
    → part_distribute_of head lengths values n ≡ Ok (copies_in_part head lengths values n)
part-distributes head lengths values n is = ap (λ b. fault_if (not b) (fault no.LengthMismatch) (Ok (copies_in_part head lengths values n))) is

pub length-cut-copies : {X : Type 0} (values : List X) (lengths : List ℕ) (n : ℕ) → length values ≡ length lengths → n ≤ sum lengths → length (take n (joined (copies_of values lengths))) ≡ n
length-cut-copies values lengths n one_each few =
    let all = joined (copies_of values lengths) in
    omega (arith, few, length-take n all, lists-whole (copies 0) values lengths one_each)

-- what a part has of its open segment, and the segments that start in it, are its copies
pub copied : {X : Type 0} (head : ℕ) (lengths : List ℕ) (values others : List X) (n : ℕ) (before front starts : List X)
    → is_part_with head lengths (length values) n ≡ true → length before ≡ head
    → ((value : X) → length before ≢ 0 → front ≡ replicate (length before) (get_or values 0 value))
    → (length before ≡ 0 → (front ≡ before) × (others ≡ values)) → (length before ≢ 0 → others ≡ drop 1 values)
    → starts ≡ take (n - head) (joined (copies_of others lengths)) → copies_in_part head lengths values n ≡ front ++ starts
copied zero lengths values others n before front starts is long first none rest starts_are =
    let empty = none long in
    let nothing : front ≡ [] = empty.0 ∙ nil_from_length before long in
    let all : n ≡ n - 0 = omega arith in
    (λ i. take (all i) (joined (copies_of (sym empty.1 i) lengths))) ∙ sym starts_are ∙ ap (λ xs. xs ++ starts) (sym nothing)
copied (suc k) lengths [] others n before front starts is long first none rest starts_are = absurd (omega (arith, (part-with (suc k) lengths 0 n is).one_each))
copied (suc k) lengths (v ∷ vs) others n before front starts is long first none rest starts_are =
    let part = part-with (suc k) lengths (length (v ∷ vs)) n is in
    let some : length before ≢ 0 = λ e. omega (arith, long, e) in
    let here : take n (replicate (suc k) v) ≡ front =
    sym (copies-cut n (suc k) (suc k) v (omega (arith, part.enough))) ∙ sym (first v some ∙ ap (λ m. replicate m v) long) in
    take-both n (replicate (suc k) v) (joined (copies_of vs lengths))
    ∙ (λ i. here i ++ take (n - length-replicate (suc k) v i) (joined (copies_of (sym (rest some) i) lengths)))
    ∙ ap (λ xs. front ++ xs) (sym starts_are)
