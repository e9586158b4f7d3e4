-- The walk that stores places at their destinations: how many places then have a sender tells whether a destination was bad.
use Rattle.std.proofs.Common.{◌≡◌, ◌∙◌, ℕ, ◌+◌, ◌<◌, ◌≤◌, Bool, true, false, not, cond, List, ◌∷◌, drop, length, get_or, set, replicate}
use Rattle.std.proofs.Common.{refl, sym, ap, subst, arith, eqb, ltb, ℤ, pos, negsuc, w32}
use Rattle.std.proofs.Common.{to_z, of_z, FitsSigned, Option, Some, None}
use Rattle.std.specs.List.{sum_by}
use Rattle.std.proofs.lemmas.Bool.{lt-ltb, ne_eqb, false≢true}
use Rattle.std.proofs.lemmas.Int.{ints, to_z-of_z}
use Rattle.std.proofs.lemmas.List.{at_drop_more, length-set, length-replicate}
use Rattle.std.proofs.lemmas.List.Folds.{sum_by-replicate}
use Rattle.std.proofs.lemmas.List.Sums.{sum_by-set}
use Rattle.std.proofs.lemmas.Option.{none-some}
use Rattle.cvl_base.specs.declared.fault.FaultNo.{FaultNo}
use Rattle.cvl_base.specs.declared.fault.FaultNo.TheVariants.{IndexOutOfRange}
use Rattle.cvl_base.specs.Faults.{fault_at}
use Rattle.cvl_base.specs.Limits.{most_places}
use Rattle.cvl_base.specs.Permutes.{first_fault, is_place, wrongs}
use Rattle.sent_places.specs.Senders.{IsStored, count_sent, nobody, wrong_with}
use Rattle.sent_places.proofs.Sent.{IsSentTo, sent_none, sent_more, skip_more, sent_all, found_here, length-wrongs, right_tests}

-- 1 where somebody is the sender
abbrev pub is_sent : ℕ → ℕ
is_sent s = cond (not (eqb s nobody)) 1 0

pub none_sent : (m : ℕ) → sum_by is_sent (replicate m nobody) ≡ 0
none_sent m = omega (arith, sum_by-replicate is_sent m nobody)

first_right : (place : ℕ) (w : Option FaultNo) (ws : List (Option FaultNo)) → None ≡ first_fault place (w ∷ ws) → w ≡ None
first_right place None ws right = refl
first_right place (Some number) ws right = absurd (none-some (fault_at number place) right)

-- what the walk leaves after the first k places, where so many were sent
pub record IsStoredTo (place : ℕ) (ts : List (Option ℤ)) (m k sent : ℕ) (senders : List ℕ) : Type 0 where
  pub as_long : length senders ≡ m
  pub at_most : count_sent senders ≤ sent
  pub exact : count_sent senders ≡ sent → IsSentTo place ts m k senders
  pub apart : None ≡ first_fault place (wrongs m ts) → count_sent senders ≡ sent

pub stored_none : (place : ℕ) (ts : List (Option ℤ)) (m : ℕ) (senders : List ℕ) → senders ≡ replicate m nobody → IsStoredTo place ts m 0 0 senders
stored_none place ts m senders fresh = record {
  as_long = ap length fresh ∙ length-replicate m nobody;
  at_most = omega (arith, ap count_sent fresh, none_sent m);
  exact = λ same. sent_none place ts m senders fresh;
  apart = λ right. omega (arith, ap count_sent fresh, none_sent m);
}

-- an index that is right is a place
pub inside_where_right : (senders : List ℕ) (i : ℤ) → wrong_with senders i ≡ None → is_place (length senders) i ≡ true
inside_where_right senders (pos d) right = (right_tests (ltb d (length senders)) (eqb (get_or senders d 0) nobody) right).0
inside_where_right senders (negsuc d) right = absurd (none-some IndexOutOfRange (sym right))

free_from : (b : Bool) → cond (not b) 1 0 ≤ 0 → b ≡ true
free_from true none = refl
free_from false none = absurd (omega arith)

module _ (place : ℕ) (ts : List (Option ℤ)) (m k sent : ℕ) (senders : List ℕ) (small : place + length ts ≤ nobody) (to : IsStoredTo place ts m k sent senders) (lt : k < length ts) where
  -- where no place is bad, this one is not
  pub right_now : (i : ℤ) → get_or ts k None ≡ Some i → None ≡ first_fault place (wrongs m ts) → wrong_with senders i ≡ None
  right_now i is right =
      let sent_to = to.exact (to.apart right) in
      sym (found_here place ts m k senders small sent_to lt i is)
      ∙ first_right (place + k) (get_or (wrongs m ts) k None) (drop (k + 1) (wrongs m ts))
      (right ∙ sent_to.fault_is ∙ at_drop_more (first_fault (place + k)) (wrongs m ts) k None (omega (arith, length-wrongs m ts)))

  -- one more destination
  pub stored_more : (new : List ℕ) (now d : ℕ) → get_or ts k None ≡ Some (pos d) → d < m → now ≡ sent + 1 → new ≡ set senders d (place + k) → IsStoredTo place ts m (k + 1) now new
  stored_more new now d is within more stored =
      let in_senders : d < length senders = omega (arith, to.as_long) in
      let set_one : count_sent (set senders d (place + k)) + is_sent (get_or senders d 0) ≡ count_sent senders + is_sent (place + k) = sum_by-set is_sent senders d (place + k) 0 in_senders in
      let becomes : is_sent (place + k) ≡ 1 = ap (λ b. cond (not b) 1 0) (ne_eqb (place + k) nobody (λ same. omega arith)) in
      let count : count_sent new ≡ count_sent (set senders d (place + k)) = ap count_sent stored in
      record {
        as_long = ap length stored ∙ length-set senders d (place + k) ∙ to.as_long;
        at_most = omega (arith, count, set_one, becomes, to.at_most, more);
        exact = λ same.
            let was : is_sent (get_or senders d 0) ≡ 0 = omega (arith, count, set_one, becomes, to.at_most, more, same) in
            let before : count_sent senders ≡ sent = omega (arith, count, set_one, becomes, more, same, was) in
            let inside = lt-ltb d (length senders) in_senders in
            let free = free_from (eqb (get_or senders d 0) nobody) (omega (arith, was)) in
            sent_more place ts m k senders small (to.exact before) lt new (pos d) is (rw (inside, free) refl) stored;
        apart = λ right.
            let tests = right_tests (ltb d (length senders)) (eqb (get_or senders d 0) nobody) (right_now (pos d) is right) in
            let was : is_sent (get_or senders d 0) ≡ 0 = ap (λ b. cond (not b) 1 0) tests.1 in
            omega (arith, count, set_one, was, becomes, to.apart right, more);
      }

  -- a destination that is no place of the result
  pub stored_outside : (new : List ℕ) (now : ℕ) (i : ℤ) → get_or ts k None ≡ Some i → is_place m i ≡ false → now ≡ sent + 1 → new ≡ senders → IsStoredTo place ts m (k + 1) now new
  stored_outside new now i is outside more same = record {
    as_long = ap length same ∙ to.as_long;
    at_most = omega (arith, ap count_sent same, to.at_most, more);
    exact = λ all. absurd (omega (arith, ap count_sent same, to.at_most, more, all));
    apart = λ right. absurd (false≢true (sym outside ∙ ap (λ n. is_place n i) (sym to.as_long) ∙ inside_where_right senders i (right_now i is right)));
  }

  -- a place that does not take part
  pub stored_skip : (new : List ℕ) (now : ℕ) → get_or ts k None ≡ None → now ≡ sent → new ≡ senders → IsStoredTo place ts m (k + 1) now new
  stored_skip new now is same_count same = record {
    as_long = ap length same ∙ to.as_long;
    at_most = omega (arith, ap count_sent same, to.at_most, same_count);
    exact = λ all. subst (IsSentTo place ts m (k + 1)) (sym same)
        (skip_more place ts m k senders small (to.exact (omega (arith, ap count_sent same, all, same_count))) lt is);
    apart = λ right. omega (arith, ap count_sent same, to.apart right, same_count);
  }

-- an index that is below the most places when its sign is not looked at is not negative
pub index_is : (i : ℤ) (d : ℕ) → FitsSigned w32 i → d ≡ of_z w32 (to_z w32 (of_z w32 i)) → d < most_places → i ≡ pos d
index_is (pos a) d fits cast below = ap (λ n. pos n) (sym (cast ∙ ap (of_z w32) (to_z-of_z w32 (pos a) fits)))
index_is (negsuc a) d fits cast below = let same : d ≡ of_z w32 (negsuc a) = cast ∙ ap (of_z w32) (to_z-of_z w32 (negsuc a) fits) in absurd (omega (arith, ints))

-- all places
pub stored_all : (place : ℕ) (ts : List (Option ℤ)) (m k sent : ℕ) (senders : List ℕ) → IsStoredTo place ts m k sent senders → length ts ≤ k → IsStored place ts sent m senders
stored_all place ts m k sent senders to ge = record {
  at_most = to.at_most;
  no_fault = λ same. (sent_all place ts m k senders (to.exact same) ge).0;
  are_first = λ same. (sent_all place ts m k senders (to.exact same) ge).1;
  apart = to.apart;
}
