-- What the parts of a call on runs put into their ranges of the room.
use Rattle.std.proofs.Common.{◌≡◌, ◌+◌, ◌-◌, ◌≤◌, ◌∙◌, ℕ, ℤ, pos, List, [], ◌∷◌, length, map, take, sum, All, Ok, refl}
use Rattle.std.proofs.Common.{ap, arith, subst}
use Rattle.std.proofs.Common.{nat_lt}
use Rattle.std.proofs.lemmas.Bool.{le-ltb}
use Rattle.std.proofs.lemmas.List.Elements.{All-cons, All-nil}
use Rattle.c_calls.specs.Calls.{in_limit}
use Rattle.c_calls.specs.Told.{Told}
use Rattle.call_laws.specs.OverRanks.{together}
use Rattle.cvl_base.specs.declared.fault.FaultNo.TheVariants as no
use Rattle.cvl_base.specs.Faults.{fault}
use Rattle.cvl_base.specs.Folds.{scan_of}
use Rattle.cvl_base.specs.Gives.{fault_if}
use Rattle.cvl_base.specs.Integers.{sum_of}
use Rattle.cvl_base.specs.Limits.{most_places}
use Rattle.cvl_base.specs.Lists.{joined}
use Rattle.cvl_base.proofs.Lists.{sum-cons}
use Rattle.run_parts.specs.Runs.{lengths_of_runs}
use Rattle.segment_parts.specs.Reduces.{join_last}
use Rattle.step_laws.proofs.Answered.{within}
use Rattle.step_laws.proofs.RunNumbers.{begins_by_parts, goes_on_behind, lengths_by_parts, size-together, size_of, size_of_all}
use Rattle.step_laws.proofs.RunNumbers.{starts-scanned, starts_by_parts}
use Rattle.step_laws.specs.RunParts.{RunPart}
use Rattle.step_laws.specs.RunSteps.{PutsLengths, PutsStarts}

-- ---- what a part puts

-- a part has told its runs, and has a place for each
pub record Ready {X : Type 0} (p : RunPart X) : Type 0 where
  pub room : length p.part.room ≡ p.count
  pub enough : p.count ≤ length p.own
  pub few : length p.own ≤ most_places
  pub behind : p.behind ≤ most_places
  pub begin : p.begin ≤ most_places

module _ {X : Type 0} where
  abbrev pub put_lengths : RunPart X → List ℤ
  put_lengths p = join_last sum_of (take p.count p.own) (pos p.behind)

  abbrev pub put_starts : RunPart X → List ℤ
  put_starts p = scan_of sum_of (pos p.begin) (take p.count p.own)

  first-fits : (number : ℕ) (p : RunPart X) (made : List ℤ → List ℤ) → number ≤ most_places → Ready p
      → in_limit p.own (fault_if (nat_lt most_places number) (fault no.TooLong)
      (fault_if (nat_lt (length p.own) (length p.part.room)) (fault no.LengthMismatch) (Ok (made (take (length p.part.room) p.own))))) ≡ Ok (made (take p.count p.own))
  first-fits number p made few ready =
      let value = made (take (length p.part.room) p.own) in
      within p.own (fault_if (nat_lt most_places number) (fault no.TooLong) (fault_if (nat_lt (length p.own) (length p.part.room)) (fault no.LengthMismatch) (Ok value))) ready.few
      ∙ ap (λ b. fault_if b (fault no.TooLong) (fault_if (nat_lt (length p.own) (length p.part.room)) (fault no.LengthMismatch) (Ok value))) (le-ltb most_places number few)
      ∙ ap (λ b. fault_if b (fault no.LengthMismatch) (Ok value)) (le-ltb (length p.own) (length p.part.room) (omega (arith, ready.room, ready.enough)))
      ∙ ap (λ n. Ok (made (take n p.own))) ready.room

  pub lengths-put : (own left : RunPart X) → PutsLengths own left → Ready own → left.part.room ≡ put_lengths own
  lengths-put own left does ready =
      let full : Told (Ok (put_lengths own)) does.0.0 own.part.room left.part.room =
      subst (λ m. Told m does.0.0 own.part.room left.part.room) (first-fits own.behind own (λ ls. join_last sum_of ls (pos own.behind)) ready.behind ready) does.0.1 in
      full.1

  pub starts-put : (own left : RunPart X) → PutsStarts own left → Ready own → left.part.room ≡ put_starts own
  starts-put own left does ready =
      let full : Told (Ok (put_starts own)) does.0.0 own.part.room left.part.room =
      subst (λ m. Told m does.0.0 own.part.room left.part.room) (first-fits own.begin own (λ ls. scan_of sum_of (pos own.begin) ls) ready.begin ready) does.0.1 in
      full.1

  -- ---- what all of them put

  pub behinds-few : (parts : List (RunPart X)) (parted : List (List X × List (List X))) → map (λ p. p.behind) parts ≡ goes_on_behind parted → size_of_all parted ≤ most_places
      → All (λ p. p.behind ≤ most_places) parts
  behinds-few [] parted same few = All-nil (λ (p : RunPart X). p.behind ≤ most_places)
  behinds-few (p ∷ parts) [] same few = absurd (cc)
  behinds-few (p ∷ parts) (q ∷ others) same few =
      let listed : p.behind ∷ map (λ (r : RunPart X). r.behind) parts ≡ length (together others).0 ∷ goes_on_behind others = same in
      let first : p.behind ≡ length (together others).0 = cc in
      let rest : map (λ (r : RunPart X). r.behind) parts ≡ goes_on_behind others = cc in
      let less = sum-cons (size_of q) (map size_of others) in
      All-cons (λ (r : RunPart X). r.behind ≤ most_places) p parts (omega (arith, first, size-together others, few, less)) (behinds-few parts others rest (omega (arith, few, less)))

  pub lengths-all : (parts : List (RunPart X)) (parted : List (List X × List (List X))) → map (λ p. take p.count p.own) parts ≡ map (λ q. lengths_of_runs q.1) parted
      → map (λ p. p.behind) parts ≡ goes_on_behind parted → map put_lengths parts ≡ lengths_by_parts parted
  lengths-all [] [] lengths behinds = refl
  lengths-all [] (q ∷ others) lengths behinds = absurd (cc)
  lengths-all (p ∷ parts) [] lengths behinds = absurd (cc)
  lengths-all (p ∷ parts) (q ∷ others) lengths behinds =
      let listed : take p.count p.own ∷ map (λ (r : RunPart X). take r.count r.own) parts ≡ lengths_of_runs q.1 ∷ map (λ (r : List X × List (List X)). lengths_of_runs r.1) others = lengths in
      let own : take p.count p.own ≡ lengths_of_runs q.1 = cc in
      let rest : map (λ (r : RunPart X). take r.count r.own) parts ≡ map (λ (r : List X × List (List X)). lengths_of_runs r.1) others = cc in
      let also : p.behind ∷ map (λ (r : RunPart X). r.behind) parts ≡ length (together others).0 ∷ goes_on_behind others = behinds in
      let behind : p.behind ≡ length (together others).0 = cc in
      let behind_others : map (λ (r : RunPart X). r.behind) parts ≡ goes_on_behind others = cc in
      (λ i. join_last sum_of (own i) (pos (behind i)) ∷ lengths-all parts others rest behind_others i)

  pub starts-all : (place : ℕ) (parts : List (RunPart X)) (parted : List (List X × List (List X))) → place + size_of_all parted ≤ most_places
      → map (λ p. take p.count p.own) parts ≡ map (λ q. lengths_of_runs q.1) parted → map (λ p. p.begin) parts ≡ begins_by_parts place parted
      → map put_starts parts ≡ starts_by_parts place parted
  starts-all place [] [] few lengths begins = refl
  starts-all place [] (q ∷ others) few lengths begins = absurd (cc)
  starts-all place (p ∷ parts) [] few lengths begins = absurd (cc)
  starts-all place (p ∷ parts) (q ∷ others) few lengths begins =
      let listed : take p.count p.own ∷ map (λ (r : RunPart X). take r.count r.own) parts ≡ lengths_of_runs q.1 ∷ map (λ (r : List X × List (List X)). lengths_of_runs r.1) others = lengths in
      let own : take p.count p.own ≡ lengths_of_runs q.1 = cc in
      let rest : map (λ (r : RunPart X). take r.count r.own) parts ≡ map (λ (r : List X × List (List X)). lengths_of_runs r.1) others = cc in
      let also : p.begin ∷ map (λ (r : RunPart X). r.begin) parts ≡ (place + size_of q - length (joined q.1)) ∷ begins_by_parts (place + size_of q) others = begins in
      let begin : p.begin ≡ place + size_of q - length (joined q.1) = cc in
      let begin_others : map (λ (r : RunPart X). r.begin) parts ≡ begins_by_parts (place + size_of q) others = cc in
      let less = sum-cons (size_of q) (map size_of others) in
      let here : p.begin ≡ place + length q.0 = omega (arith, begin) in
      let scanned = starts-scanned (place + length q.0) q.1 (omega (arith, few, less)) in
      (λ i. ((λ j. scan_of sum_of (pos (here j)) (own j)) ∙ scanned) i ∷ starts-all (place + size_of q) parts others (omega (arith, few, less)) rest begin_others i)
