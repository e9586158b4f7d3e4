-- A pass of a sort by steps is the stable sort by its digit.
use Rattle.std.proofs.Common.{◌≡◌, ◌∙◌, ℕ, ◌+◌, ◌-◌, ◌*◌, ◌/◌, ◌^◌, ◌<◌, ◌≤◌, ◌==◌, ◌&&◌, ℤ, List, [], ◌∷◌, ◌++◌, All, ap, arith, length, length-append}
use Rattle.std.proofs.Common.{get_or, map, not, Bool, Result, Ok, refl, subst, sum, sym}
use Rattle.std.specs.Prelude.{MatchResult}
use Rattle.std.specs.List.{AllZip}
use Rattle.std.proofs.lemmas.Bool.{eq-eqb, lt-ltb}
use Rattle.std.proofs.lemmas.List.{length-map}
use Rattle.std.proofs.lemmas.List.Elements.{All-head, All-tail}
use Rattle.std.proofs.lemmas.Nat.{mod_below, pow_pos}
use Rattle.cvl_base.specs.declared.fault.Fault.{Fault}
use Rattle.cvl_base.specs.declared.fault.FaultNo.TheVariants as no
use Rattle.cvl_base.specs.Faults.{fault}
use Rattle.cvl_base.specs.Gives.{fault_if}
use Rattle.cvl_base.specs.Limits.{most_places}
use Rattle.cvl_base.specs.Lists.{joined}
use Rattle.c_calls.specs.Calls.{in_limit}
use Rattle.digit_partitions.specs.Ends.{digit_ends}
use Rattle.digit_partitions.specs.Partitions.{most_digits, partitioned}
use Rattle.digit_partitions.specs.Pieces.{IsCut}
use Rattle.sort_parts.specs.Cuts.{IsCutBetween, fits_parts}
use Rattle.stable_sorts.proofs.InParts.{cut_at_ends, length-ends, pass_sorts}
use Rattle.stable_sorts.specs.InParts.{blocks_by_digit, ends_of_blocks, gathered}
use Rattle.stable_sorts.specs.Keys.{above_least}
use Rattle.stable_sorts.specs.Passes.{by_digit}
use Rattle.stable_sorts.specs.Steps.{IsBlock, digit_of_pass}
use Rattle.step_laws.proofs.AnyOrder.{in_any_order}
use Rattle.step_laws.proofs.Answered.{within}
use Rattle.step_laws.proofs.Parted.{alike}
use Rattle.step_laws.proofs.SortPieces.{gathered_all}
use Rattle.step_laws.specs.SortParts.{HasBlock, PassPart, SharesAlone, blocks_of, ends_of, places_from, result_of, whole_of}
use Rattle.step_laws.specs.SortSteps.{Blocks, Gathers, IsPassBySteps}

-- the operands of a cut agree
fits : (n shares ends pieces places : ℕ) → 1 ≤ n → shares ≡ n + 1 → ends ≡ n * most_digits → pieces ≡ shares → places ≡ shares → fits_parts shares ends pieces places ≡ Ok tt
fits n shares ends pieces places some long many pieces_long places_long =
    let parts : n ≡ shares - 1 = omega (arith, long) in
    let as_many : ends ≡ (shares - 1) * most_digits = many ∙ ap (λ k. k * most_digits) parts in
    let answer : Bool → Result (Unit {0}) Fault = λ b. fault_if (not b) (fault no.LengthMismatch) (Ok tt) in
    ap (λ b. answer ((b && (ends == (shares - 1) * most_digits)) && ((pieces == shares) && (places == shares)))) (lt-ltb 1 shares (omega (arith, long, some)))
    ∙ ap (λ b. answer (b && ((pieces == shares) && (places == shares)))) (eq-eqb ends ((shares - 1) * most_digits) as_many)
    ∙ ap (λ b. answer (b && (places == shares))) (eq-eqb pieces shares pieces_long)
    ∙ ap answer (eq-eqb places shares places_long)

module _ {X : Type 0} (key : X → ℤ) (pass : ℕ) (below : pass < 3) where
  abbrev digit : X → ℕ
  digit x = digit_of_pass pass (key x)

  small : (x : X) → digit x < most_digits
  small x = mod_below (above_least (key x) / 2 ^ (11 * pass)) (2 ^ 11) (pow_pos 11)

  abbrev lists : List (PassPart X) → List (List X)
  lists parts = map (λ (p : PassPart X). p.elements) parts

  -- what the first step leaves
  blocked : (before : ℕ) (start left : List (PassPart X)) → before + length (whole_of start) ≤ most_places
      → map (λ (p : PassPart X). p.before) start ≡ places_from before (lists start) → All HasBlock start → AllZip (Blocks key pass) start left
      → (blocks_of left ≡ blocks_by_digit digit (lists start)) × (ends_of left ≡ ends_of_blocks digit before (lists start))
  blocked before [] [] few places rooms zipped = (refl, refl)
  blocked before [] (q ∷ left) few places rooms zipped = absurd zipped
  blocked before (p ∷ start) [] few places rooms zipped = absurd zipped
  blocked before (p ∷ start) (q ∷ left) few places rooms (first, others) =
      let listed : p.before ∷ map (λ (r : PassPart X). r.before) start ≡ before ∷ places_from (before + length p.elements) (lists start) = places in
      let here : p.before ≡ before = cc in
      let behind : map (λ (r : PassPart X). r.before) start ≡ places_from (before + length p.elements) (lists start) = cc in
      let both = length-append p.elements (whole_of start) in
      let room = All-head HasBlock p start rooms in
      let agree : IsBlock pass p.before (length p.elements) (length p.block) (length p.ends) =
      record { below = below; in_limit = omega (arith, few, both, here); as_long = room.0; as_many = room.1 } in
      let makes = first.0.1 in
      let written = makes.written (makes.is_done agree) in
      let block_is : q.block ≡ partitioned digit most_digits p.elements = ap (λ v. v.0) written in
      let ends_are : q.ends ≡ map (λ e. before + e) (digit_ends digit most_digits p.elements) =
      ap (λ v. v.1) written ∙ ap (λ n. map (λ e. n + e) (digit_ends digit most_digits p.elements)) here in
      let rest = blocked (before + length p.elements) start left (omega (arith, few, both)) behind (All-tail HasBlock p start rooms) others in (
        ap (λ b. b ++ blocks_of left) block_is ∙ ap (λ bs. partitioned digit most_digits p.elements ++ bs) rest.0,
        ap (λ e. e ++ ends_of left) ends_are ∙ ap (λ es. map (λ e. before + e) (digit_ends digit most_digits p.elements) ++ es) rest.1,
      )

  pub pass_is : (start end : List (PassPart X)) → length (whole_of start) ≤ most_places → IsPassBySteps key pass start end
      → result_of end ≡ by_digit digit (whole_of start)
  pass_is start end few steps =
      let zipped = in_any_order (Blocks key pass) start steps.blocked steps.blocks in
      let first = blocked 0 start steps.blocked (omega (arith, few)) steps.places steps.rooms zipped in
      let kept = alike (Blocks key pass) (λ p. p.elements) (λ p. p.elements) (λ own left does. ap (λ (p : PassPart X). p.elements) does.1) start steps.blocked zipped in
      let kept_too = alike SharesAlone (λ p. p.elements) (λ p. p.elements) (λ own left does. ap (λ (p : PassPart X). p.elements) does) steps.blocked steps.shared steps.shares_alone in
      let same_blocks = alike SharesAlone (λ p. p.block) (λ p. p.block) (λ own left does. ap (λ (p : PassPart X). p.block) does) steps.blocked steps.shared steps.shares_alone in
      let same_ends = alike SharesAlone (λ p. p.ends) (λ p. p.ends) (λ own left does. ap (λ (p : PassPart X). p.ends) does) steps.blocked steps.shared steps.shares_alone in
      let n = length start in
      let many : length steps.shared ≡ n =
      sym (length-map steps.shared (λ (p : PassPart X). p.elements)) ∙ ap length (kept_too ∙ kept) ∙ length-map start (λ (p : PassPart X). p.elements) in
      let as_many : length (lists start) ≡ n = length-map start (λ (p : PassPart X). p.elements) in
      let blocks_are : blocks_of steps.shared ≡ blocks_by_digit digit (lists start) = ap joined same_blocks ∙ first.0 in
      let ends_are : ends_of steps.shared ≡ ends_of_blocks digit 0 (lists start) = ap joined same_ends ∙ first.1 in
      let long : length (ends_of_blocks digit 0 (lists start)) ≡ n * most_digits =
      length-ends digit small 0 (lists start) ∙ ap (λ k. k * most_digits) as_many in
      let blocked_long : length (ends_of steps.blocked) ≡ n * most_digits = ap length first.1 ∙ long in
      let agree : in_limit (ends_of steps.blocked) (fits_parts (length steps.shares) (length (ends_of steps.blocked)) (length steps.before.0) (length steps.before.1)) ≡ Ok tt =
      within (ends_of steps.blocked) (fits_parts (length steps.shares) (length (ends_of steps.blocked)) (length steps.before.0) (length steps.before.1))
      (omega (arith, blocked_long, steps.few))
      ∙ fits n (length steps.shares) (length (ends_of steps.blocked)) (length steps.before.0) (length steps.before.1) steps.some steps.as_many blocked_long
      steps.pieces_room steps.places_room in
      let one_less : length steps.shares - 1 ≡ n = omega (arith, steps.as_many) in
      let cut : IsCutBetween n (ends_of steps.blocked) steps.now.0 steps.now.1 =
      subst (λ k. IsCutBetween k (ends_of steps.blocked) steps.now.0 steps.now.1) one_less
      (subst (λ m. MatchResult m (λ _. IsCutBetween (length steps.shares - 1) (ends_of steps.blocked) steps.now.0 steps.now.1) (λ _. steps.now ≡ steps.before)) agree
      steps.cut.1) in
      let shared_ends : ends_of steps.blocked ≡ ends_of steps.shared = ap joined (sym same_ends) in
      let cut_shared : IsCutBetween n (ends_of steps.shared) steps.now.0 steps.now.1 =
      subst (λ es. IsCutBetween n es steps.now.0 steps.now.1) shared_ends cut in
      let cut_now : IsCutBetween (length steps.shared) (ends_of steps.shared) steps.now.0 steps.now.1 =
      subst (λ k. IsCutBetween k (ends_of steps.shared) steps.now.0 steps.now.1) (sym many) cut_shared in
      let at_ends : IsCut (length (blocks_of steps.shared)) (ends_of steps.shared) =
      subst (λ es. IsCut (length (blocks_of steps.shared)) es) (sym ends_are)
      (subst (λ bs. IsCut (length bs) (ends_of_blocks digit 0 (lists start))) (sym blocks_are) (cut_at_ends digit small (lists start))) in
      let ends_long : length (ends_of steps.shared) ≡ length steps.shared * most_digits =
      ap length ends_are ∙ long ∙ ap (λ k. k * most_digits) (sym many) in
      let last : length steps.now.0 - 1 ≡ length steps.shared = omega (arith, cut_now.as_many) in
      let all = gathered_all (blocks_of steps.shared) (ends_of steps.shared) (length steps.shared) (omega (arith, many, steps.some)) ends_long at_ends
      steps.now.0 steps.now.1 steps.shared end steps.have_shares (in_any_order (Gathers steps.shared) steps.shared end steps.gathers)
      (λ k in_pieces. cut_now.in_order k (omega (arith, in_pieces, cut_now.as_many)))
      (ap (λ k. get_or steps.now.0 k 0) last ∙ cut_now.last) cut_now.before in
      let counts = map (λ (p : PassPart X). p.count) steps.shared in
      let total : sum counts ≡ length (lists start) * most_digits =
      omega (arith, all.1, cut_now.first, ends_long, ap (λ k. k * most_digits) many, ap (λ k. k * most_digits) as_many) in
      let blocks_many : length steps.shared ≡ length (lists start) = many ∙ sym as_many in
      all.0
      ∙ ap (λ from. gathered (blocks_of steps.shared) (ends_of steps.shared) (length steps.shared) from counts) cut_now.first
      ∙ ap (λ bs. gathered bs (ends_of steps.shared) (length steps.shared) 0 counts) blocks_are
      ∙ ap (λ es. gathered (blocks_by_digit digit (lists start)) es (length steps.shared) 0 counts) ends_are
      ∙ ap (λ k. gathered (blocks_by_digit digit (lists start)) (ends_of_blocks digit 0 (lists start)) k 0 counts) blocks_many
      ∙ pass_sorts key pass (lists start) counts total
