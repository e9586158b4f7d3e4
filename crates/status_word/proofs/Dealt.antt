-- The rule of the hands is kept by each kind of step, and what it implies.
-- Source: what the definitions of Hands imply.
use Rattle.status_word.proofs.Cited.{◌≡◌, ◌≢◌, refl, sym, ap, ◌∙◌, subst, ℕ, ◌+◌, ◌-◌, ◌<◌, ◌≤◌, min, List, [], ◌∷◌, ◌++◌, length, set, arith, sum_by, nat_tests, sum_by-cons, sum_by_push}
use Rattle.status_word.proofs.Cited.{length-append, some, some-ne-none, get_elem?}
use Rattle.status_word.specs.declared.pass.Hand.{Hand}
use Rattle.status_word.specs.Hands.{times, once_claimed, new_hand, hand_given, hand_done, hand_dealt, hands_joined, IsFairHand, AreDealt}
use Rattle.status_word.specs.RuleSteps.{FirstDeals, ClaimDeals, DoneDeals, SameDeals, SplitDeals, JoinDeals, FewClaims, WholeDeals}
use Rattle.status_word.proofs.Places.{set_else, each_set, each_push, sum_set, sum_at, sum_le, others_none, one_alone}

-- ---- the tests of a claim, on numbers

pub none_claimed : (t tiles : ℕ) → once_claimed tiles 0 t ≡ 0
none_claimed t tiles = grind (arith, nat_tests)

next_claimed : (claims tiles : ℕ) → once_claimed tiles claims claims ≡ 0
next_claimed claims tiles = grind (arith, nat_tests)

pub claimed_once : (t claims tiles : ℕ) → once_claimed tiles claims t ≤ 1
claimed_once t claims tiles = grind (arith, nat_tests)

pub claimed_below : (t claims tiles : ℕ) → ◌<◌ 0 (once_claimed tiles claims t) → (t < claims) × (t < tiles)
claimed_below t claims tiles some_claim = (grind (arith, nat_tests), grind (arith, nat_tests))

pub claimed_is : (t claims tiles : ℕ) → t < claims → t < tiles → once_claimed tiles claims t ≡ 1
claimed_is t claims tiles below tile = grind (arith, nat_tests)

pub times-append : (t : ℕ) (xs ys : List ℕ) → times t (xs ++ ys) ≡ times t xs + times t ys
times-append t [] ys = omega arith
times-append t (x ∷ xs) ys = omega (arith, times-append t xs ys)

-- ---- the steps

module _ {P : Type 0} (hand : P → Hand) where
  -- the sum of a measure of the hands, where one pass has another hand
  changed : (f : Hand → ℕ) (passes : List P) (id : ℕ) (p q : P) (h : Hand) → get_elem? passes id ≡ some p → hand q ≡ h
      → sum_by (λ r. f (hand r)) (set passes id q) + f (hand p) ≡ sum_by (λ r. f (hand r)) passes + f h
  changed f passes id p q h here is = omega (arith, sum_set (λ r. f (hand r)) passes id p q here, ap f is)

  -- what a measure of new passes is where one more is among them
  pushed : (f : Hand → ℕ) (passes : List P) (q : P) (h : Hand) → hand q ≡ h → sum_by (λ r. f (hand r)) (passes ++ q ∷ []) ≡ sum_by (λ r. f (hand r)) passes + f h
  pushed f passes q h is = omega (arith, sum_by_push (λ r. f (hand r)) passes q, ap f is)

  new_fair : (q : P) (share : ℕ) → hand q ≡ new_hand share → IsFairHand (hand q)
  new_fair q share is = subst IsFairHand (sym is) (record { marks = omega arith; empty = λ none. refl })

  pub first_deals : FirstDeals hand
  first_deals tiles workers p new = record {
    given = λ t. omega (arith, none_claimed t tiles, ap (λ h. times t h.given) new);
    count = omega (arith, ap (λ h. length h.given) new);
    done = omega (arith, ap (λ h. h.done) new);
    shares = omega (arith, ap (λ h. h.share) new);
    fair = each_push (λ q. IsFairHand (hand q)) [] p (λ j z there. absurd (some-ne-none z (sym there))) (new_fair p workers new);
  }

  -- a pass that has the hand h from now on, where the claim word and the shares go along
  handed : (tiles workers shares claims next : ℕ) (passes : List P) (id : ℕ) (p q : P) (h : Hand) → AreDealt hand tiles workers claims passes → get_elem? passes id ≡ some p → hand q ≡ h
      → ((t : ℕ) → once_claimed tiles claims t + times t h.given ≡ once_claimed tiles next t + times t (hand p).given)
      → min claims tiles + length h.given ≡ min next tiles + length (hand p).given → claims - tiles + h.done ≡ next - tiles + (hand p).done
      → workers + h.share ≡ shares + (hand p).share → IsFairHand h → AreDealt hand tiles shares next (set passes id q)
  handed tiles workers shares claims next passes id p q h dealt here is given count done share fair = record {
    given = λ t. omega (arith, changed (λ k. times t k.given) passes id p q h here is, dealt.given t, given t);
    count = omega (arith, changed (λ k. length k.given) passes id p q h here is, dealt.count, count);
    done = omega (arith, changed (λ k. k.done) passes id p q h here is, dealt.done, done);
    shares = omega (arith, changed (λ k. k.share) passes id p q h here is, dealt.shares, share);
    fair = each_set (λ r. IsFairHand (hand r)) passes id q dealt.fair (subst IsFairHand (sym is) fair);
  }

  pub claim_deals : ClaimDeals hand
  claim_deals tiles workers claims next passes id p q dealt here same below share next_is = (
    handed tiles workers workers claims next passes id p q (hand_given (hand p) claims) dealt here same (λ t. grind (arith, nat_tests)) (omega arith) (omega arith)
        refl (record { marks = (dealt.fair id p here).marks; empty = λ none. absurd (omega arith) }),
    omega (arith, sum_at (λ r. times claims (hand r).given) passes id p here, dealt.given claims, next_claimed claims tiles),
  )

  pub done_deals : DoneDeals hand
  done_deals tiles workers claims next passes id p q dealt here same past room next_is =
      handed tiles workers workers claims next passes id p q (hand_done (hand p)) dealt here same (λ t. grind (arith, nat_tests)) (omega arith) (omega arith) refl
      (record { marks = omega arith; empty = λ none. absurd (omega arith) })

  pub same_deals : SameDeals hand
  same_deals tiles workers claims passes id p q dealt here same =
      handed tiles workers workers claims claims passes id p q (hand p) dealt here same (λ t. refl) refl refl refl (dealt.fair id p here)

  pub split_deals : SplitDeals hand
  split_deals tiles workers claims passes id p left right dealt here cut new many room =
      let some = sum_at (λ r. (hand r).share) passes id p here in
      let rest = handed tiles workers (workers - 1) claims claims passes id p left (hand_dealt (hand p)) dealt here cut (λ t. refl) refl refl (omega (arith, some, dealt.shares))
      (record { marks = omega arith; empty = λ none. absurd (omega arith) }) in
      record {
        given = λ t. pushed (λ h. times t h.given) (set passes id left) right (new_hand 1) new ∙ omega (arith, rest.given t);
        count = pushed (λ h. length h.given) (set passes id left) right (new_hand 1) new ∙ omega (arith, rest.count);
        done = pushed (λ h. h.done) (set passes id left) right (new_hand 1) new ∙ omega (arith, rest.done);
        shares = pushed (λ h. h.share) (set passes id left) right (new_hand 1) new ∙ omega (arith, rest.shares, some, dealt.shares);
        fair = each_push (λ r. IsFairHand (hand r)) (set passes id left) right rest.fair (new_fair right 1 new);
      }

  pub join_deals : JoinDeals hand
  join_deals tiles workers claims passes id other p q both spent dealt here differ there joined left =
      let mine = dealt.fair id p here in
      let others = dealt.fair other q (sym (set_else passes id other both differ) ∙ there) in
      let whole = hands_joined (hand p) (hand q) in
      let same : (f : Hand → ℕ) → f whole ≡ f (hand p) + f (hand q) → f (new_hand 0) ≡ 0
      → sum_by (λ r. f (hand r)) (set (set passes id both) other spent) ≡ sum_by (λ r. f (hand r)) passes = λ f adds none.
      omega (arith, changed f passes id p both whole here joined, changed f (set passes id both) other q spent (new_hand 0) there left, adds, none) in
      record {
        given = λ t. same (λ h. times t h.given) (times-append t (hand p).given (hand q).given) refl ∙ dealt.given t;
        count = same (λ h. length h.given) (length-append (hand p).given (hand q).given) refl ∙ dealt.count;
        done = same (λ h. h.done) refl refl ∙ dealt.done;
        shares = same (λ h. h.share) refl refl ∙ dealt.shares;
        fair = each_set (λ r. IsFairHand (hand r)) (set passes id both) other spent
            (each_set (λ r. IsFairHand (hand r)) passes id both dealt.fair
            (subst IsFairHand (sym joined) (record {
              marks = omega (arith, mine.marks, others.marks);
              empty = λ none. ap (λ xs. xs ++ (hand q).given) (mine.empty (omega arith)) ∙ others.empty (omega arith);
            })))
            (new_fair spent 0 left);
      }

  -- ---- what the rule implies

  pub few_claims : FewClaims hand
  few_claims tiles workers claims passes dealt =
      omega (arith, sum_le (λ r. (hand r).done) (λ r. (hand r).share) passes (λ j z there. (dealt.fair j z there).marks), dealt.done, dealt.shares)

  -- where one pass stands for all workers, the others have nothing
  pub others_idle : (tiles workers claims : ℕ) (passes : List P) (id : ℕ) (p : P) → AreDealt hand tiles workers claims passes → get_elem? passes id ≡ some p
      → (hand p).share ≡ workers → (j : ℕ) (z : P) → j ≢ id → get_elem? passes j ≡ some z → (hand z).share ≡ 0
  others_idle tiles workers claims passes id p dealt here all = others_none (λ r. (hand r).share) passes id p here (dealt.shares ∙ sym all)

  pub whole_deals : WholeDeals hand
  whole_deals tiles workers claims passes id p dealt here all =
      let whole : (f : Hand → ℕ) → ((h : Hand) → IsFairHand h → h.share ≡ 0 → f h ≡ 0) → f (hand p) ≡ sum_by (λ r. f (hand r)) passes = λ f none.
      let alone = one_alone (sum_by (λ r. f (hand r))) (λ r. f (hand r)) ◌+◌ 0 refl (sum_by-cons (λ r. f (hand r))) (λ xs. omega arith) passes id p here
      (λ j z differ there. none (hand z) (dealt.fair j z there) (others_idle tiles workers claims passes id p dealt here all j z differ there)) in
      omega arith in
      let given : (t : ℕ) → times t (hand p).given ≡ once_claimed tiles claims t = λ t. whole (λ h. times t h.given) (λ h fair none. ap (times t) (fair.empty none)) ∙ dealt.given t in
      let count = whole (λ h. length h.given) (λ h fair none. ap length (fair.empty none)) ∙ dealt.count in
      let done = whole (λ h. h.done) (λ h fair none. omega (arith, fair.marks, none)) ∙ dealt.done in
      record {
        given = given;
        distinct = λ t. omega (arith, given t, claimed_once t claims tiles);
        count = count;
        done = done;
        all = λ some_done t tile. given t ∙ claimed_is t claims tiles (omega arith) tile;
        full = λ some_done. omega arith;
      }
