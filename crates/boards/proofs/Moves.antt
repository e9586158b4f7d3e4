-- Each step of a seat keeps the rule of the board's table, in the form that the table asks for.
-- Source: the laws of the crate `status_word` on the kinds of step.
use Rattle.boards.proofs.Cited.{◌≡◌, refl, sym, ap, ◌∙◌, subst, ℕ, ◌+◌, ◌<◌, ◌≤◌, max, Bool, List, length, get_or, set, arith, length-set, none, get_or-set_other, Allows, step, keeps, Pass, Coding}
use Rattle.boards.proofs.Cited.{code, AllowsClaims, IsRuleKept, highest, looked, told_at, told_state, AreRaised, AreSame, Ascends, ClaimKeeps, DoneKeeps, FewClaimed, LookKeeps, TellKeeps}
use Rattle.std.proofs.lemmas.List.{set-get_or}
use Rattle.std.proofs.lemmas.Grind.{get_or-set_at}
use Rattle.boards.specs.Boards.{on_hand}
use Rattle.boards.specs.Rules.{PassOf, IsRuled, LookGives, TellGives}

module _ {Item : Type 0} (m : Coding Item) (sums : List (Bool × Item)) (workers : ℕ) where
  same_but_last : (words : List ℕ) (v : ℕ) → AreSame (length sums) (λ x. get_or words x 0) (λ x. get_or (set words (length sums) v) x 0)
  same_but_last words v t below = get_or-set_other words (length sums) t v 0 (λ e. omega arith)

  pub allows_claims : ClaimKeeps Item → DoneKeeps Item → FewClaimed Item → AllowsClaims (λ (p : Pass Item). p.hand) on_hand (IsRuled m sums workers) (length sums) (length sums) workers
  allows_claims claim done few = record {
    few = λ s ruled. few (code m sums) sums workers (get_or s.words (length sums) 0) (λ x. get_or s.words x 0) s.views ruled.kept;
    gives = λ s id p ruled at below share.
        let found = get_or s.words (length sums) 0 in
        let words = set s.words (length sums) (found + 1) in
        let kept = claim (code m sums) sums workers found (get_or words (length sums) 0) (λ x. get_or s.words x 0) (λ x. get_or words x 0) s.views id p ruled.kept at below share
        (get_or-set_at s.words (length sums) (length sums) (found + 1) 0 refl (omega (arith, ruled.long))) (same_but_last s.words (found + 1)) in
        (record { long = omega (arith, length-set {A = ℕ}, ruled.long); kept = kept.0 }, kept.1);
    ends = λ s id p ruled at past room.
        let found = get_or s.words (length sums) 0 in
        let words = set s.words (length sums) (found + 1) in
        let kept = done (code m sums) sums workers found (get_or words (length sums) 0) (λ x. get_or s.words x 0) (λ x. get_or words x 0) s.views id p ruled.kept at past room
        (get_or-set_at s.words (length sums) (length sums) (found + 1) 0 refl (omega (arith, ruled.long))) (same_but_last s.words (found + 1)) in
        record { long = omega (arith, length-set {A = ℕ}, ruled.long); kept = kept };
  }

  pub look_allowed : (slots id : ℕ) → LookKeeps Item → (me : PassOf Item) (t : ℕ) → t < length sums → me.0.sums ≡ sums → me.0.hand.share ≡ 1
      → Allows (IsRuled m sums workers) slots id me t (λ n. n) (LookGives m (step slots t 0 0 none) me)
  look_allowed slots id look me t below same_sums one s ruled homes at fits =
      let rank = highest (told_at t) s.views in
      let kept = look (code m sums) sums workers (get_or s.words (length sums) 0) (λ x. get_or s.words x 0)
      (λ x. get_or s.words x 0) s.views id me.0 t ruled.kept at (omega arith) (λ x within. refl) in
      let seen : IsRuled m sums workers record { words = s.words; homes = s.homes; views = set s.views id (looked me.0 t rank) } = record { long = ruled.long; kept = kept.0 } in (
        looked me.0 t rank,
        keeps,
        tt,
        subst (λ ws. IsRuled m sums workers record { words = ws; homes = s.homes; views = set s.views id (looked me.0 t rank) }) (sym (set-get_or s.words t 0)) seen,
        (rank, kept.3 below ∙ ap (λ ss. code m ss t rank) (sym same_sums), kept.2, kept.1, refl),
      )

  pub tell_allowed : (slots id : ℕ) → TellKeeps Item → Ascends (code m sums) → (me : PassOf Item) (t rank word : ℕ) → t < length sums → rank ≤ 2 → word ≡ code m sums t rank
      → me.0.hand.share ≡ 1 → Allows (IsRuled m sums workers) slots id me t (λ n. max n word) (TellGives rank (step slots t word 0 none) me)
  tell_allowed slots id tell ascends me t rank word below few is_code one s ruled homes at fits =
      let v = max (get_or s.words t 0) word in
      let claims = get_or s.words (length sums) 0 in
      let raised : AreRaised (length sums) t (code m sums t rank) (λ x. get_or s.words x 0) (λ x. get_or (set s.words t v) x 0) = record {
        here = get_or-set_at s.words t t v 0 refl (omega (arith, ruled.long)) ∙ ap (max (get_or s.words t 0)) is_code;
        others = λ x within differ. get_or-set_other s.words t x v 0 differ;
      } in
      let kept = tell (code m sums) ascends sums workers claims (λ x. get_or s.words x 0) (λ x. get_or (set s.words t v) x 0) s.views id me.0 t rank ruled.kept at (omega arith) below few raised in
      let same : get_or (set s.words t v) (length sums) 0 ≡ claims = get_or-set_other s.words t (length sums) v 0 (λ e. omega arith) in (
        told_state me.0 t rank,
        keeps,
        tt,
        record {
          long = omega (arith, length-set {A = ℕ}, ruled.long);
          kept =
              subst (λ c. IsRuleKept (code m sums) sums workers c (λ x. get_or (set s.words t v) x 0) (set s.views id (told_state me.0 t rank))) (sym same) kept;
        },
        refl,
      )
