-- How many tiles a worker can still be given.
-- Source: what the definitions of Claims imply.
use Rattle.std.proofs.Common.{◌≡◌, ◌≢◌, ℕ, zero, suc, ◌+◌, ◌-◌, ◌<◌, ◌≤◌, cond, eqb, true, false, List, ◌∷◌, sym, ap, ◌∙◌, arith, ⊎_elim}
use Rattle.std.proofs.lemmas.Bool.Decides.{eqb_tells}
use Rattle.boards.specs.Passes.{times}

-- how many tiles below `count` are not among those given
abbrev pub left : ℕ → List ℕ → ℕ
left zero given = 0
left (suc n) given = (1 - times n given) + left n given

no_more : (count t : ℕ) (given : List ℕ) → left count (t ∷ given) ≤ left count given
no_more zero t given = omega arith
no_more (suc n) t given = omega (arith, no_more n t given)

-- a new tile is one less to be given
pub one_less : (count t : ℕ) (given : List ℕ) → t < count → times t given ≡ 0 → left count (t ∷ given) < left count given
one_less zero t given below new = absurd (omega arith)
one_less (suc n) t given below new =
    ⊎_elim (λ (same : (eqb t n ≡ true) × (t ≡ n)).
    let here : times n given ≡ 0 = ap (λ k. times k given) (sym same.1) ∙ new in
    omega (arith, no_more n t given, here, ap (λ b. cond {A = ℕ} b 1 0) same.0))
    (λ (differ : (eqb t n ≡ false) × (t ≢ n)).
    omega (arith, one_less n t given (omega (arith, differ.1)) new, ap (λ b. cond {A = ℕ} b 1 0) differ.0))
    (eqb_tells t n)
