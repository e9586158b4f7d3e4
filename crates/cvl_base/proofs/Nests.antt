-- A list cut by lengths: the inner lists, and where the lengths add up to the list's and where they don't.
use Rattle.std.proofs.Common.{◌≡◌, ◌≢◌, ◌∙◌, ℕ, zero, suc, ◌<◌, ◌≤◌, not, List, [], ◌∷◌, ◌++◌, length, take, drop, get_or, map, refl, sym, ap, eq-eqb, arith, length-drop, Ok, Err}
use Rattle.std.specs.Prelude.{sum}
use Rattle.std.proofs.lemmas.Bool.{ne_eqb}
use Rattle.std.proofs.lemmas.List.{drop-drop, length-take-le, nil_from_length, take-append-drop}
use Rattle.cvl_base.specs.declared.fault.FaultNo.TheVariants as no
use Rattle.cvl_base.specs.Faults.{fault}
use Rattle.cvl_base.specs.Gives.{fault_if}
use Rattle.cvl_base.specs.Lists.{joined}
use Rattle.cvl_base.specs.Nests.{nest, cut_of}
use Rattle.cvl_base.proofs.Lists.{sum-cons}

pub length-cut : {X : Type 0} (lengths : List ℕ) (xs : List X) → length (cut_of lengths xs) ≡ length lengths
length-cut [] xs = refl
length-cut (n ∷ ns) xs = ap suc (length-cut ns (drop n xs))

-- an inner list for each length
pub lengths-cut : {X : Type 0} (lengths : List ℕ) (xs : List X) → sum lengths ≤ length xs → map length (cut_of lengths xs) ≡ lengths
lengths-cut [] xs h = refl
lengths-cut (n ∷ ns) xs h =
    let first : length (take n xs) ≡ n = length-take-le n xs (omega (arith, sum-cons n ns)) in
    let rest : map length (cut_of ns (drop n xs)) ≡ ns = lengths-cut ns (drop n xs) (omega (arith, sum-cons n ns, length-drop n xs)) in
    cc

-- one after another they are the list
pub joined-cut : {X : Type 0} (lengths : List ℕ) (xs : List X) → sum lengths ≡ length xs → joined (cut_of lengths xs) ≡ xs
joined-cut [] xs h = sym (nil_from_length xs (sym h))
joined-cut (n ∷ ns) xs h =
    ap (λ tail. take n xs ++ tail) (joined-cut ns (drop n xs) (omega (arith, sum-cons n ns, length-drop n xs)))
    ∙ take-append-drop n xs

-- the inner list at a place
pub cut_at : {X : Type 0} (lengths : List ℕ) (xs : List X) (s : ℕ) → s < length lengths
    → get_or (cut_of lengths xs) s [] ≡ take (get_or lengths s 0) (drop (sum (take s lengths)) xs)
cut_at [] xs s lt = absurd (omega arith)
cut_at (n ∷ ns) xs zero lt = refl
cut_at (n ∷ ns) xs (suc s) lt =
    cut_at ns (drop n xs) s (omega arith)
    ∙ ap (take (get_or ns s 0)) (drop-drop (sum (take s ns)) n xs ∙ ap (λ k. drop k xs) (omega (arith, sum-cons n (take s ns))))

module _ {X : Type 0} (lengths : List ℕ) (xs : List X) where
  pub nest-fits : sum lengths ≡ length xs → nest lengths xs ≡ Ok (cut_of lengths xs)
  nest-fits fits = ap (λ b. fault_if (not b) (fault no.LengthMismatch) (Ok (cut_of lengths xs))) (eq-eqb (sum lengths) (length xs) fits)

  pub nest-misfits : sum lengths ≢ length xs → nest lengths xs ≡ Err (fault no.LengthMismatch)
  nest-misfits misfits = ap (λ b. fault_if (not b) (fault no.LengthMismatch) (Ok (cut_of lengths xs))) (ne_eqb (sum lengths) (length xs) misfits)
