use Rattle.call_laws.proofs.Cited.{◌≡◌, ◌∷◌, ◌+ℤ◌, List, [], refl, sym, ℤ, pos, fold, fold-append, fitting, total_of, fold_of, scan_of, length-scan_of, scan_of-append, Overflow}
use Rattle.std.proofs.Math.IntN.{+ℤ_assoc, +ℤ_idl, +ℤ_idr}
use Rattle.call_laws.proofs.TwoParts.{values-two}
use Rattle.call_laws.proofs.checked_sums.checked_sums_in_parts.Goals as goal

total-from : (a : ℤ) (xs : List ℤ) → fold ◌+ℤ◌ a xs ≡ a +ℤ total_of xs
total-from a [] = sym (+ℤ_idr a)
total-from a (x ∷ xs) = rw (+ℤ_idl x, total-from (a +ℤ x) xs, total-from x xs) (+ℤ_assoc a x (total_of xs))

pub returns : goal.returns
returns c = record {
  scan = λ carry xs ys. rw (scan_of-append ◌+ℤ◌ carry xs ys, ← length-scan_of ◌+ℤ◌ carry xs) (values-two Overflow fitting (scan_of ◌+ℤ◌ carry xs) (scan_of ◌+ℤ◌ (fold_of ◌+ℤ◌ carry xs) ys));
  scan_call = λ xs. refl;
  reduce = λ xs ys. rw (fold-append ◌+ℤ◌ (pos 0) xs ys, total-from (total_of xs) ys);
}
