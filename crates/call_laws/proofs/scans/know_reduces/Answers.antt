use Rattle.call_laws.proofs.Cited.{◌≡◌, ◌++◌, ◌∷◌, ◌∙◌, [], length, take, refl, sym, ap, arith, Some, slice_get, same_Some, fold_of, scan_of, take_at, length_push, fold_of_push, slice_get-scan_of}
use Rattle.call_laws.proofs.scans.know_reduces.Goals as goal

pub returns : goal.returns
returns g c = λ xs x before here.
    let join = g.M.Monoid.join in
    let unit = g.M.Monoid.unit in
    let long = length_push xs x in
    let there : slice_get (scan_of join unit (xs ++ x ∷ [])) (length xs) ≡ Some (fold_of join unit (take (length xs) (xs ++ x ∷ []))) =
    slice_get-scan_of join unit (xs ++ x ∷ []) (length xs) (omega arith) in
    let front : fold_of join unit (take (length xs) (xs ++ x ∷ [])) ≡ fold_of join unit xs = ap (fold_of join unit) (take_at xs (x ∷ []) (length xs) refl) in
    fold_of_push join unit xs x ∙ ap (λ a. join a x) (sym front ∙ same_Some _ _ (sym there ∙ here))
