-- Scans and reduces in parts.
use Rattle.call_laws.proofs.Cited.{◌≡◌, ◌∷◌, Bool, IsTrue, List, [], map, refl, AllPass, fold, fold_of, scan_of, joined, MonoidLaws, fold_from, scan_of-append, All-head, All-tail, fold-append, All}
use Rattle.call_laws.proofs.Cited.{fold_of_is_item, scan_of-cons, scans_after}

module _ {Item : Type 0} {is_item : Item → Bool} {unit : Item} {join : Item → Item → Item} (laws : MonoidLaws is_item unit join) where
  pub scan-parts : (before : Item) (parts : List (List Item)) → IsTrue (is_item before) → All (AllPass is_item) parts
      → scan_of join before (joined parts) ≡ joined (scans_after join (scan_of join before (map (fold_of join unit) parts)) parts)
  scan-parts before [] is items = refl
  scan-parts before (xs ∷ parts) is items =
      let own = All-head (AllPass is_item) xs parts items in
      let rest = All-tail (AllPass is_item) xs parts items in
      let sum : Item = fold_of join unit xs in
      let next : Item = join before sum in
      let next_is : IsTrue (is_item next) = laws.join_is_item before sum is (fold_of_is_item laws xs own) in
      cc (scan_of-append join before xs (joined parts), fold_from laws before xs is own, scan-parts next parts next_is rest, scan_of-cons join before sum (map (fold_of join unit) parts))

  pub fold-parts : (before : Item) (parts : List (List Item)) → IsTrue (is_item before) → All (AllPass is_item) parts
      → fold join before (joined parts) ≡ fold join before (map (fold_of join unit) parts)
  fold-parts before [] is items = refl
  fold-parts before (xs ∷ parts) is items =
      let own = All-head (AllPass is_item) xs parts items in
      let next_is : IsTrue (is_item (join before (fold_of join unit xs))) = laws.join_is_item before (fold_of join unit xs) is (fold_of_is_item laws xs own) in
      cc (fold-append join before xs (joined parts), fold_from laws before xs is own, fold-parts (join before (fold_of join unit xs)) parts next_is (All-tail (AllPass is_item) xs parts items))
