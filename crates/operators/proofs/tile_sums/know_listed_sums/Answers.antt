-- The sums of tiles of elements are those of tiles that are given by their sums.
use Rattle.std.proofs.Common.{◌≡◌, refl, sym, ap, ◌∙◌, ℕ, zero, suc, ◌+◌, ◌-◌, Bool, true, List, [], ◌∷◌, take, drop, map, arith}
use Rattle.std.specs.List.{fold, AllPass}
use Rattle.std.proofs.lemmas.List.{drop-map, take-map}
use Rattle.std.proofs.lemmas.List.Elements.{All-nil, All-head, All-tail, All-append, All-take, All-drop, All-map, All-weaker}
use Rattle.operators.specs.Folds.{fold_of}
use Rattle.operators.specs.Monoid.{MonoidLaws}
use Rattle.operators.specs.SegmentMonoidLaws.{seg_laws}
use Rattle.operators.specs.Lists.{joined}
use Rattle.operators.specs.TileSums.{sum_of_tiles, sum_at, before, listed_sums, own_sum, AllTilesPass}
use Rattle.operators.proofs.FoldLaws.{fold_from, fold_of_is_item, fold_of-append}
use Rattle.operators.proofs.tile_sums.know_listed_sums.Goals as goal

module _ {Element : Type 0} {is_item : Element → Bool} {unit : Element} {join : Element → Element → Element} (laws : MonoidLaws is_item unit join) where
  elements_pass : (tiles : List (List Element)) → AllTilesPass is_item tiles → AllPass is_item (joined tiles)
  elements_pass [] items = All-nil (λ x. is_item x ≡ true)
  elements_pass (tile ∷ tiles) items =
      All-append (λ x. is_item x ≡ true) tile (joined tiles)
      (All-head (AllPass is_item) tile tiles items)
      (elements_pass tiles (All-tail (AllPass is_item) tile tiles items))

  sums_pass : (tiles : List (List Element)) → AllTilesPass is_item tiles → AllPass is_item (map (fold_of join unit) tiles)
  sums_pass tiles items = All-map (λ x. is_item x ≡ true) (fold_of join unit) tiles (All-weaker (AllPass is_item) (λ tile. is_item (fold_of join unit tile) ≡ true) (fold_of_is_item laws) tiles items)

  -- to join the elements in order is to join the sums of the tiles in order
  by_sums : (tiles : List (List Element)) → AllTilesPass is_item tiles → fold_of join unit (joined tiles) ≡ fold_of join unit (map (fold_of join unit) tiles)
  by_sums [] items = refl
  by_sums (tile ∷ tiles) items =
      let here = All-head (AllPass is_item) tile tiles items in
      let rest = All-tail (AllPass is_item) tile tiles items in
      let sum = fold_of join unit tile in
      let sum_is_item = fold_of_is_item laws tile here in
      fold_of-append laws tile (joined tiles) here (elements_pass tiles rest)
      ∙ ap (join sum) (by_sums tiles rest)
      ∙ sym (ap (λ a. fold join a (map (fold_of join unit) tiles)) (laws.left_unit sum sum_is_item) ∙ fold_from laws sum (map (fold_of join unit) tiles) sum_is_item (sums_pass tiles rest))

  -- so it is of a run of tiles
  run_listed : (tiles : List (List Element)) → AllTilesPass is_item tiles → (first n : ℕ)
      → fold_of join unit (take n (drop first (map (fold_of join unit) tiles))) ≡ fold_of join unit (joined (take n (drop first tiles)))
  run_listed tiles items first n =
      let sum = fold_of join unit in
      ap (λ listed. sum (take n listed)) (drop-map sum first tiles)
      ∙ ap sum (take-map sum n (drop first tiles))
      ∙ sym (by_sums (take n (drop first tiles)) (All-take (AllPass is_item) n (drop first tiles) (All-drop (AllPass is_item) first tiles items)))

module _ {Item : Type 0} (join : Item → Item → Item) (unit : Item) where
  -- what stands before tile t is the sum of the first t tiles
  before_is : (tiles : List (List (Bool × Item))) (t : ℕ) → before join unit tiles t ≡ sum_of_tiles join unit (take t tiles)
  before_is tiles zero = refl
  before_is tiles (suc t) = let same : t + 1 ≡ suc t = omega arith in ap (λ n. sum_of_tiles join unit (take n tiles)) same

  own_listed : (tiles : List (List (Bool × Item))) (t : ℕ) → own_sum unit (listed_sums join unit tiles) t ≡ sum_at join unit tiles t
  own_listed [] t = refl
  own_listed (tile ∷ tiles) zero = refl
  own_listed (tile ∷ tiles) (suc t) = own_listed tiles t

pub returns : goal.returns
returns g c =
    let laws = seg_laws g.met.M.Monoid.laws in
    record {
      items = sums_pass laws;
      own = own_listed g.M.Monoid.join g.M.Monoid.unit;
      inclusive = λ tiles t items. run_listed laws tiles items 0 (t + 1);
      exclusive = λ tiles t items. run_listed laws tiles items 0 t ∙ sym (before_is g.M.Monoid.join g.M.Monoid.unit tiles t);
      middle = λ tiles first t items. run_listed laws tiles items first (t - first);
    }
