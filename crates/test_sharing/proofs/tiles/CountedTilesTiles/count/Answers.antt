use Rattle.std.proofs.Common.{◌≡◌, false, true, Bool}
use Rattle.std.specs.Prelude.{ℤ}
use Rattle.std.proofs.lemmas.List.Elements.{All-map}
use Rattle.std.proofs.lemmas.List.Sums.{AllPass-from_list_all}
use Rattle.cvl_base.specs.ItemWords.{is_number}
use Rattle.cvl_base.specs.SegmentMonoid.{is_seg_item}
use Rattle.test_sharing.proofs.tiles.CountedTilesTiles.count.Goals as goal

pub returns-clause-items : goal.returns-clause-items
returns-clause-items c = All-map (λ (s : Bool × ℤ). is_seg_item is_number s ≡ true) (λ (x : ℤ). (false, x)) c.args.self.now.numbers.now
    (AllPass-from_list_all is_number c.args.self.now.numbers.now c.args.self.now.items)
