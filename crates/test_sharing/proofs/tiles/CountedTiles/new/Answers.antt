use Rattle.std.proofs.Common.{rules}
use Rattle.std.proofs.lemmas.List.Sums.{list_all-from_AllPass}
use Rattle.cvl_base.specs.ItemWords.{is_number}
use Rattle.test_sharing.proofs.tiles.CountedTiles.new.Goals as goal

pub invariant_of-result : goal.invariant_of-result
invariant_of-result c = record { few = search rules; items = list_all-from_AllPass is_number c.args.numbers.now c.know_numbers.ensures }
