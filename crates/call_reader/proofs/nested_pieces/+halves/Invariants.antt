use Rattle.call_reader.proofs.Cited.{◌+◌, ◌*◌}
use Rattle.call_reader.proofs.nested_pieces.+halves.Given as goal

abbrev pub decreases-lists_by_several : goal.decreases-lists_by_several
decreases-lists_by_several g l = 2 * l.threads

abbrev pub decreases-read_front : goal.decreases-read_front
decreases-read_front g l = 2 * l.fewer + 1

abbrev pub decreases-read_back : goal.decreases-read_back
decreases-read_back g l = 2 * l.others + 1
