use Rattle.call_reader.proofs.Cited.{◌≡◌, not, take, true, ◌==◌, list_all}
use Rattle.call_reader.proofs.nested_pieces.bytes_before_list.Given as goal

abbrev pub invariant-loop-i : goal.invariant-loop-i
invariant-loop-i l = list_all (λ b. not (b == 91)) (take l.i l.bytes) ≡ true
