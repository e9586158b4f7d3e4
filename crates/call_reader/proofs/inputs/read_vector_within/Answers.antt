use Rattle.call_reader.proofs.Cited.{rules}
use Rattle.call_reader.proofs.InputWalk.{room_for_tokens}
use Rattle.call_reader.proofs.inputs.read_vector_within.Goals as goal

pub push_reserved-requires : goal.push_reserved-requires
push_reserved-requires g c = search (rules, room_for_tokens)
