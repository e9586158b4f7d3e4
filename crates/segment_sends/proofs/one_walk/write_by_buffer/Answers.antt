use Rattle.segment_sends.proofs.Shared.{unwalked, unwalked_within}
use Rattle.segment_sends.proofs.one_walk.write_by_buffer.Goals as goal

pub push_rest-requires : goal.push_rest-requires
push_rest-requires g c = unwalked_within c.requires.share

pub returns-in-Err : goal.returns-in-Err
returns-in-Err g c = unwalked c.requires.share c.push_rest.result c.push_rest.ensures
