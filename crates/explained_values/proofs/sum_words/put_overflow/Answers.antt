use Rattle.explained_values.proofs.sum_words.put_overflow.Goals as goal

pub returns : goal.returns
returns g c = rw (c.segment_at-segment.ensures, c.places_of.ensures, c.word-vector.ensures, c.spelled_at.ensures) at c.put.ensures
