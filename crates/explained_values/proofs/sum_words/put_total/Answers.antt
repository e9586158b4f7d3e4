use Rattle.explained_values.proofs.sum_words.put_total.Goals as goal

pub returns : goal.returns
returns g c = rw (c.word.ensures, c.total_of.ensures, c.integers.ensures.value) at c.put.ensures
