use Rattle.call_laws.proofs.Cited.{◌∷◌, [], pos, distribute_of, index_of, of_three, of_two}
use Rattle.call_laws.proofs.Segments.{flat-again}
use Rattle.call_laws.proofs.segmented.one_segment_made.Goals as goal

pub returns : goal.returns
returns g c = record {
  distribute = λ value n. flat-again (n ∷ []) (of_two (λ value n. distribute_of value (pos n))) (value, n);
  index = λ init stride n. flat-again (n ∷ []) (of_three (λ init stride n. index_of init stride (pos n))) ((init, stride), n);
}
