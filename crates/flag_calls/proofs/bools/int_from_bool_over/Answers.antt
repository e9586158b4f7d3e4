use Rattle.std.proofs.lemmas.Simd.{map-map}
use Rattle.cvl_base.specs.Conversions.{integer_of}
use Rattle.flag_calls.specs.Flags.{flag_of}
use Rattle.flag_calls.proofs.bools.int_from_bool_over.Goals as goal

pub returns : goal.returns
returns c = rw (map-map integer_of flag_of c.args.a.now) c.on_each_over.ensures
