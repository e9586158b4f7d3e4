use Rattle.std.proofs.Common.{not}
use Rattle.std.proofs.lemmas.Simd.{map-map}
use Rattle.flag_calls.specs.Flags.{byte_of, flag_of}
use Rattle.flag_calls.proofs.OnBytes.{mapped}
use Rattle.flag_calls.proofs.bools.bool1_over.Goals as goal

pub returns-in-Not : goal.returns-in-Not
returns-in-Not c = rw (c.in-Not.is, mapped not c.args.a.now) c.on_each_over.ensures

pub returns-in-Copy : goal.returns-in-Copy
returns-in-Copy c = rw (c.in-Copy.is, map-map byte_of flag_of c.args.a.now) c.on_each_over-in-Copy.ensures
