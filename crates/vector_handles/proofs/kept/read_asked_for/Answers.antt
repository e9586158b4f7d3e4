use Rattle.std.proofs.Common.{rules, ◌≡◌, Some, refl, slice_get, arith}
use Rattle.std.proofs.lemmas.Option.{slice_get_read}
use Rattle.bound_names.specs.Operands.{held_at}
use Rattle.vector_handles.specs.InputTexts.{place_of}
use Rattle.vector_handles.proofs.ReadInputs.{refused_at_place}
use Rattle.vector_handles.proofs.kept.read_asked_for.Goals as goal

pub returns-in-Some-get_mut-clause-fault : goal.returns-in-Some-get_mut-clause-fault
returns-in-Some-get_mut-clause-fault g c =
    let inputs = c.args.inputs.now.items in
    let input = c.in-Some-get_mut.input.now in
    let found : slice_get inputs c.in-Some.place ≡ Some input =
    slice_get_read inputs _ c.in-Some.place input refl (omega (arith, c.in-Some-get_mut.ensures.variant.0 refl)) c.in-Some-get_mut.ensures.value in
    let at : place_of c.integer.result ≡ Some c.in-Some.place = search rules in
    rw c.in-Input.is
    (refused_at_place c.read.result inputs input (held_at c.args.operands.now) c.integer.result c.in-Some.place c.integer.ensures at found c.read.ensures.fault)
