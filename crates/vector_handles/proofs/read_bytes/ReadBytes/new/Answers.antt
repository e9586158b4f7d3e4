use Rattle.std.proofs.Common.{◌≡◌, ◌∙◌, ap, sym, Ok}
use Rattle.call_reader.specs.Inputs.{input_of}
use Rattle.vector_handles.proofs.read_bytes.ReadBytes.new.Goals as goal

pub invariant_of-result : goal.invariant_of-result
invariant_of-result g c =
    let read : input_of c.of.result.value.items ≡ Ok c.in_ok-numbers.numbers =
    ap (λ v. input_of v.items) c.of.ensures ∙ c.requires.read ∙ ap Ok (sym (c.in_ok-numbers.ensures ∙ c.from_vec.ensures)) in
    record { read = read; no_nest = c.flat_is_no_nest.ensures c.of.result.value.items c.in_ok-numbers.numbers read }
