use Rattle.call_reader.proofs.Cited.{◌≡◌, ◌∙◌, ℤ, ◌-◌, ◌≤◌, ◌++◌, ◌∷◌, [], to_z, of_z, w32, ap, arith, vec_len, vec_capacity, to_z-of_z}
use Rattle.call_reader.proofs.NestedMarks.{lists_full, list_fault, lists_more}
use Rattle.call_reader.proofs.NestedTokens.{has_room}
use Rattle.call_reader.proofs.nested_texts.read_lists.Goals as goal

pub returns-then-len-capacity-clause-read : goal.returns-then-len-capacity-clause-read
returns-then-len-capacity-clause-read g c =
    lists_full c.args.bytes.now c.loop-inner.rest.now c.in-Some.inner.now c.loop-inner.numbers.items c.loop-inner.lengths.items c.min-room.result c.min-room.result _
    c.loop-inner.invariant.read c.in-Some.ensures.marks (omega arith) (has_room c.args.bytes.now c.min-room.result c.min-room.ensures)

pub returns-in_default-after_closing-clause-read : goal.returns-in_default-after_closing-clause-read
returns-in_default-after_closing-clause-read g c =
    list_fault c.args.bytes.now c.loop-inner.rest.now c.in-Some.inner.now c.push_numbers-others.result.now c.loop-inner.numbers.items c.push_numbers-others.new.numbers.items
    c.loop-inner.lengths.items c.min-room.result c.min-room.result _ c.loop-inner.invariant.read c.in-Some.ensures.marks c.push_numbers-others.ensures.pushed
    c.in_default-after_closing.ensures.marks
    (λ e. let full : vec_capacity c.loop-inner.numbers ≤ vec_len c.push_numbers-others.new.numbers = c.push_numbers-others.ensures.full e in omega arith)
    (has_room c.args.bytes.now c.min-room.result c.min-room.ensures) (omega arith)

pub loop-inner-preserved : goal.loop-inner-preserved
loop-inner-preserved g c =
    let n = c.len-in-Some.result - c.len-start.result in
    let same : to_z w32 (of_z w32 c.count_between.result) ≡ c.count_between.result = grind (arith, to_z-of_z) in
    record {
      read = lists_more c.args.bytes.now c.loop-inner.rest.now c.in-Some.inner.now c.push_numbers-others.result.now c.in-Some-after_closing.behind.now c.loop-inner.numbers.items
          c.push_numbers-others.new.numbers.items c.loop-inner.lengths.items _ n
          c.loop-inner.invariant.read c.in-Some.ensures.marks c.push_numbers-others.ensures.pushed c.in-Some-after_closing.ensures.marks (omega arith)
          (c.push_reserved.ensures.items ∙ ap (λ (z : ℤ). c.loop-inner.lengths.items ++ (z ∷ [])) (same ∙ c.count_between.ensures));
      capacity_numbers = omega arith;
      capacity_lengths = omega arith;
      few_numbers = omega arith;
      few_lists = omega arith;
    }
