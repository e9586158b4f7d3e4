use Rattle.std.proofs.Common.{◌∙◌, ◌≤◌, ap, arith, pos, rules, w32, sym, to_z, Ok}
use Rattle.std.proofs.lemmas.Int.{to_z_pos}
use Rattle.cvl_base.proofs.Rooms.{told}
use Rattle.cvl_base.specs.Integers.{sum_of}
use Rattle.segment_parts.specs.Reduces.{join_last}
use Rattle.run_parts.proofs.puts.put_run_lengths.Goals as goal

pub returns-in_err-lengths : goal.returns-in_err-lengths
returns-in_err-lengths c =
    told _ c.from_residual.result c.in_err-lengths.field-0.0 c.args.out.now c.from_residual.ensures.1 (c.in_err-lengths.ensures (λ lengths. join_last sum_of lengths (pos c.args.behind)))

pub copy_from_slice-requires : goal.copy_from_slice-requires
copy_from_slice-requires c = sym c.in_ok-lengths.ensures.1

pub overflow_cast-behind : goal.overflow_cast-behind
overflow_cast-behind c = let few : c.args.behind ≤ 2147483647 = c.in_ok-lengths.ensures.2 in search (rules, few)

pub returns : goal.returns
returns c =
    let lengths = c.in_ok-lengths.lengths.now in
    c.in_ok-lengths.ensures.4 (λ ls. join_last sum_of ls (pos c.args.behind))
    ∙ ap (λ z. Ok (join_last sum_of lengths z)) (sym (to_z_pos w32 c.args.behind (omega (arith, c.in_ok-lengths.ensures.2))))
    ∙ ap Ok (ap (λ ls. join_last sum_of ls (to_z w32 c.args.behind)) (sym c.copy_from_slice.ensures.after) ∙ sym c.add_to_last.ensures)
