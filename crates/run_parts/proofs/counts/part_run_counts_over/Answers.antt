use Rattle.std.proofs.Common.{◌≡◌, ◌∙◌, Err, Ok, ap, drop, length, map, not, sym}
use Rattle.std.proofs.lemmas.List.{length-map}
use Rattle.cvl_base.proofs.Nests.{length-cut}
use Rattle.cvl_base.proofs.Rooms.{differs, told}
use Rattle.cvl_base.specs.declared.fault.FaultNo.TheVariants as no
use Rattle.cvl_base.specs.Faults.{fault}
use Rattle.cvl_base.specs.Gives.{fault_if}
use Rattle.cvl_base.specs.Integers.{sum_of}
use Rattle.cvl_base.specs.Nests.{cut_of}
use Rattle.cvl_base.specs.Rooms.{in_room}
use Rattle.run_lengths.specs.Runs.{run_count_of}
use Rattle.segment_parts.specs.Reduces.{join_last}
use Rattle.segment_parts.proofs.Starts.{length-join_last}
use Rattle.run_parts.proofs.counts.part_run_counts_over.Goals as goal

pub returns-in_err-check_agree : goal.returns-in_err-check_agree
returns-in_err-check_agree g c =
    let room = length c.args.out.now in let cuts = cut_of c.args.lengths.now (drop c.args.head c.args.a.now) in
    let counts = map (run_count_of g.D.Binary.value) cuts in let values = join_last sum_of counts c.args.behind.now in
    let long : length values ≡ length c.args.lengths.now =
    length-join_last sum_of counts c.args.behind.now ∙ length-map cuts (run_count_of g.D.Binary.value) ∙ length-cut c.args.lengths.now (drop c.args.head c.args.a.now) in
    told _ c.from_residual.result c.in_err-check_agree.field-0.0 c.args.out.now c.from_residual.ensures.1
    (ap (in_room room) (ap (λ b. fault_if (not b) (fault no.LengthMismatch) (Ok values)) (sym c.is_part.ensures ∙ c.if-not-is_part.false))
    ∙ differs room values (λ same. c.in_err-check_agree.ensures.1 (c.count.ensures.value ∙ sym long ∙ same)) ∙ ap Err (sym c.in_err-check_agree.ensures.0))
