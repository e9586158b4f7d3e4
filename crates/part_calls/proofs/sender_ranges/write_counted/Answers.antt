use Rattle.part_calls.proofs.Cited.{◌∙◌, ◌+◌, ap, arith, count_by, length, take_all, is_between}
use Rattle.first_senders.specs.FirstSenders.{first_senders}
use Rattle.part_calls.proofs.sender_ranges.write_counted.Goals as goal

pub returns : goal.returns
returns g c =
    let all = take_all c.count.result (g.D.Destinations.destinations c.args.destinations.now) (omega (arith, c.count.ensures)) in
    record {
      written = c.write_first.ensures.written ∙ ap (λ us. first_senders us c.args.lowest (length c.args.out.now)) all;
      counted = c.write_first.ensures.counted ∙ ap (count_by (is_between c.args.lowest (c.args.lowest + length c.args.out.now))) all;
    }
