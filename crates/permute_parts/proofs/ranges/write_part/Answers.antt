use Rattle.std.proofs.Common.{◌∙◌, ap, count_ones, length, replicate, sum_by}
use Rattle.permute_walks.proofs.MarkWords.{marks_count}
use Rattle.permute_walks.proofs.Scattered.{count_marked}
use Rattle.permute_walks.specs.Senders.{last_senders, sent_marks}
use Rattle.permute_parts.proofs.ranges.write_part.Goals as goal

pub write_range-requires-clause-unmarked : goal.write_range-requires-clause-unmarked
write_range-requires-clause-unmarked g c =
    c.fill.ensures.after (λ y is. is) ∙ ap (λ n. replicate n 0) (c.split_at_mut-own.ensures.front_len ∙ c.words_for.ensures)

pub returns-clause-counted : goal.returns-clause-counted
returns-clause-counted g c =
    let lasts = last_senders 0 (g.D.Destinations.destinations c.args.destinations.now) c.args.from (length c.args.out.now) in
    c.count_marks.ensures ∙ ap (sum_by count_ones) c.write_range.ensures.marked ∙ marks_count (sent_marks lasts) ∙ count_marked lasts
