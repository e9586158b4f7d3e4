use Rattle.permute_walks.proofs.Cited.{rules, ◌∙◌, ◌<◌, ◌==◌, not, ap, refl, take, length-map, arith, index_is, all_destinations, last_senders, mark_words, nobody, sent_marks}
use Rattle.permute_walks.proofs.LastSent.{length-last_senders}
use Rattle.permute_walks.proofs.Scattered.{marks_more, named_below, right_inside}
use Rattle.permute_scatters.proofs.Walked.{marked_none}
use Rattle.permute_scatters.proofs.marks.mark_each.Goals as goal

pub loop-i-init : goal.loop-i-init
loop-i-init c = marked_none c.args.places c.args.marks.now c.requires.unmarked

pub returns-then-named-places-clause-inside : goal.returns-then-named-places-clause-inside
returns-then-named-places-clause-inside c = λ right.
    let index = c.args.index.now in
    let m = c.args.places in
    let inside = right_inside index m (omega (arith, c.requires.in_limit.0)) c.loop-i.i-index c.loop-i-test.true right in
    absurd (omega (arith, named_below m _ c.cast_unsigned-named.result (search rules) c.cast_unsigned-named.ensures inside, c.if-named-places.true))

pub loop-i-preserved : goal.loop-i-preserved
loop-i-preserved c =
    let index = c.args.index.now in
    let m = c.args.places in
    let k = c.loop-i.i-index in
    let d = c.cast_unsigned-named.result in
    let lasts = last_senders 0 (take k (all_destinations index)) 0 m in
    let below : d < m = omega (arith, c.if-named-places.false) in
    let names = index_is _ d (search rules) c.cast_unsigned-named.ensures (omega (arith, below, c.requires.in_limit.1)) in
    c.mark_place.ensures (sent_marks lasts) (omega (arith, length-map lasts (λ s. not (s == nobody)), length-last_senders 0 (take k (all_destinations index)) 0 m, below)) c.loop-i.invariant
    ∙ ap mark_words (marks_more index m (omega (arith, c.requires.in_limit.0)) k c.loop-i-test.true d names below (sent_marks lasts) refl)
