use Rattle.permute_walks.proofs.Cited.{◌≡◌, ◌∙◌, ◌≤◌, ap, arith, count_of, drop, length, nobody, senders_of, sym, take_at, all_destinations, written_over}
use Rattle.permute_scatters.proofs.Walked.{made_at_once, right_at_once}
use Rattle.permute_scatters.proofs.one_walk.permuted_at_once.Goals as goal

pub returns-then-true_count-index-clause-written : goal.returns-then-true_count-index-clause-written
returns-then-true_count-index-clause-written g c =
    let source = c.args.source.now in
    let index = c.args.index.now in
    let old = c.deref_mut.result.now in
    let left = c.send_and_mark.new.out in
    let marks = c.send_and_mark.new.marks in
    let few : length index ≤ nobody = omega (arith, c.requires.few) in
    let stands = c.deref_mut.ensures.value ∙ c.in_ok-out.ensures in
    let long : length old ≡ c.args.places = ap length stands ∙ sym c.requires.whole in
    let held : length marks ≡ c.in_ok-marks.marks.len = omega (arith, c.send_and_mark.auto.marks, c.deref_mut-2.ensures.len) in
    let seen = c.deref.ensures.value ∙ take_at marks (drop (length marks) c.in_ok-marks.marks.items) c.in_ok-marks.marks.len held in
    let counted = ap count_of (sym seen) ∙ sym c.true_count.ensures.value ∙ c.if-true_count-index.true in
    let made = made_at_once source old left marks index (length old) c.args.places few long (c.send_and_mark.ensures.marked c.if-send_and_mark.true) counted
    (c.send_and_mark.ensures.written c.if-send_and_mark.true) in
    take_at left (drop (length left) c.in_ok-out.out.items) c.in_ok-out.out.len (omega (arith, c.send_and_mark.auto.out, c.deref_mut.ensures.len))
    ∙ made ∙ ap (written_over source (senders_of 0 (all_destinations index) c.args.places)) stands

pub returns-then-true_count-index-clause-right : goal.returns-then-true_count-index-clause-right
returns-then-true_count-index-clause-right g c =
    let source = c.args.source.now in
    let index = c.args.index.now in
    let old = c.deref_mut.result.now in
    let marks = c.send_and_mark.new.marks in
    let few : length index ≤ nobody = omega (arith, c.requires.few) in
    let long : length old ≡ c.args.places = ap length (c.deref_mut.ensures.value ∙ c.in_ok-out.ensures) ∙ sym c.requires.whole in
    let held : length marks ≡ c.in_ok-marks.marks.len = omega (arith, c.send_and_mark.auto.marks, c.deref_mut-2.ensures.len) in
    let seen = c.deref.ensures.value ∙ take_at marks (drop (length marks) c.in_ok-marks.marks.items) c.in_ok-marks.marks.len held in
    let counted = ap count_of (sym seen) ∙ sym c.true_count.ensures.value ∙ c.if-true_count-index.true in
    right_at_once source old c.send_and_mark.new.out marks index (length old) c.args.places few long (c.send_and_mark.ensures.marked c.if-send_and_mark.true) counted
