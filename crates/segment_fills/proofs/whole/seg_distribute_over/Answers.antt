use Rattle.std.proofs.Common.{◌≡◌, ◌≤◌, ◌∙◌, Err, Ok, ap, arith, length, sum, sym, take, take_all}
use Rattle.cvl_base.proofs.Rooms.{differs, fits, told}
use Rattle.cvl_base.specs.Limits.{most_places}
use Rattle.cvl_base.specs.Lists.{joined}
use Rattle.cvl_base.specs.Rooms.{in_room}
use Rattle.pack_dist.proofs.Distributed.{copies, lists-fit, lists-whole}
use Rattle.pack_dist.specs.Lists.{copies_of}
use Rattle.segment_fills.proofs.whole.seg_distribute_over.Goals as goal

pub returns-in_err-check_agree-2 : goal.returns-in_err-check_agree-2
returns-in_err-check_agree-2 g c =
    let values = c.args.values.now in let lengths = c.args.d.now in let n = length c.args.out.now in
    let same = c.in_ok-check_agree.ensures ∙ c.count.ensures.value in
    let small : sum lengths ≤ most_places = omega (arith, c.total.ensures) in
    let whole = lists-whole (copies most_places) values lengths same in
    let differ = c.in_err-check_agree-2.ensures in
    told _ c.from_residual-in_err-check_agree-2.result c.in_err-check_agree-2.field-0.0 c.args.out.now c.from_residual-in_err-check_agree-2.ensures.1
    (ap (in_room n) (lists-fit (copies most_places) values lengths same small)
    ∙ differs n (joined (copies_of values lengths)) (λ e. differ.1 (c.total.ensures.value ∙ whole ∙ e)) ∙ ap Err (sym differ.0))

pub returns : goal.returns
returns g c =
    let values = c.args.values.now in let lengths = c.args.d.now in let n = length c.args.out.now in let all = joined (copies_of values lengths) in
    let same = c.in_ok-check_agree.ensures ∙ c.count.ensures.value in
    let small : sum lengths ≤ most_places = omega (arith, c.total.ensures) in
    let long : length all ≡ n = sym (lists-whole (copies most_places) values lengths same) ∙ sym c.total.ensures.value ∙ c.in_ok-check_agree-2.ensures in
    ap (in_room n) (lists-fit (copies most_places) values lengths same small) ∙ fits n all long
    ∙ ap Ok (sym (c.fill_starts.ensures ∙ (λ i. take n (joined (copies_of values (c.lengths.ensures.read i)))) ∙ take_all n all (omega (arith, long))))
