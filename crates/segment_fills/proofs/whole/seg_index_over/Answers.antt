use Rattle.std.proofs.Common.{◌≡◌, ◌≤◌, ◌∙◌, Err, Ok, ap, arith, length, sum, sym, take, take_all, zip}
use Rattle.cvl_base.proofs.Rooms.{differs, fits, told}
use Rattle.cvl_base.specs.Limits.{most_places}
use Rattle.cvl_base.specs.Lists.{joined}
use Rattle.cvl_base.specs.Rooms.{in_room}
use Rattle.pack_dist.proofs.Distributed.{index-fits, index-misfits, lists-whole, numbers, steps-long}
use Rattle.pack_dist.specs.Lists.{progressions_of}
use Rattle.segment_fills.proofs.whole.seg_index_over.Goals as goal

pub returns-in_err-check_agree-2 : goal.returns-in_err-check_agree-2
returns-in_err-check_agree-2 c =
    let differ = c.in_err-check_agree-2.ensures in
    told _ c.from_residual-in_err-check_agree-2.result c.in_err-check_agree-2.field-0.0 c.args.out.now c.from_residual-in_err-check_agree-2.ensures.1
    (ap (in_room (length c.args.out.now))
    (index-misfits most_places c.args.inits.now c.args.strides.now c.args.d.now c.in_ok-check_agree.ensures (λ same. differ.1 (same ∙ sym c.count.ensures.value)))
    ∙ ap Err (sym differ.0))

pub returns-in_err-check_agree-3 : goal.returns-in_err-check_agree-3
returns-in_err-check_agree-3 c =
    let inits = c.args.inits.now in let strides = c.args.strides.now in let lengths = c.args.d.now in let n = length c.args.out.now in
    let pairs = c.in_ok-check_agree.ensures in let same = c.in_ok-check_agree-2.ensures ∙ c.count.ensures.value in
    let small : sum lengths ≤ most_places = omega (arith, c.total.ensures) in
    let whole = lists-whole (numbers most_places) (zip inits strides) lengths (steps-long most_places inits strides lengths pairs ∙ same) in
    let differ = c.in_err-check_agree-3.ensures in
    told _ c.from_residual-in_err-check_agree-3.result c.in_err-check_agree-3.field-0.0 c.args.out.now c.from_residual-in_err-check_agree-3.ensures.1
    (ap (in_room n) (index-fits most_places inits strides lengths pairs same small)
    ∙ differs n (joined (progressions_of inits strides lengths)) (λ e. differ.1 (c.total.ensures.value ∙ whole ∙ e)) ∙ ap Err (sym differ.0))

pub returns : goal.returns
returns c =
    let inits = c.args.inits.now in let strides = c.args.strides.now in let lengths = c.args.d.now in let n = length c.args.out.now in
    let all = joined (progressions_of inits strides lengths) in
    let pairs = c.in_ok-check_agree.ensures in let same = c.in_ok-check_agree-2.ensures ∙ c.count.ensures.value in
    let small : sum lengths ≤ most_places = omega (arith, c.total.ensures) in
    let long : length all ≡ n =
    sym (lists-whole (numbers most_places) (zip inits strides) lengths (steps-long most_places inits strides lengths pairs ∙ same)) ∙ sym c.total.ensures.value ∙ c.in_ok-check_agree-3.ensures in
    ap (in_room n) (index-fits most_places inits strides lengths pairs same small) ∙ fits n all long
    ∙ ap Ok (sym (c.number_starts.ensures ∙ (λ i. take n (joined (progressions_of inits strides (c.lengths.ensures.read i)))) ∙ take_all n all (omega (arith, long))))
