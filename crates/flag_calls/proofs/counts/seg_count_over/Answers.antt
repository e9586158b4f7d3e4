use Rattle.std.proofs.Common.{◌≡◌, ◌∙◌, Err, Ok, ap, arith, length, map, sym, unsigned_abs}
use Rattle.cvl_base.specs.Nests.{cut_of}
use Rattle.cvl_base.specs.Rooms.{in_room}
use Rattle.cvl_base.proofs.Descriptors.{abs_pos}
use Rattle.cvl_base.proofs.Rooms.{differs, fits, told}
use Rattle.flag_calls.specs.Flags.{count_in}
use Rattle.flag_calls.proofs.InSegments.{counts_fit, counts_long}
use Rattle.flag_calls.proofs.counts.seg_count_over.Goals as goal

pub returns-in_err-check_agree : goal.returns-in_err-check_agree
returns-in_err-check_agree c =
    let bytes = c.args.flags.now in let d = c.args.d.now in let room = length c.args.out.now in let counts = map count_in (cut_of d bytes) in
    told _ c.from_residual-in_err-check_agree.result c.in_err-check_agree.field-0.0 c.args.out.now c.from_residual-in_err-check_agree.ensures.1
    (ap (in_room room) (counts_fit d bytes c.in_ok-check_total.ensures.agrees)
    ∙ differs room counts (λ same. c.in_err-check_agree.ensures.1 (c.count.ensures.value ∙ sym (counts_long d bytes) ∙ same)) ∙ ap Err (sym c.in_err-check_agree.ensures.0))

pub fill_slice-requires-clause-full : goal.fill_slice-requires-clause-full
fill_slice-requires-clause-full c = λ block run done.
    let bytes = c.args.flags.now in let row = c.lengths-lengths.result.now in let is = done.1 in
    let long : length (map count_in (cut_of (map unsigned_abs row) bytes)) ≡ length c.args.out.now =
    counts_long (map unsigned_abs row) bytes ∙ ap length (ap (map unsigned_abs) c.lengths-lengths.ensures.value ∙ abs_pos c.args.d.now) ∙ sym c.count.ensures.value ∙ c.in_ok-check_agree.ensures in
    (ap (λ s. s.block) is, ap (λ s. s.first) is, ap (λ s. s.room) is ∙ omega (arith, long), ap (λ s. length s.items) is ∙ long)

pub returns : goal.returns
returns c =
    let bytes = c.args.flags.now in let d = c.args.d.now in let room = length c.args.out.now in let counts = map count_in (cut_of d bytes) in
    let are : map unsigned_abs c.lengths-lengths.result.now ≡ d = ap (map unsigned_abs) c.lengths-lengths.ensures.value ∙ abs_pos d in
    ap (in_room room) (counts_fit d bytes c.in_ok-check_total.ensures.agrees) ∙ fits room counts (counts_long d bytes ∙ sym c.count.ensures.value ∙ c.in_ok-check_agree.ensures)
    ∙ ap Ok (sym (c.fill_slice.ensures.3 ∙ ap (λ s. s.items) c.fill_slice.ensures.2.1 ∙ ap (λ ls. map count_in (cut_of ls bytes)) are))
