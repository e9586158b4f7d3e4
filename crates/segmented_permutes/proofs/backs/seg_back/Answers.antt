use Rattle.std.proofs.Common.{◌≡◌, ◌∙◌, Vec, [], ap, arith, length, refl, subst, sym, Err}
use Rattle.std.specs.Option.{option_copied}
use Rattle.std.proofs.lemmas.Result.{err_from_is_err_and}
use Rattle.cvl_base.specs.declared.fault.FaultNo.TheVariants.{IndexOutOfRange}
use Rattle.cvl_base.specs.Elementwise.{values_from}
use Rattle.cvl_base.specs.Gives.{Gives}
use Rattle.permute_walks.proofs.Told.{told_refused}
use Rattle.segmented_permutes.specs.Backs.{values_at}
use Rattle.segmented_permutes.proofs.Backed.{nothing_there, seg_back_values}
use Rattle.segmented_permutes.proofs.Listed.{fitting, length-values, no_first, seg_back_told}
use Rattle.segmented_permutes.proofs.Whole.{seg_back-differ}
use Rattle.segmented_permutes.proofs.backs.seg_back.Goals as goal

pub returns-in_err-check_agree-clause-values : goal.returns-in_err-check_agree-clause-values
returns-in_err-check_agree-clause-values g c =
    let p = err_from_is_err_and c.from_residual-in_err-check_agree.result c.from_residual-in_err-check_agree.ensures.1 in
    let differ = c.in_err-check_agree.ensures in
    rw (p.1, p.2)
    (seg_back-differ c.args.source.now c.args.index.now c.args.source_d.now c.args.index_d.now c.in_ok-check_total.ensures.agrees c.in_ok-check_total-2.ensures.agrees
    (λ same. differ.1 (c.count.ensures.value ∙ same ∙ sym c.count-2.ensures.value))
    ∙ ap (λ f. Err f) (sym differ.0))

pub returns-in_err-check_indices_raced_by_segments-clause-values : goal.returns-in_err-check_indices_raced_by_segments-clause-values
returns-in_err-check_indices_raced_by_segments-clause-values g c =
    let p = err_from_is_err_and c.from_residual-in_err-check_indices_raced_by_segments.result c.from_residual-in_err-check_indices_raced_by_segments.ensures.1 in
    let source = c.args.source.now in let index = c.args.index.now in let widths = c.args.source_d.now in let lengths = c.args.index_d.now in
    let fits = fitting source index widths lengths c.in_ok-check_total.ensures.agrees c.in_ok-check_total-2.ensures.agrees (omega (arith, c.in_ok-check_agree.ensures)) in
    rw (p.1, p.2)
    (told_refused (seg_back_told source index widths lengths fits) (λ (v : Vec g.row.T.Denot g.row.A.Denot). v.items) c.in_err-check_indices_raced_by_segments.field-0.0
    c.in_err-check_indices_raced_by_segments.ensures)

pub returns-in_default-first-clause-values : goal.returns-in_default-first-clause-values
returns-in_default-first-clause-values g c =
    let source = c.args.source.now in let index = c.args.index.now in let widths = c.args.source_d.now in let lengths = c.args.index_d.now in
    let fits = fitting source index widths lengths c.in_ok-check_total.ensures.agrees c.in_ok-check_total-2.ensures.agrees (omega (arith, c.in_ok-check_agree.ensures)) in
    let none = no_first source (option_copied c.first.result) c.first.ensures.value (ap option_copied c.in_default-first.is) in
    let long : length (values_at widths [] lengths index) ≡ length index = ap (λ xs. length (values_at widths xs lengths index)) (sym none) ∙ length-values fits in
    subst (Gives (λ (v : Vec g.row.T.Denot g.row.A.Denot). v.items) c.take_nothing.result) (sym (seg_back_values source index widths lengths fits.source_total fits.total fits.count))
    (subst (λ xs. Gives (λ (v : Vec g.row.T.Denot g.row.A.Denot). v.items) c.take_nothing.result (values_from IndexOutOfRange 0 (values_at widths xs lengths index))) (sym none)
    (c.take_nothing.ensures.values (values_at widths [] lengths index) long (nothing_there widths lengths index)))

pub take_in_runs-requires-clause-as_long : goal.take_in_runs-requires-clause-as_long
take_in_runs-requires-clause-as_long g c κs within =
    sym (length-values (fitting c.args.source.now c.args.index.now c.args.source_d.now c.args.index_d.now c.in_ok-check_total.ensures.agrees c.in_ok-check_total-2.ensures.agrees
    (omega (arith, c.in_ok-check_agree.ensures))))

pub take_in_runs-requires-clause-written : goal.take_in_runs-requires-clause-written
take_in_runs-requires-clause-written g c κs within = (c.in-Some-first.other.now, refl)

pub returns-clause-values : goal.returns-clause-values
returns-clause-values g c =
    subst (Gives (λ (v : Vec g.row.T.Denot g.row.A.Denot). v.items) c.take_in_runs.result)
    (sym (seg_back_values c.args.source.now c.args.index.now c.args.source_d.now c.args.index_d.now c.in_ok-check_total.ensures.agrees c.in_ok-check_total-2.ensures.agrees
    (omega (arith, c.in_ok-check_agree.ensures))))
    c.take_in_runs.ensures.values
