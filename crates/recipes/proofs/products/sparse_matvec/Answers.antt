use Rattle.std.proofs.Common.{List, ℤ, Ok, codes, arith}
use Rattle.cvl_base.specs.declared.value.Value.TheVariants as value
use Rattle.recipes.specs.declared.scripts.TheConstants.{SPARSE_MATVEC}
use Rattle.recipes.proofs.Answered.{out_of_memory, run_over, refused_by_run, bound_after_run}
use Rattle.recipes.proofs.ProductBound.{product_given}
use Rattle.recipes.proofs.ProductFaults.{answers_product, script_is}
use Rattle.recipes.proofs.ProductScript.{inputs, binds_integers}
use Rattle.recipes.proofs.products.sparse_matvec.Goals as goal

pub returns-in_err-inputs-clause-meaning : goal.returns-in_err-inputs-clause-meaning
returns-in_err-inputs-clause-meaning g c =
    out_of_memory (λ y. value.Integers y.items) SPARSE_MATVEC.now (inputs c.args.lens.items c.args.cols.items c.args.vals.items c.args.x.items) (codes "y")
    c.from_residual.result c.from_residual.ensures.1

pub returns-in_err-session-clause-meaning : goal.returns-in_err-session-clause-meaning
returns-in_err-session-clause-meaning g c =
    refused_by_run (λ y. value.Integers y.items) SPARSE_MATVEC.now _ (codes "y") _ c.in_ok-inputs.ensures
    c.from_residual-in_err-session.result c.in_err-session.field-0.0 c.from_residual-in_err-session.ensures.1 c.in_err-session.ensures

pub returns-in_err-session-clause-product : goal.returns-in_err-session-clause-product
returns-in_err-session-clause-product g c = λ matrix.
    product_given g.row.A.Denot c.args.lens.items c.args.cols.items c.args.vals.items c.args.x.items
    (omega (arith, c.requires.cols, c.args.cols.ok.0)) matrix (λ y. y.items) c.from_residual-in_err-session.result (returns-in_err-session-clause-meaning g c)

pub returns-in_err-session-clause-exact : goal.returns-in_err-session-clause-exact
returns-in_err-session-clause-exact g c =
    answers_product (λ y. y.items) c.from_residual-in_err-session.result _ _
    (script_is g.row.A.Denot c.args.lens.items c.args.cols.items c.args.vals.items c.args.x.items) (returns-in_err-session-clause-meaning g c)

pub integers_at-requires-clause-integers : goal.integers_at-requires-clause-integers
integers_at-requires-clause-integers g c κs within =
    binds_integers c.args.lens.items c.args.cols.items c.args.vals.items c.args.x.items c.in_ok-session.session.names
    (run_over SPARSE_MATVEC.now _ _ _ c.in_ok-inputs.ensures c.in_ok-session.ensures)

pub returns-in_err-integers_at-clause-meaning : goal.returns-in_err-integers_at-clause-meaning
returns-in_err-integers_at-clause-meaning g c =
    out_of_memory (λ y. value.Integers y.items) SPARSE_MATVEC.now (inputs c.args.lens.items c.args.cols.items c.args.vals.items c.args.x.items) (codes "y")
    c.from_residual-in_err-integers_at.result c.from_residual-in_err-integers_at.ensures.1

pub returns-clause-meaning : goal.returns-clause-meaning
returns-clause-meaning g c =
    bound_after_run (λ (ys : List ℤ). value.Integers ys) SPARSE_MATVEC.now _ (codes "y") _ c.in_ok-inputs.ensures
    c.in_ok-session.session.names c.in_ok-integers_at.field-0.items c.in_ok-session.ensures c.in_ok-integers_at.ensures

pub returns-clause-product : goal.returns-clause-product
returns-clause-product g c = λ matrix.
    product_given g.row.A.Denot c.args.lens.items c.args.cols.items c.args.vals.items c.args.x.items
    (omega (arith, c.requires.cols, c.args.cols.ok.0)) matrix (λ y. y.items) (Ok c.in_ok-integers_at.field-0) (returns-clause-meaning g c)

pub returns-clause-exact : goal.returns-clause-exact
returns-clause-exact g c =
    answers_product (λ y. y.items) (Ok c.in_ok-integers_at.field-0) _ _
    (script_is g.row.A.Denot c.args.lens.items c.args.cols.items c.args.vals.items c.args.x.items) (returns-clause-meaning g c)
