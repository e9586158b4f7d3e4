use Rattle.std.proofs.Common.{List, [], ◌∷◌, Bool, Ok, codes, arith}
use Rattle.cvl_base.specs.declared.value.Value.TheVariants as value
use Rattle.vector_handles.specs.declared.input.Input.TheVariants as input
use Rattle.recipes.specs.declared.scripts.TheConstants.{LINE_OF_SIGHT}
use Rattle.recipes.proofs.Answered.{out_of_memory, run_over, refused_by_run, bound_after_run}
use Rattle.recipes.proofs.SightBound.{sight_given, binds_booleans}
use Rattle.recipes.proofs.sight.line_of_sight.Goals as goal

pub returns-in_err-inputs-clause-meaning : goal.returns-in_err-inputs-clause-meaning
returns-in_err-inputs-clause-meaning g c =
    out_of_memory (λ v. value.Booleans v.items) LINE_OF_SIGHT.now (input.Vector c.args.altitudes.items ∷ []) (codes "v")
    c.from_residual.result c.from_residual.ensures.1

pub returns-in_err-session-clause-meaning : goal.returns-in_err-session-clause-meaning
returns-in_err-session-clause-meaning g c =
    refused_by_run (λ v. value.Booleans v.items) LINE_OF_SIGHT.now _ (codes "v") _ c.in_ok-inputs.ensures
    c.from_residual-in_err-session.result c.in_err-session.field-0.0 c.from_residual-in_err-session.ensures.1 c.in_err-session.ensures

pub returns-in_err-session-clause-visible : goal.returns-in_err-session-clause-visible
returns-in_err-session-clause-visible g c = λ exact.
    sight_given g.row.A.Denot c.args.altitudes.items exact (λ v. v.items) c.from_residual-in_err-session.result (returns-in_err-session-clause-meaning g c)

pub booleans_at-requires-clause-booleans : goal.booleans_at-requires-clause-booleans
booleans_at-requires-clause-booleans g c κs within =
    binds_booleans g.row.A.Denot c.args.altitudes.items (omega (arith, c.requires, c.args.altitudes.ok.0)) c.in_ok-session.session.names
    (run_over LINE_OF_SIGHT.now _ _ _ c.in_ok-inputs.ensures c.in_ok-session.ensures)

pub returns-in_err-booleans_at-clause-meaning : goal.returns-in_err-booleans_at-clause-meaning
returns-in_err-booleans_at-clause-meaning g c =
    out_of_memory (λ v. value.Booleans v.items) LINE_OF_SIGHT.now (input.Vector c.args.altitudes.items ∷ []) (codes "v")
    c.from_residual-in_err-booleans_at.result c.from_residual-in_err-booleans_at.ensures.1

pub returns-clause-meaning : goal.returns-clause-meaning
returns-clause-meaning g c =
    bound_after_run (λ (bs : List Bool). value.Booleans bs) LINE_OF_SIGHT.now _ (codes "v") _ c.in_ok-inputs.ensures
    c.in_ok-session.session.names c.in_ok-booleans_at.field-0.items c.in_ok-session.ensures c.in_ok-booleans_at.ensures

pub returns-clause-visible : goal.returns-clause-visible
returns-clause-visible g c = λ exact.
    sight_given g.row.A.Denot c.args.altitudes.items exact (λ v. v.items) (Ok c.in_ok-booleans_at.field-0) (returns-clause-meaning g c)
