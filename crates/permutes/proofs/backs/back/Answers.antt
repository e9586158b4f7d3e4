use Rattle.std.proofs.Common.{◌≡◌, ◌∙◌, List, Vec, [], ◌∷◌, ap, map, refl, slice_get, subst, sym, Option, None}
use Rattle.std.specs.Option.{option_copied}
use Rattle.std.proofs.lemmas.List.{length-map}
use Rattle.std.proofs.lemmas.Option.{none-some}
use Rattle.std.proofs.lemmas.Result.{err_from_is_err_and}
use Rattle.cvl_base.specs.declared.fault.FaultNo.TheVariants.{IndexOutOfRange}
use Rattle.cvl_base.specs.Elementwise.{values_from}
use Rattle.cvl_base.specs.Extracts.{element_at}
use Rattle.cvl_base.specs.Gives.{Gives}
use Rattle.permute_walks.proofs.TakenOr.{nothing_at}
use Rattle.permutes.proofs.Flat.{back_told}
use Rattle.permute_walks.proofs.Told.{told_refused}
use Rattle.permutes.proofs.backs.back.Goals as goal

no_first : {X : Type 0} (xs : List X) (first : Option X) → first ≡ slice_get xs 0 → first ≡ None → xs ≡ []
no_first [] first is none = refl
no_first (x ∷ xs) first is none = absurd (none-some x (sym none ∙ is))

pub returns-in_err-check_indices_raced-clause-values : goal.returns-in_err-check_indices_raced-clause-values
returns-in_err-check_indices_raced-clause-values g c =
    let p = err_from_is_err_and c.from_residual.result c.from_residual.ensures.1 in
    rw (p.1, p.2)
    (told_refused (back_told c.args.source.now c.args.index.now) (λ (v : Vec g.row.T.Denot g.row.A.Denot). v.items) c.in_err-check_indices_raced.field-0.0 c.in_err-check_indices_raced.ensures)

pub returns-in_default-first-clause-values : goal.returns-in_default-first-clause-values
returns-in_default-first-clause-values g c =
    let index = c.args.index.now in
    let none = no_first c.args.source.now (option_copied c.first.result) c.first.ensures.value (ap option_copied c.in_default-first.is) in
    subst (λ source. Gives (λ (v : Vec g.row.T.Denot g.row.A.Denot). v.items) c.take_nothing.result (values_from IndexOutOfRange 0 (map (element_at source) index))) (sym none)
    (c.take_nothing.ensures.values (map (element_at []) index) (length-map index (element_at [])) (nothing_at index))

pub take_in_runs-requires-clause-written : goal.take_in_runs-requires-clause-written
take_in_runs-requires-clause-written g c κs within = (c.in-Some-first.other.now, refl)
