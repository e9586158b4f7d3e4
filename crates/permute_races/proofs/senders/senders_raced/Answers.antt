use Rattle.std.proofs.Common.{ℕ, Vec, ◌∙◌, ap, arith, length, subst, Err, Ok}
use Rattle.std.proofs.lemmas.List.FromFn.{length-map-range_with_len}
use Rattle.std.proofs.lemmas.Result.{err_from_is_err_and}
use Rattle.boards.specs.Slots.{least_from}
use Rattle.cvl_base.specs.Gives.{Gives, unless}
use Rattle.cvl_base.specs.Permutes.{first_fault, wrongs}
use Rattle.permute_walks.specs.Senders.{senders_of}
use Rattle.permute_walks.proofs.Told.{refused_told}
use Rattle.permute_races.specs.Races.{slots_of, wrongs_beside}
use Rattle.permute_races.proofs.Raced.{checked_ok, length-beside, senders_are, wrongs_same}
use Rattle.permute_races.proofs.senders.senders_raced.Goals as goal

pub senders_told-requires-after_bounds : goal.senders_told-requires-after_bounds
senders_told-requires-after_bounds g c κs within =
    let m = c.args.places in
    ap length c.in_ok-leasts.ensures ∙ length-map-range_with_len (least_from 0 (slots_of m (g.D.Destinations.destinations c.args.destinations.now))) 0 m

pub check_raced-requires-after_bounds : goal.check_raced-requires-after_bounds
check_raced-requires-after_bounds g c κs within =
    omega (arith, length-beside c.deref.result.now (g.D.Destinations.destinations c.args.destinations.now), c.requires.few)

pub returns-in_err-check_raced-clause-senders : goal.returns-in_err-check_raced-clause-senders
returns-in_err-check_raced-clause-senders g c =
    let m = c.args.places in
    let ts = g.D.Destinations.destinations c.args.destinations.now in
    let are = c.in_ok-senders.ensures.are ∙ senders_are ts m c.in_ok-leasts.leasts c.requires.few c.in_ok-leasts.ensures in
    let p = err_from_is_err_and c.from_residual-in_err-check_raced.result c.from_residual-in_err-check_raced.ensures.1 in
    rw (p.1, p.2)
    (subst (λ ws. Gives (λ (v : Vec ℕ g.row.A.Denot). v.items) (Err c.in_err-check_raced.field-0.0) (unless (first_fault 0 ws) (Ok (senders_of 0 ts m))))
    (wrongs_same m ts c.deref.result.now (c.deref.ensures.value ∙ are))
    (refused_told (λ (u : Unit {0}). u) (λ (v : Vec ℕ g.row.A.Denot). v.items) (first_fault 0 (wrongs_beside c.deref.result.now ts)) tt (senders_of 0 ts m) c.in_err-check_raced.field-0.0
    c.in_err-check_raced.ensures))

pub returns-clause-senders : goal.returns-clause-senders
returns-clause-senders g c =
    let m = c.args.places in
    let ts = g.D.Destinations.destinations c.args.destinations.now in
    let are = c.in_ok-senders.ensures.are ∙ senders_are ts m c.in_ok-leasts.leasts c.requires.few c.in_ok-leasts.ensures in
    checked_ok (first_fault 0 (wrongs_beside c.deref.result.now ts)) (first_fault 0 (wrongs m ts)) (senders_of 0 ts m) c.in_ok-senders.senders.items
    (ap (first_fault 0) (wrongs_same m ts c.deref.result.now (c.deref.ensures.value ∙ are))) c.in_ok-check_raced.ensures are
