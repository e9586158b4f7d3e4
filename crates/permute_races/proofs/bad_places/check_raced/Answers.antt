use Rattle.std.proofs.Common.{◌∙◌, ap, sym, option_map, Ok, Err}
use Rattle.cvl_base.specs.Faults.{fault_at}
use Rattle.cvl_base.specs.Gives.{unless}
use Rattle.permute_races.proofs.Raced.{none_found, some_found}
use Rattle.permute_races.proofs.bad_places.check_raced.Goals as goal

pub returns-in_default : goal.returns-in_default
returns-in_default g c = none_found (g.F.Faulty.wrongs c.args.faulty.now) c.in_ok-place.field-0 c.requires c.in_ok-place.ensures c.in_default.is

pub wrong-requires : goal.wrong-requires
wrong-requires g c = (some_found (g.F.Faulty.wrongs c.args.faulty.now) c.in_ok-place.field-0 c.in-Some.place c.requires c.in_ok-place.ensures c.in-Some.is).0

pub returns-in-Some-wrong : goal.returns-in-Some-wrong
returns-in-Some-wrong g c =
    let found = some_found (g.F.Faulty.wrongs c.args.faulty.now) c.in_ok-place.field-0 c.in-Some.place c.requires c.in_ok-place.ensures c.in-Some.is in
    ap (λ o. unless {Y = Unit {0}} o (Ok (tt {0}))) (found.1 ∙ ap (option_map (λ number. fault_at number c.in-Some.place)) (sym c.in-Some-wrong.ensures))
    ∙ ap Err (sym c.at.ensures)

pub returns-in-None : goal.returns-in-None
returns-in-None g c =
    let found = some_found (g.F.Faulty.wrongs c.args.faulty.now) c.in_ok-place.field-0 c.in-Some.place c.requires c.in_ok-place.ensures c.in-Some.is in
    ap (λ o. unless {Y = Unit {0}} o (Ok (tt {0}))) (found.1 ∙ ap (option_map (λ number. fault_at number c.in-Some.place)) (sym c.in-None.ensures))
