use Rattle.std.proofs.Common.{◌≡◌, ◌∙◌, ap, arith, length, sym, Ok}
use Rattle.std.proofs.lemmas.Result.{err_from_is_err_and}
use Rattle.cvl_base.specs.Gives.{unless}
use Rattle.cvl_base.specs.Permutes.{first_fault, wrongs}
use Rattle.permute_walks.specs.Senders.{senders_of}
use Rattle.permute_walks.proofs.Told.{found_fault, found_ok}
use Rattle.permutes.proofs.first_walk.senders_alone.Goals as goal

pub returns-in_err-send_places-clause-senders : goal.returns-in_err-send_places-clause-senders
returns-in_err-send_places-clause-senders g c =
    let ts = g.D.Destinations.destinations c.args.destinations.now in
    let p = err_from_is_err_and c.from_residual-in_err-send_places.result c.from_residual-in_err-send_places.ensures.1 in
    let long : length c.deref_mut.result.now ≡ c.args.places = omega (arith, c.deref_mut.ensures.len, c.in_ok-senders.ensures.len) in
    rw (p.1, p.2) (found_fault (first_fault 0 (wrongs c.args.places ts)) (senders_of 0 ts c.args.places) c.in_err-send_places.field-0.0
    (c.in_err-send_places.ensures.fault ∙ ap (λ k. first_fault 0 (wrongs k ts)) long))

pub returns-clause-senders : goal.returns-clause-senders
returns-clause-senders g c =
    let ts = g.D.Destinations.destinations c.args.destinations.now in
    let long : length c.deref_mut.result.now ≡ c.args.places = omega (arith, c.deref_mut.ensures.len, c.in_ok-senders.ensures.len) in
    ap (λ k. unless (first_fault 0 (wrongs k ts)) (Ok (senders_of 0 ts k))) (sym long)
    ∙ found_ok _ _ c.send_places.new.senders c.in_ok-senders.senders.items c.in_ok-senders.senders.len c.in_ok-send_places.ensures.fault c.in_ok-send_places.ensures.sent
    (omega (arith, c.send_places.auto.senders, c.deref_mut.ensures.len))
