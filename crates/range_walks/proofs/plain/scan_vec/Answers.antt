use Rattle.range_walks.proofs.Cited.{rules, length, arith, ap, ◌∙◌, all_written}
use Rattle.range_walks.proofs.Scanned.{length-scan_read}
use Rattle.range_walks.proofs.plain.scan_vec.Goals as goal

pub into_vec-requires : goal.into_vec-requires
into_vec-requires g c = search (rules, length-scan_read, all_written)

pub returns : goal.returns
returns g c =
    let long = length-scan_read g.M.Monoid.join g.E.Reading.item c.args.before c.args.xs.now in
    let values = c.into_vec.ensures.items
    ∙ (all_written c.in_ok-room.room c.in_ok-room.run' c.scan_into.result _ _ c.in_ok-room.ensures.room c.in_ok-room.ensures.run c.scan_into.ensures (omega (arith, long))).1 in
    record { values = values; as_long = omega (arith, c.into_vec.ensures.len, ap length values, long) }
