use Rattle.pack_dist.proofs.Cited.{◌≤◌, ◌∙◌, length, take, drop, sym, ap, arith, count_of}
use Rattle.pack_dist.specs.Kept.{kept_of}
use Rattle.pack_dist.proofs.Packing.{section-count, section-kept}
use Rattle.pack_dist.proofs.Pushed.{filled_up}
use Rattle.pack_dist.proofs.Tiles.{count_at_start, starts_rise}
use Rattle.pack_dist.proofs.kept_tiles.KeptTilesShare.write.Goals as goal

pub push_kept-requires-clause-room : goal.push_kept-requires-clause-room
push_kept-requires-clause-room g c =
    let s = c.args.self in let k = s.kept.now in let flags = k.flags.now in let run = c.args.run in
    let from = c.start-from.result in let to = c.start-to.result in
    let in_order : from ≤ to = omega (arith, c.start-from.ensures, c.start-to.ensures, starts_rise k.tile (length flags) s.from s.to s.in_order) in
    let begin = ap (λ n. count_of (take n flags)) c.start-from.ensures ∙ count_at_start flags k.tile s.from ∙ sym c.requires.places.begin in
    let end = ap (λ n. count_of (take n flags)) c.start-to.ensures ∙ count_at_start flags k.tile s.to ∙ sym c.requires.places.end in
    omega (
      arith,
      section-count k.values.now flags from to run.first run.room k.as_long in_order begin end _ (c.split_at-4.ensures.back ∙ ap (drop from) c.split_at-2.ensures.front),
    )

pub returns-clause-run : goal.returns-clause-run
returns-clause-run g c =
    let s = c.args.self in let k = s.kept.now in let flags = k.flags.now in let run = c.args.run in
    let from = c.start-from.result in let to = c.start-to.result in
    let in_order : from ≤ to = omega (arith, c.start-from.ensures, c.start-to.ensures, starts_rise k.tile (length flags) s.from s.to s.in_order) in
    let begin = ap (λ n. count_of (take n flags)) c.start-from.ensures ∙ count_at_start flags k.tile s.from ∙ sym c.requires.places.begin in
    let end = ap (λ n. count_of (take n flags)) c.start-to.ensures ∙ count_at_start flags k.tile s.to ∙ sym c.requires.places.end in
    let cut = c.split_at-4.ensures.back ∙ ap (drop from) c.split_at-2.ensures.front in
    filled_up run c.push_kept.result (kept_of c.split_at-3.result.1.now c.split_at-4.result.1.now) _ (count_of c.split_at-4.result.1.now) c.push_kept.ensures c.requires.empty
    (section-count k.values.now flags from to run.first run.room k.as_long in_order begin end _ cut)
    (section-kept k.values.now flags from to run.first run.room k.as_long in_order begin end _ _ (c.split_at-3.ensures.back ∙ ap (drop from) c.split_at.ensures.front) cut)
