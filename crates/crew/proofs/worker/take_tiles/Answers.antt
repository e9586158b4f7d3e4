use Rattle.std.proofs.Common.{◌∙◌}
use Rattle.crew.proofs.Facts.{one_fact_more}
use Rattle.crew.proofs.Left.{one_less}
use Rattle.crew.proofs.Pieces.{one_more}
use Rattle.crew.proofs.worker.take_tiles.Goals as goal

pub loop-t-smaller : goal.loop-t-smaller
loop-t-smaller g c =
    let claim = c.in-Tile.ensures.claims in
    let same = c.in_ok-items.ensures.given ∙ claim.3 in
    let less = one_less _ _ _ claim.0 claim.1 in
    rw same less

pub loop-t-preserved : goal.loop-t-preserved
loop-t-preserved g c =
    let w = g.W.Work in
    let work = c.args.work.now in
    let claim = c.in-Tile.ensures.claims in
    let same = c.in_ok-items.ensures.given ∙ claim.3 in
    let facts = one_fact_more (w.HasFact work) w.given _ _ _ same c.in_ok-items.ensures.fact
    (λ k had. c.in_ok-items.ensures.facts k (c.in-Tile.ensures.facts k had)) c.loop-t.invariant.1 in (
      c.in_ok-items.ensures.stays,
      facts,
      λ kept.
          one_more (w.count work) (w.items work) _ _ _ _ _ _ same claim.0 c.in_ok-items.ensures.items (c.in_ok-keep.ensures kept) (c.loop-t.invariant.2 kept),
    )
