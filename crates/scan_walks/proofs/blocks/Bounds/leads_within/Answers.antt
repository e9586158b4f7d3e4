use Rattle.scan_walks.proofs.Cited.{◌≡◌, ◌∙◌, ◌+ℤ◌, ◌*ℤ◌, to_z, of_z, w64, sym, ap, arith, is_some, to_z-of_z}
use Rattle.scan_walks.proofs.FrontLaws.{some-fits}
use Rattle.scan_walks.proofs.blocks.Bounds.leads_within.Goals as goal

pub returns-then-is_some : goal.returns-then-is_some
returns-then-is_some c fits =
    let bounds = c.args.self.now in
    let lowest : to_z w64 (of_z w64 c.reach.result) ≡ c.args.from +ℤ (c.args.steps *ℤ bounds.least) = grind (arith, to_z-of_z) in
    let highest : to_z w64 (of_z w64 c.reach-then-is_some.result) ≡ c.args.from +ℤ (c.args.steps *ℤ bounds.greatest) = grind (arith, to_z-of_z) in (
      some-fits _ _ lowest (ap is_some (sym c.fitting.ensures) ∙ sym c.is_some.ensures ∙ c.if-is_some.true),
      some-fits _ _ highest (ap is_some (sym c.fitting-then-is_some.ensures) ∙ sym c.is_some-then-is_some.ensures ∙ fits),
    )
