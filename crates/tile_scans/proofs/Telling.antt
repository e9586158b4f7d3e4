-- What a worker told of a tile is told from then on.
-- Source: what the definitions of Told imply.
use Rattle.tile_scans.proofs.Cited.{◌≡◌, refl, sym, subst, ap, ℕ, suc, ◌<◌, ◌≤◌, arith, ScanSeated}
use Rattle.boards.specs.Passes.{WasTold, told_state}
use Rattle.tile_scans.specs.Told.{HasToldAround}

module _ {Item : Type 0} where
  -- the seat of a worker that told a state of tile t, after it was told
  abbrev IsTold : ℕ → ℕ → ScanSeated Item → ScanSeated Item → Type 0
  IsTold t rank old new = new.pass ≡ told_state old.pass t rank

  told_now : (t rank : ℕ) (old new : ScanSeated Item) → IsTold t rank old new → WasTold t rank old.pass.looks new.pass
  told_now t rank old new is = subst (WasTold t rank old.pass.looks) (sym is) (0, omega arith, refl)

  told_still : (t rank : ℕ) (old new : ScanSeated Item) → IsTold t rank old new → (x of_x when : ℕ) → WasTold x of_x when old.pass → WasTold x of_x when new.pass
  told_still t rank old new is x of_x when there = subst (WasTold x of_x when) (sym is) (suc (there.0), omega (arith, there.1), there.2)

  -- a worker told the sum of tile t, looked back, and told the tile's prefix
  module _ (t : ℕ) (old summed back new : ScanSeated Item) (sum : IsTold t 1 old summed) (kept : (x rank when : ℕ) → WasTold x rank when summed.pass → WasTold x rank when back.pass)
      (prefix : IsTold t 2 back new) where
    pub told_around : (1 ≤ t → summed.pass.looks < back.pass.looks) → HasToldAround new t
    told_around looked = record {
      summed = old.pass.looks;
      done = back.pass.looks;
      sum = told_still t 2 back new prefix t 1 old.pass.looks (kept t 1 old.pass.looks (told_now t 1 old summed sum));
      prefix = told_now t 2 back new prefix;
      looked = λ some. omega (arith, looked some, ap (λ p. p.looks) sum);
    }

    -- what it told around other tiles stays
    pub told_around_still : (other : ℕ) → HasToldAround old other → HasToldAround new other
    told_around_still other around =
        let still : (x rank when : ℕ) → WasTold x rank when old.pass → WasTold x rank when new.pass =
        λ x rank when there. told_still t 2 back new prefix x rank when (kept x rank when (told_still t 1 old summed sum x rank when there)) in
        record {
          summed = around.summed;
          done = around.done;
          sum = still other 1 around.summed around.sum;
          prefix = still other 2 around.done around.prefix;
          looked = around.looked;
        }
