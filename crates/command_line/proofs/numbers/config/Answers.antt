use Rattle.command_line.proofs.Cited.{◌≡◌, ◌≤◌, ◌∙◌, ℕ, Ok, rules, arith, longest_tile, most_workers}
use Rattle.cvl_base.specs.Configs.{config_of}
use Rattle.command_line.proofs.numbers.config.Goals as goal

config_is : (tile workers : ℕ) → 1 ≤ tile → tile ≤ longest_tile → 1 ≤ workers → workers ≤ most_workers
    → config_of tile workers ≡ Ok (record { tile = tile; workers = workers })
config_is tile workers a b c d = grind arith

pub unwrap-requires : goal.unwrap-requires
unwrap-requires c =
    let tile = c.number-tile.ensures.range longest_tile (omega arith) c.requires.tile in
    let workers = c.number-workers.ensures.range most_workers (omega arith) c.requires.workers in
    rw (c.new.ensures ∙ config_is _ _ tile.0 tile.1 workers.0 workers.1) (search rules)
