use Rattle.std.proofs.Common.{◌∙◌, ◌+◌, ap}
use Rattle.part_cuts.proofs.WhitePlaces.{run_is}
use Rattle.std.specs.List.{position_or_len}
use Rattle.call_reader.specs.Inputs.{is_white_space}
use Rattle.part_cuts.proofs.white.white_from.Goals as goal

pub returns-clause-place : goal.returns-clause-place
returns-clause-place c =
    ap (λ n. c.args.place + n) (run_is c.split_at.result.1.now c.run_length.result c.run_length.ensures.within c.run_length.ensures.run c.run_length.ensures.longest)
    ∙ ap (λ xs. c.args.place + position_or_len is_white_space xs) c.split_at.ensures.back
