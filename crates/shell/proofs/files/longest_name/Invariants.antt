use Rattle.std.proofs.Common.{◌≤◌, take, length}
use Rattle.std.specs.List.{All}
use Rattle.shell.proofs.files.longest_name.Given as goal

abbrev pub invariant-loop-name : goal.invariant-loop-name
invariant-loop-name l =
    record {
      script : length l.script ≤ l.longest;
      inputs : All (λ name. length name.now ≤ l.longest) (take l.name-index l.inputs);
    }
