use Rattle.std.proofs.Common.{◌≤◌, [], length, take, arith}
use Rattle.std.specs.Borrow.{Bor}
use Rattle.std.proofs.lemmas.List.{take_all}
use Rattle.std.proofs.lemmas.List.Elements.{All-map, All-more, All-weaker}
use Rattle.clap.specs.Walk.{Text}
use Rattle.shell.proofs.files.longest_name.Goals as goal

pub loop-name-preserved : goal.loop-name-preserved
loop-name-preserved c =
    let longest = c.max-longest.result in
    let before = All-weaker (λ (name : Bor Text). length name.now ≤ c.loop-name.longest) (λ (name : Bor Text). length name.now ≤ longest)
    (λ name short. omega (arith, short, c.max-longest.ensures)) (take c.loop-name.name-index c.args.inputs.now) c.loop-name.invariant.inputs in
    record {
      script = omega (arith, c.max-longest.ensures, c.loop-name.invariant.script);
      inputs = All-more (λ (name : Bor Text). length name.now ≤ longest) c.args.inputs.now c.loop-name.name-index (record { ref_ptr = (0, 0); now = [] }) (omega arith)
          before (omega (arith, c.max-longest.ensures));
    }

pub returns-clause-inputs : goal.returns-clause-inputs
returns-clause-inputs c =
    All-map (λ (name : Text). length name ≤ c.loop-name.longest) (λ (s : Bor Text). s.now) c.args.inputs.now
    (rw (take_all c.loop-name.name-index c.args.inputs.now (omega arith)) at c.loop-name.invariant.inputs)
