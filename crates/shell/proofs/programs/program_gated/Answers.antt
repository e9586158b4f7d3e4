use Rattle.std.proofs.Common.{◌∙◌, inl, inr}
use Rattle.clap.specs.Walk.{texts}
use Rattle.clap.specs.Values.{kind_of}
use Rattle.shell.specs.Programs.{IsAsked}
use Rattle.shell.proofs.Explained.{asked_shown, asked_starved, asked_wrong, performs_explaining}
use Rattle.shell.proofs.Performed.{performs_files}
use Rattle.shell.proofs.programs.program_gated.Goals as goal

pub returns-in-Ok : goal.returns-in-Ok
returns-in-Ok g c =
    let words = texts c.args.words.now in
    let script = c.in-Ok.words.script.now in
    let inputs = texts c.in-Ok.words.inputs.items in
    record {
      plain = λ no. performs_files g.row.A.Denot words script inputs _ _ c.run_files.result
          c.in-Ok.ensures.faults c.in-Ok.ensures.script c.in-Ok.ensures.inputs (c.run_files.ensures.plain (c.in-Ok.ensures.explain ∙ no));
      explaining = λ yes. performs_explaining words script _ _ c.run_files.result c.in-Ok.ensures.faults c.in-Ok.ensures.script
          (rw c.in-Ok.ensures.inputs at (c.run_files.ensures.explaining (c.in-Ok.ensures.explain ∙ yes)));
    }

pub returns-in-Err-NoResources : goal.returns-in-Err-NoResources
returns-in-Err-NoResources g c = asked_starved (texts c.args.words.now) _ _ c.finish.result c.finish.ensures

pub returns-in-DisplayHelp : goal.returns-in-DisplayHelp
returns-in-DisplayHelp g c =
    let asked : IsAsked (kind_of c.in-Err-Refused.error) = rw c.kind.ensures at c.in-DisplayHelp.is in
    let among = rw c.in-Err-Refused.field-0-is at c.in-Err-Refused.ensures.faults in
    asked_shown (texts c.args.words.now) _ _ _ c.finish-in-DisplayHelp.result c.put_shown-answer.result
    _ asked among c.put_shown-answer.ensures c.finish-in-DisplayHelp.ensures

pub returns : goal.returns
returns g c =
    let among = rw c.in-Err-Refused.field-0-is at c.in-Err-Refused.ensures.faults in
    asked_wrong {A = g.row.A.Denot} (texts c.args.words.now) _ _ c.tell_refused.ensures.0 (kind_of c.in-Err-Refused.error) among
    (λ is. elim is [
      | inl help ↦ c.in_default.not-DisplayHelp (c.kind.ensures ∙ help)
      | inr version ↦ c.in_default.not-DisplayVersion (c.kind.ensures ∙ version)
    ]) c.tell_refused.ensures.1
