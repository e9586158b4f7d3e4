use Rattle.std.proofs.Common.{refl}
use Rattle.cvl_base.specs.declared.fault.FaultNo.TheVariants.{ScriptTooLong}
use Rattle.cvl_base.specs.Faults.{fault}
use Rattle.script_runs.specs.declared.stop.Stop.TheVariants as stop
use Rattle.shell.proofs.Explained.{ends_too_long, stops_and_explains, text_told}
use Rattle.shell.proofs.explaining.refuse_script.Goals as goal

pub returns : goal.returns
returns g c = λ files inputs.
    stops_and_explains files c.args.script.now inputs _ _ _ c.finish-status.result (stop.Script 0 (fault ScriptTooLong)) _
    (ends_too_long c.args.script.now inputs c.requires.long) refl (rw c.new.ensures at c.finish-status.ensures)
    (text_told 0 (fault ScriptTooLong) c.explain_too_long.result _ c.explain_too_long.ensures) c.put_explanation.ensures
