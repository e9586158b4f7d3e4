use Rattle.std.proofs.Common.{◌∙◌, Some, is_ok, refl, sym}
use Rattle.script_runs.specs.StopTexts.{stop_line}
use Rattle.script_runs.proofs.Shown.{tells_after}
use Rattle.shell.proofs.endings.close.Goals as goal

pub returns-in-Some : goal.returns-in-Some
returns-in-Some g c = record {
  flushed = is_ok c.flush-flushed.result;
  told = Some (stop_line c.in-Some.stop);
  end_is = sym c.in-Some.is ∙ c.end_of.ensures;
  says = refl;
  tells = tells_after (Some (stop_line c.in-Some.stop)) _ _ _ c.flush-flushed.ensures c.tell_stop.ensures;
}
