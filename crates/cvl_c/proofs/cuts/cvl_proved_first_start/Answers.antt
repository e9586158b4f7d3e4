use Rattle.std.proofs.Common.{◌≡◌, ◌≢◌, Result, Ok, Err, subst}
use Rattle.std.specs.Result.{IfErr}
use Rattle.cvl_base.specs.declared.fault.Fault.{Fault}
use Rattle.cvl_base.specs.declared.fault.FaultNo.TheVariants as no
use Rattle.cvl_base.specs.Faults.{fault}
use Rattle.c_calls.specs.declared.status.CvlStatus.{CvlStatus}
use Rattle.c_calls.specs.Told.{Told, done}
use Rattle.cvl_c.proofs.cuts.cvl_proved_first_start.Goals as goal

-- an answer that is not that all is done is this fault
refused : {X : Type 0} (answer : Result X Fault) (f : Fault) (status : CvlStatus) (before now : X) → IfErr answer (λ g. g ≡ f) → Told answer status before now → status ≢ done
    → Told (Err f) status before now
refused (Ok x) f status before now is told not_done = absurd (not_done told.0)
refused (Err g) f status before now is told not_done = subst (λ h. Told (Err h) status before now) is told

pub returns : goal.returns
returns c =
    record {
      found = λ segments are.
          subst (λ answer. Told answer c.told_one-status.result (c.args.segment.now, c.args.start.now) c.told_one-status.new.room) (c.first_start.ensures.found segments are)
          c.told_one-status.ensures;
      fault = refused c.first_start.result (fault no.LengthMismatch) c.told_one-status.result (c.args.segment.now, c.args.start.now) c.told_one-status.new.room
          c.first_start.ensures.fault c.told_one-status.ensures;
    }
