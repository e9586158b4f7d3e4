use Rattle.shell.proofs.explaining.put_explanation.Goals as goal

pub returns-in-Err : goal.returns-in-Err
returns-in-Err g c = rw c.in-Err.is c.put_error-in-Err.ensures
