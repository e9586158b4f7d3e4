use Rattle.vector_handles.specs.LongWrites.{text_written}
use Rattle.vector_handles.proofs.Texts.{told}
use Rattle.vector_handles.proofs.session.Session.text_or_vector.Goals as goal

pub returns : goal.returns
returns g c =
    told text_written c.args.self.now.names c.args.self.now.inputs c.args.op c.args.args.now _ _
    c.in_ok-asked.ensures.fault c.in_ok-asked.ensures.values c.text_or_vector.ensures
