use Rattle.vector_handles.proofs.Texts.{shows_nothing}
use Rattle.vector_handles.proofs.session.Session.written.Goals as goal

pub returns-in-One : goal.returns-in-One
returns-in-One g c = shows_nothing c.args.self.now.names c.args.self.now.inputs c.args.call.now c.in-One.is
