use Rattle.std.proofs.Common.{ℕ, Vec}
use Rattle.vector_handles.proofs.Texts.{told}
use Rattle.vector_handles.proofs.session.Session.text_of_call.Goals as goal

pub returns : goal.returns
returns g c =
    told (λ (text : Vec ℕ g.row.A.Denot). text.items) c.args.self.now.names c.args.self.now.inputs c.args.op c.args.args.now _ _
    c.in_ok-asked.ensures.fault c.in_ok-asked.ensures.values c.text_of_write.ensures
