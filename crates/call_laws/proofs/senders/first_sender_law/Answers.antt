use Rattle.call_laws.proofs.FirstSent.{sender-least, sender-names, sender-none, senders-apart}
use Rattle.call_laws.proofs.senders.first_sender_law.Goals as goal

pub returns : goal.returns
returns c = record { names = sender-names; least = λ ts d k j is lt. sender-least ts d k is j lt; none = λ ts d j is. sender-none ts d j is; apart = senders-apart }
