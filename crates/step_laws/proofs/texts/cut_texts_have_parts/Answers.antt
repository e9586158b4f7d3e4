use Rattle.step_laws.proofs.TextCuts.{cut_at_white, cut_whole}
use Rattle.step_laws.proofs.texts.cut_texts_have_parts.Goals as goal

pub returns : goal.returns
returns c = record { white = cut_at_white; whole = cut_whole }
