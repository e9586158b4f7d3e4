use Rattle.std.proofs.Common.{ℕ, rules}
use Rattle.std.proofs.lemmas.Slice.Zip.{length-zip}
use Rattle.std.specs.List.{zip}
use Rattle.cvl_base.proofs.Rooms.{differs, told}
use Rattle.text_parts.proofs.Numbered.{length-numbered}
use Rattle.text_parts.specs.Rooms.{text_begins}
use Rattle.text_parts.proofs.rooms.text_rooms.Goals as goal

pub returns-in_err-check_agree-2 : goal.returns-in_err-check_agree-2
returns-in_err-check_agree-2 c =
    let starts = c.args.starts.now in let firsts = c.args.firsts.now in
    let long = length-numbered (λ (p : ℕ × (ℕ × ℕ)). text_begins c.args.each p.0 p.1.0 p.1.1) (zip starts firsts) in
    search (rules, long, length-zip, told, differs)
