use Rattle.std.proofs.Common.{ℕ, rules}
use Rattle.cvl_base.proofs.Rooms.{differs, told}
use Rattle.text_parts.proofs.Numbered.{length-numbered}
use Rattle.text_parts.specs.Rooms.{integers_begin}
use Rattle.text_parts.proofs.rooms.read_rooms.Goals as goal

pub returns-in_err-check_agree : goal.returns-in_err-check_agree
returns-in_err-check_agree c =
    let long = length-numbered (λ (p : ℕ × ℕ). integers_begin p.0 p.1) c.args.from.now in
    search (rules, long, told, differs)
