use Rattle.std.proofs.Common.{◌≡◌, ◌∙◌, ℕ, List, map, Result, Ok, ap, subst, sym}
use Rattle.cvl_base.specs.declared.fault.Fault.{Fault}
use Rattle.flag_calls.specs.Flags.{as_flag}
use Rattle.part_calls.specs.Ranges.{WritesRange}
use Rattle.permute_parts.specs.Ranges.{as_flags_in}
use Rattle.permute_parts.proofs.flags.with_flags.Goals as goal

made : (meaning : Result (List ℕ × List ℕ × ℕ) Fault) (answer : Result ℕ Fault) (count : ℕ) (before : List ℕ × List ℕ) (out marks : List ℕ) → answer ≡ Ok count
    → WritesRange meaning answer before (out, marks) → as_flags_in meaning ≡ Ok (map as_flag out, marks, count)
made meaning answer count before out marks is writes =
    let given : meaning ≡ Ok (out, marks, count) = subst (λ a. WritesRange meaning a before (out, marks)) is writes in ap as_flags_in given

pub returns : goal.returns
returns c = λ meaning before marks writes.
    made meaning c.args.answer c.in_ok-count.count before c.args.out.now marks c.in_ok-count.was writes ∙ (λ i. Ok (sym c.make_flags.ensures i, marks, c.in_ok-count.count))
