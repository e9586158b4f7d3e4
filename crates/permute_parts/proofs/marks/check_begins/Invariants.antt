use Rattle.std.proofs.Common.{◌≡◌, nat_le, take}
use Rattle.std.specs.List.{list_all}
use Rattle.cvl_base.specs.Limits.{most_places}
use Rattle.permute_parts.proofs.marks.check_begins.Given as goal

abbrev pub invariant-loop-place : goal.invariant-loop-place
invariant-loop-place l = l.within ≡ list_all (λ place. nat_le place most_places) (take l.place-index l.from)
