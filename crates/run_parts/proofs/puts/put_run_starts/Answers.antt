use Rattle.std.proofs.Common.{◌≡◌, ◌∙◌, ◌≤◌, ap, arith, pos, rules, w32, sym, length, subst, to_z, Ok}
use Rattle.std.proofs.lemmas.Int.{to_z_pos}
use Rattle.cvl_base.proofs.FoldLaws.{length-scan_of}
use Rattle.cvl_base.proofs.Rooms.{fits, told}
use Rattle.cvl_base.specs.Folds.{scan_of}
use Rattle.cvl_base.specs.Integers.{sum_of}
use Rattle.cvl_base.specs.Rooms.{Overwrites, in_room}
use Rattle.run_parts.specs.Puts.{put_starts_of}
use Rattle.run_parts.proofs.puts.put_run_starts.Goals as goal

pub returns-in_err-lengths : goal.returns-in_err-lengths
returns-in_err-lengths c =
    told _ c.from_residual.result c.in_err-lengths.field-0.0 c.args.out.now c.from_residual.ensures.1 (c.in_err-lengths.ensures (λ lengths. scan_of sum_of (pos c.args.begin) lengths))

pub overflow_cast-first : goal.overflow_cast-first
overflow_cast-first c = let few : c.args.begin ≤ 2147483647 = c.in_ok-lengths.ensures.2 in search (rules, few)

pub scan_over-requires-clause-in_limit : goal.scan_over-requires-clause-in_limit
scan_over-requires-clause-in_limit c = omega (arith, c.in_ok-lengths.ensures.1, c.in_ok-lengths.ensures.3)

pub returns : goal.returns
returns c =
    let lengths = c.in_ok-lengths.lengths.now in let room = length c.args.out.now in let first = c.args.begin in
    let read : to_z w32 first ≡ pos first = to_z_pos w32 first (omega (arith, c.in_ok-lengths.ensures.2)) in
    let long : length (scan_of sum_of (pos first) lengths) ≡ room = length-scan_of sum_of (pos first) lengths ∙ c.in_ok-lengths.ensures.1 in
    let meaning : in_room room (Ok (scan_of sum_of (to_z w32 first) lengths)) ≡ put_starts_of first room c.args.own.now =
    ap (λ z. in_room room (Ok (scan_of sum_of z lengths))) read ∙ fits room (scan_of sum_of (pos first) lengths) long
    ∙ sym (c.in_ok-lengths.ensures.4 (λ ls. scan_of sum_of (pos first) ls)) in
    subst (λ m. Overwrites m c.scan_over.result c.args.out.now c.scan_over.new.out) meaning c.scan_over.ensures
