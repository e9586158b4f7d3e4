use Rattle.std.proofs.Common.{◌≡◌, ◌+◌, ◌-◌, ◌<◌, ◌∙◌, ℕ, ap, arith, drop, length, sym, get_or, nat_lt, true, false}
use Rattle.std.proofs.Math.ListN.{drop_of_length-le}
use Rattle.std.proofs.lemmas.Bool.{lt-ltb, le-ltb}
use Rattle.run_parts.specs.Places.{last_or, next_begin, run_behinds}
use Rattle.run_parts.proofs.Behinds.{begins_behind, begins_here, last-is, none_behind, pairs, written_before}
use Rattle.run_parts.proofs.places.write_behinds.Goals as goal

pub loop-left-init : goal.loop-left-init
loop-left-init c =
    let begins = c.args.begins.now in let from = c.args.from.now in let none = none_behind begins from c.requires.parts in
    record {
      within = omega arith;
      known = last-is from (length begins) c.requires.parts ∙ sym (ap (next_begin (last_or 0 from)) none);
      written = drop_of_length-le c.args.behinds.now (omega (arith, c.requires.room)) ∙ sym (ap (run_behinds (last_or 0 from)) none);
    }

pub loop-left-preserved-then-begins-left : goal.loop-left-preserved-then-begins-left
loop-left-preserved-then-begins-left c =
    let begins = c.args.begins.now in let from = c.args.from.now in let so_far = c.loop-left.invariant in
    let k : ℕ = c.loop-left.left - 1 in
    let next : c.loop-left.left ≡ k + 1 = omega (arith, c.loop-left-test.true) in
    let within : k < length begins = omega (arith, c.loop-left-test.true, so_far.within) in
    let known = so_far.known ∙ ap (λ n. next_begin (last_or 0 from) (drop n (pairs begins from c.requires.parts))) next in
    let is : nat_lt (get_or begins k 0) (get_or from (k + 1) 0) ≡ true = lt-ltb (get_or begins k 0) (get_or from (k + 1) 0) (omega (arith, c.if-begins-left.true, ap (λ n. get_or from n 0) next)) in
    record {
      within = omega (arith, within);
      known = begins_here begins from c.requires.parts k within c.loop-left.next known is;
      written = written_before begins from c.requires.parts k within c.loop-left.next known c.loop-left.behinds c.saturating_sub.result
          (omega (arith, within, c.requires.room, c.loop-left.auto.behinds))
          (c.saturating_sub.ensures ∙ ap (λ n. c.loop-left.next - get_or from n 0) next)
          (ap (λ n. drop n c.loop-left.behinds) (sym next) ∙ so_far.written ∙ ap (λ n. run_behinds (last_or 0 from) (drop n (pairs begins from c.requires.parts))) next);
    }

pub loop-left-preserved : goal.loop-left-preserved
loop-left-preserved c =
    let begins = c.args.begins.now in let from = c.args.from.now in let so_far = c.loop-left.invariant in
    let k : ℕ = c.loop-left.left - 1 in
    let next : c.loop-left.left ≡ k + 1 = omega (arith, c.loop-left-test.true) in
    let within : k < length begins = omega (arith, c.loop-left-test.true, so_far.within) in
    let known = so_far.known ∙ ap (λ n. next_begin (last_or 0 from) (drop n (pairs begins from c.requires.parts))) next in
    let is : nat_lt (get_or begins k 0) (get_or from (k + 1) 0) ≡ false = le-ltb (get_or begins k 0) (get_or from (k + 1) 0) (omega (arith, c.if-begins-left.false, ap (λ n. get_or from n 0) next)) in
    record {
      within = omega (arith, within);
      known = begins_behind begins from c.requires.parts k within c.loop-left.next known is;
      written = written_before begins from c.requires.parts k within c.loop-left.next known c.loop-left.behinds c.saturating_sub.result
          (omega (arith, within, c.requires.room, c.loop-left.auto.behinds))
          (c.saturating_sub.ensures ∙ ap (λ n. c.loop-left.next - get_or from n 0) next)
          (ap (λ n. drop n c.loop-left.behinds) (sym next) ∙ so_far.written ∙ ap (λ n. run_behinds (last_or 0 from) (drop n (pairs begins from c.requires.parts))) next);
    }
