use Rattle.std.proofs.Common.{◌≡◌, ◌∙◌, ℕ, length, arith, ap, sym}
use Rattle.std.proofs.lemmas.List.{get_or-map, get_or_default, same_lists}
use Rattle.std.proofs.lemmas.List.FromFn.{get_or-enumerate_from, length-enumerate_from}
use Rattle.std.specs.List.{enumerate_from}
use Rattle.permute_parts.specs.Marks.{mark_place, mark_places_of}
use Rattle.permute_parts.proofs.MarkPlaces.{length-mark_places}
use Rattle.permute_parts.proofs.marks.write_mark_places.Goals as goal

pub returns : goal.returns
returns c =
    let from = c.args.from.now in let now = c.loop-k.places in
    let numbered = enumerate_from 0 from in
    let place : ℕ × ℕ → ℕ = λ p. mark_place p.0 p.1 in
    let long : length now ≡ length from = omega (arith, c.loop-k.auto.places, c.requires) in
    same_lists now (mark_places_of from) (long ∙ sym (length-mark_places from))
    (λ k d lt.
    get_or_default now k d 0 lt ∙ c.loop-k.invariant k (omega (arith, lt, long, c.loop-k-test.false))
    ∙ sym (get_or-map place numbered k (0, 0) d (omega (arith, lt, long, length-enumerate_from 0 from))
    ∙ ap place (get_or-enumerate_from 0 from k (0, 0) (omega (arith, lt, long))) ∙ omega arith))
