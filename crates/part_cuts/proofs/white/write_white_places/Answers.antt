use Rattle.std.proofs.Common.{◌≡◌, ◌∙◌, ◌+◌, ◌<◌, ℕ, ap, arith, get_or, length, max, set, subst, sym}
use Rattle.std.proofs.lemmas.List.Edits.{fill_by_more}
use Rattle.part_cuts.proofs.WhitePlaces.{all_placed, cut_at_white, next_white}
use Rattle.part_cuts.specs.White.{IsCutAtWhite, white_from, white_place, white_places}
use Rattle.part_cuts.proofs.white.write_white_places.Goals as goal

pub loop-k-preserved : goal.loop-k-preserved
loop-k-preserved c =
    let text = c.args.text.now in let parts = c.args.parts in let k = c.loop-k.k in let place = c.loop-k.place in let places = c.loop-k.places in
    let within : k < length places = omega (arith, c.loop-k-test.true, c.requires.room, c.loop-k.auto.places) in
    record {
      place = c.white_from-place.ensures.place
          ∙ ap (white_from text) (c.max.ensures ∙ ap (λ n. max n place) c.even_place.ensures.place)
          ∙ next_white text parts k place c.loop-k-test.true c.loop-k.invariant.place;
      within = c.white_from-place.ensures.within;
      placed = subst (λ x. (j : ℕ) → j < k + 1 → get_or (set places k x) j 0 ≡ white_place text parts j) (sym c.loop-k.invariant.place)
          (fill_by_more (white_place text parts) places k 0 within c.loop-k.invariant.placed);
    }

pub returns : goal.returns
returns c =
    let text = c.args.text.now in let parts = c.args.parts in
    let all : set c.loop-k.places parts c.loop-k.place ≡ white_places text parts =
    all_placed text parts c.loop-k.places c.loop-k.place c.loop-k.k (c.loop-k.auto.places ∙ c.requires.room) (omega (arith, c.loop-k-test.false, c.loop-k.auto.k-end))
    c.loop-k.invariant.place c.loop-k.invariant.placed in
    record { places = all; cut = subst (IsCutAtWhite text) (sym all) (cut_at_white text parts c.requires.some) }
