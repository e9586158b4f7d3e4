use Rattle.std.proofs.Common.{◌≡◌, ◌∙◌, ◌&&◌, ◌<◌, ◌==◌, ap, arith, get_or, length, map, sym, take, take_all}
use Rattle.std.specs.List.{list_all, zip}
use Rattle.part_cuts.proofs.Paired.{all_more, ends_at-push, not_all, places_more}
use Rattle.part_cuts.specs.Pairs.{ends_at, places_of_pairs}
use Rattle.std.proofs.lemmas.Slice.Zip.{length-zip}
use Rattle.part_cuts.proofs.pairs.are_places.Goals as goal

pub returns-then-not-has_place : goal.returns-then-not-has_place
returns-then-not-has_place g c =
    let xs = c.args.firsts.now in let ys = c.args.seconds.now in let has = g.P.Paired.has_place in
    sym (ap (λ b. b && ends_at c.args.len (places_of_pairs has g.P.Paired.place xs ys))
    (not_all xs ys c.loop-k.k c.loop-k-test.true c.requires has (sym c.has_place.ensures ∙ c.if-not-has_place.true)))

pub loop-k-preserved : goal.loop-k-preserved
loop-k-preserved g c =
    let xs = c.args.firsts.now in let ys = c.args.seconds.now in let k = c.loop-k.k in
    let within : k < length xs = c.loop-k-test.true in
    record {
      each = all_more xs ys k within c.requires g.P.Paired.has_place c.loop-k.invariant.each (sym c.has_place.ensures ∙ c.if-not-has_place.false);
      ends = sym (ap (ends_at c.args.len) (places_more xs ys k within c.requires g.P.Paired.place)
          ∙ ends_at-push c.args.len (map (λ p. g.P.Paired.place p.0 p.1) (take k (zip xs ys))) (g.P.Paired.place (get_or xs k 0) (get_or ys k 0))
          ∙ ap (λ n. n == c.args.len) (sym c.place.ensures));
    }

pub returns : goal.returns
returns g c =
    let xs = c.args.firsts.now in let ys = c.args.seconds.now in let k = c.loop-k.k in
    let all : take k (zip xs ys) ≡ zip xs ys = take_all k (zip xs ys) (omega (arith, length-zip xs ys, c.loop-k-test.false)) in
    c.loop-k.invariant.ends ∙ ap (λ ps. ends_at c.args.len (map (λ p. g.P.Paired.place p.0 p.1) ps)) all
    ∙ ap (λ b. b && ends_at c.args.len (places_of_pairs g.P.Paired.has_place g.P.Paired.place xs ys))
    (sym (sym (ap (list_all (λ p. g.P.Paired.has_place p.0 p.1)) all) ∙ c.loop-k.invariant.each))
