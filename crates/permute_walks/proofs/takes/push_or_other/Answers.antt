use Rattle.permute_walks.proofs.Cited.{arith, common_steps, ◌≡◌, ◌+◌, ◌∙◌, ◌∷◌, [], ◌++◌, ap, length, map, take, map-append, take_more, element_at, first_without}
use Rattle.permute_walks.proofs.TakenOr.{found_more, taken_more}
use Rattle.permute_walks.proofs.takes.push_or_other.Goals as goal

pub loop-i-preserved : goal.loop-i-preserved
loop-i-preserved g c =
    let run = c.args.run in
    let index = c.args.index.now in
    let k = c.loop-i.i-index in
    let value = element_at c.args.source.now in
    let values = map value (take k index) in
    let element = c.element_at-element.result in
    let more : values ++ element ∷ [] ≡ map value (take (k + 1) index) = grind (arith, common_steps, take_more, map-append) in
    record {
      taken = cc (taken_more c.args.other run c.loop-i.run c.push.new.self values element c.loop-i.invariant.taken c.unwrap_or.result c.unwrap_or.ensures c.push.ensures, more);
      found = found_more c.args.other run c.loop-i.run c.push.new.self values element c.loop-i.invariant.taken c.loop-i.found c.first_found-found.result c.next_place.result
          c.next_place.ensures.place c.loop-i.invariant.found c.first_found-found.ensures
          ∙ ap (first_without (run.first + length run.items)) more;
    }
