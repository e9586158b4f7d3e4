use Rattle.permute_walks.proofs.Cited.{arith, common_steps, ◌≡◌, ◌+◌, ◌∙◌, ◌∷◌, [], ◌++◌, ap, length, map, refl, take, take-append-drop, None, Some, map-append, take_more, element_at, first_without}
use Rattle.permute_walks.proofs.TakenOr.{found_more, others_found, others_taken, taken_more}
use Rattle.permute_walks.proofs.takes.OneByOnePushAt.push_at.Goals as goal

pub returns-in_default : goal.returns-in_default
returns-in_default g c =
    let index = c.args.index.now in
    let k = c.loop-k.k in
    let value = element_at c.args.source.now in
    let rest = c.split_at.result.1.now in
    let whole : map value index ≡ map value (take k index) ++ map value rest = cc (take-append-drop k index, c.split_at.ensures.back, map-append value (take k index) rest) in
    let taken = c.loop-k.invariant.taken in
    record {
      run = others_taken c.args.other c.args.run c.loop-k.run (map value (take k index)) (map value rest) (map value index) whole taken _ c.push_or_other.ensures.run;
      found = others_found c.args.other c.args.run c.loop-k.run (map value (take k index)) (map value rest) (map value index) whole taken _ c.loop-k.invariant.found c.push_or_other.ensures.found;
    }

pub loop-k-preserved : goal.loop-k-preserved
loop-k-preserved g c =
    let run = c.args.run in
    let index = c.args.index.now in
    let k = c.loop-k.k in
    let value = element_at c.args.source.now in
    let values = map value (take k index) in
    let element = Some c.in-Some.element in
    let more : values ++ element ∷ [] ≡ map value (take (k + 1) index) = grind (arith, common_steps, take_more, map-append) in
    record {
      taken = cc (taken_more c.args.other run c.loop-k.run c.push.new.self values element c.loop-k.invariant.taken c.in-Some.element refl c.push.ensures, more);
      found = found_more c.args.other run c.loop-k.run c.push.new.self values element c.loop-k.invariant.taken None None (c.loop-k.run.first + length c.loop-k.run.items) refl
          c.loop-k.invariant.found refl
          ∙ ap (first_without (run.first + length run.items)) more;
    }
