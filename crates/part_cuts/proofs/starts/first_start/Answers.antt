use Rattle.std.proofs.Common.{◌≡◌, ◌∙◌, ◌+◌, ℕ, Ok, ap, drop, get_or, sym}
use Rattle.std.proofs.lemmas.Option.{none-some, same_Some}
use Rattle.std.specs.Result.{result_ok}
use Rattle.part_cuts.specs.Starts.{start_behind}
use Rattle.part_cuts.proofs.FirstStarts.{Walked, from_front, left_are, left_fit, walked_on, walked_share}
use Rattle.part_cuts.proofs.starts.first_start.Goals as goal

pub returns-in_err-segments-clause-found : goal.returns-in_err-segments-clause-found
returns-in_err-segments-clause-found c = λ segments are.
    let numbers = c.args.lengths.now in let places = c.args.places.now in
    let share = c.last_share_before-share.result in let first = c.even_place-first.result in let start = get_or places share 0 in
    let walked : Walked c.args.place 0 segments first start =
    walked_share numbers segments places share are c.last_share_before-share.ensures.within c.args.place first c.in_ok-shares.shares c.in_ok-shares.ensures.more
    c.even_place-first.ensures.place c.even_place-first.ensures.within c.last_share_before-share.ensures.before in
    absurd (none-some (start_behind c.args.place start (drop first segments)) (ap result_ok
    (c.in_err-segments.ensures.found (drop first segments) (c.split_at.ensures.back ∙ left_are numbers segments first are.are_lengths) (left_fit c.args.place segments first start walked are.fits))))

pub returns-clause-found : goal.returns-clause-found
returns-clause-found c = λ segments are.
    let numbers = c.args.lengths.now in let places = c.args.places.now in
    let share = c.last_share_before-share.result in let first = c.even_place-first.result in let start = get_or places share 0 in
    let walked : Walked c.args.place 0 segments first start =
    walked_share numbers segments places share are c.last_share_before-share.ensures.within c.args.place first c.in_ok-shares.shares c.in_ok-shares.ensures.more
    c.even_place-first.ensures.place c.even_place-first.ensures.within c.last_share_before-share.ensures.before in
    let got : (c.in_ok-segments.segments, c.in_ok-segments.start) ≡ start_behind c.args.place start (drop first segments) =
    same_Some (c.in_ok-segments.segments, c.in_ok-segments.start) (start_behind c.args.place start (drop first segments)) (ap result_ok
    (c.in_ok-segments.ensures.found (drop first segments) (c.split_at.ensures.back ∙ left_are numbers segments first are.are_lengths) (left_fit c.args.place segments first start walked are.fits))) in
    ap Ok (ap (λ (p : ℕ × ℕ). (first + p.0, p.1)) got ∙ sym (walked_on c.args.place 0 segments first start walked) ∙ from_front c.args.place segments)
