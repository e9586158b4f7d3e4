use Rattle.pack_dist.proofs.Cited.{◌∙◌, ◌≡◌, ◌+◌, ◌-◌, ◌++◌, get_or, pos, sym, ap, arith, zip, get_or-zip, part, stretch}
use Rattle.pack_dist.specs.Progressions.{progression}
use Rattle.pack_dist.proofs.Distributed.{in-steps, list-at, list-within, numbers}
use Rattle.pack_dist.proofs.Progressed.{progression-part}
use Rattle.pack_dist.proofs.indexes.SegmentProgressionsSegments.push_part.Goals as goal

pub offset_bounds-self-s : goal.offset_bounds-self-s
offset_bounds-self-s g c = let self = c.args.self.now in omega (arith, in-steps self.inits.now self.strides.now self.d.now self.one_each c.args.s c.requires.segment)

pub bounds-self-s : goal.bounds-self-s
bounds-self-s g c = let self = c.args.self.now in omega (arith, in-steps self.inits.now self.strides.now self.d.now self.one_each c.args.s c.requires.segment)

pub offset_bounds-self-s-2 : goal.offset_bounds-self-s-2
offset_bounds-self-s-2 g c = let self = c.args.self.now in omega (arith, in-steps self.inits.now self.strides.now self.d.now self.one_each c.args.s c.requires.segment)

pub bounds-self-s-2 : goal.bounds-self-s-2
bounds-self-s-2 g c = let self = c.args.self.now in omega (arith, in-steps self.inits.now self.strides.now self.d.now self.one_each c.args.s c.requires.segment)

pub push_few_numbers-requires-clause-few : goal.push_few_numbers-requires-clause-few
push_few_numbers-requires-clause-few g c =
    let self = c.args.self.now in let steps = zip self.inits.now self.strides.now in
    omega (arith, list-within (numbers 0) steps self.d.now self.one_each c.args.s c.requires.segment (pos 0, pos 0) (c.args.from + c.args.count) c.requires.within, self.few)

pub returns : goal.returns
returns g c =
    let self = c.args.self.now in let run = c.args.run in let s = c.args.s in
    let inits = self.inits.now in let strides = self.strides.now in let d = self.d.now in let steps = zip inits strides in
    let init = get_or inits s (pos 0) in let stride = get_or strides s (pos 0) in
    let both = in-steps inits strides d self.one_each s c.requires.segment in
    let step : get_or steps s (pos 0, pos 0) ≡ (init, stride) =
    get_or-zip inits strides s (pos 0, pos 0) both.0 both.1 in
    let within = (list-within (numbers 0) steps d self.one_each s c.requires.segment (pos 0, pos 0) (c.args.from + c.args.count) c.requires.within).0 in
    c.push_few_numbers.ensures ∙ ap (λ ys. stretch run.block run.first (run.items ++ ys) (run.room - c.args.count))
    (sym (ap (λ ys. part ys c.args.from c.args.count) (list-at (numbers 0) steps d self.one_each s c.requires.segment (pos 0, pos 0)
    ∙ ap (λ p. progression p.0 p.1 (get_or d s 0)) step) ∙ progression-part init stride (get_or d s 0) c.args.from c.args.count within))
