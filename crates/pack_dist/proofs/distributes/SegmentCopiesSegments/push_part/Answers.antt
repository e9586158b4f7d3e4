use Rattle.pack_dist.proofs.Cited.{◌∙◌, ◌+◌, ◌-◌, ◌++◌, get_or, sym, ap, rules, part, stretch}
use Rattle.fresh.proofs.Copied.{part_of_copies}
use Rattle.pack_dist.proofs.Distributed.{copies, in-both, list-at, list-within}
use Rattle.pack_dist.proofs.distributes.SegmentCopiesSegments.push_part.Goals as goal

pub offset_bounds-self-s : goal.offset_bounds-self-s
offset_bounds-self-s g c =
    let self = c.args.self.now in let within = (in-both (copies 0) self.values.now self.d.now self.one_each c.args.s c.requires.segment).0 in search rules

pub bounds-self-s : goal.bounds-self-s
bounds-self-s g c = let self = c.args.self.now in (in-both (copies 0) self.values.now self.d.now self.one_each c.args.s c.requires.segment).0

pub returns : goal.returns
returns g c =
    let self = c.args.self.now in let run = c.args.run in let s = c.args.s in
    let value = get_or self.values.now s c.index-self-s.result in
    let within = (list-within (copies 0) self.values.now self.d.now self.one_each s c.requires.segment value (c.args.from + c.args.count) c.requires.within).0 in
    c.push_few_copies.ensures ∙ ap (λ ys. stretch run.block run.first (run.items ++ ys) (run.room - c.args.count))
    (sym (ap (λ ys. part ys c.args.from c.args.count) (list-at (copies 0) self.values.now self.d.now self.one_each s c.requires.segment c.index-self-s.result)
    ∙ part_of_copies value (get_or self.d.now s 0) c.args.from c.args.count within))
