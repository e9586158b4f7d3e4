use Rattle.segdes.proofs.Cited.{◌≡◌, length, ap, arith, subst}
use Rattle.segdes.proofs.ListRuns.{Written, last-within, list-long, part-fits, whole-long, written-all, written-first, written-more, written-none}
use Rattle.segdes.proofs.segment_runs.EndToEndWriterItem.write.Goals as goal

pub span-requires-clause-within : goal.span-requires-clause-within
span-requires-clause-within g c =
    let lists = g.S.Segments.lists c.args.self.now.segments in let d = c.descriptor-d.result.now in
    omega (arith, c.next_place-first.ensures.place, ap length c.requires.empty, c.room.ensures, c.requires.within, whole-long lists d c.descriptor-d.ensures)

pub returns-in_default : goal.returns-in_default
returns-in_default g c =
    written-none (g.S.Segments.lists c.args.self.now.segments) c.descriptor-d.result.now c.descriptor-d.ensures c.args.run c.requires.empty (omega (arith, c.in_default.ensures, c.room.ensures))

pub push_part-requires-clause-within : goal.push_part-requires-clause-within
push_part-requires-clause-within g c =
    let lists = g.S.Segments.lists c.args.self.now.segments in let d = c.descriptor-d.result.now in let run = c.args.run in let span = c.in-Some.ensures in
    let here : c.next_place-first.result ≡ run.first = omega (arith, c.next_place-first.ensures.place, ap length c.requires.empty) in
    let w = subst (λ s. Written lists d run s c.in-Some.from run) c.if-begin-last.true (written-first lists d c.descriptor-d.ensures span run here (omega (arith, c.room.ensures)) c.requires.empty) in
    let fits = last-within lists d c.descriptor-d.ensures span run here (omega (arith, c.room.ensures)) run c.in-Some.from w in
    omega (arith, fits, list-long lists d c.descriptor-d.ensures c.in-Some.last span.within, c.room-count.ensures)

pub returns-then-begin-last : goal.returns-then-begin-last
returns-then-begin-last g c =
    let lists = g.S.Segments.lists c.args.self.now.segments in let d = c.descriptor-d.result.now in let run = c.args.run in let span = c.in-Some.ensures in
    let here : c.next_place-first.result ≡ run.first = omega (arith, c.next_place-first.ensures.place, ap length c.requires.empty) in
    let w = subst (λ s. Written lists d run s c.in-Some.from run) c.if-begin-last.true (written-first lists d c.descriptor-d.ensures span run here (omega (arith, c.room.ensures)) c.requires.empty) in
    written-all lists d c.descriptor-d.ensures span run here (omega (arith, c.room.ensures)) run c.in-Some.from w c.push_part.result c.room-count.result c.room-count.ensures c.push_part.ensures

pub loop-s-init : goal.loop-s-init
loop-s-init g c =
    let lists = g.S.Segments.lists c.args.self.now.segments in let d = c.descriptor-d.result.now in let run = c.args.run in let span = c.in-Some.ensures in
    let here : c.next_place-first.result ≡ run.first = omega (arith, c.next_place-first.ensures.place, ap length c.requires.empty) in
    let w = written-first lists d c.descriptor-d.ensures span run here (omega (arith, c.room.ensures)) c.requires.empty in
    written-more lists d c.descriptor-d.ensures span run here (omega (arith, c.room.ensures)) run c.in-Some.begin c.in-Some.from (omega (arith, span.in_order, c.if-begin-last.false)) w
    c.push_part-run.result _ (omega (arith, c.length.ensures)) c.push_part-run.ensures

pub push_part-run-requires-in-loop-s-clause-room : goal.push_part-run-requires-in-loop-s-clause-room
push_part-run-requires-in-loop-s-clause-room g c =
    let lists = g.S.Segments.lists c.args.self.now.segments in let d = c.descriptor-d.result.now in let run = c.args.run in let span = c.in-Some.ensures in
    let here : c.next_place-first.result ≡ run.first = omega (arith, c.next_place-first.ensures.place, ap length c.requires.empty) in
    omega (arith, part-fits lists d c.descriptor-d.ensures span run here (omega (arith, c.room.ensures)) c.loop-s.run c.loop-s.s 0 c.loop-s-test.true c.loop-s.invariant, c.length-in-loop-s.ensures)

pub loop-s-preserved : goal.loop-s-preserved
loop-s-preserved g c =
    let lists = g.S.Segments.lists c.args.self.now.segments in let d = c.descriptor-d.result.now in let run = c.args.run in let span = c.in-Some.ensures in
    let here : c.next_place-first.result ≡ run.first = omega (arith, c.next_place-first.ensures.place, ap length c.requires.empty) in
    written-more lists d c.descriptor-d.ensures span run here (omega (arith, c.room.ensures)) c.loop-s.run c.loop-s.s 0 c.loop-s-test.true c.loop-s.invariant
    c.push_part-run-in-loop-s.result _ (omega (arith, c.length-in-loop-s.ensures)) c.push_part-run-in-loop-s.ensures

pub push_part-requires-2-clause-within : goal.push_part-requires-2-clause-within
push_part-requires-2-clause-within g c =
    let lists = g.S.Segments.lists c.args.self.now.segments in let d = c.descriptor-d.result.now in let run = c.args.run in let span = c.in-Some.ensures in
    let here : c.next_place-first.result ≡ run.first = omega (arith, c.next_place-first.ensures.place, ap length c.requires.empty) in
    let at_last : c.loop-s.s ≡ c.in-Some.last = omega (arith, c.loop-s-test.false, c.loop-s.auto.s, c.loop-s.auto.s-end, span.in_order, c.if-begin-last.false) in
    let w = subst (λ s. Written lists d run s 0 c.loop-s.run) at_last c.loop-s.invariant in
    let fits = last-within lists d c.descriptor-d.ensures span run here (omega (arith, c.room.ensures)) c.loop-s.run 0 w in
    omega (arith, fits, list-long lists d c.descriptor-d.ensures c.in-Some.last span.within, c.room-room.ensures)

pub returns : goal.returns
returns g c =
    let lists = g.S.Segments.lists c.args.self.now.segments in let d = c.descriptor-d.result.now in let run = c.args.run in let span = c.in-Some.ensures in
    let here : c.next_place-first.result ≡ run.first = omega (arith, c.next_place-first.ensures.place, ap length c.requires.empty) in
    let at_last : c.loop-s.s ≡ c.in-Some.last = omega (arith, c.loop-s-test.false, c.loop-s.auto.s, c.loop-s.auto.s-end, span.in_order, c.if-begin-last.false) in
    let w = subst (λ s. Written lists d run s 0 c.loop-s.run) at_last c.loop-s.invariant in
    written-all lists d c.descriptor-d.ensures span run here (omega (arith, c.room.ensures)) c.loop-s.run 0 w c.push_part-2.result c.room-room.result c.room-room.ensures c.push_part-2.ensures
