use Rattle.std.proofs.Common.{◌≡◌, ◌∙◌, Err, ap, arith, drop, length, subst, sym, take, true}
use Rattle.std.proofs.lemmas.List.Elements.{All-drop, All-take}
use Rattle.std.specs.List.{AllPass}
use Rattle.cvl_base.proofs.Rooms.{differs, fits, told}
use Rattle.cvl_base.specs.Folds.{scan_of}
use Rattle.cvl_base.specs.Rooms.{in_room}
use Rattle.operators.proofs.FoldLaws.{length-scan_of}
use Rattle.segment_parts.specs.Parts.{scans_in_part}
use Rattle.segment_parts.proofs.Scanned.{fills, fills_whole, length-scans_in_part, part-fits, put_together, writes}
use Rattle.segment_parts.proofs.parts.part_scan_over.Goals as goal

pub returns-in_err-check_agree : goal.returns-in_err-check_agree
returns-in_err-check_agree g c =
    let m = g.M.Monoid in let a = c.args.a.now in let d = c.args.lengths.now in let room = length c.args.out.now in let enough = c.in_ok-check_fits.ensures in
    let scans = scans_in_part m.join m.unit c.args.before c.args.head d a in
    told _ c.from_residual-in_err-check_agree.result c.in_err-check_agree.field-0.0 c.args.out.now c.from_residual-in_err-check_agree.ensures.1
    (ap (in_room room) (part-fits m.join m.unit c.args.before c.args.head d a enough)
    ∙ differs room scans (λ same. c.in_err-check_agree.ensures.1 (sym (length-scans_in_part m.join m.unit c.args.before c.args.head d a enough) ∙ same))
    ∙ ap Err (sym c.in_err-check_agree.ensures.0))

pub scan_over-requires-clause-items : goal.scan_over-requires-clause-items
scan_over-requires-clause-items g c =
    let m = g.M.Monoid in
    subst (AllPass m.is_item) (sym c.split_at.ensures.front) (All-take (λ x. m.is_item x ≡ true) c.args.head c.args.a.now c.requires.items)

pub returns-in_err-scan_over : goal.returns-in_err-scan_over
returns-in_err-scan_over g c =
    let m = g.M.Monoid in let front = c.split_at.result.0.now in let room = c.split_at_mut-front_room.result.0.now in
    let long : length (scan_of m.join c.args.before front) ≡ length room =
    length-scan_of m.join c.args.before front ∙ c.split_at.ensures.front_len ∙ sym c.split_at_mut-front_room.ensures.front_len in
    let did = fills (scan_of m.join c.args.before front) room c.scan_over.new.out c.scan_over.result long c.scan_over.ensures in
    let is = did.0 in let was = c.in_err-scan_over.was in absurd (cc)

pub seg_scan_over-requires : goal.seg_scan_over-requires
seg_scan_over-requires g c =
    let m = g.M.Monoid in let P = λ (x : g.row.M-Item.Denot). m.is_item x ≡ true in
    record {
      items = subst (AllPass m.is_item) (sym (c.split_at-2.ensures.front ∙ ap (take c.total.result) c.split_at.ensures.back))
          (All-take P c.total.result (drop c.args.head c.args.a.now) (All-drop P c.args.head c.args.a.now c.requires.items));
    }

pub returns-in_err-seg_scan_over : goal.returns-in_err-seg_scan_over
returns-in_err-seg_scan_over g c =
    let m = g.M.Monoid in let n = c.total.result in let d = c.args.lengths.now in
    let did = fills_whole m.join m.unit c.args.before c.args.head d c.args.a.now c.in_ok-check_fits.ensures n c.total.ensures.value c.split_at-2.result.0.now
    (c.split_at-2.ensures.front ∙ ap (take n) c.split_at.ensures.back) c.split_at_mut-whole_room.result.0.now c.seg_scan_over.new.out c.seg_scan_over.result
    (c.split_at_mut-whole_room.ensures.front_len ∙ c.total-2.ensures.value) c.seg_scan_over.ensures in
    let is = did.0 in let was = c.in_err-seg_scan_over.was in absurd (cc)

pub scan_over-requires-2-clause-items : goal.scan_over-requires-2-clause-items
scan_over-requires-2-clause-items g c =
    let m = g.M.Monoid in let P = λ (x : g.row.M-Item.Denot). m.is_item x ≡ true in
    subst (AllPass m.is_item) (sym (c.split_at-2.ensures.back ∙ ap (drop c.total.result) c.split_at.ensures.back))
    (All-drop P c.total.result (drop c.args.head c.args.a.now) (All-drop P c.args.head c.args.a.now c.requires.items))

pub returns : goal.returns
returns g c =
    let m = g.M.Monoid in let a = c.args.a.now in let before = c.args.before in let head = c.args.head in let d = c.args.lengths.now in let out = c.args.out.now in
    let enough = c.in_ok-check_fits.ensures in let n = c.total.result in let total = c.total.ensures.value in
    let front = c.split_at.result.0.now in let behind = c.split_at-2.result.1.now in
    let rooms = c.split_at_mut-front_room in let room = rooms.result.0.now in let others = c.split_at_mut-whole_room in let last = others.result.1.now in
    let long : length (scan_of m.join before front) ≡ length room = length-scan_of m.join before front ∙ c.split_at.ensures.front_len ∙ sym rooms.ensures.front_len in
    let long_last : length (scan_of m.join c.unit.result behind) ≡ length last =
    omega (
      arith,
      length-scan_of m.join c.unit.result behind,
      c.split_at.ensures.back_len,
      c.split_at-2.ensures.back_len,
      rooms.ensures.back_len,
      others.ensures.back_len,
      total,
      c.total-2.ensures.value,
      c.in_ok-check_agree.ensures,
    ) in
    let one = fills (scan_of m.join before front) room c.scan_over.new.out c.scan_over.result long c.scan_over.ensures in
    let two = fills_whole m.join m.unit before head d a enough n total c.split_at-2.result.0.now (c.split_at-2.ensures.front ∙ ap (take n) c.split_at.ensures.back)
    others.result.0.now c.seg_scan_over.new.out c.seg_scan_over.result (others.ensures.front_len ∙ c.total-2.ensures.value) c.seg_scan_over.ensures in
    let three = fills (scan_of m.join c.unit.result behind) last c.scan_over-2.new.out c.scan_over-2.result long_last c.scan_over-2.ensures in
    let is_behind : behind ≡ drop n (drop head a) = c.split_at-2.ensures.back ∙ ap (drop n) c.split_at.ensures.back in
    let together = put_together m.join m.unit before head d a enough n total c.scan_over.new.out c.seg_scan_over.new.out c.scan_over-2.new.out
    (one.1 ∙ ap (scan_of m.join before) c.split_at.ensures.front) two.1 (three.1 ∙ (λ i. scan_of m.join (c.unit.ensures i) (is_behind i))) in
    let scans = scans_in_part m.join m.unit before head d a in
    let fit : length scans ≡ length out = length-scans_in_part m.join m.unit before head d a enough ∙ c.in_ok-check_agree.ensures in
    writes _ c.scan_over-2.result out _
    (ap (in_room (length out)) (part-fits m.join m.unit before head d a enough) ∙ fits (length out) scans fit ∙ sym (part-fits m.join m.unit before head d a enough) ∙ together) three.0
