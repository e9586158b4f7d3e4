use Rattle.std.proofs.Common.{◌≡◌, ℕ, List, ◌++◌, length, length-append, map, ap, sym, ◌∙◌, arith}
use Rattle.std.specs.List.{join_with_byte}
use Rattle.fresh.proofs.Written.{written_twice}
use Rattle.fresh.specs.Places.{Stretch, with_items}
use Rattle.value_texts.specs.Texts.{spaced}
use Rattle.value_texts.proofs.Spaces.{join_spaced}
use Rattle.value_texts.proofs.segments.write_joined.Goals as goal

pub extend_from_slice-run-requires : goal.extend_from_slice-run-requires
extend_from_slice-run-requires g c =
    let f = g.T.Written.text_of in
    let joined : join_with_byte 32 (map f c.args.xs.now) ≡ f c.in-Some.first.now ++ spaced f c.in-Some.others.now =
    rw c.in-Some.ensures.cases.0 (join_spaced f c.in-Some.first.now c.in-Some.others.now) in
    omega (arith, ap length c.text_in_page.ensures, ap length joined, length-append (f c.in-Some.first.now) (spaced f c.in-Some.others.now), c.requires)

pub write_into_run-requires : goal.write_into_run-requires
write_into_run-requires g c =
    let f = g.T.Written.text_of in
    let joined : join_with_byte 32 (map f c.args.xs.now) ≡ f c.in-Some.first.now ++ spaced f c.in-Some.others.now =
    rw c.in-Some.ensures.cases.0 (join_spaced f c.in-Some.first.now c.in-Some.others.now) in
    omega (
      arith,
      ap (λ (s : Stretch ℕ). s.room) c.extend_from_slice-run.ensures,
      ap length c.text_in_page.ensures,
      ap length joined,
      length-append (f c.in-Some.first.now) (spaced f c.in-Some.others.now),
      c.requires,
    )

pub returns : goal.returns
returns g c =
    let f = g.T.Written.text_of in
    let first = f c.in-Some.first.now in
    let others = spaced f c.in-Some.others.now in
    let joined : join_with_byte 32 (map f c.args.xs.now) ≡ first ++ others = rw c.in-Some.ensures.cases.0 (join_spaced f c.in-Some.first.now c.in-Some.others.now) in
    c.write_into_run.ensures
    ∙ ap (λ (s : Stretch ℕ). with_items s others) (c.extend_from_slice-run.ensures ∙ ap (λ (bytes : List ℕ). with_items c.args.run bytes) c.text_in_page.ensures)
    ∙ written_twice c.args.run first others ∙ ap (λ (bytes : List ℕ). with_items c.args.run bytes) (sym joined)
