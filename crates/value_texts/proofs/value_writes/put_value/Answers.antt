use Rattle.std.proofs.Common.{◌≡◌, ◌∙◌, ℕ, List, map, unsigned_abs, ap, sym}
use Rattle.std.specs.Prelude.{Result, Ok, Err, OnOk}
use Rattle.cvl_base.specs.declared.fault.Fault.{Fault}
use Rattle.cvl_base.proofs.Descriptors.{abs_pos}
use Rattle.value_texts.specs.Texts.{after_bytes, cut_text}
use Rattle.value_texts.proofs.value_writes.put_value.Goals as goal

pub put_nested-outcome-requires-after_bounds : goal.put_nested-outcome-requires-after_bounds
put_nested-outcome-requires-after_bounds g c κs within =
    let lengths : map unsigned_abs c.lengths-lengths.result.now ≡ c.in-Some.descriptor.now =
    ap (map unsigned_abs) c.lengths-lengths.ensures.value ∙ abs_pos c.in-Some.descriptor.now in
    rw lengths (c.requires c.in-Some.descriptor c.in-Some.is)

-- a text that is appended and then kept is there
kept_text : {X E : Type 0} (r : Result X E) (text : Result (List ℕ) Fault) (old mid new : List ℕ) → OnOk r (after_bytes old text ≡ Ok mid) → OnOk r (new ≡ mid)
    → OnOk r (after_bytes old text ≡ Ok new)
kept_text (Ok x) text old mid new written kept = written ∙ ap (λ (t : List ℕ). Ok t) (sym kept)
kept_text (Err e) text old mid new written kept = written

pub returns-in-Some-clause-ok : goal.returns-in-Some-clause-ok
returns-in-Some-clause-ok g c =
    let lengths : map unsigned_abs c.lengths-lengths.result.now ≡ c.in-Some.descriptor.now =
    ap (map unsigned_abs) c.lengths-lengths.ensures.value ∙ abs_pos c.in-Some.descriptor.now in
    let written = rw lengths at c.put_nested-outcome.ensures.ok in
    let kept =
    kept_text c.put_nested-outcome.result (cut_text c.in-Some.descriptor.now c.args.value.now) c.args.text.now.items c.put_nested-outcome.new.text.items c.undo_refused-in-Some.new.text.items written
    c.undo_refused-in-Some.ensures.ok in
    rw (c.in-Some.is, c.undo_refused-in-Some.ensures.same) kept
