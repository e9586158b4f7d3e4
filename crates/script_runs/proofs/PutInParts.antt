-- A text that is put part by part.
use Rattle.std.proofs.Common.{◌≡◌, ℕ, ◌+◌, ◌<◌, List, [], ◌∷◌, ◌++◌, length, take, Result, Ok, Err, refl, sym, ap, subst, ◌∙◌, arith, append-nil, append_assoc, length-append}
use Rattle.std.proofs.lemmas.List.{take-append-le}
use Rattle.std.proofs.Math.Seq.{take-append-add}
use Rattle.script_runs.specs.declared.sink.SinkFault.{SinkFault}
use Rattle.script_runs.specs.Hosts.{Seen, Shows, with_output}
use Rattle.script_runs.specs.Sinks.{PutsAll}
use Rattle.script_runs.proofs.Shown.{output_both, shows_failures, shows_nothing_put, shows_on, shows_same}

-- a beginning of the whole is put, and the rest is left
pub record IsPutUpTo (whole rest : List ℕ) (before after : Seen) : Type 0 where
  pub done : List ℕ
  pub are : done ++ rest ≡ whole
  pub shown : Shows (with_output done before) after

pub nothing_put : (whole : List ℕ) (before : Seen) → IsPutUpTo whole whole before before
nothing_put whole before = record { done = []; are = refl; shown = shows_nothing_put before }

-- the next part is put
pub part_put : (whole text rest : List ℕ) (a b c : Seen) → IsPutUpTo whole (text ++ rest) a b → PutsAll b text (Ok tt) c → IsPutUpTo whole rest a c
part_put whole text rest a b c u put =
    record {
      done = u.done ++ text;
      are = append_assoc u.done text rest ∙ u.are;
      shown = output_both u.done text a b c u.shown put;
    }

-- a beginning of the next part is put that is not the whole of it
pub part_cut : (whole text rest : List ℕ) (f : SinkFault) (a b c : Seen) → IsPutUpTo whole (text ++ rest) a b → PutsAll b text (Err f) c → PutsAll a whole (Err f) c
part_cut whole text rest f a b c u put =
    let n = put.0 in
    let cut : take (length u.done + n) whole ≡ u.done ++ take n text =
    ap (take (length u.done + n)) (sym u.are) ∙ take-append-add u.done (text ++ rest) n ∙ ap (λ t. u.done ++ t) (take-append-le n text rest (omega (arith, put.1))) in
    let fewer : length u.done + n < length whole =
    omega (arith, put.1, ap length u.are, length-append u.done (text ++ rest), length-append text rest) in
    let both = output_both u.done (take n text) a b (with_output (take n text) b) u.shown (shows_same _) in
    (length u.done + n, fewer, rw cut (shows_on _ _ _ (shows_failures 1 _ _ both) put.2))

-- nothing is left
pub all_put : (whole : List ℕ) (a b : Seen) → IsPutUpTo whole [] a b → PutsAll a whole (Ok tt) b
all_put whole a b u =
    let e : u.done ≡ whole = sym (append-nil u.done) ∙ u.are in
    rw e at u.shown

-- the last part is put, or cut
pub last_part : (whole text : List ℕ) (answer : Result (Unit {0}) SinkFault) (a b c : Seen) → IsPutUpTo whole text a b → PutsAll b text answer c → PutsAll a whole answer c
last_part whole text answer a b c u put =
    let more : IsPutUpTo whole (text ++ []) a b = subst (λ t. IsPutUpTo whole t a b) (sym (append-nil text)) u in
    ends answer more put
  where
    ends : (answer : Result (Unit {0}) SinkFault) → IsPutUpTo whole (text ++ []) a b → PutsAll b text answer c → PutsAll a whole answer c
    ends (Ok done) more put = all_put whole a c (part_put whole text [] a b c more put)
    ends (Err f) more put = part_cut whole text [] f a b c more put

pub none_left : {X : Type 0} (xs : List X) → length xs ≡ 0 → xs ≡ []
none_left [] e = refl
none_left (x ∷ xs) e = absurd (omega (arith, e))
