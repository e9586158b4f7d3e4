-- What a writer tells after a write, where it tells anything.
use Rattle.std.proofs.Common.{◌≡◌, ℕ, ◌+◌, List, ◌++◌, Option, Some, None, take, drop, refl, ap, ◌∙◌}
use Rattle.std.specs.Io.KnownBytes.{Appends}
use Rattle.std.proofs.lemmas.List.{append_assoc}
use Rattle.std.proofs.Math.Seq.{take-add}
use Rattle.script_runs.specs.Hosts.{IsTold, with_more}

pub told_appends : (bytes : List ℕ) (a b : Option (List ℕ)) → Appends a b bytes → IsTold (with_more bytes a) b
told_appends bytes None b h = tt
told_appends bytes (Some xs) None h = absurd h
told_appends bytes (Some xs) (Some ys) h = ap Some h

-- a front of what is left after the front that was written
pub told_front : (bytes : List ℕ) (n m : ℕ) (a b c : Option (List ℕ)) → IsTold (with_more (take n bytes) a) b → Appends b c (take m (drop n bytes)) → IsTold (with_more (take (n + m) bytes) a) c
told_front bytes n m None b c first then = tt
told_front bytes n m (Some xs) b c first then =
    let later = told_appends (take m (drop n bytes)) b c then in
    let e : (xs ++ take n bytes) ++ take m (drop n bytes) ≡ xs ++ take (n + m) bytes = rw (append_assoc, take-add) refl in
    (rw first at later) ∙ ap Some e
