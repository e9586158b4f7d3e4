-- What a host shows after one call, and after two.
use Rattle.std.proofs.Common.{◌≡◌, ℕ, ◌+◌, Bool, true, false, ◌&&◌, List, [], ◌∷◌, ◌++◌, Option, Some, None, Result, Ok, take, drop, refl, ap, sym, ◌∙◌, arith, ◌||◌, inl, inr}
use Rattle.std.proofs.lemmas.List.{append-nil, append_assoc}
use Rattle.std.proofs.Math.Bool.{and-true}
use Rattle.std.proofs.Math.Seq.{take-add}
use Rattle.script_runs.specs.declared.stop.Stop.{Stop}
use Rattle.script_runs.specs.Ends.{failures_in, with_answer}
use Rattle.script_runs.specs.Hosts.{IsTold, Read, Seen, Shows, Tells, is_empty, with_failures, with_flush, with_message, with_more, with_output, with_reads}

-- ---- parts that a host tells or not

told_same : {X : Type 0} (told : Option X) → IsTold told told
told_same None = tt
told_same (Some x) = refl

told_on : {X : Type 0} (a b c : Option X) → IsTold a b → IsTold b c → IsTold a c
told_on None b c first then = tt
told_on (Some x) b c first then = rw first at then

told_more : {X : Type 0} (more : List X) (a b : Option (List X)) → IsTold a b → IsTold (with_more more a) (with_more more b)
told_more more None b h = tt
told_more more (Some xs) b h = ap (with_more more) h

told_nothing : {X : Type 0} (told : Option (List X)) → IsTold (with_more [] told) told
told_nothing None = tt
told_nothing (Some xs) = rw append-nil refl

told_both : {X : Type 0} (xs ys : List X) (told : Option (List X)) → IsTold (with_more (xs ++ ys) told) (with_more ys (with_more xs told))
told_both xs ys None = tt
told_both xs ys (Some told) = ap Some (append_assoc told xs ys)

-- ---- bytes that are not sent on

empty_both : (b : Bool) (xs ys : List ℕ) → (b && is_empty xs) && is_empty ys ≡ b && is_empty (xs ++ ys)
empty_both false xs ys = refl
empty_both true [] ys = refl
empty_both true (x ∷ xs) ys = refl

-- ---- all that a host shows

shows_each : {a b : Seen} → IsTold a.output b.output → b.failed_puts ≡ a.failed_puts → b.sent ≡ a.sent → b.failed_flushes ≡ a.failed_flushes → IsTold a.errors b.errors
    → b.told_sent ≡ a.told_sent → b.lost ≡ a.lost → IsTold a.reads b.reads → Shows a b
shows_each output failed_puts sent failed_flushes errors told_sent lost reads = record {
  output = output;
  failed_puts = failed_puts;
  sent = sent;
  failed_flushes = failed_flushes;
  errors = errors;
  told_sent = told_sent;
  lost = lost;
  reads = reads;
}

pub shows_same : (s : Seen) → Shows s s
shows_same s = shows_each (told_same s.output) refl refl refl (told_same s.errors) refl refl (told_same s.reads)

pub shows_on : (a b c : Seen) → Shows a b → Shows b c → Shows a c
shows_on a b c first then =
    shows_each (told_on a.output b.output c.output first.output then.output) (then.failed_puts ∙ first.failed_puts)
    (then.sent ∙ first.sent) (then.failed_flushes ∙ first.failed_flushes) (told_on a.errors b.errors c.errors first.errors then.errors)
    (then.told_sent ∙ first.told_sent) (then.lost ∙ first.lost) (told_on a.reads b.reads c.reads first.reads then.reads)

pub shows_nothing_put : (s : Seen) → Shows (with_output [] s) s
shows_nothing_put s =
    shows_each (told_nothing s.output) refl (sym (and-true s.sent)) refl (told_same s.errors) refl refl (told_same s.reads)

pub shows_nothing_read : (s : Seen) → Shows (with_reads [] s) s
shows_nothing_read s = shows_each (told_same s.output) refl refl refl (told_same s.errors) refl refl (told_nothing s.reads)

pub shows_output : (written : List ℕ) (a b : Seen) → Shows a b → Shows (with_output written a) (with_output written b)
shows_output written a b h =
    shows_each (told_more written a.output b.output h.output) h.failed_puts (ap (λ sent. sent && is_empty written) h.sent)
    h.failed_flushes h.errors h.told_sent h.lost h.reads

pub shows_failures : (puts : ℕ) (a b : Seen) → Shows a b → Shows (with_failures puts a) (with_failures puts b)
shows_failures puts a b h =
    shows_each h.output (ap (λ n. n + puts) h.failed_puts) h.sent h.failed_flushes h.errors h.told_sent h.lost h.reads

pub shows_answer : (written : List ℕ) (answer : Result (Unit {0}) Stop) (a b : Seen) → Shows a b → Shows (with_answer written answer a) (with_answer written answer b)
shows_answer written answer a b h = shows_failures (failures_in answer) _ _ (shows_output written a b h)

pub shows_flush : (flushed : Bool) (a b : Seen) → Shows a b → Shows (with_flush flushed a) (with_flush flushed b)
shows_flush true a b h = shows_each h.output h.failed_puts refl h.failed_flushes h.errors h.told_sent h.lost h.reads
shows_flush false a b h = shows_each h.output h.failed_puts h.sent (ap (λ n. n + 1) h.failed_flushes) h.errors h.told_sent h.lost h.reads

pub shows_reads : (reads : List Read) (a b : Seen) → Shows a b → Shows (with_reads reads a) (with_reads reads b)
shows_reads reads a b h =
    shows_each h.output h.failed_puts h.sent h.failed_flushes h.errors h.told_sent h.lost (told_more reads a.reads b.reads h.reads)

-- reads, and then more of them
pub reads_both : (xs ys : List Read) (a b c : Seen) → Shows (with_reads xs a) b → Shows (with_reads ys b) c → Shows (with_reads (xs ++ ys) a) c
reads_both xs ys a b c first then =
    let both : Shows (with_reads (xs ++ ys) a) (with_reads ys (with_reads xs a)) =
    shows_each (told_same a.output) refl refl refl (told_same a.errors) refl refl (told_both xs ys a.reads) in
    shows_on _ _ _ both (shows_on _ _ _ (shows_reads ys (with_reads xs a) b first) then)

-- a text, and then another
pub output_both : (xs ys : List ℕ) (a b c : Seen) → Shows (with_output xs a) b → Shows (with_output ys b) c → Shows (with_output (xs ++ ys) a) c
output_both xs ys a b c first then =
    let both : Shows (with_output (xs ++ ys) a) (with_output ys (with_output xs a)) =
    shows_each (told_both xs ys a.output) refl (empty_both a.sent xs ys) refl (told_same a.errors) refl refl (told_same a.reads) in
    shows_on _ _ _ both (shows_on _ _ _ (shows_output ys (with_output xs a) b first) then)

-- likewise, and an answer
pub answer_both : (xs ys : List ℕ) (answer : Result (Unit {0}) Stop) (a b c : Seen) → Shows (with_output xs a) b → Shows (with_answer ys answer b) c → Shows (with_answer (xs ++ ys) answer a) c
answer_both xs ys answer a b c first then =
    shows_on _ _ _ (shows_failures (failures_in answer) _ _ (output_both xs ys a b (with_output ys b) first (shows_same _))) then

pub answer_ok : (written : List ℕ) (a b : Seen) → Shows (with_output written a) b → Shows (with_answer written (Ok tt) a) b
answer_ok written a b h = shows_each h.output (omega (arith, h.failed_puts)) h.sent h.failed_flushes h.errors h.told_sent h.lost h.reads

-- nothing is put, and nothing fails
pub nothing_answered : (answer : Result (Unit {0}) Stop) (s : Seen) → failures_in answer ≡ 0 → Shows (with_answer [] answer s) s
nothing_answered answer s none =
    shows_each (told_nothing s.output) (omega (arith, none)) (sym (and-true s.sent)) refl (told_same s.errors) refl refl
    (told_same s.reads)

pub output_ok : (written : List ℕ) (a b : Seen) → Shows (with_answer written (Ok tt) a) b → Shows (with_output written a) b
output_ok written a b h = shows_each h.output (omega (arith, h.failed_puts)) h.sent h.failed_flushes h.errors h.told_sent h.lost h.reads

-- a front of what is left after the front that was taken
pub front_taken : (bytes : List ℕ) (n m : ℕ) (a b c : Seen) → Shows (with_output (take n bytes) a) b → Shows (with_output (take m (drop n bytes)) b) c → Shows (with_output (take (n + m) bytes) a) c
front_taken bytes n m a b c first then =
    let e : take n bytes ++ take m (drop n bytes) ≡ take (n + m) bytes = rw take-add refl in
    let both = output_both (take n bytes) (take m (drop n bytes)) a b c first then in
    rw e at both

shows_message : (bytes : List ℕ) (lost : Bool) (a b : Seen) → Shows a b → Shows (with_message bytes lost a) (with_message bytes lost b)
shows_message bytes lost a b h =
    shows_each h.output h.failed_puts h.sent h.failed_flushes (told_more bytes a.errors b.errors h.errors) h.sent
    (ap (λ l. l || lost) h.lost) h.reads

pub tells_after : (told : Option (List ℕ)) (a b c : Seen) → Shows a b → Tells told b c → Tells told a c
tells_after None a b c first then = shows_on a b c first then
tells_after (Some text) a b c first (inl whole) = inl (shows_on _ _ _ (shows_message text false a b first) whole)
tells_after (Some text) a b c first (inr cut) =
    inr (cut.0, cut.1, shows_on _ _ _ (shows_message (take cut.0 text) true a b first) cut.2)
