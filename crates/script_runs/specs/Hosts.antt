-- What a host shows, and what its calls do with it. A sink is a host that has only standard output.
-- Source: this library's program.
use Rattle.std.specs.Prelude.{◌≡◌, ◌⊎◌, ℕ, ◌+◌, ◌<◌, Bool, true, false, ◌&&◌, ◌||◌, List, [], ◌∷◌, ◌++◌, length, take, Option, Some, None}
use Rattle.std.specs.Prelude.{Result, Ok, Err, Vec, option_map}
use Rattle.script_runs.specs.declared.read_failure.ReadFailure.{ReadFailure}

-- a file was asked for by its name, and gave these bytes, or could not be read for this reason
pub record Read : Type 0 where
  pub name : List ℕ
  pub bytes : Result (List ℕ) ReadFailure

-- a file with this name, and what a read of it gave
abbrev pub read_of : List ℕ → Result (List ℕ) ReadFailure → Read
read_of name bytes = record { name = name; bytes = bytes }

-- the bytes of the vector that a read returned, or why it failed
abbrev pub bytes_read : {A : Type 0} → Result (Vec ℕ A) ReadFailure → Result (List ℕ) ReadFailure
bytes_read (Ok file) = Ok file.items
bytes_read (Err why) = Err why

-- what a host shows: the bytes that standard output and standard error took and the files that were read, if it records these; how often a
-- put and a flush failed; whether standard output is flushed, and whether it was when standard error last took a message; and whether
-- standard error ever lost a part of one
pub record Seen : Type 0 where
  pub output : Option (List ℕ)
  pub failed_puts : ℕ
  pub sent : Bool
  pub failed_flushes : ℕ
  pub errors : Option (List ℕ)
  pub told_sent : Bool
  pub lost : Bool
  pub reads : Option (List Read)

-- a sink that is no host
abbrev pub sink_seen : Option (List ℕ) → ℕ → Seen
sink_seen output failed_puts = record {
  output = output;
  failed_puts = failed_puts;
  sent = false;
  failed_flushes = 0;
  errors = None;
  told_sent = false;
  lost = false;
  reads = None;
}

-- ---- what is claimed of a host

-- what is wanted is what is recorded; if nothing is wanted, nothing is claimed
abbrev pub IsTold : {X : Type 0} → Option X → Option X → Type 0
IsTold None told = Unit {0}
IsTold (Some wanted) told = told ≡ Some wanted

-- the host shows what it is to show
pub record Shows (wanted shown : Seen) : Type 0 where
  pub output : IsTold wanted.output shown.output
  pub failed_puts : shown.failed_puts ≡ wanted.failed_puts
  pub sent : shown.sent ≡ wanted.sent
  pub failed_flushes : shown.failed_flushes ≡ wanted.failed_flushes
  pub errors : IsTold wanted.errors shown.errors
  pub told_sent : shown.told_sent ≡ wanted.told_sent
  pub lost : shown.lost ≡ wanted.lost
  pub reads : IsTold wanted.reads shown.reads

-- ---- what is done with a host

-- more at the end of what a host shows, if that is known
abbrev pub with_more : {X : Type 0} → List X → Option (List X) → Option (List X)
with_more more told = option_map (λ xs. xs ++ more) told

-- whether there are no bytes
abbrev pub is_empty : List ℕ → Bool
is_empty [] = true
is_empty (byte ∷ bytes) = false

-- standard output has taken the bytes, and is not flushed
abbrev pub with_output : List ℕ → Seen → Seen
with_output bytes s =
    record s { output = with_more bytes s.output; sent = s.sent && is_empty bytes }

-- so many puts have failed
abbrev pub with_failures : ℕ → Seen → Seen
with_failures puts s = record s { failed_puts = s.failed_puts + puts }

-- all of standard output is flushed, or the flush fails
abbrev pub with_flush : Bool → Seen → Seen
with_flush true s = record s { sent = true }
with_flush false s = record s { failed_flushes = s.failed_flushes + 1 }

-- what a host shows after it has read more files
abbrev pub with_reads : List Read → Seen → Seen
with_reads reads s = record s { reads = with_more reads s.reads }

-- standard error has taken the bytes of a text, which are not the whole if it lost a part
abbrev pub with_message : List ℕ → Bool → Seen → Seen
with_message bytes lost s = record s {
  errors = with_more bytes s.errors;
  told_sent = s.sent;
  lost = s.lost || lost;
}

-- standard error takes the text, if there is one, or loses all but a beginning of it
abbrev pub Tells : Option (List ℕ) → Seen → Seen → Type 0
Tells None before after = Shows before after
Tells (Some text) before after =
    Shows (with_message text false before) after
    ⊎ ((n : ℕ) × (n < length text) × Shows (with_message (take n text) true before) after)
