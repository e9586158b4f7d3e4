-- Files that are read one after the other, and the room for the line that tells of one.
use Rattle.std.proofs.Common.{◌≡◌, ℕ, ◌+◌, ◌<◌, ◌≤◌, List, [], ◌∷◌, ◌++◌, Ok, Err, IsOk, is_ok, map, length, take, drop, refl, ap, sym, ◌∙◌, arith}
use Rattle.std.specs.Borrow.{Bor}
use Rattle.std.specs.List.{All, AllZip, slice_index_or}
use Rattle.std.proofs.lemmas.List.{drop_at, drop_more, map-append, take-append-drop}
use Rattle.std.proofs.lemmas.List.Elements.{All-cons, All-drop, All-head, All-nil}
use Rattle.std.proofs.lemmas.Slice.Zip.{all_zipped_more}
use Rattle.clap.specs.Walk.{Text, texts}
use Rattle.vector_handles.specs.declared.input.Input.{Input}
use Rattle.vector_handles.specs.declared.input.Input.TheVariants.{Bytes, Vector}
use Rattle.script_runs.specs.Hosts.{Read, read_of}
use Rattle.script_runs.specs.declared.read_failure.ReadFailure.{ReadFailure}
use Rattle.shell.specs.Programs.{Gave, GaveInputs, StopsAt, unreadable_line}
use Rattle.shell.specs.ProgramParts.{HasRoomFor}

-- the names up to this one, and those after it
pub names_at : (names : List (Bor Text)) (i : ℕ) (d : Bor Text) → i < length names → texts names ≡ texts (take i names) ++ (slice_index_or names i d).now ∷ texts (drop (i + 1) names)
names_at names i d lt =
    ap texts (sym (take-append-drop i names) ∙ ap (λ rest. take i names ++ rest) (drop_more names i d lt)) ∙ map-append (λ s. s.now) (take i names) (slice_index_or names i d ∷ drop (i + 1) names)

-- what holds of each of the names up to one, and of that one
all_at : {X : Type 0} (P : X → Type 0) (names before after : List X) (name : X) → names ≡ before ++ name ∷ after → All P names → P name
all_at P names before after name e all = All-head P name after (rw (e, drop_at before (name ∷ after) (length before) refl) at (All-drop P (length before) names all))

-- ---- reads

module _ {A : Type 0} where
  pub gave_none : GaveInputs {A = A} [] [] []
  gave_none = record { in_order = refl; given = tt }

  -- one file more is read
  pub gave_more : (names : List Text) (reads : List Read) (inputs : List (Input A)) (name : Text) (bytes : List ℕ) (input : Input A)
      → GaveInputs names reads inputs → Gave (read_of name (Ok bytes)) input
      → GaveInputs (names ++ name ∷ []) (reads ++ read_of name (Ok bytes) ∷ []) (inputs ++ input ∷ [])
  gave_more names reads inputs name bytes input h here = record {
    in_order = map-append (λ (read : Read). read.name) reads (read_of name (Ok bytes) ∷ []) ∙ ap (λ front. front ++ name ∷ []) h.in_order;
    given = all_zipped_more Gave reads inputs (read_of name (Ok bytes)) input h.given here;
  }

  is_given : (read : Read) (input : Input A) → Gave read input → IsOk read.bytes
  is_given read (Bytes bytes) h = ap is_ok h
  is_given read (Vector numbers) h = absurd h

  all_given : (reads : List Read) (inputs : List (Input A)) → AllZip Gave reads inputs → All (λ (read : Read). IsOk read.bytes) reads
  all_given [] [] all = All-nil (λ (read : Read). IsOk read.bytes)
  all_given [] (input ∷ inputs) all = absurd all
  all_given (read ∷ reads) [] all = absurd all
  all_given (read ∷ reads) (input ∷ inputs) all =
      All-cons (λ (r : Read). IsOk r.bytes) read reads (is_given read input all.0) (all_given reads inputs all.1)

  -- files are read, and the next cannot be read
  pub stops_after : (names front : List Text) (after : List Text) (reads : List Read) (inputs : List (Input A)) (name : Text) (why : ReadFailure)
      → names ≡ front ++ name ∷ after → GaveInputs front reads inputs → StopsAt names (reads ++ read_of name (Err why) ∷ []) name why
  stops_after names front after reads inputs name why is h = record {
    before = reads;
    after = after;
    in_order = is ∙ ap (λ names. names ++ name ∷ after) (sym h.in_order);
    last = refl;
    given = all_given reads inputs h.given;
  }

-- the first of the files cannot be read
pub stops_first : (name : Text) (names : List Text) (why : ReadFailure) → StopsAt (name ∷ names) (read_of name (Err why) ∷ []) name why
stops_first name names why =
    record { before = []; after = names; in_order = refl; last = refl; given = λ k d lt. absurd (omega arith) }

-- the first is read, and one after it cannot be read
pub stops_later : (first : Text) (bytes : List ℕ) (names : List Text) (reads : List Read) (name : Text) (why : ReadFailure) → StopsAt names reads name why
    → StopsAt (first ∷ names) (read_of first (Ok bytes) ∷ reads) name why
stops_later first bytes names reads name why h = record {
  before = read_of first (Ok bytes) ∷ h.before;
  after = h.after;
  in_order = ap (λ rest. first ∷ rest) h.in_order;
  last = ap (λ rest. read_of first (Ok bytes) ∷ rest) h.last;
  given = All-cons (λ (r : Read). IsOk r.bytes) (read_of first (Ok bytes)) h.before refl h.given;
}

-- ---- the room for a line

-- the line of an input that cannot be read has its room
pub missed_fits : (room : ℕ) (script : Text) (inputs : List Text) (reads : List Read) (name : Text) (why : ReadFailure) → StopsAt inputs reads name why
    → HasRoomFor room (script ∷ inputs) → length (unreadable_line name) ≤ room
missed_fits room script inputs reads name why h fits =
    all_at (λ (name : Text). length (unreadable_line name) ≤ room) (script ∷ inputs) (script ∷ map (λ (read : Read). read.name) h.before) h.after name
    (ap (λ rest. script ∷ rest) h.in_order) fits
