-- Why a file cannot be read: the errors of the system that cvl tells apart, and their explanations.
-- Source: this library's program. The errors are those of open and read in POSIX.
use Rattle.std.specs.Prelude.{ℕ, List, codes, bytes_eq, if◌then◌else◌}
use Rattle.std.specs.declared.io.ErrorKind.{ErrorKind}
use Rattle.std.specs.declared.io.ErrorKind.TheVariants as kind
use Rattle.clap.specs.Words.{Text}
use Rattle.explained_calls.specs.Sentences.{indented}
use Rattle.script_runs.specs.declared.read_failure.ReadFailure.{ReadFailure}
use Rattle.script_runs.specs.declared.read_failure.ReadFailure.TheVariants.{NotFound, IsADirectory, PermissionDenied, NoResources, Other}

-- why a file cannot be read, by the system's error; a name that is too long, or that goes on behind a file, is no file's
abbrev pub failure_of : ErrorKind → ReadFailure
failure_of kind.NotFound = NotFound
failure_of kind.NotADirectory = NotFound
failure_of kind.InvalidFilename = NotFound
failure_of kind.IsADirectory = IsADirectory
failure_of kind.PermissionDenied = PermissionDenied
failure_of kind.OutOfMemory = NoResources
failure_of _ = Other

-- the words for a name that no file has; `-`, which other programs take for standard input, is such a name
abbrev pub not_found_words : Text → List ℕ
not_found_words name =
    if bytes_eq name (codes "-")
    then codes "no such file: to read standard input, write /dev/stdin"
    else codes "no such file: check the spelling, and the folder in which cvl was started"

-- the words for a file that cannot be read
abbrev pub failure_words : Text → ReadFailure → List ℕ
failure_words name NotFound = not_found_words name
failure_words name IsADirectory = codes "it is a folder: name a file in it"
failure_words name PermissionDenied = codes "permission denied: you may not read the file, or not enter a folder on the way to it"
failure_words name NoResources = codes "memory ran out: give cvl a shorter file, or allow the process more memory"
failure_words name Other = codes "the system reports an error: it may be a socket, a loop of links, or on a disk that fails"

-- the explanation of a file that cannot be read
abbrev pub explained_failure : Text → ReadFailure → List ℕ
explained_failure name why = indented (failure_words name why)
