use Rattle.std.proofs.Common.{◌≡◌, refl}
use Rattle.shell.specs.Programs.{unreadable_line}
use Rattle.shell.proofs.endings.tell_unreadable.Goals as goal

pub returns : goal.returns
returns g c =
    let is : c.as_slice.result.now ≡ unreadable_line c.args.name.now =
    rw (c.as_slice.ensures.value, c.put_piece-3.ensures.bytes, c.put_piece-2.ensures.bytes, c.as_bytes.ensures.value, c.put_piece.ensures.bytes, c.requires.empty) refl in
    rw is at c.put_error.ensures
