use Rattle.std.proofs.Common.{◌+◌, ◌++◌, ◌∷◌, [], Ok, Err, take, drop, length, ap, refl, arith}
use Rattle.std.specs.List.{slice_index_or}
use Rattle.std.proofs.lemmas.List.{length-append, map_more, take_all}
use Rattle.clap.specs.Walk.{texts}
use Rattle.vector_handles.specs.declared.input.Input.TheVariants.{Bytes}
use Rattle.script_runs.specs.Hosts.{read_of}
use Rattle.script_runs.proofs.Shown.{reads_both, shows_nothing_read}
use Rattle.shell.proofs.NamedFiles.{gave_more, gave_none, names_at, stops_after}
use Rattle.shell.proofs.files.read_inputs.Goals as goal

pub loop-name-init : goal.loop-name-init
loop-name-init g c = record {
  reads = [];
  gave = rw c.requires.empty gave_none;
  shown = shows_nothing_read _;
  count = ap length c.requires.empty;
  room = c.requires.fits;
}

pub returns-in-Err-clause-missed : goal.returns-in-Err-clause-missed
returns-in-Err-clause-missed g c =
    let i = c.loop-name.name-index in
    let reads = c.loop-name.invariant.reads in (
      reads ++ read_of _ (Err c.in-Err.why) ∷ [],
      stops_after (texts c.args.names.now) (texts (take i c.args.names.now)) (texts (drop (i + 1) c.args.names.now)) reads _ _ c.in-Err.why
          (names_at c.args.names.now i _ (omega arith)) c.loop-name.invariant.gave,
      reads_both _ _ _ _ _ c.loop-name.invariant.shown c.in-Err.ensures,
    )

pub loop-name-preserved : goal.loop-name-preserved
loop-name-preserved g c =
    let i = c.loop-name.name-index in
    let name = (slice_index_or c.args.names.now i (record { ref_ptr = (0, 0); now = [] })).now in
    let names = map_more (λ s. s.now) c.args.names.now i (record { ref_ptr = (0, 0); now = [] }) (omega arith) in
    let pushed = c.push_reserved.ensures.items in
    record {
      reads = c.loop-name.invariant.reads ++ read_of name (Ok c.in-Ok.bytes.items) ∷ [];
      gave = rw (names, pushed) (gave_more _ _ _ _ _ (Bytes c.in-Ok.bytes) c.loop-name.invariant.gave refl);
      shown = reads_both _ _ _ _ _ c.loop-name.invariant.shown c.in-Ok.ensures;
      count = rw (pushed, length-append) (omega (arith, c.loop-name.invariant.count));
      room = omega (arith, c.loop-name.invariant.room, c.push_reserved.ensures.capacity);
    }

pub returns-clause-read : goal.returns-clause-read
returns-clause-read g c =
    let whole = take_all c.loop-name.name-index c.args.names.now (omega arith) in
    (c.loop-name.invariant.reads, rw whole at c.loop-name.invariant.gave, c.loop-name.invariant.shown)
