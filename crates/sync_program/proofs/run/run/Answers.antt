use Rattle.std.proofs.Common.{refl, ap, ◌∙◌}
use Rattle.sync_program.specs.declared.command.Command.TheVariants.{Replay, Wire}
use Rattle.sync_program.specs.Command.{words_of}
use Rattle.sync_program.proofs.Commands.{run_of, run_of_none, replay_runs, wire_runs, wire_is_no_replay}
use Rattle.sync_program.proofs.run.run.Goals as goal

pub returns-in-Some-Replay-clause-run : goal.returns-in-Some-Replay-clause-run
returns-in-Some-Replay-clause-run g c =
    let told = c.run_replay.ensures in
    run_of c.run_replay.result _ _ Replay c.args.words.now (c.in-Some-Replay.ensures ∙ ap words_of c.in-Some-Replay.field-0-is)
    (replay_runs c.run_replay.result _ _ told.replays told.cause told.refuses told.refuses_length told.completes) told.gave_some (λ _. told.replays)

pub returns-in-Some-Wire-clause-run : goal.returns-in-Some-Wire-clause-run
returns-in-Some-Wire-clause-run g c =
    let told = c.run_wire.ensures in
    run_of c.run_wire.result _ _ (Wire c.in-Some-Wire.command) c.args.words.now (c.in-Some-Wire.ensures ∙ ap words_of c.in-Some-Wire.field-0-is)
    (wire_runs c.in-Some-Wire.command c.run_wire.result _ _ told.gives told.cause told.refuses told.refuses_length told.completes) told.gave_some
    (λ same. absurd (wire_is_no_replay c.in-Some-Wire.command same))

pub returns-in-None-clause-run : goal.returns-in-None-clause-run
returns-in-None-clause-run g c =
    run_of_none c.refuse.result _ _ c.args.words.now c.in-None.ensures
    record { is_usage = c.refuse.ensures.answered.0; is_untouched = refl; printed = c.refuse.ensures.answered.1 }
