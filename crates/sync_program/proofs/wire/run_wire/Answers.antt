use Rattle.sync_program.proofs.Causes.{gives_from_cause, refuses_from_cause, length_from_cause, completes_from_gives}
use Rattle.sync_program.proofs.Works.{looking-IsDetermined}
use Rattle.sync_program.specs.Wire.{looking}
use Rattle.sync_program.proofs.wire.run_wire.Goals as goal

-- a message is looked into, and refused only where it is none
pub returns-clause-gives : goal.returns-clause-gives
returns-clause-gives g c = λ text tells.
    gives_from_cause (looking c.args.command) (looking-IsDetermined c.bytes_say_one_message.ensures c.args.command) c.look.result _ _ text
    c.look.ensures.cause tells

-- bytes that are no message are refused, and not looked into
pub returns-clause-refuses : goal.returns-clause-refuses
returns-clause-refuses g c = λ line tells.
    refuses_from_cause (looking c.args.command) (looking-IsDetermined c.bytes_say_one_message.ensures c.args.command) c.look.result _ _ line
    c.look.ensures.cause tells

-- too many bytes are refused as such
pub returns-clause-refuses_length : goal.returns-clause-refuses_length
returns-clause-refuses_length g c = λ tells.
    length_from_cause (looking c.args.command) c.look.result _ _ c.look.ensures.cause tells

-- what a message gives, where nothing outside failed
pub returns-clause-completes : goal.returns-clause-completes
returns-clause-completes g c = λ text tells no_source no_sink.
    completes_from_gives c.look.result _ _ text
    (gives_from_cause (looking c.args.command) (looking-IsDetermined c.bytes_say_one_message.ensures c.args.command) c.look.result _ _ text
    c.look.ensures.cause tells)
    no_source no_sink
