use Rattle.command_words.proofs.ReadCommands.{said, soak_read, soak_said}
use Rattle.command_words.proofs.commands.soak_options.Goals as goal

pub returns : goal.returns
returns c = said _ _ c.read_soak.result (soak_read c.args.words.now) (soak_said c.args.words.now) c.read_soak.ensures
