use Rattle.command_words.proofs.ReadCommands.{said, generate_read, generate_said}
use Rattle.command_words.proofs.commands.generate_options.Goals as goal

pub returns : goal.returns
returns c =
    said _ _ c.read_generate.result (generate_read c.args.name.now c.args.words.now) (generate_said c.args.name.now c.args.words.now)
    c.read_generate.ensures
