use Rattle.command_words.proofs.ReadCommands.{said, serve_read, serve_said}
use Rattle.command_words.proofs.commands.serve_options.Goals as goal

pub returns : goal.returns
returns c = said _ _ c.read_serve.result (serve_read c.args.words.now) (serve_said c.args.words.now) c.read_serve.ensures
