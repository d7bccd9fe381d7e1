use Rattle.command_words.proofs.ReadCommands.{said, client_read, client_said}
use Rattle.command_words.proofs.commands.client_options.Goals as goal

pub returns : goal.returns
returns c = said _ _ c.read_client.result (client_read c.args.words.now) (client_said c.args.words.now) c.read_client.ensures
