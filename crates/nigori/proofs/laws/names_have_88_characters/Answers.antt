use Rattle.nigori.proofs.Names.{names_have_88_characters}
use Rattle.nigori.proofs.laws.names_have_88_characters.Goals as goal

pub returns : goal.returns
returns c = names_have_88_characters
