use Rattle.trail_desk.proofs.Keeping.{begins}
use Rattle.trail_desk.proofs.tokens.new_table.Goals as goal

pub of_words-requires : goal.of_words-requires
of_words-requires g c = begins c.args.opening.now
