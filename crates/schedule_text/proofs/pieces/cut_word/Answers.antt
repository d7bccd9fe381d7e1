use Rattle.std.proofs.Common.{ap}
use Rattle.schedule_text.proofs.Words.{cut_word_is}
use Rattle.schedule_text.proofs.pieces.cut_word.Goals as goal

pub returns : goal.returns
returns c = cut_word_is c.args.line.now c.cut_at.result c.cut_at.ensures
