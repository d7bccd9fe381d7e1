use Rattle.std.proofs.Common.{refl}
use Rattle.std.specs.IoError.{error_kind}
use Rattle.sync_program.proofs.Starts.{refused_words}
use Rattle.sync_program.proofs.start.start.Goals as goal

pub returns-in-Err-clause-no_words : goal.returns-in-Err-clause-no_words
returns-in-Err-clause-no_words g c =
    rw c.in-Err.is (refused_words (error_kind c.in-Err.error) c.refusal_of.result c.refuse.result _ _ c.refusal_of.ensures.no_memory c.refusal_of.ensures.no_text
    c.refuse.ensures.answered refl)
