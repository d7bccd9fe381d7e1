use Rattle.std.proofs.Common.{sym, ap, ◌∙◌, Option}
use Rattle.sync_model.specs.History.{answer_to, history_with}
use Rattle.loopback_server.specs.declared.candidate.Candidate.{Candidate}
use Rattle.loopback_server.specs.Candidates.{entry_read}
use Rattle.replay_messages.specs.Entries.{is_invalid}
use Rattle.replay_messages.specs.Replies.{told_answer}
use Rattle.loopback_server.specs.Stores.{history_of}
use Rattle.loopback_server.proofs.CommitLemmas.{invalid_answer, invalid_history}
use Rattle.loopback_server.proofs.store.Store.answer_read.Goals as goal

pub returns-in_default-clause-answer : goal.returns-in_default-clause-answer
returns-in_default-clause-answer c =
    c.refusal.ensures.told ∙ invalid_answer (history_of c.args.self.now)
    ∙ ap (λ (read : Option Candidate). told_answer (entry_read read) (answer_to is_invalid (history_of c.args.self.now) (entry_read read))) (sym c.in_default.is)

pub returns-in_default-clause-history : goal.returns-in_default-clause-history
returns-in_default-clause-history c =
    invalid_history (history_of c.args.self.now)
    ∙ ap (λ (read : Option Candidate). history_with (history_of c.args.self.now) (entry_read read) (answer_to is_invalid (history_of c.args.self.now) (entry_read read))) (sym c.in_default.is)
