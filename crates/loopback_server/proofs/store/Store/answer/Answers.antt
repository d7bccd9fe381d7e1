use Rattle.std.proofs.Common.{sym, ◌∙◌}
use Rattle.loopback_server.specs.Stores.{history_of}
use Rattle.loopback_server.proofs.StoreLemmas.{over_is, conflict_answer, quota_answer, success_answer}
use Rattle.loopback_server.proofs.store.Store.answer.Goals as goal

pub returns-then-not-is_based-clause-answer : goal.returns-then-not-is_based-clause-answer
returns-then-not-is_based-clause-answer c =
    conflict_answer (history_of c.args.self.now) c.args.write c.version_at-last.result
    (c.version_at-last.ensures ∙ c.requires.indexed.versions c.args.write.key) (sym c.is_based.ensures ∙ c.if-not-is_based.true)

pub returns-then-is_over_quota-clause-answer : goal.returns-then-is_over_quota-clause-answer
returns-then-is_over_quota-clause-answer c =
    quota_answer (history_of c.args.self.now) c.args.write c.version_at-last.result
    (c.version_at-last.ensures ∙ c.requires.indexed.versions c.args.write.key) (sym c.is_based.ensures ∙ c.if-not-is_based.false)
    (over_is (history_of c.args.self.now) c.args.write c.args.self.now.keys c.is_over_quota.result c.requires.indexed.keys c.is_over_quota.ensures ∙ c.if-is_over_quota.true)

pub returns-clause-answer : goal.returns-clause-answer
returns-clause-answer c =
    success_answer (history_of c.args.self.now) c.args.write c.version_at-last.result c.version-version.result
    (c.version_at-last.ensures ∙ c.requires.indexed.versions c.args.write.key) (sym c.is_based.ensures ∙ c.if-not-is_based.false)
    (over_is (history_of c.args.self.now) c.args.write c.args.self.now.keys c.is_over_quota.result c.requires.indexed.keys c.is_over_quota.ensures ∙ c.if-is_over_quota.false)
    c.version-version.ensures
