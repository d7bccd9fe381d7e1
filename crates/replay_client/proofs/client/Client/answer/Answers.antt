use Rattle.std.proofs.Common.{sym, ap, ◌∙◌}
use Rattle.replay_client.specs.Clients.{client_of}
use Rattle.replay_client.specs.Replies.{with_letters}
use Rattle.replay_client.proofs.ReplyLemmas.{other_store_ends, unfit_ends, answer_taken}
use Rattle.replay_client.proofs.client.Client.answer.Goals as goal

pub returns-then-is_other_store-clause-happens : goal.returns-then-is_other_store-clause-happens
returns-then-is_other_store-clause-happens c = λ seed reply is fits.
    rw (← c.self.view_is) (other_store_ends seed (client_of c.self.inside) c.args.request.now reply c.args.message.now is (sym c.is_other_store.ensures ∙ c.if-is_other_store.true))

pub returns-in_default-clause-happens : goal.returns-in_default-clause-happens
returns-in_default-clause-happens c = λ seed reply is fits.
    rw (← c.self.view_is) (unfit_ends seed (client_of c.self.inside) c.args.request.now reply c.args.message.now is c.requires.plain fits (sym c.in_ok-letters.ensures.read ∙ c.in_default.is))

pub returns-clause-happens : goal.returns-clause-happens
returns-clause-happens c = λ seed reply is fits.
    rw (← c.self.view_is) (answer_taken seed (client_of c.self.inside) c.args.request.now reply c.args.message.now c.in-Some.letters c.in_ok-birthday.birthday c.take_letters.new.self is c.requires.plain fits
    (sym c.is_other_store.ensures ∙ c.if-is_other_store.false) (sym c.in_ok-letters.ensures.read ∙ c.in-Some.is) c.in_ok-birthday.ensures
    (c.take_letters.ensures ∙ ap (λ client. with_letters client c.in-Some.letters c.in_ok-birthday.birthday) (sym c.self.view_is)))
