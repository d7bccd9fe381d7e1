use Rattle.std.proofs.Common.{sym, ap, ◌∙◌}
use Rattle.std.specs.Prelude.{◌||◌, ◌==◌, length}
use Rattle.sync_model.specs.Sending.{is_busy}
use Rattle.replay_client.specs.Clients.{client_of}
use Rattle.replay_client.proofs.Effects.{on_err_holds}
use Rattle.replay_client.proofs.SendingLemmas.{offer_void, offer_done, offer_has_effect}
use Rattle.replay_client.proofs.client.Client.offer.Goals as goal

pub returns-then-cannot_offer-clause-happens : goal.returns-then-cannot_offer-clause-happens
returns-then-cannot_offer-clause-happens c = offer_void c.args.number c.args.event c.args.self.now (sym c.cannot_offer.ensures ∙ c.if-cannot_offer.true)

pub returns-clause-happens : goal.returns-clause-happens
returns-clause-happens c =
    rw (← c.self.view_is) (offer_done c.args.number c.args.event (client_of c.self.inside) c.in_ok-birthday.birthday c.from_vec.result c.replace-entries.new.dest.items
    (ap (λ client. is_busy client || length client.held == 0) c.self.view_is ∙ sym c.cannot_offer.ensures ∙ c.if-cannot_offer.false) c.in_ok-birthday.ensures
    (rw c.replace-entries.ensures.value at c.from_vec.ensures) (rw c.replace-entries.ensures.after c.new.ensures.items))

pub returns-in_err-birthday-clause-memory : goal.returns-in_err-birthday-clause-memory
returns-in_err-birthday-clause-memory c =
    on_err_holds c.from_residual.result (offer_has_effect c.args.number c.args.event c.args.self.now (sym c.cannot_offer.ensures ∙ c.if-cannot_offer.false))
