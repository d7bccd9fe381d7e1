use Rattle.std.proofs.Common.{sym, ◌∙◌}
use Rattle.replay_client.proofs.Effects.{on_err_holds}
use Rattle.replay_client.proofs.SendingLemmas.{gather_void, gather_done, gather_has_effect}
use Rattle.replay_client.proofs.client.Client.gather.Goals as goal

pub returns-then-cannot_gather-clause-happens : goal.returns-then-cannot_gather-clause-happens
returns-then-cannot_gather-clause-happens c = λ number. gather_void number c.args.self.now c.args.kind (sym c.cannot_gather.ensures ∙ c.if-cannot_gather.true)

pub returns-clause-happens : goal.returns-clause-happens
returns-clause-happens c =
    λ number. gather_done number c.args.self.now c.args.kind c.take_offers.new.self (sym c.cannot_gather.ensures ∙ c.if-cannot_gather.false) (c.in_ok-take_offers.ensures.ok number)

pub returns-in_err-take_offers-clause-memory : goal.returns-in_err-take_offers-clause-memory
returns-in_err-take_offers-clause-memory c =
    on_err_holds c.from_residual.result (λ number. gather_has_effect number c.args.self.now c.args.kind (sym c.cannot_gather.ensures ∙ c.if-cannot_gather.false))
