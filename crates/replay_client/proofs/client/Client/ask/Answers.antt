use Rattle.std.proofs.Common.{sym, ap, ◌∙◌}
use Rattle.sync_model.specs.Sending.{is_busy}
use Rattle.replay_client.specs.Clients.{client_of}
use Rattle.replay_client.proofs.Effects.{on_err_holds}
use Rattle.replay_client.proofs.SendingLemmas.{ask_void, ask_done, ask_has_effect}
use Rattle.replay_client.proofs.client.Client.ask.Goals as goal

pub returns-then-is_busy-clause-happens : goal.returns-then-is_busy-clause-happens
returns-then-is_busy-clause-happens c = ask_void c.args.number c.args.event c.args.self.now (sym c.is_busy.ensures ∙ c.if-is_busy.true)

pub returns-clause-happens : goal.returns-clause-happens
returns-clause-happens c =
    rw (← c.self.view_is) (ask_done c.args.number c.args.event (client_of c.self.inside) c.in_ok-birthday.birthday c.in_ok-marks.marks
    (ap is_busy c.self.view_is ∙ sym c.is_busy.ensures ∙ c.if-is_busy.false) c.in_ok-birthday.ensures c.in_ok-marks.ensures.seen)

pub returns-in_err-birthday-clause-memory : goal.returns-in_err-birthday-clause-memory
returns-in_err-birthday-clause-memory c =
    on_err_holds c.from_residual.result (ask_has_effect c.args.number c.args.event c.args.self.now (sym c.is_busy.ensures ∙ c.if-is_busy.false))

pub returns-in_err-marks-clause-memory : goal.returns-in_err-marks-clause-memory
returns-in_err-marks-clause-memory c =
    on_err_holds c.from_residual-in_err-marks.result (ask_has_effect c.args.number c.args.event c.args.self.now (sym c.is_busy.ensures ∙ c.if-is_busy.false))
