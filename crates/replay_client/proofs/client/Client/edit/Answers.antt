use Rattle.std.proofs.Common.{sym, ◌∙◌}
use Rattle.replay_client.proofs.EditLemmas.{edit_done, edit_refused, edit_has_effect, may_be_taken}
use Rattle.replay_client.proofs.Effects.{on_err_holds}
use Rattle.replay_client.proofs.PlainSides.{edited_plain}
use Rattle.replay_client.proofs.client.Client.edit.Goals as goal

pub invariant_of-self-2 : goal.invariant_of-self-2
invariant_of-self-2 c = record {
  nigori = c.self.invariant.nigori;
  password = c.self.invariant.password;
  preference = edited_plain c.self.inside.preference c.edit.new.self c.args.edit.now c.in_ok-copy.copy c.self.invariant.preference c.requires.preference c.requires.canonical
      c.in_ok-copy.ensures c.in-Ok.ensures.ok;
  held = c.self.invariant.held;
}

pub returns-clause-happens : goal.returns-clause-happens
returns-clause-happens c =
    rw (← c.self.view_is) (edit_done c.self.inside c.args.number c.args.edit.now c.in_ok-copy.copy c.in-Ok.edited c.edit.new.self c.args.settlements.now.items c.settle_followed.new.settlements.items
    c.requires.preference c.in_ok-copy.ensures c.in-Ok.ensures.taken c.in-Ok.ensures.ok c.in-Ok.ensures.told (rw c.reserve.ensures.items at c.settle_followed.ensures))

pub returns-then-is_err-clause-happens : goal.returns-then-is_err-clause-happens
returns-then-is_err-clause-happens c =
    rw (← c.self.view_is) (edit_refused c.self.inside c.args.number c.args.edit.now c.may_edit.result c.args.settlements.now.items c.requires.preference (sym c.is_err.ensures.value ∙ c.if-is_err.true) c.may_edit.ensures.refused)

pub returns-in_err-copy-clause-memory : goal.returns-in_err-copy-clause-memory
returns-in_err-copy-clause-memory c =
    rw (← c.self.view_is) (on_err_holds c.from_residual.result (edit_has_effect c.self.inside c.args.number c.args.edit.now c.requires.preference
    (may_be_taken c.may_edit.result (sym c.is_err.ensures.value ∙ c.if-is_err.false) c.may_edit.ensures.may)))

pub returns-in_err-reserve-clause-memory : goal.returns-in_err-reserve-clause-memory
returns-in_err-reserve-clause-memory c =
    rw (← c.self.view_is) (on_err_holds c.from_residual-in_err-reserve.result (edit_has_effect c.self.inside c.args.number c.args.edit.now c.requires.preference
    (may_be_taken c.may_edit.result (sym c.is_err.ensures.value ∙ c.if-is_err.false) c.may_edit.ensures.may)))

pub returns-in_default-clause-memory : goal.returns-in_default-clause-memory
returns-in_default-clause-memory c =
    rw (← c.self.view_is) (edit_has_effect c.self.inside c.args.number c.args.edit.now c.requires.preference
    (may_be_taken c.may_edit.result (sym c.is_err.ensures.value ∙ c.if-is_err.false) c.may_edit.ensures.may))
