use Rattle.std.proofs.Common.{refl}
use Rattle.client_tags.specs.declared.Kind.TheVariants.{Nigori, Preference, Password}
use Rattle.replay_client.specs.Clients.{client_of}
use Rattle.replay_client.proofs.Effects.{if_ok_weaker, on_err_weaker}
use Rattle.replay_client.proofs.MailLemmas.{turn_happens, same_rule, stays_idle, turn_has_effect}
use Rattle.replay_client.proofs.PlainSides.{turn_stays_plain}
use Rattle.replay_client.proofs.PlainStates.{preferences_plain}
use Rattle.replay_client.proofs.client.Client.turn.Goals as goal

pub invariant_of-self : goal.invariant_of-self
invariant_of-self c = record {
  nigori = stays_idle c.turn.result _ c.args.number Nigori c.self.inside.nigori c.turn.new.self c.args.settlements.now.items c.turn.new.settlements.items
      c.self.invariant.nigori c.turn.ensures.turned c.turn.ensures.err;
  password = c.self.invariant.password;
  preference = c.self.invariant.preference;
  held = c.self.invariant.held;
}

pub invariant_of-self-in-Preference : goal.invariant_of-self-in-Preference
invariant_of-self-in-Preference c = record {
  nigori = c.self.invariant.nigori;
  password = c.self.invariant.password;
  preference = turn_stays_plain c.turn-in-Preference.result _ preferences_plain c.args.number Preference c.self.inside.preference c.turn-in-Preference.new.self
      c.args.settlements.now.items c.turn-in-Preference.new.settlements.items c.self.invariant.preference c.turn-in-Preference.ensures.turned c.turn-in-Preference.ensures.err;
  held = c.self.invariant.held;
}

pub invariant_of-self-in-Password : goal.invariant_of-self-in-Password
invariant_of-self-in-Password c = record {
  nigori = c.self.invariant.nigori;
  password = stays_idle c.turn-in-Password.result _ c.args.number Password c.self.inside.password c.turn-in-Password.new.self c.args.settlements.now.items c.turn-in-Password.new.settlements.items
      c.self.invariant.password c.turn-in-Password.ensures.turned c.turn-in-Password.ensures.err;
  preference = c.self.invariant.preference;
  held = c.self.invariant.held;
}

pub returns-in-Nigori-clause-happens : goal.returns-in-Nigori-clause-happens
returns-in-Nigori-clause-happens c =
    let side = c.self.inside.nigori in
    rw (← c.self.view_is, c.in-Nigori.is) (if_ok_weaker c.turn.result _ _ (λ outcome turned. turn_happens c.args.number (client_of c.self.inside) Nigori _ side c.turn.new.self side.processor.mailbox outcome
    c.args.settlements.now.items c.turn.new.settlements.items (same_rule Nigori) refl refl turned) c.turn.ensures.turned)

pub returns-in-Preference-clause-happens : goal.returns-in-Preference-clause-happens
returns-in-Preference-clause-happens c =
    let side = c.self.inside.preference in
    rw (← c.self.view_is, c.in-Preference.is) (if_ok_weaker c.turn-in-Preference.result _ _ (λ outcome turned. turn_happens c.args.number (client_of c.self.inside) Preference _ side c.turn-in-Preference.new.self side.processor.mailbox outcome
    c.args.settlements.now.items c.turn-in-Preference.new.settlements.items (same_rule Preference) refl refl turned) c.turn-in-Preference.ensures.turned)

pub returns-in-Password-clause-happens : goal.returns-in-Password-clause-happens
returns-in-Password-clause-happens c =
    let side = c.self.inside.password in
    rw (← c.self.view_is, c.in-Password.is) (if_ok_weaker c.turn-in-Password.result _ _ (λ outcome turned. turn_happens c.args.number (client_of c.self.inside) Password _ side c.turn-in-Password.new.self side.processor.mailbox outcome
    c.args.settlements.now.items c.turn-in-Password.new.settlements.items (same_rule Password) refl refl turned) c.turn-in-Password.ensures.turned)

pub returns-in-Nigori-clause-memory : goal.returns-in-Nigori-clause-memory
returns-in-Nigori-clause-memory c =
    rw (← c.self.view_is, c.in-Nigori.is) (on_err_weaker c.turn.result (λ there. turn_has_effect (client_of c.self.inside) Nigori c.self.inside.nigori c.self.inside.nigori.processor.mailbox refl refl there) c.turn.ensures.memory)

pub returns-in-Preference-clause-memory : goal.returns-in-Preference-clause-memory
returns-in-Preference-clause-memory c =
    rw (← c.self.view_is, c.in-Preference.is) (on_err_weaker c.turn-in-Preference.result (λ there. turn_has_effect (client_of c.self.inside) Preference c.self.inside.preference c.self.inside.preference.processor.mailbox refl refl there) c.turn-in-Preference.ensures.memory)

pub returns-in-Password-clause-memory : goal.returns-in-Password-clause-memory
returns-in-Password-clause-memory c =
    rw (← c.self.view_is, c.in-Password.is) (on_err_weaker c.turn-in-Password.result (λ there. turn_has_effect (client_of c.self.inside) Password c.self.inside.password c.self.inside.password.processor.mailbox refl refl there) c.turn-in-Password.ensures.memory)
