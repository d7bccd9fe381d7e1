use Rattle.client_tags.specs.declared.Kind.TheVariants.{Nigori, Preference, Password}
use Rattle.replay_client.proofs.ReadingLemmas.{reseals}
use Rattle.replay_client.proofs.client.Client.reseal_count.Goals as goal

pub returns-in-Nigori : goal.returns-in-Nigori
returns-in-Nigori c =
    rw (← c.self.view_is, c.in-Nigori.is) (reseals c.self.inside Nigori c.self.inside.nigori.processor.states c.reseal_count.result c.self.invariant c.reseal_count.ensures)

pub returns-in-Preference : goal.returns-in-Preference
returns-in-Preference c =
    rw (← c.self.view_is, c.in-Preference.is) (reseals c.self.inside Preference c.self.inside.preference.processor.states c.reseal_count-in-Preference.result c.self.invariant c.reseal_count-in-Preference.ensures)

pub returns-in-Password : goal.returns-in-Password
returns-in-Password c =
    rw (← c.self.view_is, c.in-Password.is) (reseals c.self.inside Password c.self.inside.password.processor.states c.reseal_count-in-Password.result c.self.invariant c.reseal_count-in-Password.ensures)
