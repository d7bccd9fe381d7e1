use Rattle.sync_specifics.proofs.SaidExtras.{said_preferences, said_logins, said_specifics}
use Rattle.sync_specifics.proofs.laws.said_extras_are_canonical.Goals as goal

pub returns-clause-preferences : goal.returns-clause-preferences
returns-clause-preferences c = said_preferences

pub returns-clause-logins : goal.returns-clause-logins
returns-clause-logins c = said_logins

pub returns-clause-specifics : goal.returns-clause-specifics
returns-clause-specifics c = said_specifics
