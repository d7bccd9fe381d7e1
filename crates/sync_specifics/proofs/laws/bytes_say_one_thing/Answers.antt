use Rattle.sync_specifics.proofs.OneThing.{one_preference, one_login, one_key, one_bag, one_specifics}
use Rattle.sync_specifics.proofs.laws.bytes_say_one_thing.Goals as goal

pub returns-clause-preferences : goal.returns-clause-preferences
returns-clause-preferences c = one_preference

pub returns-clause-logins : goal.returns-clause-logins
returns-clause-logins c = one_login

pub returns-clause-keys : goal.returns-clause-keys
returns-clause-keys c = one_key

pub returns-clause-bags : goal.returns-clause-bags
returns-clause-bags c = one_bag

pub returns-clause-specifics : goal.returns-clause-specifics
returns-clause-specifics c = one_specifics
