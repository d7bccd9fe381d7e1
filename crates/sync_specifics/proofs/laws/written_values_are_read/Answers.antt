use Rattle.sync_specifics.proofs.TextsRead.{preferences_are_read}
use Rattle.sync_specifics.proofs.LoginsRead.{logins_are_read}
use Rattle.sync_specifics.proofs.KeysRead.{keys_are_read}
use Rattle.sync_specifics.proofs.BagsRead.{bags_are_read}
use Rattle.sync_specifics.proofs.SpecificsInside.{specifics_are_read}
use Rattle.sync_specifics.proofs.laws.written_values_are_read.Goals as goal

pub returns-clause-preferences : goal.returns-clause-preferences
returns-clause-preferences c = preferences_are_read

pub returns-clause-logins : goal.returns-clause-logins
returns-clause-logins c = logins_are_read

pub returns-clause-keys : goal.returns-clause-keys
returns-clause-keys c = keys_are_read

pub returns-clause-bags : goal.returns-clause-bags
returns-clause-bags c = bags_are_read

pub returns-clause-specifics : goal.returns-clause-specifics
returns-clause-specifics c = specifics_are_read
