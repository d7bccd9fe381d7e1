-- The rules of the three types merge nothing, and so keep every type.
use Rattle.std.specs.Prelude.{Bool, true, false, if◌then◌else◌, int_lt}
use Rattle.std.proofs.Common.{subst}
use Rattle.client_tags.specs.declared.Kind.TheVariants.{Nigori, Preference, Password}
use Rattle.sync_values.specs.declared.value.Value.{Value}
use Rattle.sync_values.specs.declared.value.Value.TheVariants.{Absent, Preference as Setting_value, Password as Login_value, Nigori as Keys_value}
use Rattle.sync_model.specs.declared.conflict.Decision.{Decision}
use Rattle.sync_model.specs.declared.conflict.Decision.TheVariants.{Remote, Local, Merged}
use Rattle.sync_model.specs.Settings.{names, decided_by, login_decided}
use Rattle.conflict_rules.specs.Rules.{KeepsEachType}

-- a decision for one of the two values
abbrev MergesNothing : Decision → Type 0
MergesNothing Remote = Unit {0}
MergesNothing Local = Unit {0}
MergesNothing (Merged value) = ⊥

keeps_each_type : (decided : Value → Value → Decision) → ((local remote : Value) → MergesNothing (decided local remote)) → KeepsEachType decided
keeps_each_type decided nothing kind local remote merged is_local is_remote merges =
    absurd (subst MergesNothing merges (nothing local remote))

one_of_two : (later : Bool) → MergesNothing (if later then Local else Remote)
one_of_two true = tt
one_of_two false = tt

one_login : (local remote : Value) → MergesNothing (login_decided local remote)
one_login (Login_value local) (Login_value remote) = one_of_two (int_lt remote.created local.created)
one_login (Login_value local) Absent = tt
one_login (Login_value local) (Setting_value remote) = tt
one_login (Login_value local) (Keys_value remote) = tt
one_login Absent remote = tt
one_login (Setting_value local) remote = tt
one_login (Keys_value local) remote = tt

pub logins_keep_type : KeepsEachType (decided_by names Password)
logins_keep_type = keeps_each_type (decided_by names Password) one_login

pub preferences_keep_type : KeepsEachType (decided_by names Preference)
unfolding names
preferences_keep_type = keeps_each_type (decided_by names Preference) (λ local remote. tt)

pub keys_keep_type : KeepsEachType (decided_by names Nigori)
keys_keep_type = keeps_each_type (decided_by names Nigori) (λ local remote. tt)
