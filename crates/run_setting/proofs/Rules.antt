-- A rule that takes the server's value merges nothing, and so the program's runs have a setting to which the laws apply.
use Rattle.std.proofs.Common.{◌≡◌, inl, refl, subst}
use Rattle.sync_values.specs.declared.value.Value.{Value}
use Rattle.sync_model.specs.declared.conflict.Decision.{Decision}
use Rattle.sync_model.specs.declared.conflict.Decision.TheVariants.{Remote, Local, Merged}
use Rattle.sync_model.specs.Settings.{IsSetting, KeepsType, remote_wins}
use Rattle.run_setting.specs.Hashed.{hashed}

-- the server's value is taken
abbrev IsRemote : Decision → Type 0
IsRemote Remote = Unit {0}
IsRemote Local = ⊥
IsRemote (Merged value) = ⊥

pub remote_wins-keeps_type : KeepsType remote_wins
remote_wins-keeps_type local remote merged is_local is_remote merges = absurd (subst IsRemote merges tt)

-- the setting of the program's runs is one
pub hashed-IsSetting : IsSetting hashed
unfolding hashed
hashed-IsSetting = record { rule = remote_wins-keeps_type; pass_kind = inl refl }
