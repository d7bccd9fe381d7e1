-- The kinds of passphrases, as messages name them.
use Rattle.std.specs.Prelude.{ℕ, ◌==◌, if◌then◌else◌, Option, Some, None}
use Rattle.sync_values.specs.declared.value.PassKind.{PassKind}
use Rattle.sync_values.specs.declared.value.PassKind.TheVariants.{Implicit, Keystore, Frozen, Custom, Vault}

-- the number of a passphrase's kind
abbrev pub pass_kind_number : PassKind → ℕ
pass_kind_number Implicit = 1
pass_kind_number Keystore = 2
pass_kind_number Frozen = 3
pass_kind_number Custom = 4
pass_kind_number Vault = 5

-- the kind of a passphrase by its number, if it is that of one
abbrev pub pass_kind_of_number : ℕ → Option PassKind
pass_kind_of_number number =
    if number == 1 then Some Implicit else if number == 2 then Some Keystore else if number == 3 then Some Frozen
    else if number == 4 then Some Custom else if number == 5 then Some Vault else None
