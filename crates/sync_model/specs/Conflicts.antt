-- The conflict table: what becomes of an own value that the server lacks, where a write of its key comes.
use Rattle.std.specs.Prelude.{Bool, ◌&&◌, not, if◌then◌else◌}
use Rattle.sync_values.specs.declared.value.Value.{Value}
use Rattle.sync_model.specs.declared.conflict.Choice.{Choice}
use Rattle.sync_model.specs.declared.conflict.Choice.TheVariants.{Same, Remote, Local, Merged}
use Rattle.sync_model.specs.declared.conflict.Decision.{Decision}
use Rattle.sync_model.specs.declared.conflict.Decision.TheVariants.{Remote as TakeRemote, Local as KeepLocal, Merged as Merge}
use Rattle.sync_model.specs.declared.conflict.Resolution.{Resolution}
use Rattle.sync_model.specs.declared.conflict.Row.{Row}
use Rattle.sync_model.specs.declared.conflict.Row.TheVariants.{C0, C1, C2, C3, C4, C5, C6}
use Rattle.sync_model.specs.Values.{same_value, is_absent}

-- the first row that fits, given whether the write is an earlier own value that was offered, what was known before, the
-- own value, and the write's
unfoldable pub row_of : Bool → Value → Value → Value → Row
row_of echo base own remote =
    if same_value own remote then C1
    else (if echo then C0
    else (if is_absent own && not (is_absent remote) then C2
    else (if same_value own base then C3
    else (if same_value remote base then C4
    else (if is_absent remote then C5 else C6)))))

-- what a type's decision does
abbrev pub choice_by : Decision → Choice
choice_by TakeRemote = Remote
choice_by KeepLocal = Local
choice_by (Merge value) = Merged value

-- what a row does, given what the type decides
abbrev pub choice_of : Row → Decision → Choice
choice_of C1 decision = Same
choice_of C0 decision = Local
choice_of C2 decision = Remote
choice_of C3 decision = Remote
choice_of C4 decision = Local
choice_of C5 decision = Local
choice_of C6 decision = choice_by decision

-- the row that fits, and what it does by the rule of the type
abbrev pub resolved : (Value → Value → Decision) → Bool → Value → Value → Value → Resolution
resolved decided echo base own remote = record {
  row = row_of echo base own remote;
  choice = choice_of (row_of echo base own remote) (decided own remote);
}
