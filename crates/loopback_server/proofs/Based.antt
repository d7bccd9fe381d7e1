-- A message keeps the law that each write is based on the last one of its key.
use Rattle.std.proofs.Common.{◌≡◌, List, [], Option, None, sym, subst}
use Rattle.sync_specifics.specs.declared.specifics.Specifics.{Specifics}
use Rattle.sync_model.proofs.Versions.{history_served-IsBased}
use Rattle.sync_model.specs.declared.message.Call.{Call}
use Rattle.sync_model.specs.declared.message.Entry.{Entry}
use Rattle.sync_model.specs.History.{IsBased}
use Rattle.sync_model.specs.Servers.{history_after, history_served}
use Rattle.replay_messages.specs.Entries.{is_invalid}

pub based_after : (before old new : List (Entry (Option Specifics))) (call : Call (Option Specifics)) → old ≡ before
    → new ≡ history_after is_invalid old call → IsBased before → IsBased new
unfolding history_served
based_after before old new call same is based =
    subst (λ (history : List (Entry (Option Specifics))). IsBased history) (sym is)
    (history_served-IsBased is_invalid [] old (record { birthday = None; call = call })
    (subst (λ (history : List (Entry (Option Specifics))). IsBased history) (sym same) based))
