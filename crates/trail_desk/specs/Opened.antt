-- A desk before its table has a name.
use Rattle.std.specs.Prelude.{◌≡◌, ℕ, [], List, Some}
use Rattle.atomic_table.specs.Seated.{TableId}
use Rattle.atomic_table.specs.Table.{Me}
use Rattle.trail_desk.specs.declared.entry.Entry.{Entry}
use Rattle.trail_desk.specs.declared.entry.Opening.{Opening}
use Rattle.trail_desk.specs.declared.rule.View.{View}
use Rattle.trail_desk.specs.Views.{keeping}
use Rattle.trail_desk.specs.Held.{whole_now}
use Rattle.trail_desk.specs.Passes.{PassState, new_passes}

-- all seats were made, and nothing else happened
pub record IsOpened {C A G : Type 0} (core : C) (began : Opening C) (table keeper_at : TableId) (keeper : Me (Unit {0}) (View C A G)) (passes : List (PassState C A G)) (trail : List (Entry A G)) : Type 0 where
  pub core_is : began.core ≡ core
  pub one_word : table.words ≡ 1
  pub keeper_is : keeper_at ≡ table
  pub knows : keeper ≡ (keeping (Some (whole_now began [])), [])
  pub seats : passes ≡ new_passes (record { table = table; opening = began })
  pub empty : trail ≡ []
