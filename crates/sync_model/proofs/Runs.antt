-- Words for worked runs: a setting that computes, events, and the lines of a report.
use Rattle.std.proofs.Common.{ℕ, List, [], ◌∷◌, ◌++◌}
use Rattle.std.specs.Prelude.{codes, pos}
use Prim.Native.String.{String}
use Rattle.sync_values.specs.declared.edit.Edit.TheVariants.{SetPreference, DeletePreference, SetPassword}
use Rattle.sync_values.specs.declared.value.PassKind.TheVariants.{Custom}
use Rattle.sync_model.specs.declared.event.Event.{Event}
use Rattle.sync_model.specs.declared.event.Event.TheVariants.{Edit}
use Rattle.sync_model.specs.Settings.{Setting, remote_wins}
use Rattle.sync_model.specs.Report.{events_line, entity_lines, value_lines, fate_lines, pass_number, for_each_kind}
use Rattle.sync_model.specs.Clients.{side_of}
use Rattle.sync_model.specs.Worlds.{World, opening, run, client_at}

-- Tags stand in place of their hashes, and passphrases in place of their keys and of the names of these.
unfoldable pub symbols : Setting
symbols = record {
  decided = remote_wins;
  pass_kind = Custom;
  tag_hash = λ kind tag. tag;
  hash_text = λ hash. hash;
  pass_key = λ pass. record { user = pass; enc = []; mac = [] };
  key_name = λ key. key.user;
}

-- some lines, each with its end
abbrev pub text_of : List String → List ℕ
text_of [] = []
text_of (line ∷ lines) = codes line ++ 10 ∷ text_of lines

-- the world after some events; no draw shows in a report, so any seed serves
abbrev pub after : ℕ → List (List ℕ) → List Event → World
after clients passes events = run symbols (opening clients 0 passes) events

-- what the server has
abbrev pub entities : World → List ℕ
entities world = entity_lines symbols (pass_number symbols world.passes) world.history world.history

-- what a client has of its keys, and the fates of its edits
abbrev pub outcome_of : World → ℕ → List ℕ
outcome_of world client =
    for_each_kind (λ kind. value_lines symbols (pass_number symbols world.passes) client kind (side_of (client_at world.clients client) kind).states)
    ++ for_each_kind (λ kind. fate_lines world client kind)

-- the fates of the edits of a client
abbrev pub fates : World → ℕ → List ℕ
fates world client = for_each_kind (λ kind. fate_lines world client kind)

-- the number of events, and of the void ones
abbrev pub events_of : World → List ℕ
events_of world = events_line world.outcomes

-- a client sets a preference
abbrev pub set : ℕ → String → String → Event
set client name value = Edit client (SetPreference record { name = codes name; value = codes value; extra = [] })

-- a client deletes a preference
abbrev pub del : ℕ → String → Event
del client name = Edit client (DeletePreference (codes name))

-- client 1 saves the login of bob
abbrev pub save_login : Event
save_login = Edit 1 (SetPassword record {
  origin = codes "https://a.example/";
  user_element = codes "u";
  user_value = codes "bob";
  pass_element = codes "p";
  realm = codes "https://a.example/";
  secret = codes "secret";
  created = pos 5;
  extra = [];
})
