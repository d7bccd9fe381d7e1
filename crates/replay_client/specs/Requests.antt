-- The marks of a request for updates.
use Rattle.std.specs.Prelude.{ℕ, List, [], ◌∷◌}
use Rattle.client_tags.specs.declared.Kind.TheVariants.{Nigori, Preference, Password}
use Rattle.sync_model.specs.declared.message.Marker.{Marker}

-- the marks of the three types, in the order of the types
abbrev pub marks_with : ℕ → ℕ → ℕ → List Marker
marks_with nigori preference password =
    record { kind = Nigori; mark = nigori } ∷ record { kind = Preference; mark = preference }
    ∷ record { kind = Password; mark = password } ∷ []
