-- What a step of a generated schedule is: events that are drawn, and what the next step's draws are read from.
use Rattle.std.specs.Prelude.{ℕ, pos, ◌+◌, ◌==◌, nat_le, if◌then◌else◌, true, List, [], ◌∷◌, ◌++◌, codes}
use Rattle.std.specs.Fmt.{decimal}
use Rattle.rand_chacha.specs.ChaCha.{ChaCha}
use Rattle.client_tags.specs.declared.Kind.TheVariants.{Nigori, Preference, Password}
use Rattle.sync_values.specs.declared.edit.Edit.{Edit as Change}
use Rattle.sync_values.specs.declared.edit.Edit.TheVariants.{SetPreference as Preferring, DeletePreference as Unpreferring, SetPassword as Saving, DeletePassword as Unsaving}
use Rattle.sync_model.specs.declared.event.Event.{Event}
use Rattle.sync_model.specs.declared.event.Event.TheVariants.{Edit, Cut as CutEdit, Turn, Gather, Post, Ask, Offer, Lose, Crash as Stop, Deliver, Answer, SetPass as Choose, GivePass as Give}
use Rattle.schedule_generator.specs.declared.steps.Action.{Action}
use Rattle.schedule_generator.specs.declared.steps.Action.TheVariants.{SetPreference, DeletePreference, SetPassword, DeletePassword, Crash, SetPass, GivePass, Cut, Round}
use Rattle.schedule_generator.specs.Draws.{draw, rest}

-- what a number below 100 lets a client do
abbrev pub action_of : ℕ → Action
action_of number =
    if nat_le number 29 then SetPreference
    else if nat_le number 34 then DeletePreference
    else if nat_le number 49 then SetPassword
    else if nat_le number 53 then DeletePassword
    else if nat_le number 54 then Crash
    else if nat_le number 55 then SetPass
    else if nat_le number 58 then GivePass
    else if nat_le number 59 then Cut
    else Round

-- the events of a step, and what the next draw is read from
pub record Step : Type 0 where
  pub events : List Event
  pub rest : ChaCha

-- a text with a number behind it
unfoldable pub numbered : List ℕ → ℕ → List ℕ
numbered name number = name ++ decimal number

-- the address of the site of a number
unfoldable pub site : ℕ → List ℕ
site number = codes "https://s" ++ decimal number ++ codes ".example/"

-- a preference of 40 is set to one of 1,000 values
unfoldable pub set_preference : ChaCha → Change
set_preference draws = Preferring (record {
  name = numbered (codes "p") (draw 40 draws);
  value = numbered (codes "v") (draw 1000 (rest draws));
  extra = [];
})

-- a preference of 40 is deleted
unfoldable pub delete_preference : ChaCha → Change
delete_preference draws = Unpreferring (numbered (codes "p") (draw 40 draws))

-- the login at a site of 30 gets one of 1,000 secrets and one of ten dates
unfoldable pub set_password : ChaCha → Change
set_password draws = Saving (record {
  origin = site (draw 30 draws);
  user_element = codes "u";
  user_value = codes "n";
  pass_element = codes "p";
  realm = site (draw 30 draws);
  secret = numbered (codes "w") (draw 1000 (rest draws));
  created = pos (draw 10 (rest (rest draws)));
  extra = [];
})

-- the login at a site of 30 is deleted
unfoldable pub delete_password : ChaCha → Change
delete_password draws = Unsaving (site (draw 30 draws)) (codes "u") (codes "n") (codes "p") (site (draw 30 draws))

-- a client hands each type what the last reply says of it, and then each type applies it
unfoldable pub posts_and_turns : ℕ → List Event
posts_and_turns client =
    Post client Nigori ∷ Post client Preference ∷ Post client Password
    ∷ Turn client Nigori ∷ Turn client Preference ∷ Turn client Password ∷ []

-- a client takes what each type has to send
unfoldable pub gathers : ℕ → List Event
gathers client = Gather client Nigori ∷ Gather client Preference ∷ Gather client Password ∷ []

-- a client receives the reply of a delivery, or one time of eight gives it up
unfoldable pub reception : ℕ → ℕ → ChaCha → Event
reception client delivery draws = if draw 8 draws == 0 then Lose client else Answer delivery

-- a request is delivered, one time of four twice
unfoldable pub deliveries : ℕ → ChaCha → List Event
deliveries request draws = Deliver request ∷ (if draw 4 draws == 0 then Deliver request ∷ [] else [])

-- a client asks for what is new to it, and takes the reply; the first event has this number
unfoldable pub asked : ℕ → ℕ → ChaCha → List Event
asked client first draws =
    Ask client ∷ Deliver first ∷ reception client (first + 1) draws ∷ posts_and_turns client

-- a client commits what it has to send, and takes the reply; the offer has this number
unfoldable pub committed : ℕ → ℕ → ChaCha → List Event
committed client offer draws =
    gathers client ++ Offer client ∷ deliveries offer draws
    ++ reception client (offer + 1) (rest draws) ∷ posts_and_turns client

-- a round: a client asks, and then commits; the first event has this number
unfoldable pub round : ℕ → ℕ → ChaCha → Step
round client first draws = record {
  events = asked client first draws ++ committed client (first + 12) (rest draws);
  rest = rest (rest (rest draws));
}

-- what a client does, where its first event has this number
unfoldable pub done : Action → ℕ → ℕ → ChaCha → Step
done SetPreference client first draws = record { events = Edit client (set_preference draws) ∷ []; rest = rest (rest draws) }
done DeletePreference client first draws = record { events = Edit client (delete_preference draws) ∷ []; rest = rest draws }
done SetPassword client first draws =
    record { events = Edit client (set_password draws) ∷ []; rest = rest (rest (rest draws)) }
done DeletePassword client first draws = record { events = Edit client (delete_password draws) ∷ []; rest = rest draws }
done Crash client first draws = record { events = Stop client ∷ []; rest = draws }
done SetPass client first draws = record { events = Choose client (draw 2 draws + 1) ∷ []; rest = rest draws }
done GivePass client first draws = record { events = Give client (draw 2 draws + 1) ∷ []; rest = rest draws }
done Cut client first draws = record { events = CutEdit client true (set_preference draws) ∷ []; rest = rest (rest draws) }
done Round client first draws = round client first draws

-- a step: one of so many clients is drawn, and then what it does
unfoldable pub step : ℕ → ℕ → ChaCha → Step
step clients first draws =
    done (action_of (draw 100 (rest draws))) (draw clients draws + 1) first (rest (rest draws))
