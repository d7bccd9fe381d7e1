-- The events of a step: how many they are, and that steps follow one another.
use Rattle.std.proofs.Common.{◌≡◌, ℕ, zero, suc, ◌+◌, ◌*◌, ◌≤◌, Bool, true, false, if◌then◌else◌, ◌==◌, List, [], ◌∷◌, ◌++◌, length, refl, ap, sym, ◌∙◌, arith, append_assoc, append-nil, length-append}
use Rattle.rand_chacha.specs.ChaCha.{ChaCha}
use Rattle.sync_model.specs.declared.event.Event.{Event}
use Rattle.sync_model.specs.declared.event.Event.TheVariants.{Offer, Deliver}
use Rattle.schedule_generator.specs.declared.steps.Action.{Action}
use Rattle.schedule_generator.specs.declared.steps.Action.TheVariants.{SetPreference, DeletePreference, SetPassword, DeletePassword, Crash, SetPass, GivePass, Cut, Round}
use Rattle.schedule_generator.specs.Draws.{draw, rest}
use Rattle.schedule_generator.specs.Steps.{posts_and_turns, gathers, reception, deliveries, asked, committed, round, done, step, action_of}
use Rattle.schedule_generator.specs.Generated.{steps_from}

-- a request that is delivered once, or twice
at_most_twice : (twice : Bool) (request : ℕ)
    → length (Deliver request ∷ (if twice then Deliver request ∷ [] else [])) ≤ 2
at_most_twice true request = omega arith
at_most_twice false request = omega arith

-- a request is delivered at most twice
deliveries_length : (request : ℕ) (draws : ChaCha) → length (deliveries request draws) ≤ 2
unfolding deliveries
deliveries_length request draws = at_most_twice (draw 4 draws == 0) request

-- three posts and three turns are six
handled_length : (client : ℕ) → length (posts_and_turns client) ≡ 6
unfolding posts_and_turns
handled_length client = refl

-- asking takes nine events
asked_length : (client first : ℕ) (draws : ChaCha) → length (asked client first draws) ≡ 9
unfolding asked
asked_length client first draws = omega (arith, handled_length client)

-- two lists within two lengths are within the sum
append_within : (one other : List Event) (low high : ℕ) → length one ≤ low → length other ≤ high
    → length (one ++ other) ≤ low + high
append_within one other low high one_within other_within = omega (arith, one_within, other_within, length-append one other)

-- committing takes at most thirteen
committed_length : (client offer : ℕ) (draws : ChaCha) → length (committed client offer draws) ≤ 13
unfolding committed gathers posts_and_turns
committed_length client offer draws =
    omega (
      arith,
      deliveries_length offer draws,
      length-append (deliveries offer draws) (reception client (offer + 1) (rest draws) ∷ posts_and_turns client),
    )

-- a round takes at most 22
round_length : (client first : ℕ) (draws : ChaCha) → length (round client first draws).events ≤ 22
unfolding round
round_length client first draws =
    append_within (asked client first draws) (committed client (first + 12) (rest draws)) 9 13
    (omega (arith, asked_length client first draws)) (committed_length client (first + 12) (rest draws))

-- what a client does takes at most 22
done_length : (action : Action) (client first : ℕ) (draws : ChaCha) → length (done action client first draws).events ≤ 22
unfolding done
done_length SetPreference client first draws = omega arith
done_length DeletePreference client first draws = omega arith
done_length SetPassword client first draws = omega arith
done_length DeletePassword client first draws = omega arith
done_length Crash client first draws = omega arith
done_length SetPass client first draws = omega arith
done_length GivePass client first draws = omega arith
done_length Cut client first draws = omega arith
done_length Round client first draws = round_length client first draws

-- a step has at most 22 events
step_length : (clients first : ℕ) (draws : ChaCha) → length (step clients first draws).events ≤ 22
unfolding step
step_length clients first draws =
    done_length (action_of (draw 100 (rest draws))) (draw clients draws + 1) first (rest (rest draws))

-- behind a step the others follow, from the number behind its events
one_more : (clients count : ℕ) (events : List Event) (draws : ChaCha)
    → (events ++ (step clients (length events + 1) draws).events)
    ++ steps_from clients count (length (events ++ (step clients (length events + 1) draws).events) + 1)
    (step clients (length events + 1) draws).rest
    ≡ events ++ steps_from clients (suc count) (length events + 1) draws
unfolding steps_from
one_more clients count events draws =
    let first : List Event = (step clients (length events + 1) draws).events in
    let after : ChaCha = (step clients (length events + 1) draws).rest in
    let number : length (events ++ first) + 1 ≡ length events + 1 + length first = omega (arith, length-append events first) in
    ap (λ (place : ℕ). (events ++ first) ++ steps_from clients count place after) number
    ∙ append_assoc events first (steps_from clients count (length events + 1 + length first) after)

-- where a step is written, the others follow it
pub next_ahead : (clients left count : ℕ) (events written whole : List Event) (draws next : ChaCha)
    → left ≡ suc count
    → written ≡ events ++ (step clients (length events + 1) draws).events
    → next ≡ (step clients (length events + 1) draws).rest
    → events ++ steps_from clients left (length events + 1) draws ≡ whole
    → written ++ steps_from clients count (length written + 1) next ≡ whole
next_ahead clients left count events written whole draws next is_left is_written is_next ahead =
    ap (λ (made : List Event). made ++ steps_from clients count (length made + 1) next) is_written
    ∙ ap (λ (from : ChaCha). (events ++ (step clients (length events + 1) draws).events)
    ++ steps_from clients count (length (events ++ (step clients (length events + 1) draws).events) + 1) from) is_next
    ∙ one_more clients count events draws
    ∙ ap (λ (more : ℕ). events ++ steps_from clients more (length events + 1) draws) (sym is_left) ∙ ahead

-- where no step is left, all is written
pub none_left : (clients left : ℕ) (events whole : List Event) (draws : ChaCha)
    → left ≡ zero → events ++ steps_from clients left (length events + 1) draws ≡ whole → events ≡ whole
unfolding steps_from
none_left clients left events whole draws is_left ahead =
    sym (append-nil events) ∙ ap (λ (more : ℕ). events ++ steps_from clients more (length events + 1) draws) (sym is_left) ∙ ahead

-- so many steps have at most 22 times as many events
pub next_within : (clients steps : ℕ) (events written : List Event) (draws : ChaCha)
    → written ≡ events ++ (step clients (length events + 1) draws).events
    → length events ≤ 22 * steps → length written ≤ 22 * (steps + 1)
next_within clients steps events written draws is_written within =
    omega (
      arith,
      within,
      ap length is_written,
      length-append events (step clients (length events + 1) draws).events,
      step_length clients (length events + 1) draws,
    )
