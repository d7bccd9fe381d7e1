-- A schedule and its lines, one after another.
use Rattle.std.proofs.Common.{◌≡◌, ◌≢◌, ℕ, zero, suc, ◌+◌, ◌<◌, ◌≤◌, Bool, true, false, cond, ◌==◌, ◌&&◌, List, [], ◌∷◌, ◌++◌, length, map, Option, Some, None, refl, sym, ap, subst, ◌∙◌, arith, append_assoc, length-append}
use Rattle.std.specs.Prelude.{IsTrue}
use Rattle.std.specs.Fmt.{digits}
use Rattle.std.specs.List.{AllByRecursion, flat_map}
use Rattle.std.proofs.lemmas.Bool.{eq-eqb, eqb-true, ne_eqb}
use Rattle.std.proofs.lemmas.Grind.{flat_map-append}
use Rattle.std.proofs.lemmas.List.{append-nil, map-append}
use Rattle.sync_model.specs.declared.event.Event.{Event as Step}
use Rattle.sync_model.specs.declared.event.Schedule.{Schedule}
use Rattle.schedule_text.specs.declared.line.Line.{Line}
use Rattle.schedule_text.specs.declared.line.Line.TheVariants.{Clients, Seed, Pass, Event}
use Rattle.schedule_text.specs.Grammar.{may_pass, may_seed}
use Rattle.schedule_text.specs.Lines.{line_text, lines_of, schedule_text}
use Rattle.schedule_text.specs.Limits.{MAX_EVENTS}
use Rattle.schedule_text.specs.Places.{HasRoom, IsInPlace, MayStand, after_line, is_built_line}
use Rattle.schedule_text.specs.Spelling.{AreBytes, IsBuilt, IsBuiltSchedule, IsEvent, IsSchedule, IsUpTo, Spells}
use Rattle.schedule_text.proofs.Escapes.{AllByRecursion-append}

-- ---- what may stand before a seed, and before a passphrase

no_items : {A : Type 0} (xs : List A) → (length xs == 0) ≡ true → xs ≡ []
no_items [] is = refl
no_items (x ∷ xs) is = absurd (let no : suc (length xs) ≡ 0 = eqb-true _ _ is in omega arith)

both_of : (a b : Bool) → (a && b) ≡ true → (a ≡ true) × (b ≡ true)
both_of true b is = (refl, is)
both_of false b is = absurd cc

pub record IsBare (before : Schedule) : Type 0 where
  pub no_seed : before.seed ≡ 0
  pub no_passes : before.passes ≡ []
  pub no_events : before.events ≡ []

pub is_bare : (before : Schedule) → IsTrue (may_seed before) → IsBare before
is_bare before may =
    let last = both_of (before.seed == 0 && length before.passes == 0) (length before.events == 0) may in
    let first = both_of (before.seed == 0) (length before.passes == 0) last.0 in
    record { no_seed = eqb-true _ _ first.0; no_passes = no_items before.passes first.1; no_events = no_items before.events last.1 }

pub no_events_yet : (before : Schedule) → IsTrue (may_pass before) → before.events ≡ []
no_events_yet before may = no_items before.events may

-- ---- one more line

abbrev pub lines_at : ℕ → ℕ → List (List ℕ) → List Step → List Line
lines_at clients seed passes events = Clients clients ∷ cond (seed == 0) [] (Seed seed ∷ []) ++ map Pass passes ++ map Event events

with_seed : (none : Bool) (clients seed : ℕ) → none ≡ false → Clients clients ∷ cond none [] (Seed seed ∷ []) ++ [] ++ [] ≡ Clients clients ∷ Seed seed ∷ []
with_seed true clients seed is = absurd cc
with_seed false clients seed is = refl

without_seed : (none : Bool) (clients seed : ℕ) (line : Line) → none ≡ true → Clients clients ∷ line ∷ [] ≡ (Clients clients ∷ cond none [] (Seed seed ∷ []) ++ [] ++ []) ++ line ∷ []
without_seed true clients seed line is = refl
without_seed false clients seed line is = absurd cc

-- a line that is in its place goes after the others
pub one_more_line : (before after : Schedule) (line : Line) → IsInPlace (Some before) line → after_line (Some before) line ≡ Some after → lines_of after ≡ lines_of before ++ line ∷ []
one_more_line before after (Clients clients) place is = absurd place
one_more_line before after (Seed seed) place is =
    let bare = is_bare before place.0 in
    let same : after ≡ record before { seed = seed } = cc in
    ap lines_of same
    ∙ (λ i. lines_at before.clients seed (bare.no_passes i) (bare.no_events i))
    ∙ with_seed (seed == 0) before.clients seed (ne_eqb seed 0 (λ e. let some = place.1.0 in omega (arith, some, e)))
    ∙ without_seed (0 == 0) before.clients 0 (Seed seed) (eq-eqb 0 0 refl)
    ∙ (λ i. lines_at before.clients (sym bare.no_seed i) (sym bare.no_passes i) (sym bare.no_events i) ++ Seed seed ∷ [])
one_more_line before after (Pass pass) place is =
    let none = no_events_yet before place.0 in
    let same : after ≡ record before { passes = before.passes ++ pass ∷ [] } = cc in
    let front : List Line = Clients before.clients ∷ cond (before.seed == 0) [] (Seed before.seed ∷ []) in
    ap lines_of same
    ∙ (λ i. lines_at before.clients before.seed (before.passes ++ pass ∷ []) (none i))
    ∙ append-nil (front ++ map Pass (before.passes ++ pass ∷ []))
    ∙ ap (λ (ls : List Line). front ++ ls) (map-append Pass before.passes (pass ∷ []))
    ∙ sym (append_assoc front (map Pass before.passes) (Pass pass ∷ []))
    ∙ ap (λ (ls : List Line). ls ++ Pass pass ∷ []) (sym (append-nil (front ++ map Pass before.passes)))
    ∙ (λ i. lines_at before.clients before.seed before.passes (sym none i) ++ Pass pass ∷ [])
one_more_line before after (Event event) place is =
    let same : after ≡ record before { events = before.events ++ event ∷ [] } = cc in
    let front : List Line = Clients before.clients ∷ cond (before.seed == 0) [] (Seed before.seed ∷ []) ++ map Pass before.passes in
    ap lines_of same
    ∙ ap (λ (ls : List Line). front ++ ls) (map-append Event before.events (event ∷ []))
    ∙ sym (append_assoc front (map Event before.events) (Event event ∷ []))

pub text_goes_on : (before after : Schedule) (line : Line) → IsInPlace (Some before) line → after_line (Some before) line ≡ Some after → schedule_text after ≡ schedule_text before ++ line_text line
unfolding schedule_text
text_goes_on before after line place is =
    ap (flat_map line_text) (one_more_line before after line place is)
    ∙ flat_map-append line_text (lines_of before) (line ∷ [])
    ∙ ap (λ (t : List ℕ). schedule_text before ++ t) (append-nil (line_text line))

-- ---- schedules that are and stay right

bare_lines : (none : Bool) (clients seed : ℕ) → none ≡ true → Clients clients ∷ cond none [] (Seed seed ∷ []) ++ [] ++ [] ≡ Clients clients ∷ []
bare_lines true clients seed is = refl
bare_lines false clients seed is = absurd cc

pub first_lines : (clients : ℕ) → lines_of (record { clients = clients; seed = 0; passes = []; events = [] }) ≡ Clients clients ∷ []
first_lines clients = bare_lines (0 == 0) clients 0 (eq-eqb 0 0 refl)

pub first_text : (clients : ℕ) → schedule_text (record { clients = clients; seed = 0; passes = []; events = [] }) ≡ line_text (Clients clients)
unfolding schedule_text
first_text clients = ap (flat_map line_text) (first_lines clients) ∙ append-nil (line_text (Clients clients))

pub first_is_schedule : (clients : ℕ) → IsUpTo 8 clients → IsSchedule (record { clients = clients; seed = 0; passes = []; events = [] }) × IsBuiltSchedule (record { clients = clients; seed = 0; passes = []; events = [] })
first_is_schedule clients within = (
  record { clients_are = within; seed_is = omega arith; passes_are = tt; passes_within = omega arith; events_are = tt; events_within = omega arith },
  record { no_passes = refl; events_are = tt },
)

pub stays_schedule : (before after : Schedule) (line : Line) → IsSchedule before → IsBuiltSchedule before → MayStand (Some before) line → after_line (Some before) line ≡ Some after → IsSchedule after × IsBuiltSchedule after
stays_schedule before after (Clients clients) right built stands is = absurd stands.is_in_place
stays_schedule before after (Seed seed) right built stands is =
    let same : record before { seed = seed } ≡ after = cc in
    subst (λ (s : Schedule). IsSchedule s × IsBuiltSchedule s) same (
      record { clients_are = right.clients_are; seed_is = stands.is_in_place.1.1; passes_are = right.passes_are; passes_within = right.passes_within; events_are = right.events_are; events_within = right.events_within },
      record { no_passes = built.no_passes; events_are = built.events_are },
    )
stays_schedule before after (Pass pass) right built stands is = absurd (let no : false ≡ true = stands.is_built in cc)
stays_schedule before after (Event event) right built stands is =
    let same : record before { events = before.events ++ event ∷ [] } ≡ after = cc in
    subst (λ (s : Schedule). IsSchedule s × IsBuiltSchedule s) same (
      record {
        clients_are = right.clients_are;
        seed_is = right.seed_is;
        passes_are = right.passes_are;
        passes_within = right.passes_within;
        events_are = AllByRecursion-append (IsEvent before.clients (length before.passes)) before.events (event ∷ []) right.events_are (stands.is_in_place, tt);
        events_within = omega (arith, length-append before.events (event ∷ []), stands.has_room);
      },
      record { no_passes = built.no_passes; events_are = AllByRecursion-append IsBuilt before.events (event ∷ []) built.events_are (stands.is_built, tt) },
    )
