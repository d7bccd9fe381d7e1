-- A text spells one schedule at most, is refused at one line at most, and never both.
use Rattle.std.proofs.Common.{◌≡◌, ◌≢◌, ◌⊎◌, inl, inr, ℕ, zero, suc, ◌+◌, ◌≤◌, Bool, true, false, cond, ◌==◌, ◌&&◌, List, [], ◌∷◌, ◌++◌, length, map, Option, Some, None, refl, sym, ap, subst, ◌∙◌, arith, append_assoc, length-append}
use Rattle.std.specs.List.{AllByRecursion, flat_map}
use Rattle.std.proofs.lemmas.Bool.{eq-eqb, eqb-true, eqb-false}
use Rattle.std.proofs.lemmas.List.{append-nil}
use Rattle.sync_model.specs.declared.event.Event.{Event as Step}
use Rattle.sync_model.specs.declared.event.Schedule.{Schedule}
use Rattle.schedule_text.specs.declared.fault.LineReason.{LineReason}
use Rattle.schedule_text.specs.declared.fault.LineReason.TheVariants.{End, Form, Number, Range, Word, Many, Later}
use Rattle.schedule_text.specs.declared.line.Line.{Line}
use Rattle.schedule_text.specs.declared.line.Line.TheVariants.{Clients, Seed, Event}
use Rattle.schedule_text.specs.Faults.{IsFaultAfter}
use Rattle.schedule_text.specs.Laws.{IsReadBack, RefusesNoSchedule, RefusesOneLine, SpellsOneSchedule}
use Rattle.schedule_text.specs.Limits.{MAX_EVENTS, MAX_SEED}
use Rattle.schedule_text.specs.Lines.{line_text, lines_of, schedule_text}
use Rattle.schedule_text.specs.Refusals.{HasNoEnd, IsNoLine, IsWrongLine, SpellsBefore, lines_before, words_of}
use Rattle.schedule_text.specs.Spelling.{IsBuilt, IsBuiltSchedule, IsEvent, IsSchedule, IsUpTo, Spells}
use Rattle.schedule_text.proofs.Cuts.{cuts_same, no_cut}
use Rattle.schedule_text.proofs.OneCutting.{CannotGoOn, IsSound, MayStandFrom, after_lines, cuttings_same, good_of, line_bytes, no_end_in_line, text_is, words_of_line}
use Rattle.schedule_text.proofs.Refusing.{line_regrouped}
use Rattle.schedule_text.proofs.RightLines.{reasons_same, standing_has_no_fault}

-- ---- the lines of a schedule may stand one after another

events_stand : (base : Schedule) (before events : List Step) → AllByRecursion (IsEvent base.clients (length base.passes)) events → AllByRecursion IsBuilt events → length before + length events ≤ MAX_EVENTS → MayStandFrom (Some (record base { events = before })) (map Event events)
events_stand base before [] right built within = tt
events_stand base before (event ∷ events) right built within = (
  record { is_in_place = right.0; has_room = omega (arith, within); is_built = built.0 },
  events_stand base (before ++ event ∷ []) events right.1 built.1 (omega (arith, length-append before (event ∷ []), within)),
)

events_after : (base : Schedule) (before events : List Step) → after_lines (Some (record base { events = before })) (map Event events) ≡ Some (record base { events = before ++ events })
events_after base before [] = ap (λ (es : List Step). Some (record base { events = es })) (sym (append-nil before))
events_after base before (event ∷ events) =
    events_after base (before ++ event ∷ []) events ∙ ap (λ (es : List Step). Some (record base { events = es })) (append_assoc before (event ∷ []) events)

all_three : (b : Bool) → b ≡ true → (b && b && b) ≡ true
all_three true is = refl
all_three false is = absurd cc

-- lines that may stand from the first on, and what stands before the next then
record AreLinesOf (schedule : Schedule) (lines : List Line) : Type 0 where
  pub stand : MayStandFrom None lines
  pub after : after_lines None lines ≡ Some schedule

lines_at : (none : Bool) (clients seed : ℕ) (events : List Step) → (none ≡ true → seed ≡ 0) → (none ≡ false → 1 ≤ seed) → seed ≤ MAX_SEED → IsUpTo 8 clients → AllByRecursion (IsEvent clients 0) events → AllByRecursion IsBuilt events → length events ≤ MAX_EVENTS → AreLinesOf (record { clients = clients; seed = seed; passes = []; events = events }) (Clients clients ∷ cond none [] (Seed seed ∷ []) ++ [] ++ map Event events)
lines_at true clients seed events zero_is some high few right built within =
    let base : Schedule = record { clients = clients; seed = 0; passes = []; events = [] } in
    record {
      stand = (record { is_in_place = few; has_room = tt; is_built = refl }, events_stand base [] events right built (omega (arith, within)));
      after = events_after base [] events ∙ ap (λ (n : ℕ). Some (record { clients = clients; seed = n; passes = []; events = events })) (sym (zero_is refl));
    }
lines_at false clients seed events zero_is some high few right built within =
    let base : Schedule = record { clients = clients; seed = seed; passes = []; events = [] } in
    record {
      stand = (record { is_in_place = few; has_room = tt; is_built = refl }, (record { is_in_place = (all_three (0 == 0) (eq-eqb 0 0 refl), (some refl, high)); has_room = tt; is_built = refl }, events_stand base [] events right built (omega (arith, within))));
      after = events_after base [] events;
    }

some_seed : (seed : ℕ) → (seed == 0) ≡ false → 1 ≤ seed
some_seed zero is = absurd (eqb-false 0 0 is refl)
some_seed (suc seed) is = omega arith

schedule_lines : (schedule : Schedule) → IsSchedule schedule → IsBuiltSchedule schedule → AreLinesOf schedule (lines_of schedule)
schedule_lines schedule right built =
    let seed = schedule.seed in
    let events : AllByRecursion (IsEvent schedule.clients 0) schedule.events = subst (λ (ps : List (List ℕ)). AllByRecursion (IsEvent schedule.clients (length ps)) schedule.events) built.no_passes right.events_are in
    let at = lines_at (seed == 0) schedule.clients seed schedule.events (eqb-true seed 0) (some_seed seed) right.seed_is right.clients_are events built.events_are right.events_within in
    subst (λ (ps : List (List ℕ)). AreLinesOf (record schedule { passes = ps }) (lines_of (record schedule { passes = ps }))) (sym built.no_passes) at

-- ---- what stands before a line

-- a text by its lines, which may stand from the first on
record IsFront (text : List ℕ) (before : Option Schedule) : Type 0 where
  pub lines : List Line
  pub is_text : text ≡ flat_map line_text lines
  pub stand : MayStandFrom None lines
  pub after : after_lines None lines ≡ before
  pub count : length lines ≡ lines_before before
  pub is_sound : IsSound before

front_of : (text : List ℕ) (before : Option Schedule) → SpellsBefore text before → IsFront text before
unfolding schedule_text
front_of text None is = record { lines = []; is_text = is; stand = tt; after = refl; count = refl; is_sound = tt }
front_of text (Some schedule) is =
    let lines = schedule_lines schedule is.is_schedule is.is_built in
    record { lines = lines_of schedule; is_text = is.is_text; stand = lines.stand; after = lines.after; count = refl; is_sound = (is.is_schedule, is.is_built) }

-- ---- where no more line may stand

pub no_line_is_nothing : (line more : List ℕ) → [] ≢ line ++ 10 ∷ more
no_line_is_nothing [] more e = cc
no_line_is_nothing (byte ∷ line) more e = cc

nothing_ends : (before : Option Schedule) → CannotGoOn before []
nothing_ends before line more e stands = no_line_is_nothing (line_bytes line) more (e ∙ text_is line more)

wrong_ends : (before : Option Schedule) (rest : List ℕ) (reason : LineReason) → IsSound before → IsWrongLine (IsFaultAfter before) rest reason → CannotGoOn before rest
wrong_ends before rest reason sound wrong line more e stands =
    let good = good_of before sound in
    let whole : wrong.line ++ 10 ∷ wrong.more ≡ line_bytes line ++ 10 ∷ more = sym (wrong.is_rest ∙ line_regrouped wrong.line wrong.more) ∙ e ∙ text_is line more in
    let same = cuts_same 10 wrong.line wrong.more (line_bytes line) more wrong.has_no_end (no_end_in_line before line good stands.is_in_place) whole in
    standing_has_no_fault before line (words_of wrong.line) reason good stands (ap words_of same.0 ∙ words_of_line before line good stands.is_in_place) wrong.is_fault

-- bytes without an end, or nothing in place of the first line, or a wrong line
views : (before : Option Schedule) (rest : List ℕ) (reason : LineReason) → IsNoLine before rest reason → ((rest ≢ []) × HasNoEnd rest × (reason ≡ End)) ⊎ (((before ≡ None) × (rest ≡ []) × (reason ≡ Form)) ⊎ IsWrongLine (IsFaultAfter before) rest reason)
views before rest End is = inl (is.0, is.1, refl)
views before rest Form (inl none) = inr (inl (none.0, none.1, refl))
views before rest Form (inr wrong) = inr (inr wrong)
views before rest Number is = inr (inr is)
views before rest Range is = inr (inr is)
views before rest Word is = inr (inr is)
views before rest Many is = inr (inr is)
views before rest Later is = inr (inr is)

no_line_ends : (before : Option Schedule) (rest : List ℕ) (reason : LineReason) → IsSound before → IsNoLine before rest reason → CannotGoOn before rest
no_line_ends before rest reason sound no_line line more e stands =
    elim (views before rest reason no_line) [
      | inl open_end ↦ no_cut 10 rest (line_bytes line) more open_end.1 (e ∙ text_is line more)
      | inr (inl none) ↦ nothing_ends before line more (sym none.1 ∙ e) stands
      | inr (inr wrong) ↦ wrong_ends before rest reason sound wrong line more e stands
    ]

pub wrong_has_end : (at_fault : List (List ℕ) → LineReason → Type 0) (rest : List ℕ) (reason : LineReason) → HasNoEnd rest → IsWrongLine at_fault rest reason → ⊥
wrong_has_end at_fault rest reason none wrong = no_cut 10 rest wrong.line wrong.more none (wrong.is_rest ∙ line_regrouped wrong.line wrong.more)

pub wrong_is_some : (at_fault : List (List ℕ) → LineReason → Type 0) (rest : List ℕ) (reason : LineReason) → rest ≡ [] → IsWrongLine at_fault rest reason → ⊥
wrong_is_some at_fault rest reason none wrong = no_line_is_nothing wrong.line wrong.more (sym none ∙ wrong.is_rest ∙ line_regrouped wrong.line wrong.more)

-- words are at fault for one reason, so a wrong line is
pub wrong_reasons : (at_fault : List (List ℕ) → LineReason → Type 0) (rest : List ℕ) (one other : LineReason) → ((words : List (List ℕ)) → at_fault words one → at_fault words other → one ≡ other) → IsWrongLine at_fault rest one → IsWrongLine at_fault rest other → one ≡ other
wrong_reasons at_fault rest one other same_reasons p q =
    let whole : p.line ++ 10 ∷ p.more ≡ q.line ++ 10 ∷ q.more = sym (p.is_rest ∙ line_regrouped p.line p.more) ∙ q.is_rest ∙ line_regrouped q.line q.more in
    let same = cuts_same 10 p.line p.more q.line q.more p.has_no_end q.has_no_end whole in
    same_reasons (words_of p.line) p.is_fault (subst (λ (l : List ℕ). at_fault (words_of l) other) (sym same.0) q.is_fault)

-- a place is refused for one reason
place_reasons : (before : Option Schedule) (rest : List ℕ) (one other : LineReason) → IsSound before → IsNoLine before rest one → IsNoLine before rest other → one ≡ other
place_reasons before rest one other sound p q =
    elim (views before rest one p) [
      | inl ends ↦ elim (views before rest other q) [
        | inl too ↦ ends.2 ∙ sym too.2
        | inr (inl none) ↦ absurd (ends.0 none.1)
        | inr (inr wrong) ↦ absurd (wrong_has_end (IsFaultAfter before) rest other ends.1 wrong)
      ]
      | inr (inl none) ↦ elim (views before rest other q) [
        | inl ends ↦ absurd (ends.0 none.1)
        | inr (inl too) ↦ none.2 ∙ sym too.2
        | inr (inr wrong) ↦ absurd (wrong_is_some (IsFaultAfter before) rest other none.1 wrong)
      ]
      | inr (inr wrong) ↦ elim (views before rest other q) [
        | inl ends ↦ absurd (wrong_has_end (IsFaultAfter before) rest one ends.1 wrong)
        | inr (inl none) ↦ absurd (wrong_is_some (IsFaultAfter before) rest one none.1 wrong)
        | inr (inr too) ↦ wrong_reasons (IsFaultAfter before) rest one other (λ words one_is other_is. reasons_same before words one other (good_of before sound) one_is other_is) wrong too
      ]
    ]

-- ---- the laws

some_same : {one other : Schedule} → Some one ≡ Some other → one ≡ other
some_same e = cc

some_is_not_none : (schedule : Schedule) → Some schedule ≢ None
some_is_not_none schedule e = cc

-- two texts that begin alike, where no more line may stand after what stands before
record AreSame (one other : Option Schedule) (rest more : List ℕ) : Type 0 where
  pub before_is : one ≡ other
  pub rest_is : rest ≡ more

fronts_same : (text front back : List ℕ) (one other : Option Schedule) (rest more : List ℕ) → text ≡ front ++ rest → text ≡ back ++ more → IsFront front one → IsFront back other → CannotGoOn one rest → CannotGoOn other more → AreSame one other rest more
fronts_same text front back one other rest more is too p q ends stops =
    let whole : flat_map line_text p.lines ++ rest ≡ flat_map line_text q.lines ++ more = ap (λ (t : List ℕ). t ++ rest) (sym p.is_text) ∙ sym is ∙ too ∙ ap (λ (t : List ℕ). t ++ more) q.is_text in
    let same = cuttings_same None p.lines q.lines rest more tt p.stand q.stand (subst (λ (b : Option Schedule). CannotGoOn b rest) (sym p.after) ends) (subst (λ (b : Option Schedule). CannotGoOn b more) (sym q.after) stops) whole in
    record { before_is = sym p.after ∙ ap (after_lines None) same.0 ∙ q.after; rest_is = same.1 }

spelled_front : (text : List ℕ) (schedule : Schedule) → Spells text schedule → IsFront text (Some schedule)
spelled_front text schedule spells = front_of text (Some schedule) spells

pub spells_one : SpellsOneSchedule
spells_one text one other first second =
    let same = fronts_same text text text (Some one) (Some other) [] [] (sym (append-nil text)) (sym (append-nil text)) (spelled_front text one first) (spelled_front text other second) (nothing_ends (Some one)) (nothing_ends (Some other)) in
    some_same same.before_is

pub refuses_one : RefusesOneLine
refuses_one text line other_line reason other_reason first second =
    let one = front_of first.front first.before first.is_before in
    let other = front_of second.front second.before second.is_before in
    let same = fronts_same text first.front second.front first.before second.before first.rest second.rest first.is_text second.is_text one other (no_line_ends first.before first.rest reason one.is_sound first.is_no_line) (no_line_ends second.before second.rest other_reason other.is_sound second.is_no_line) in
    let moved : IsNoLine first.before first.rest other_reason = subst (λ (b : Option Schedule). IsNoLine b first.rest other_reason) (sym same.before_is) (subst (λ (l : List ℕ). IsNoLine second.before l other_reason) (sym same.rest_is) second.is_no_line) in
    (first.is_next ∙ ap (λ (b : Option Schedule). lines_before b + 1) same.before_is ∙ sym second.is_next, place_reasons first.before first.rest reason other_reason one.is_sound first.is_no_line moved)

pub refuses_none : RefusesNoSchedule
refuses_none text schedule line reason spells refused =
    let other = front_of refused.front refused.before refused.is_before in
    let same = fronts_same text text refused.front (Some schedule) refused.before [] refused.rest (sym (append-nil text)) refused.is_text (spelled_front text schedule spells) other (nothing_ends (Some schedule)) (no_line_ends refused.before refused.rest reason other.is_sound refused.is_no_line) in
    elim (views refused.before refused.rest reason refused.is_no_line) [
      | inl ends ↦ ends.0 (sym same.rest_is)
      | inr (inl none) ↦ some_is_not_none schedule (same.before_is ∙ none.0)
      | inr (inr wrong) ↦ wrong_is_some (IsFaultAfter refused.before) refused.rest reason (sym same.rest_is) wrong
    ]

pub read_back : IsReadBack
read_back schedule other right built =
    let spells : Spells (schedule_text schedule) schedule = record { is_text = refl; is_schedule = right; is_built = built } in
    (spells, λ too. spells_one (schedule_text schedule) schedule other spells too)
