-- The fates of edits, from a table and from what is kept of the events.
use Rattle.std.proofs.Common.{◌≡◌, ℕ, ◌+◌, ◌<◌, ◌≤◌, Bool, true, false, cond, List, [], ◌∷◌, ◌++◌, length, drop, get_or, Option, Some, refl, sym, ap, ◌∙◌}
use Rattle.std.proofs.lemmas.List.{reverse-append, append-nil, reverse-reverse, drop_more, drop_all}
use Rattle.std.proofs.lemmas.List.Concat.{flat_map-append}
use Rattle.std.specs.Prelude.{find, reverse}
use Rattle.std.specs.List.{flat_map}
use Rattle.std.specs.Option.{option_map}
use Rattle.client_tags.specs.declared.Kind.{Kind}
use Rattle.sync_model.specs.declared.event.EventOutcome.{EventOutcome}
use Rattle.sync_model.specs.declared.fate.Fate.{Fate}
use Rattle.sync_model.specs.declared.fate.Settlement.{Settlement}
use Rattle.sync_model.specs.declared.message.Content.{Content}
use Rattle.sync_model.specs.declared.message.Entry.{Entry}
use Rattle.sync_model.specs.Fates.{is_of_edit, fate_of, edit_made, edits_made}
use Rattle.sync_model.specs.Report.{fate_line}
use Rattle.replay_world.specs.declared.happened.Happened.{Happened}
use Rattle.replay_world.specs.declared.happened.Happened.TheVariants as kept
use Rattle.replay_world.specs.Outcomes.{outcome_of, outcomes_of}
use Rattle.replay_world.specs.Reports.{edit_kept, fate_at, HasFates, kept_fate, fates_text}

by_test : (test : Bool) (settlement : Settlement) (found : Option Settlement)
    → option_map (λ (s : Settlement). s.fate) (cond test (Some settlement) found) ≡ cond test (Some settlement.fate) (option_map (λ (s : Settlement). s.fate) found)
by_test true settlement found = refl
by_test false settlement found = refl

fate_of_first : (settlement : Settlement) (later : List Settlement) (client : ℕ) (kind : Kind) (number : ℕ)
    → fate_of (settlement ∷ later) client kind number ≡ cond (is_of_edit client kind number settlement) (Some settlement.fate) (fate_of later client kind number)
unfolding fate_of
fate_of_first settlement later client kind number = by_test (is_of_edit client kind number settlement) settlement (find (is_of_edit client kind number) later)

-- an empty table, and no settlement yet
pub table_none : (fates : List (ℕ × Fate)) (settlements : List Settlement) (client : ℕ) (kind : Kind) (n : ℕ) → fates ≡ [] → length settlements ≤ n → HasFates fates (drop n settlements) client kind
unfolding fate_of
table_none fates settlements client kind n is le number =
    ap (λ (table : List (ℕ × Fate)). fate_at table number) is
    ∙ ap (λ (rest : List Settlement). fate_of rest client kind number) (sym (drop_all n settlements le))

-- a table with one earlier settlement
pub table_more : (old new : List (ℕ × Fate)) (settlements : List Settlement) (client : ℕ) (kind : Kind) (n next : ℕ) (other : Settlement) → next ≡ n + 1 → n < length settlements
    → ((number : ℕ) → fate_at new number ≡ cond (is_of_edit client kind number (get_or settlements n other)) (Some (get_or settlements n other).fate) (fate_at old number))
    → HasFates old (drop next settlements) client kind → HasFates new (drop n settlements) client kind
table_more old new settlements client kind n next other is_next lt updates has number =
    updates number
    ∙ ap (λ found. cond (is_of_edit client kind number (get_or settlements n other)) (Some (get_or settlements n other).fate) found)
    (has number ∙ ap (λ k. fate_of (drop k settlements) client kind number) is_next)
    ∙ sym (fate_of_first (get_or settlements n other) (drop (n + 1) settlements) client kind number)
    ∙ ap (λ (all : List Settlement). fate_of all client kind number) (sym (drop_more settlements n other lt))

edit_kept_is : (history : List (Entry Content)) (outcomes : List EventOutcome) (client : ℕ) (kind : Kind) (happened : Happened) → edit_made client kind (outcome_of history outcomes happened) ≡ edit_kept client kind happened
edit_kept_is history outcomes client kind kept.Void = refl
edit_kept_is history outcomes client kind kept.Done = refl
edit_kept_is history outcomes client kind (kept.Edited editor edited number) = refl
edit_kept_is history outcomes client kind (kept.Requested author request bytes) = refl
edit_kept_is history outcomes client kind (kept.Delivered request before bytes) = refl

-- the lines of the edits that are kept, with their fates as the settlements say
kept_lines : (fates : List (ℕ × Fate)) (history : List (Entry Content)) (settlements : List Settlement) (client : ℕ) (kind : Kind) (happened : List Happened) → HasFates fates settlements client kind
    → flat_map (kept_fate fates client kind) (reverse happened) ≡ fates_text (outcomes_of history happened) settlements client kind
unfolding outcomes_of edits_made kept_fate
kept_lines fates history settlements client kind [] has = refl
kept_lines fates history settlements client kind (newest ∷ earlier) has =
    ap (flat_map (kept_fate fates client kind)) (reverse-append (newest ∷ []) earlier)
    ∙ flat_map-append (kept_fate fates client kind) (reverse earlier) (newest ∷ [])
    ∙ (λ i. kept_lines fates history settlements client kind earlier has i ++ one i)
    ∙ sym (flat_map-append (λ (number : ℕ). fate_line client kind number (fate_of settlements client kind number)) (edits_made client kind (outcomes_of history earlier))
    (edit_made client kind (outcome_of history (outcomes_of history earlier) newest))) where
      one : flat_map (kept_fate fates client kind) (newest ∷ [])
          ≡ flat_map (λ number. fate_line client kind number (fate_of settlements client kind number)) (edit_made client kind (outcome_of history (outcomes_of history earlier) newest))
      one = append-nil (kept_fate fates client kind newest)
          ∙ (λ i. flat_map (λ number. fate_line client kind number (has number i)) (sym (edit_kept_is history (outcomes_of history earlier) client kind newest) i))

-- the lines of all edits of a client and a type
pub fates_are : (fates : List (ℕ × Fate)) (history : List (Entry Content)) (settlements : List Settlement) (client : ℕ) (kind : Kind) (happened : List Happened) → HasFates fates settlements client kind
    → flat_map (kept_fate fates client kind) happened ≡ fates_text (outcomes_of history (reverse happened)) settlements client kind
fates_are fates history settlements client kind happened has =
    ap (flat_map (kept_fate fates client kind)) (sym (reverse-reverse happened)) ∙ kept_lines fates history settlements client kind (reverse happened) has
