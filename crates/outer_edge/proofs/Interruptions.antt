-- What one interrupted call more does to the counts.
use Rattle.std.proofs.Common.{◌≡◌, ℕ, ◌+◌, ◌<◌, ◌≤◌, ap, ◌∙◌, sym, arith, subst}
use Rattle.std.proofs.Math.Nat.{le-min}
use Rattle.outer_edge.specs.Faults.{last_count, counted}
use Rattle.outer_edge.specs.Calls.{with_fault}
use Rattle.outer_edge.specs.declared.calls.CallCounts.{CallCounts}
use Rattle.outer_edge.specs.declared.calls.CallFault.{CallFault}
use Rattle.outer_edge.specs.declared.calls.CallFault.TheVariants.{Interruption}

-- one more is counted, up to the last value
counted-more : (tries count : ℕ) → tries ≤ count → tries < last_count → tries + 1 ≤ counted count
counted-more tries count above fits = le-min (omega arith) (omega arith)

-- an interrupted call is counted as such
is_interrupted : (between now : CallCounts) (fault : CallFault) → fault ≡ Interruption → now ≡ with_fault fault between
    → now ≡ with_fault Interruption between
is_interrupted between now fault is_fault is_counted = is_counted ∙ ap (λ ended. with_fault ended between) is_fault

-- an interrupted call is no failure
pub no_failure_more : (before : ℕ) (between now : CallCounts) (fault : CallFault) → fault ≡ Interruption
    → now ≡ with_fault fault between → between.failures ≡ before → now.failures ≡ before
no_failure_more before between now fault is_fault is_counted same =
    ap (λ counts. counts.failures) (is_interrupted between now fault is_fault is_counted) ∙ same

-- one interruption more than so many
pub interrupted_more : (between now : CallCounts) (tries : ℕ) (fault : CallFault) → fault ≡ Interruption
    → now ≡ with_fault fault between → tries ≤ between.interruptions → tries < last_count → tries + 1 ≤ now.interruptions
interrupted_more between now tries fault is_fault is_counted above fits =
    let P : ℕ → Type 0 = λ count. tries + 1 ≤ count in
    subst P (sym (ap (λ counts. counts.interruptions) (is_interrupted between now fault is_fault is_counted)))
    (counted-more tries between.interruptions above fits)
