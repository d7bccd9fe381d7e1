-- Where a text spells one thing at most, and none that is refused, one answer is right.
use Rattle.std.proofs.Common.{◌≡◌, ℕ, Result, Ok, Err, MatchResult, ap, ◌∙◌}
use Rattle.schedule_text.specs.declared.fault.LineReason.{LineReason}
use Rattle.schedule_text.specs.declared.fault.ParseFault.{ParseFault}
use Rattle.schedule_text.specs.declared.fault.ParseFault.TheVariants.{BadLine, NoMemory}
use Rattle.schedule_text.specs.Answers.{IsFaultOf, IsUnlessNoMemory}

-- what a text spells, and where it is refused
pub is_taken : {A : Type 0} (spells : A → Type 0) (is_refused : ℕ → LineReason → Type 0) → ((one other : A) → spells one → spells other → one ≡ other) → ((value : A) (line : ℕ) (reason : LineReason) → spells value → is_refused line reason → ⊥) → (r : Result A ParseFault) → MatchResult r spells (λ fault. IsFaultOf is_refused fault) → (value : A) → spells value → IsUnlessNoMemory r (Ok value)
is_taken spells is_refused one_value never_both (Ok found) right value is = ap Ok (one_value found value right is)
is_taken spells is_refused one_value never_both (Err (BadLine line reason)) right value is = absurd (never_both value line reason is right)
is_taken spells is_refused one_value never_both (Err NoMemory) right value is = tt

pub is_told : {A : Type 0} (spells : A → Type 0) (is_refused : ℕ → LineReason → Type 0) → ((line other_line : ℕ) (reason other_reason : LineReason) → is_refused line reason → is_refused other_line other_reason → (line ≡ other_line) × (reason ≡ other_reason)) → ((value : A) (line : ℕ) (reason : LineReason) → spells value → is_refused line reason → ⊥) → (r : Result A ParseFault) → MatchResult r spells (λ fault. IsFaultOf is_refused fault) → (line : ℕ) (reason : LineReason) → is_refused line reason → IsUnlessNoMemory r (Err (BadLine line reason))
is_told spells is_refused one_line never_both (Ok found) right line reason refused = absurd (never_both found line reason right refused)
is_told spells is_refused one_line never_both (Err (BadLine place why)) right line reason refused =
    let same = one_line place line why reason right refused in
    ap (λ (n : ℕ). Err (BadLine n why)) same.0 ∙ ap (λ (w : LineReason). Err (BadLine line w)) same.1
is_told spells is_refused one_line never_both (Err NoMemory) right line reason refused = tt
