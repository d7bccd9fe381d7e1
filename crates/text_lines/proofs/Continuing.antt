-- A text that goes on goes on however often something is added.
use Rattle.std.proofs.Common.{◌≡◌, ℕ, List, ◌++◌, ◌∙◌, ap, append_assoc}
use Rattle.text_lines.specs.Continued.{Continues}

-- a text to which a text was added, and then more
pub continues_after : (old text between new : List ℕ) → between ≡ old ++ text → Continues between new → Continues old new
continues_after old text between new e begun =
    record { more = text ++ begun.more; is = begun.is ∙ ap (λ t. t ++ begun.more) e ∙ append_assoc old text begun.more }
