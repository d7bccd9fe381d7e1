use Rattle.std.proofs.Common.{◌≡◌, true, false}
use Rattle.schedule_text.proofs.Readings.{other_extra}
use Rattle.schedule_text.proofs.text_word.extra_in.Goals as goal

pub returns-then-not-is_canonical_extra : goal.returns-then-not-is_canonical_extra
returns-then-not-is_canonical_extra c =
    let canonical = rw c.as_slice.ensures at c.if-not-is_canonical_extra.ensures in
    other_extra c.args.kind c.args.word.now c.in_ok-extra.extra c.in_ok-extra.ensures.0 c.in_ok-extra.ensures.1 (λ is. let no : false ≡ true = canonical.1 is in cc)
