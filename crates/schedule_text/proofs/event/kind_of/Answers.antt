use Rattle.std.proofs.Common.{◌≡◌, ◌∙◌, ap, refl, ℕ, List, [], ◌∷◌, codes}
use Rattle.schedule_text.specs.Refusals.{words_of}
use Rattle.sync_model.specs.Text.{kind_word}
use Rattle.schedule_text.specs.Grammar.{kind_forms}
use Rattle.schedule_text.proofs.Cuts.{not_same}
use Rattle.schedule_text.proofs.KindWords.{no_kind}
use Rattle.schedule_text.proofs.event.kind_of.Goals as goal

pub returns-then-are_same : goal.returns-then-are_same
unfolding kind_word
returns-then-are_same c = ap words_of (c.if-are_same.ensures.0 refl)

pub returns-then-are_same-2 : goal.returns-then-are_same-2
unfolding kind_word
returns-then-are_same-2 c = ap words_of (c.if-are_same-2.ensures.0 refl)

pub returns-then-are_same-3 : goal.returns-then-are_same-3
unfolding kind_word
returns-then-are_same-3 c = ap words_of (c.if-are_same-3.ensures.0 refl)

pub returns-else-are_same-3 : goal.returns-else-are_same-3
returns-else-are_same-3 c =
    let line = c.args.line.now in
    no_kind line (not_same line (codes "nigori") c.if-are_same.ensures.1) (not_same line (codes "preference") c.if-are_same-2.ensures.1) (not_same line (codes "password") c.if-are_same-3.ensures.1)
