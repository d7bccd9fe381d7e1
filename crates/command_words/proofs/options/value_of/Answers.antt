use Rattle.std.proofs.Common.{◌+◌, sym, ◌∙◌, ap, arith}
use Rattle.std.specs.Option.{option_copied}
use Rattle.command_words.proofs.Places.{found_here, passed_here, no_value}
use Rattle.command_words.proofs.options.value_of.Goals.{then-loop-place-test+else-len-place-gt1, else-loop-place-test}
use Rattle.command_words.proofs.options.value_of.Goals as goal

pub returns-then-eq : goal.returns-then-eq
returns-then-eq c =
    c.get-then-eq.ensures
    ∙ found_here c.args.words.now c.loop-place.place (c.loop-place.place + 1) c.args.name.now c.in_ok-get.field-0.now (omega arith)
    (omega (arith, c.loop-place-test.true, c.if-len-place-gt1.true, c.len-len.ensures))
    (sym c.get.ensures ∙ ap option_copied c.in_ok-get.was) (sym c.if-eq.ensures)
    ∙ c.loop-place.invariant

pub loop-place-preserved : goal.loop-place-preserved
loop-place-preserved c =
    passed_here c.args.words.now c.loop-place.place (c.loop-place.place + 1) (c.loop-place.place + 2) c.args.name.now
    c.in_ok-get.field-0.now (omega arith) (omega arith)
    (omega (arith, c.loop-place-test.true, c.if-len-place-gt1.true, c.len-len.ensures))
    (sym c.get.ensures ∙ ap option_copied c.in_ok-get.was) (sym c.if-eq.ensures)
    ∙ c.loop-place.invariant

pub returns : goal.returns
returns c =
    elim c.loop-place-test.branch [
      | then-loop-place-test+else-len-place-gt1 w ↦
          sym (no_value c.args.words.now c.loop-place.place c.args.name.now
          (omega (arith, w.if-len-place-gt1.false, c.len-len.ensures))) ∙ c.loop-place.invariant
      | else-loop-place-test w ↦
          sym (no_value c.args.words.now c.loop-place.place c.args.name.now
          (omega (arith, w.loop-place-test.false, c.len-len.ensures))) ∙ c.loop-place.invariant
    ]
