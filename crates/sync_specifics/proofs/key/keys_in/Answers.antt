use Rattle.std.proofs.Common.{[], ◌∷◌, ◌++◌, ap, ◌∙◌}
use Rattle.std.proofs.lemmas.List.{drop_more}
use Rattle.message_fields.specs.Faults.{first_of}
use Rattle.sync_specifics.proofs.KeyLemmas.{one_key, all_keys}
use Rattle.sync_specifics.proofs.key.keys_in.Goals as goal

pub loop-part-preserved : goal.loop-part-preserved
loop-part-preserved c =
    one_key c.args.input.now c.args.parts.now c.loop-part.part-index _ c.in_ok-key.key c.loop-part.fault c.first_of-fault.result
    c.loop-part.keys.items c.push.new.self.items (drop_more c.args.parts.now c.loop-part.part-index _ c.loop-part-test.true)
    c.loop-part.invariant c.in_ok-key.ensures.reading (c.first_of-fault.ensures ∙ ap (first_of c.loop-part.fault) c.key_fault.ensures)
    (c.in_ok-push.ensures.items ∙ ap (λ key. c.loop-part.keys.items ++ key ∷ []) c.key_in.ensures)

pub returns : goal.returns
returns c =
    all_keys c.args.input.now c.args.parts.now c.loop-part.part-index c.loop-part.fault c.loop-part.keys.items
    c.loop-part-test.false c.loop-part.invariant
