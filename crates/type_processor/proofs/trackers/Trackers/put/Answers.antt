use Rattle.std.proofs.Common.{◌∙◌, ap, sym}
use Rattle.std.specs.Prelude.{is_some}
use Rattle.std.specs.Option.{option_map}
use Rattle.type_processor.specs.Keyed.{states_of, key_of}
use Rattle.type_processor.proofs.KeyedEntries.{keyed_insert, states_insert, found_tracker, found_some, same_hashes, any_err}
use Rattle.type_processor.proofs.trackers.Trackers.put.Goals as goal

pub invariant_of-self-2 : goal.invariant_of-self-2
invariant_of-self-2 c =
    rw c.in_ok-insert.ensures.entries
    (keyed_insert c.self.inside.map.entries c.hash.result c.args.tracker (sym c.hash.ensures) c.self.invariant)

pub returns-clause-ok : goal.returns-clause-ok
returns-clause-ok c =
    rw (← c.self.view_is, ← c.hash.ensures)
    (ap states_of c.in_ok-insert.ensures.entries ∙ states_insert c.self.inside.map.entries c.hash.result c.args.tracker)

pub returns-clause-before : goal.returns-clause-before
returns-clause-before c =
    rw (← c.self.view_is, ← c.hash.ensures)
    (ap (option_map key_of) c.in_ok-insert.ensures.old ∙ found_tracker c.self.inside.map.entries c.hash.result c.self.invariant)

pub returns-clause-kept : goal.returns-clause-kept
returns-clause-kept c =
    rw (← c.self.view_is)
    (λ there. same_hashes c.self.inside.map.entries c.insert.new.self.entries (c.in_ok-insert.ensures.keys_stay there))

pub returns-in_err-insert-clause-absent : goal.returns-in_err-insert-clause-absent
returns-in_err-insert-clause-absent c =
    any_err c.from_residual.result
    (rw (← c.self.view_is, ← c.hash.ensures)
    (sym (found_some c.self.inside.map.entries c.hash.result c.self.invariant) ∙ ap is_some c.in_err-insert.ensures.absent))
