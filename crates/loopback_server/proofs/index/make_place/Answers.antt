use Rattle.std.proofs.Common.{sym, ap, ◌∙◌, Some}
use Rattle.std.specs.Prelude.{is_some}
use Rattle.loopback_server.proofs.Ties.{same_lookup, updated, own_place, kept_place, same_versions}
use Rattle.loopback_server.proofs.index.make_place.Goals as goal

pub returns-in_ok-insert-clause-has_place : goal.returns-in_ok-insert-clause-has_place
returns-in_ok-insert-clause-has_place c =
    own_place c.args.index.now.entries c.insert.new.self.entries c.args.key 0
    (updated c.args.index.now.entries c.insert.new.self.entries c.args.key (Some 0) c.in_ok-insert.ensures.updates.0)

pub returns-in_ok-insert-clause-same : goal.returns-in_ok-insert-clause-same
returns-in_ok-insert-clause-same c =
    same_versions c.args.index.now.entries c.insert.new.self.entries c.args.key
    (ap is_some (sym (same_lookup c.args.index.now.entries c.args.key)) ∙ sym c.contains_key.ensures ∙ c.if-not-contains_key.true)
    (updated c.args.index.now.entries c.insert.new.self.entries c.args.key (Some 0) c.in_ok-insert.ensures.updates.0)

pub returns-in_ok-insert-clause-kept : goal.returns-in_ok-insert-clause-kept
returns-in_ok-insert-clause-kept c =
    kept_place c.args.index.now.entries c.insert.new.self.entries c.args.key 0
    (updated c.args.index.now.entries c.insert.new.self.entries c.args.key (Some 0) c.in_ok-insert.ensures.updates.0)

pub returns-else-not-contains_key-clause-has_place : goal.returns-else-not-contains_key-clause-has_place
returns-else-not-contains_key-clause-has_place c =
    ap is_some (sym (same_lookup c.args.index.now.entries c.args.key)) ∙ sym c.contains_key.ensures ∙ c.if-not-contains_key.false
