use Rattle.std.proofs.Common.{drop, subst, sym, ap, ◌∙◌}
use Rattle.std.specs.List.{AllByRecursion}
use Rattle.type_processor.specs.Fits.{AreStatesOf, IsTaskOf}
use Rattle.type_processor.specs.Processed.{Processed}
use Rattle.type_processor.specs.Turns.{turned}
use Rattle.type_processor.specs.Processors.{processed}
use Rattle.type_processor.proofs.Soundness.{task_are}
use Rattle.type_processor.proofs.Mailboxes.{all_first, all_later, is_first, is_turned}
use Rattle.type_processor.proofs.processor.Processor.turn.Goals as goal

pub invariant_of-self-2 : goal.invariant_of-self-2
invariant_of-self-2 g c = record {
  states =
      subst (AreStatesOf c.self.inside.kind c.self.inside.last_edit) (sym c.in_ok-notes.ensures.states)
      (task_are c.self.inside.kind c.self.inside.last_edit (g.R.TypeRules.decided c.self.inside.rules) c.self.inside.trackers c.in-Some.task.now
      (g.met.R.TypeRules.keeps_type c.self.inside.rules) c.self.invariant.states
      (all_first (IsTaskOf c.self.inside.kind) c.self.inside.mailbox.items c.in-Some.task.now c.in-Some.ensures.item.3.0 c.in-Some.ensures.lookup c.self.invariant.mailbox));
  mailbox =
      subst (AllByRecursion (IsTaskOf c.self.inside.kind)) (sym c.pop_front.ensures.rest)
      (all_later (IsTaskOf c.self.inside.kind) c.self.inside.mailbox.items c.self.invariant.mailbox);
}

pub returns-clause-ok : goal.returns-clause-ok
returns-clause-ok g c =
    is_turned (g.R.TypeRules.decided c.self.inside.rules) (processed c.self.inside) c.in-Some.task.now (drop 1 c.self.inside.mailbox.items) _
    (is_first c.self.inside.mailbox.items c.in-Some.task.now c.in-Some.ensures.item.3.0 c.in-Some.ensures.lookup)
    (λ i. record {
      kind = c.self.inside.kind;
      rules = c.self.inside.rules;
      mark = c.raised_mark-self-inside.ensures i;
      states = c.in_ok-notes.ensures.states i;
      last_edit = c.self.inside.last_edit;
      mailbox = c.pop_front.ensures.rest i;
    })
    ∙ ap (λ (p : Processed g.row.R.Denot). turned (g.R.TypeRules.decided p.rules) p) c.self.view_is
