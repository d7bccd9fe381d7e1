-- What a processor stands for.
use Rattle.std.specs.List.{AllByRecursion}
use Rattle.type_processor.specs.declared.processor.Processor.TheInside.{Inside}
use Rattle.type_processor.specs.Fits.{IsTaskOf, AreStatesOf}
use Rattle.type_processor.specs.Processed.{Processed}

-- what a processor has of its type
abbrev pub processed : {Rules : Type 0} → Inside Rules → Processed Rules
processed processor = record {
  kind = processor.kind;
  rules = processor.rules;
  mark = processor.mark;
  states = processor.trackers;
  last_edit = processor.last_edit;
  mailbox = processor.mailbox.items;
}

-- each state and each task is of the type, and no edit has a number above the last one
pub record IsProcessor {Rules : Type 0} (processor : Inside Rules) : Type 0 where
  pub states : AreStatesOf processor.kind processor.last_edit processor.trackers
  pub mailbox : AllByRecursion (IsTaskOf processor.kind) processor.mailbox.items
