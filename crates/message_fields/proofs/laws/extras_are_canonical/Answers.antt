use Rattle.message_fields.proofs.ExtraFields.{extras_are_canonical, extras_stay}
use Rattle.message_fields.proofs.laws.extras_are_canonical.Goals as goal

pub returns-clause-are_canonical : goal.returns-clause-are_canonical
returns-clause-are_canonical c = extras_are_canonical

pub returns-clause-stay : goal.returns-clause-stay
returns-clause-stay c = extras_stay
