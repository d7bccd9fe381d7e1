use Rattle.std.proofs.Common.{refl}
use Rattle.sync_model.specs.Servers.{as_given}
use Rattle.loopback_server.specs.Stores.{entry_of}
use Rattle.loopback_server.proofs.PageLemmas.{page_added, page_full}
use Rattle.loopback_server.proofs.page.Page.add.Goals as goal

pub returns-in_ok-push-clause-page : goal.returns-in_ok-push-clause-page
returns-in_ok-push-clause-page c = λ wanted.
    page_added c.args.self.now _ wanted (as_given c.args.version (entry_of c.args.write.now)) (rw c.as_slice.ensures.value at c.if-as_slice-lt-MAX_UPDATES.true)
    (rw c.in_ok-told_entity.ensures.entity at c.in_ok-push.ensures.items) refl refl

pub returns-else-as_slice-lt-MAX_UPDATES-clause-page : goal.returns-else-as_slice-lt-MAX_UPDATES-clause-page
returns-else-as_slice-lt-MAX_UPDATES-clause-page c = λ wanted.
    page_full c.args.self.now _ wanted (as_given c.args.version (entry_of c.args.write.now)) (rw c.as_slice.ensures.value at c.if-as_slice-lt-MAX_UPDATES.false) refl refl refl
