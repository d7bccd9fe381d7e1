use Rattle.replay_client.proofs.SendingLemmas.{plain_marks}
use Rattle.replay_client.proofs.sending.seen_marks.Goals as goal

pub returns-clause-fit : goal.returns-clause-fit
returns-clause-fit c =
    plain_marks c.args.nigori c.args.preference c.args.password c.push-3.new.self c.ranges.nigori.fits c.ranges.preference.fits c.ranges.password.fits
    (rw (c.in_ok-push-2.ensures.ok, c.in_ok-push.ensures.ok, c.new-marks.ensures) at c.in_ok-push-3.ensures.ok)
