use Rattle.std.proofs.Common.{subst}
use Rattle.replay_messages.specs.Forms.{IsPlainCall}
use Rattle.replay_client.proofs.ReplyLemmas.{commit_letter}
use Rattle.replay_client.proofs.letters.letters_in.Goals as goal

pub returns-in_ok-acks-in-Commit-Committed-clause-plain : goal.returns-in_ok-acks-in-Commit-Committed-clause-plain
returns-in_ok-acks-in-Commit-Committed-clause-plain c = record {
  nigori = tt;
  preference = commit_letter c.in-Commit-Committed.entries c.in-Commit-Committed.answers c.in_ok-acks-in-Commit-Committed.acks c.letter_of.result
      (subst IsPlainCall c.in-Commit-Committed.is-0 c.requires.call)
      (rw (c.as_slice.ensures, c.as_slice-in-Commit-Committed.ensures) at c.in_ok-acks-in-Commit-Committed.ensures) c.letter_of.ensures;
  password = tt;
}
