use Rattle.std.proofs.Common.{sym, ◌∙◌, arith, ap, length}
use Rattle.replay_client.proofs.SideLemmas.{settles_few}
use Rattle.replay_client.proofs.side.Side.turn.Goals as goal

pub settle-requires : goal.settle-requires
settle-requires g c =
    omega (
      arith,
      c.in_ok-reserve.ensures.ok,
      c.in_ok-reserve.ensures.capacity,
      c.in_ok-reserve.ensures.len,
      c.next_size.ensures,
      ap length c.as_slice.ensures,
      settles_few _ c.args.self.now.processor.states c.args.self.now.processor.mailbox c.in-Turned.notes (sym c.in-Turned.is ∙ c.in_ok-turn.ensures.told),
    )
