use Rattle.std.proofs.Common.{◌∙◌, arith}
use Rattle.stream_board.specs.Steps.{kept_half}
use Rattle.stream_board.proofs.SplitJoin.{shares_of, splits, joins}
use Rattle.stream_board.proofs.worker.+spreads.Goals as goal

pub split_seat-theirs-requires : goal.split_seat-theirs-requires
split_seat-theirs-requires g t c = (
  c.requires.own,
  omega (arith, c.requires.two_words),
  splits c.args.worker.id c.args.worker.me.0 c.requires.worker.idle c.requires.no_miss (omega (arith, c.requires.enough, c.if-workers-lt2.false)),
)

pub join_seat-requires : goal.join_seat-requires
join_seat-requires g t c =
    let one = c.join-mine.ensures.first in
    let other = c.join-mine.ensures.second in
    let cut = c.split_seat-theirs.ensures in
    let shares = one.worker.has_shares in
    let half = shares_of c.split_seat-theirs.new.seat.me (kept_half c.args.worker.me.0) c.args.worker.me.1 cut.2 in (
      one.own ∙ cut.0 ∙ c.requires.own,
      other.own ∙ cut.3 ∙ c.requires.own,
      other.worker.none_held,
      omega (arith, c.requires.two_words),
      joins c.join-mine.result.0.id c.join-mine.result.0.me.0 c.join-mine.result.1.id c.join-mine.result.1.me.0 one.worker.idle other.worker.idle
          (omega (arith, shares, half, c.requires.enough, c.if-workers-lt2.false)),
    )
