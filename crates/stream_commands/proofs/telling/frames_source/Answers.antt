use Rattle.stream_commands.proofs.Complete.{stream_ends_well}
use Rattle.stream_commands.proofs.telling.frames_source.Goals as goal

pub returns-in-Err-BadStream-clause-complete : goal.returns-in-Err-BadStream-clause-complete
returns-in-Err-BadStream-clause-complete g c offered calm =
    stream_ends_well (g.S.Source.left c.args.source.now) (g.S.Source.left c.run_frames.new.source) offered c.in-Err-BadStream.field-0 c.in-Err-BadStream.k
    c.in-Err-BadStream.ensures.refusal c.in-Err-BadStream.field-0-is
