-- The replies to the frames so far are written and flushed, and no call has failed.
use Rattle.std.proofs.Common.{[]}
use Rattle.host_core.specs.Served.{RepliesToFrames, NoCallFailed, IsFlushedAgain, stream_state}
use Rattle.host_core.proofs.server.serve.Given as goal

abbrev pub invariant-loop-frames : goal.invariant-loop-frames
invariant-loop-frames g l = record {
  answered : RepliesToFrames
      (stream_state g.R.Source g.W.Sink l.initial.host.states l.initial.reader l.initial.writer)
      (stream_state g.R.Source g.W.Sink l.host.states l.reader l.writer)
      l.frames [];
  sound : NoCallFailed
      (stream_state g.R.Source g.W.Sink l.initial.host.states l.initial.reader l.initial.writer)
      (stream_state g.R.Source g.W.Sink l.host.states l.reader l.writer);
  flushed : IsFlushedAgain
      (stream_state g.R.Source g.W.Sink l.initial.host.states l.initial.reader l.initial.writer)
      (stream_state g.R.Source g.W.Sink l.host.states l.reader l.writer);
}
