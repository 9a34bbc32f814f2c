-- `serve`: each turn serves one more frame, by the contract of `serve_frame`. By cases of how the call ends (no memory, the end of the
-- input, a fault in a frame, or the limit, with its three results of `is_at_end`), what was read and written is what `ServesStream` says;
-- what each tenant gets is by the law `calls_are_served_alone`.
use Rattle.std.proofs.Common.{◌≡◌, refl, subst, arith}
use Rattle.host_core.specs.inside.Frame.{ServesFrameOrEnds}
use Rattle.host_core.proofs.Serving.{answered_none, ends_served, ends_stopped, ends_unread, frame_done, end_done}
use Rattle.host_core.proofs.Serving.{end_stays_flushed, frame_stays_flushed, frame_is_no_limit, frame_more, frame_stops, end_more, end_fails}
use Rattle.host_core.proofs.server.serve.Goals as goal

pub loop-frames-init : goal.loop-frames-init
loop-frames-init g c = record {
  answered = answered_none _;
  sound = (refl, refl);
  flushed = record { again = λ first. first };
}

pub loop-frames-preserved : goal.loop-frames-preserved
loop-frames-preserved g c =
    let more =
    frame_more _ _ _ c.loop-frames.frames c.loop-frames.invariant.answered
    c.loop-frames.invariant.sound
    (subst (ServesFrameOrEnds _ _) c.in-Ok-true.field-0-test c.in-Ok-true.ensures.done) in
    record { answered = more.0; sound = more.1; flushed = more.2 }

pub returns-in_default : goal.returns-in_default
returns-in_default g c = ends_unread c.args.limit _

pub returns-in-Ok-false : goal.returns-in-Ok-false
returns-in-Ok-false g c =
    ends_served c.calls_are_served_alone.ensures c.args.limit c.loop-frames.frames _ _ (omega arith)
    (end_stays_flushed _ _ _ c.loop-frames.invariant.flushed
    (subst (ServesFrameOrEnds _ _) c.in-Ok-false.field-0-test c.in-Ok-false.ensures.done))
    (frame_done _ _ _ c.loop-frames.frames c.loop-frames.invariant.answered
    c.loop-frames.invariant.sound
    (subst (ServesFrameOrEnds _ _) c.in-Ok-false.field-0-test c.in-Ok-false.ensures.done))

pub returns-in-Err : goal.returns-in-Err
returns-in-Err g c =
    ends_stopped c.calls_are_served_alone.ensures c.args.limit _ _ _ (omega arith)
    (frame_stays_flushed _ _ _ c.in-Err.kind c.loop-frames.invariant.flushed c.in-Err.ensures.fault)
    (λ cut. omega arith)
    (frame_is_no_limit _ _ c.in-Err.kind c.in-Err.ensures.fault)
    (frame_stops _ _ _ c.in-Err.kind c.loop-frames.frames c.loop-frames.invariant.answered
    c.loop-frames.invariant.sound c.in-Err.ensures.fault)

pub returns-in-Ok-true-is_at_end : goal.returns-in-Ok-true-is_at_end
returns-in-Ok-true-is_at_end g c =
    let same : c.loop-frames.frames ≡ c.args.limit = omega arith in
    let (read, end) = c.in-Ok-true-is_at_end.ensures.end c.in-Ok-true-is_at_end.field-0-test in
    ends_served c.calls_are_served_alone.ensures c.args.limit c.args.limit _ _ (omega arith)
    (record { again = c.loop-frames.invariant.flushed.again })
    (end_done _ _ _ c.loop-frames.frames c.args.limit same c.loop-frames.invariant.answered
    c.loop-frames.invariant.sound read refl refl refl end
    (c.in-Ok-true-is_at_end.ensures.sound, refl))

pub returns-in-Ok-false-is_at_end : goal.returns-in-Ok-false-is_at_end
returns-in-Ok-false-is_at_end g c =
    let same : c.loop-frames.frames ≡ c.args.limit = omega arith in
    let (byte, read) = c.in-Ok-false-is_at_end.ensures.more c.in-Ok-false-is_at_end.field-0-test in
    ends_stopped c.calls_are_served_alone.ensures c.args.limit _ _ _ (omega arith)
    (λ other. record { again = c.loop-frames.invariant.flushed.again })
    (λ cut. cc cut) (λ full. refl)
    (end_more _ _ _ c.loop-frames.frames c.args.limit byte same c.loop-frames.invariant.answered
    c.loop-frames.invariant.sound read refl refl refl (c.in-Ok-false-is_at_end.ensures.sound, refl))

pub returns : goal.returns
returns g c =
    let same : c.loop-frames.frames ≡ c.args.limit = omega arith in
    ends_stopped c.calls_are_served_alone.ensures c.args.limit _ _ _ (omega arith)
    (λ other. record { again = c.loop-frames.invariant.flushed.again })
    (λ cut. cc (cut, c.in-Err-is_at_end.ensures.kind)) (λ full. refl)
    (end_fails _ _ _ c.loop-frames.frames c.args.limit c.in-Err-is_at_end.kind
    c.in-Err-is_at_end.ensures.kind same c.loop-frames.invariant.answered
    c.loop-frames.invariant.sound c.in-Err-is_at_end.ensures.failed.0
    refl refl refl c.in-Err-is_at_end.ensures.failed.1)
