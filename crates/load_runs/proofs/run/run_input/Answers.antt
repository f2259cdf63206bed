-- The run takes the input whole, unless a limit of the run was met, and its numbers are those of its history.
use Rattle.std.proofs.Common.{◌∙◌, refl, ap}
use Rattle.orb_base.specs.Outside.{SourceState, SinkState}
use Rattle.lane_machine.specs.Histories.{History}
use Rattle.load_runs.specs.Lines.{line_with}
use Rattle.load_runs.proofs.Runs.{runs_load}
use Rattle.load_runs.proofs.run.run_input.Goals as goal

pub returns : goal.returns
returns g c =
    runs_load c.in_ok-piped.piped c.args.setup.now (g.S.Serving.outcome c.args.servants.now) c.args.plan.now c.args.input.items c.is_closed-closed.result c.line_of-line.result
    c.len-taken.result c.bytes.result _ _ _ _ c.requires
    (record { left = ap (λ (s : SourceState). s.left) c.new-source.ensures; sound = refl; still = refl })
    (ap (λ (s : SinkState). s.held) c.new-sink.ensures) refl refl c.in_ok-piped.ensures c.is_closed-closed.ensures c.len-taken.ensures c.bytes.ensures
    (c.line_of-line.ensures ∙ ap (λ (h : History). line_with c.len-taken.result c.bytes.result h) c.as_slice.ensures)
