use Rattle.std.proofs.Common.{◌≡◌, ◌≤◌, drop, length, map, vec_len, vec_capacity}
use Rattle.tracees.specs.States.{state_of}
use Rattle.tracees.specs.Steps.{AreNumbered}
use Rattle.tracees.proofs.StepByStep.{RunsOn}
use Rattle.tracees.proofs.driving.drive.Given as goal

abbrev pub invariant-loop-step : goal.invariant-loop-step
invariant-loop-step g l =
    let first = state_of g.P.TracePort g.K.Bookkeeping l.fn.desks l.fn.traced in
    let now = state_of g.P.TracePort g.K.Bookkeeping l.desks l.traced in
    record {
      so_far : RunsOn g.P.TracePort.told first now l.steps (drop l.step-index l.steps) l.replies.items;
      numbered : AreNumbered now;
      loans : map (λ d. d.port.ghost_name) l.desks ≡ map (λ d. d.port.ghost_name) l.fn.desks;
      lenders : map (λ d. g.P.TracePort.lender d.port.now) l.desks ≡ map (λ d. g.P.TracePort.lender d.port.now) l.fn.desks;
      count : vec_len l.replies ≡ l.step-index;
      room : length l.steps ≤ vec_capacity l.replies;
    }
