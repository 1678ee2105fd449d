use Rattle.tracees.specs.States.{state_of}
use Rattle.tracees.specs.Steps.{AreNumbered}
use Rattle.tests_desks.proofs.refused_memory_steps.run_all.Given as goal

abbrev pub invariant-loop-port : goal.invariant-loop-port
invariant-loop-port g l = AreNumbered (state_of g.P.TracePort Rattle.tracees.specs.contracts.book.PlainBookBookkeeping.TheImpl.ghosts l.desks.items l.traced.items)
