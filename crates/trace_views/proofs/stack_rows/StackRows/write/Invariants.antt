use Rattle.std.proofs.Common.{map}
use Rattle.std.specs.Io.KnownBytes.{Appends}
use Rattle.std.specs.Map.Iter.{deref_pair}
use Rattle.trace_views.specs.Stacks.{lines_of}
use Rattle.trace_views.proofs.stack_rows.StackRows.write.Given as goal

abbrev pub invariant-loop-text : goal.invariant-loop-text
invariant-loop-text g l = Appends (g.W.Write.contents l.initial.out) (g.W.Write.contents l.out) (lines_of l.is_timed (map deref_pair l.yielded))
