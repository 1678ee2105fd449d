use Rattle.std.proofs.Common.{[], refl}
use Rattle.trace_views.specs.Stacks.{Exits, folding}
use Rattle.trace_views.proofs.StackLemmas.{folded_so, follows, follows_so}
use Rattle.trace_views.proofs.stacks.Stacks.end.Goals as goal

pub returns : goal.returns
returns c before acts was =
    let process = c.args.process.now in
    let spent = c.in_ok-spend.ensures before acts was in
    folded_so before acts (Exits process) _ _ refl (follows c.spend.new.self.opens c.end.new.self (folding before acts) process [] [] c.end.ensures refl (follows_so before acts c.spend.new.self spent)) spent.ends spent.calls
