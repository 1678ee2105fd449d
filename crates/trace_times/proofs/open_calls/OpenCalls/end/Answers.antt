use Rattle.std.proofs.Common.{◌≡◌, [], None, ap, sym, refl, reverse, arith}
use Rattle.std.proofs.lemmas.List.{length-reverse}
use Rattle.trace_times.specs.Opens.{calls_in, open_calls}
use Rattle.trace_times.proofs.OpenLemmas.{has_calls}
use Rattle.trace_times.proofs.open_calls.OpenCalls.end.Goals as goal

pub returns-in-Some : goal.returns-in-Some
returns-in-Some g c =
    let had : open_calls c.args.self.now c.args.process.now ≡ reverse c.in-Some.stack.items = sym (ap calls_in c.in-Some.ensures.value) in
    record {
      calls = has_calls c.args.process.now c.args.self.now.stacks c.remove.new.self None [] c.remove.ensures.updates refl;
      count = rw had (grind (arith, length-reverse));
    }
