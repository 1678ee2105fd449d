use Rattle.std.proofs.Common.{◌∙◌, ap, reverse, sym}
use Rattle.std.specs.Option.{unwrap_or}
use Rattle.trace_times.proofs.open_calls.come_back.Goals as goal

pub returns-in-Some-clause-is : goal.returns-in-Some-clause-is
returns-in-Some-clause-is g c =
    ap (λ l. reverse l) c.truncate.ensures.items ∙ sym (ap (λ o. unwrap_or o (reverse c.args.stack.now.items)) (rw c.in-Some.is at c.newest_place.ensures.from))
