use Rattle.std.proofs.Common.{inl, inr}
use Rattle.prepared_requests.specs.Ahead.{from}
use Rattle.prepared_requests.proofs.AheadBegins.{begins_as_asked}
use Rattle.prepared_requests.proofs.ahead.passed_over.Goals as goal

pub returns-in_ok-place-in-Keep-clause-begins : goal.returns-in_ok-place-in-Keep-clause-begins
returns-in_ok-place-in-Keep-clause-begins g c = from c.in_ok-place-in-Keep.place c.in-Keep.is c.in_ok-place-in-Keep.ensures.ahead

pub returns-in_default-clause-begins : goal.returns-in_default-clause-begins
returns-in_default-clause-begins g c = begins_as_asked c.args.rules (g.I.Read.remaining c.args.input.now) c.args.bytes.now.items (inr c.if-rules.false) c.requires

pub returns-in_default-2-clause-begins : goal.returns-in_default-2-clause-begins
returns-in_default-2-clause-begins g c = begins_as_asked c.args.rules (g.I.Read.remaining c.args.input.now) c.args.bytes.now.items (inl c.in_default.is) c.requires
