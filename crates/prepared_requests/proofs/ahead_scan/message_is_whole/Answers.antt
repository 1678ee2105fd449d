use Rattle.std.proofs.Common.{◌+◌, subst}
use Rattle.std.proofs.lemmas.List.{take_rest}
use Rattle.prepared_requests.specs.Ahead.{IsUnbegun, too_long, part, none_behind}
use Rattle.prepared_requests.proofs.AheadSights.{may_begin_stream}
use Rattle.prepared_requests.proofs.ahead_scan.message_is_whole.Goals as goal

pub returns-then-longest-size : goal.returns-then-longest-size
returns-then-longest-size c = too_long c.args.size c.requires c.if-longest-size.true

pub returns-then-bytes-end : goal.returns-then-bytes-end
returns-then-bytes-end c = part c.args.size c.requires c.if-longest-size.false c.if-bytes-end.true

pub returns-in-Never : goal.returns-in-Never
returns-in-Never c = none_behind c.args.size c.requires c.if-bytes-end.false (subst IsUnbegun (take_rest c.args.bytes.now (5 + c.args.size)) c.in-Never.ensures)

pub returns-in_default : goal.returns-in_default
returns-in_default c = record {
  size = c.args.size;
  begins = c.requires;
  kept = c.if-longest-size.false;
  whole = c.if-bytes-end.false;
  behind = may_begin_stream c.begins.result c.args.bytes.now (5 + c.args.size) c.begins.ensures c.in_default.not-Never;
}
