use Rattle.prepared_requests.proofs.AheadSights.{by_message, by_drop_rest}
use Rattle.prepared_requests.proofs.ahead_scan.entries_follow.Goals as goal

pub returns-in-Message : goal.returns-in-Message
returns-in-Message c = by_message c.args.longest c.in-Message.size c.message_is_whole.result c.args.bytes.now c.in-Message.ensures c.message_is_whole.ensures

pub returns-in-Drop : goal.returns-in-Drop
returns-in-Drop c = by_drop_rest c.args.longest c.is_whole.result c.args.bytes.now c.in-Drop.ensures c.is_whole.ensures
