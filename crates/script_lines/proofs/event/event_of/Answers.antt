use Rattle.script_lines.proofs.event.event_of.Goals as goal

pub returns-in-Call : goal.returns-in-Call
returns-in-Call c = rw c.in-Call.is c.call.ensures

pub returns-in-Return : goal.returns-in-Return
returns-in-Return c = rw c.in-Return.is c.return_from.ensures

pub returns-in-Exception : goal.returns-in-Exception
returns-in-Exception c = rw c.in-Exception.is c.exception_from.ensures

pub returns-in-Send : goal.returns-in-Send
returns-in-Send c = rw c.in-Send.is c.send.ensures

pub returns-in-SendLost : goal.returns-in-SendLost
returns-in-SendLost c = rw c.in-SendLost.is c.send_lost.ensures

pub returns-in-Receive : goal.returns-in-Receive
returns-in-Receive c = rw c.in-Receive.is c.receive.ensures
