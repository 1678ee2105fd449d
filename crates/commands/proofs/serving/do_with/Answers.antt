use Rattle.commands.proofs.serving.do_with.Goals as goal

pub returns-in-Asked : goal.returns-in-Asked
returns-in-Asked g c = rw c.in-Asked.is c.serve_trace.ensures

pub returns-in-Followed : goal.returns-in-Followed
returns-in-Followed g c = rw c.in-Followed.is c.serve_following.ensures
