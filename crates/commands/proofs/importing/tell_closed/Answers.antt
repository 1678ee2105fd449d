use Rattle.script_runner.proofs.Written.{appends_none}
use Rattle.commands.proofs.importing.tell_closed.Goals as goal

pub returns-in-Left-clause-text : goal.returns-in-Left-clause-text
returns-in-Left-clause-text g c = rw c.in-Left.is (appends_none (g.W.Write.contents c.args.answers.now.writer.now))
