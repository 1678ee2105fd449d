use Rattle.std.proofs.Common.{◌++◌, ◌∙◌, ap}
use Rattle.script_runner.specs.Texts.{line_of}
use Rattle.script_runner.proofs.Written.{in_calls}
use Rattle.script_runner.proofs.answers.line.Goals as goal

pub returns : goal.returns
returns c = in_calls (λ line. line.bytes) c.new-line.result c.writeln.new.self _ c.in_ok-writeln.ensures.writes ∙ ap (λ l. l ++ line_of c.args.answer) c.new-line.ensures
