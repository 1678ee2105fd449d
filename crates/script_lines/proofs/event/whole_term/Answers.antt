use Rattle.trace_terms.specs.View.{view}
use Rattle.script_lines.proofs.Terms.{not_whole}
use Rattle.script_lines.proofs.event.whole_term.Goals as goal

pub returns-in-Ok-2 : goal.returns-in-Ok-2
returns-in-Ok-2 c t h = not_whole t (view c.in-Ok.term) c.in-Ok.length c.args.bytes.now c.in-Ok.ensures.found.0 c.if-length-bytes.false c.in-Ok.ensures.found.1 h
