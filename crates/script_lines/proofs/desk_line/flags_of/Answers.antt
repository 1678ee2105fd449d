use Rattle.std.proofs.Common.{refl, codes, sym}
use Rattle.std.proofs.lemmas.Slice.Eq.{bytes_eq-Decides}
use Rattle.script_lines.proofs.Numbers.{not_dash, some_length}
use Rattle.script_lines.proofs.Flags.{dash, no_letters, flags_found}
use Rattle.script_lines.proofs.desk_line.flags_of.Goals as goal

pub returns-then-eq : goal.returns-then-eq
returns-then-eq c = dash c.args.word.now _ ((bytes_eq-Decides c.args.word.now (codes "-")).0 (sym c.if-eq.ensures)) no_letters

pub returns : goal.returns
returns c = flags_found c.args.word.now c.as_bytes.result.now c.flags_among.result c.as_bytes.ensures.value (not_dash c.args.word.now _ c.eq.ensures c.if-eq.false) (some_length c.args.word.now c.args.word.now refl c.if-is_empty.ensures) c.flags_among.ensures
