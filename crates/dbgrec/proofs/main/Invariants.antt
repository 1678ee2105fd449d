use Rattle.std.proofs.Common.{[]}
use Rattle.dbgrec.proofs.main.Given as goal

abbrev pub ghost-serve_words : goal.ghost-serve_words
ghost-serve_words g a = record { start = []; left = []; later = [] }
