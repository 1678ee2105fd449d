use Rattle.std.proofs.Common.{IsPermutation, subst}
use Rattle.trace_views.specs.Lines.{kind_pairs, line_pairs}
use Rattle.trace_views.specs.Counting.{all_of_function, all_of_process, counted_of_function, counted_of_process, how_many, is_of}
use Rattle.trace_views.specs.Rows.{counts_of_function, counts_of_process}
use Rattle.trace_views.specs.TableObjects.{function_members, kind_members, process_members}
use Rattle.trace_views.proofs.TableLemmas.{all_told, kinds_told}
use Rattle.trace_views.proofs.tallies.Tallies.rows.Goals as goal
use Rattle.trace_views.proofs.tallies.Tallies.rows.Goals.{in-Function+in_ok-lines_of-in-Function, in-Process+in_ok-lines_of-in-Process, in-Kind+in_ok-lines_of_kinds-in-Kind}

pub returns-clause-told : goal.returns-clause-told
returns-clause-told c told counted =
    let tallies = c.args.self.now in
    elim c.match-by.branch [
      | in-Function+in_ok-lines_of-in-Function w ↦
          let lines = all_told counts_of_function all_of_function (λ text. counted_of_function text told) tallies.functions.rows c.has_each_once.ensures counted.functions function_members _ w.in_ok-lines_of-in-Function.ensures in
          rw (w.in-Function.is, w.result-is) record { texts = lines.0; members = lines.1 }
      | in-Process+in_ok-lines_of-in-Process w ↦
          let lines = all_told counts_of_process all_of_process (λ text. counted_of_process text told) tallies.processes.rows c.has_each_once-2.ensures counted.processes process_members _ w.in_ok-lines_of-in-Process.ensures in
          rw (w.in-Process.is, w.result-is) record { texts = lines.0; members = lines.1 }
      | in-Kind+in_ok-lines_of_kinds-in-Kind w ↦
          let lines = kinds_told (λ word. how_many (is_of word) told) kind_members tallies.kinds.rows.items _ counted.kinds (subst (λ rows. IsPermutation (kind_pairs rows) (line_pairs w.in_ok-lines_of_kinds-in-Kind.field-0.items)) w.deref.ensures.value w.in_ok-lines_of_kinds-in-Kind.ensures) in
          rw (w.in-Kind.is, w.result-is) record { texts = lines.0; members = lines.1 }
    ]
