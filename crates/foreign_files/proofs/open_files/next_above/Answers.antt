use Rattle.std.proofs.Common.{◌<◌, Option, List, get_or, take, ⊎_elim, sym, subst}
use Rattle.std.specs.Prelude.{IfSome}
use Rattle.std.proofs.lemmas.List.{take_more}
use Rattle.foreign_files.specs.declared.open_files.OpenFile.{OpenFile}
use Rattle.foreign_files.specs.Disagreeing.{IsOpenFile, IsLeastAbove}
use Rattle.foreign_files.proofs.Opened.{no_open_file, all_at}
use Rattle.foreign_files.proofs.open_files.next_above.Goals as goal

pub loop-file-preserved : goal.loop-file-preserved
loop-file-preserved c =
    let files : List OpenFile = c.args.files.now in
    let i = c.loop-file.file-index in
    let was = c.loop-file.invariant in
    let f : OpenFile = get_or files i no_open_file in
    let next : Option OpenFile = c.nearer-next.result in
    record {
      least = subst (λ (l : List OpenFile). IsLeastAbove c.args.generation l next) (sym (take_more files i no_open_file c.loop-file-test.true)) (c.nearer-next.ensures.least (take i files) was.least);
      is = λ image are. ⊎_elim
          (λ found. subst (λ (o : Option OpenFile). IfSome o (IsOpenFile image)) (sym found) (was.is image are))
          (λ here. subst (λ (o : Option OpenFile). IfSome o (IsOpenFile image)) (sym here) (all_at (IsOpenFile image) files i are.are c.loop-file-test.true))
          c.nearer-next.ensures.either;
      within = λ count are. ⊎_elim
          (λ found. subst (λ (o : Option OpenFile). IfSome o (λ n. n.file < count)) (sym found) (was.within count are))
          (λ here. subst (λ (o : Option OpenFile). IfSome o (λ n. n.file < count)) (sym here) (all_at (λ n. n.file < count) files i are c.loop-file-test.true))
          c.nearer-next.ensures.either;
    }
