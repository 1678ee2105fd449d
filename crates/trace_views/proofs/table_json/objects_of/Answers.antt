use Rattle.std.proofs.Common.{map, subst}
use Rattle.std.proofs.lemmas.Iterator.{YieldsList-from_slice, YieldsList-from_take}
use Rattle.std.proofs.lemmas.Iterator.Consumers.{YieldsList-end}
use Rattle.std.proofs.lemmas.List.{map-append, take-map}
use Rattle.std.proofs.lemmas.Slice.Zip.{all_zipped_more}
use Rattle.std.specs.List.{AllZip}
use Rattle.serde_json.specs.View.{view}
use Rattle.trace_views.specs.Lines.{line_pairs}
use Rattle.trace_views.specs.TableObjects.{HasMembers}
use Rattle.trace_views.proofs.TableLemmas.{flat_push}
use Rattle.trace_views.proofs.table_json.objects_of.Goals as goal

pub loop-line-preserved : goal.loop-line-preserved
loop-line-preserved g c =
    rw c.in_ok-push.ensures.items record {
      told = simp map-append (all_zipped_more HasMembers _ _ _ _ c.loop-line.invariant.told c.in_ok-to_object.ensures.told);
      flat = flat_push 1 _ _ c.loop-line.invariant.flat c.in_ok-to_object.ensures.flat;
    }

pub returns-clause-told : goal.returns-clause-told
returns-clause-told g c =
    let all = YieldsList-end (YieldsList-from_take c.args.limit (YieldsList-from_slice c.args.lines.now cc) cc) c.loop-line.yielded c.loop-line.line-iterator c.loop-line.yielded_by c.next.result c.next.new.self c.in-None.is c.next.ensures.steps in
    simp take-map (subst (λ lines. AllZip HasMembers (map (λ line. g.R.Told.members line.0 line.1) (line_pairs lines)) (map view c.loop-line.objects.items)) all.0 c.loop-line.invariant.told)
