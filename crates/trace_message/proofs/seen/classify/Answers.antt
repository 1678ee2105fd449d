use Rattle.std.proofs.Common.{◌≡◌, rules, map}
use Rattle.trace_terms.specs.declared.term.Term.{the_lemmas}
use Rattle.trace_terms.specs.View.{view}
use Rattle.trace_message.specs.Shapes.{kind_of}
use Rattle.trace_message.proofs.KindLemmas.{found_of_parts, kind_found, none_found}
use Rattle.trace_message.proofs.seen.classify.Goals as goal

pub returns-in-Tuple-clause-kind : goal.returns-in-Tuple-clause-kind
returns-in-Tuple-clause-kind c =
    let is : c.parts_kind.result ≡ kind_of (view c.args.term.now) = found_of_parts (map view c.in-Tuple.parts.items) _ _ (search rules) (rw c.in-Tuple.is (search (rules, the_lemmas))) in
    kind_found _ _ is

pub returns-in-Tuple-clause-none : goal.returns-in-Tuple-clause-none
returns-in-Tuple-clause-none c =
    let is : c.parts_kind.result ≡ kind_of (view c.args.term.now) = found_of_parts (map view c.in-Tuple.parts.items) _ _ (search rules) (rw c.in-Tuple.is (search (rules, the_lemmas))) in
    none_found _ _ is
