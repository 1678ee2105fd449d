use Rattle.std.proofs.Common.{◌≡◌, ◌≤◌, ◌++◌, length, drop}
use Rattle.trace_terms.specs.View.{members_view}
use Rattle.ext_format.specs.Canonical.{canonical_forms}
use Rattle.ext_format.specs.Fits.{AllFit}
use Rattle.ext_format.proofs.writing.+writing.Given as goal

abbrev pub invariant-put_forms-loop-member : goal.invariant-put_forms-loop-member
invariant-put_forms-loop-member l = record {
  shorter : length (canonical_forms (members_view (drop l.member-index l.member-items))) ≤ length (canonical_forms (members_view l.member-items));
  written : l.out.items ++ canonical_forms (members_view (drop l.member-index l.member-items)) ≡ l.fn.out.items ++ canonical_forms (members_view l.member-items);
  fits : AllFit (members_view (drop l.member-index l.member-items)) → AllFit (members_view l.member-items);
}
