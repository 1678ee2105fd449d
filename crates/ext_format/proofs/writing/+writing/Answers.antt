use Rattle.std.proofs.Common.{◌≡◌, ℕ, ◌+◌, List, ◌++◌, ◌∷◌, [], vec_len, length, ap, sym, ◌∙◌, append_assoc, arith, rules}
use Rattle.std.proofs.lemmas.Grind.{common_steps}
use Rattle.std.proofs.lemmas.Result.{on_ok_weaker}
use Rattle.std.specs.Int.{w16, w32, to_be_bytes}
use Rattle.trace_terms.specs.View.{view, members_view}
use Rattle.ext_format.specs.Members.{member_count}
use Rattle.ext_format.specs.Canonical.{arity_form, byte_values, canonical_form, canonical_forms}
use Rattle.ext_format.proofs.Sizes.{list_form-empty, list_form-string, list_form-other, length-list_form-other, length-tuple, member_count_le, is_string-short, is_string-bytes, three_pieces, four_pieces}
use Rattle.ext_format.proofs.Fitting.{on_ok_always, bytes_fit}
use Rattle.ext_format.proofs.Seen.{view-Tuple, counted_vec, some_members, no_members_in}
use Rattle.ext_format.proofs.writing.+writing.Goals as goal

pub put_form-put_arity-requires : goal.put_form-put_arity-requires
put_form-put_arity-requires t c =
    let v = c.in-Tuple.members in
    let ts = members_view v.items in
    let e : length (canonical_form (view c.args.term.now)) ≡ length (arity_form (vec_len v)) + length (canonical_forms ts) = rw (c.in-Tuple.is, view-Tuple v, length-tuple ts, counted_vec v) in
    omega (arith, e, member_count_le ts, counted_vec v, c.len.ensures, c.requires)

pub put_form-returns-in_ok-put_arity-in-Tuple-clause-written : goal.put_form-returns-in_ok-put_arity-in-Tuple-clause-written
put_form-returns-in_ok-put_arity-in-Tuple-clause-written t c =
    let v = c.in-Tuple.members in
    let ts = members_view v.items in
    let out = c.args.out.now.items in
    let is : canonical_form (view c.args.term.now) ≡ arity_form (vec_len v) ++ canonical_forms ts = rw (c.in-Tuple.is, view-Tuple v, counted_vec v) in
    let joined = append_assoc out (arity_form (vec_len v)) (canonical_forms ts) in
    on_ok_weaker c.put_forms.result (λ (e : c.put_forms.new.out.items ≡ c.put_arity.new.out.items ++ canonical_forms ts). cc (c.in_ok-put_arity-in-Tuple.ensures, c.len.ensures, is, joined)) c.put_forms.ensures.written

pub put_list-returns-then-is_empty-clause-written : goal.put_list-returns-then-is_empty-clause-written
put_list-returns-then-is_empty-clause-written t c =
    let v = c.args.members.now in
    let ts = members_view v.items in
    let e = list_form-empty ts (canonical_forms ts) (no_members_in v c.is_empty.result c.is_empty.ensures c.if-is_empty.true) in
    rw e (grind (arith, common_steps))

pub put_list-overflow_cast-len : goal.put_list-overflow_cast-len
put_list-overflow_cast-len t c =
    let v = c.args.members.now in
    let short = is_string-short (members_view v.items) (sym c.is_string.ensures ∙ c.if-is_string.true) in
    omega (arith, short, counted_vec v)

pub put_list-returns-then-is_string-clause-written : goal.put_list-returns-then-is_string-clause-written
put_list-returns-then-is_string-clause-written t c =
    let v = c.args.members.now in
    let ts = members_view v.items in
    let some = some_members v c.is_empty.result c.is_empty.ensures c.if-is_empty.false in
    let is = list_form-string ts (canonical_forms ts) some (sym c.is_string.ensures ∙ c.if-is_string.true) in
    let count : c.to_be_bytes.result ≡ to_be_bytes w16 (member_count ts) = c.to_be_bytes.ensures ∙ ap (to_be_bytes w16) (c.len.ensures ∙ sym (counted_vec v)) in
    let joined = three_pieces c.args.out.now.items 107 (to_be_bytes w16 (member_count ts)) (byte_values ts) in
    let before : c.extend_from_slice.new.self.items ≡ (c.args.out.now.items ++ 107 ∷ []) ++ to_be_bytes w16 (member_count ts) =
    c.in_ok-extend_from_slice.ensures.items ∙ ap (λ (x : List ℕ). c.push-then-is_string.new.self.items ++ x) count ∙ ap (λ (x : List ℕ). x ++ to_be_bytes w16 (member_count ts)) c.in_ok-push-2.ensures.items in
    on_ok_weaker c.put_bytes.result (λ (e : c.put_bytes.new.out.items ≡ c.extend_from_slice.new.self.items ++ byte_values ts).
    e ∙ ap (λ (x : List ℕ). x ++ byte_values ts) before ∙ joined ∙ ap (λ (x : List ℕ). c.args.out.now.items ++ x) (sym is)) c.put_bytes.ensures

pub put_list-returns-then-is_string-clause-fits : goal.put_list-returns-then-is_string-clause-fits
put_list-returns-then-is_string-clause-fits t c =
    let ts = members_view c.args.members.now.items in
    on_ok_always c.put_bytes.result (bytes_fit ts (is_string-bytes ts (sym c.is_string.ensures ∙ c.if-is_string.true)))

pub put_list-overflow_cast-len-2 : goal.put_list-overflow_cast-len-2
put_list-overflow_cast-len-2 t c =
    let v = c.args.members.now in
    let ts = members_view v.items in
    let some = some_members v c.is_empty.result c.is_empty.ensures c.if-is_empty.false in
    let e = length-list_form-other ts (canonical_forms ts) some (sym c.is_string.ensures ∙ c.if-is_string.false) in
    omega (arith, e, member_count_le ts, counted_vec v, c.requires)

pub put_list-put_forms-requires : goal.put_list-put_forms-requires
put_list-put_forms-requires t c =
    let v = c.args.members.now in
    let ts = members_view v.items in
    let some = some_members v c.is_empty.result c.is_empty.ensures c.if-is_empty.false in
    let e = length-list_form-other ts (canonical_forms ts) some (sym c.is_string.ensures ∙ c.if-is_string.false) in
    (search rules, omega (arith, e, c.requires))

pub put_list-returns-clause-written : goal.put_list-returns-clause-written
put_list-returns-clause-written t c =
    let v = c.args.members.now in
    let ts = members_view v.items in
    let out = c.args.out.now.items in
    let forms = canonical_forms ts in
    let some = some_members v c.is_empty.result c.is_empty.ensures c.if-is_empty.false in
    let is = list_form-other ts forms some (sym c.is_string.ensures ∙ c.if-is_string.false) in
    let n = to_be_bytes w32 (member_count ts) in
    let count : c.to_be_bytes-2.result ≡ n = c.to_be_bytes-2.ensures ∙ ap (to_be_bytes w32) (c.len-2.ensures ∙ sym (counted_vec v)) in
    let joined = four_pieces out 108 n forms (106 ∷ []) in
    let before : c.extend_from_slice-2.new.self.items ≡ (out ++ 108 ∷ []) ++ n =
    c.in_ok-extend_from_slice-2.ensures.items ∙ ap (λ (x : List ℕ). c.push-2.new.self.items ++ x) count ∙ ap (λ (x : List ℕ). x ++ n) c.in_ok-push-3.ensures.items in
    let written : c.put_forms.new.out.items ≡ ((out ++ 108 ∷ []) ++ n) ++ forms = c.in_ok-put_forms.ensures.written ∙ ap (λ (x : List ℕ). x ++ forms) before in
    c.in_ok-push-4.ensures.items ∙ ap (λ (x : List ℕ). x ++ 106 ∷ []) written ∙ joined ∙ ap (λ (x : List ℕ). out ++ x) (sym is)
