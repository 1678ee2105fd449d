-- The text of an object is the kit's print of its tokens.
use Rattle.std.specs.Option.{option_map, option_and_then}
use Rattle.std.proofs.Common.{◌≡◌, ◌<◌, ◌≤◌, ◌^◌, ℕ, max, Bool, true, false, Some, List, [], ◌∷◌, ◌++◌, decimal, refl, sym, ◌∙◌, ap, append_assoc, arith, codes, Option, None}
use Rattle.json.specs.Token.{Token}
use Rattle.json.specs.Json as json
use Rattle.json.specs.Print.{quoted, separator, print, print_from}
use Rattle.json.specs.Tree.{json_tokens, members_tokens, HasNumbers, MembersHaveNumbers, depth, members_depth}
use Rattle.json.proofs.Printed.Decimals.{IsNumber-decimal}
use Rattle.json.proofs.Printed.Trees.{document-print}
use Rattle.entry_codec.specs.Entries.{Entry}
use Rattle.trace_text.specs.AnyTerm.{AnyTerm}
use Rattle.trace_text.specs.Choosing.{term_in}
use Rattle.trace_text.specs.Facts.{traced}
use Rattle.trace_text.specs.Objects.{Value, number, text, Member, of_text, of_some, IsSmall, AreSmall, value_of, members_as, value_text, more_text, members_text, object_text, is_of_call, function_if, facts_of, IsObject, of_read, of_unread, of_drop, HasSmallCount}
use Rattle.trace_text.specs.Pretty.{leaf_text}

-- one member, and what follows
print_member : (name : List ℕ) (v : Value) (b : Bool) (others : json.Members) (tail : List ℕ) → print_from true (members_tokens others) ≡ tail
    → print_from b (members_tokens (json.member name (value_of v) others)) ≡ separator b (Token.key name) ++ ((quoted name ++ 58 ∷ []) ++ (value_text v ++ tail))
unfolding print_from
print_member name (number n) b others tail e = ap (λ t. separator b (Token.key name) ++ ((quoted name ++ 58 ∷ []) ++ (decimal n ++ t))) e
print_member name (text bytes) b others tail e = ap (λ t. separator b (Token.key name) ++ ((quoted name ++ 58 ∷ []) ++ (quoted bytes ++ t))) e

joined : (name v more end : List ℕ) → name ++ (v ++ (more ++ end)) ≡ ((name ++ v) ++ more) ++ end
joined name v more end = sym (append_assoc name v (more ++ end)) ∙ sym (append_assoc (name ++ v) more end)

print_more : (members : List Member) → print_from true (members_tokens (members_as members)) ≡ more_text members ++ 125 ∷ []
unfolding print_from
print_more [] = refl
print_more (member ∷ members) =
    print_member member.name member.value true (members_as members) (more_text members ++ 125 ∷ []) (print_more members)
    ∙ ap (λ t. 44 ∷ t) (joined (quoted member.name ++ 58 ∷ []) (value_text member.value) (more_text members) (125 ∷ []))

print_members : (members : List Member) → print_from false (members_tokens (members_as members)) ≡ members_text members ++ 125 ∷ []
unfolding print_from
print_members [] = refl
print_members (member ∷ members) =
    print_member member.name member.value false (members_as members) (more_text members ++ 125 ∷ []) (print_more members)
    ∙ joined (quoted member.name ++ 58 ∷ []) (value_text member.value) (more_text members) (125 ∷ [])

object_print : (members : List Member) → object_text members ≡ print (json_tokens (json.object (members_as members)))
unfolding object_text print_from
object_print members = ap (λ t. 123 ∷ t) (sym (print_members members))

value_has : (v : Value) → IsSmall v → HasNumbers (value_of v)
value_has (number n) small = IsNumber-decimal n small
value_has (text bytes) small = tt

-- each number is one of the grammar
members_have : (members : List Member) → AreSmall members → MembersHaveNumbers (members_as members)
members_have [] small = tt
members_have (member ∷ members) small = (value_has member.value small.0, members_have members small.1)

value_flat : (v : Value) → depth (value_of v) ≡ 0
value_flat (number n) = refl
value_flat (text bytes) = refl

members_flat : (members : List Member) → members_depth (members_as members) ≡ 0
members_flat [] = refl
members_flat (member ∷ members) = ap (λ d. max d (members_depth (members_as members))) (value_flat member.value) ∙ ap (max 0) (members_flat members)

pub object_read : (members : List Member) → AreSmall members → json.document (object_text members) ≡ Some (json.object (members_as members))
object_read members small =
    let whole = json.object (members_as members) in
    let shallow : depth whole ≤ 128 = omega (arith, members_flat members) in
    ap json.document (object_print members) ∙ document-print whole (members_have members small) shallow

-- ---- entries

small_append : (xs ys : List Member) → AreSmall xs → AreSmall ys → AreSmall (xs ++ ys)
small_append [] ys some more = more
small_append (x ∷ xs) ys some more = (some.0, small_append xs ys some.1 more)

small_some : (name : List ℕ) (found : Option (List ℕ)) → AreSmall (of_some name found)
small_some name None = tt
small_some name (Some bytes) = (tt, tt)

small_facts : (kind : List ℕ) (term : Option AnyTerm) → AreSmall (facts_of kind term)
small_facts kind term =
    let pid = option_map leaf_text (option_and_then traced term) in
    let called = function_if (is_of_call kind) term in
    small_append (of_some (codes "pid") pid) (of_some (codes "mfa") called) (small_some (codes "pid") pid) (small_some (codes "mfa") called)

pub object_small : (n : ℕ) (e : Entry) (members : List Member) → n < 2 ^ 64 → HasSmallCount e → IsObject n e members → AreSmall members
object_small n _ _ low small (of_read bytes kind shown is) = (low, (tt, small_append (facts_of kind (term_in bytes)) (of_text (codes "text") shown ∷ []) (small_facts kind (term_in bytes)) (tt, tt)))
object_small n _ _ low small (of_unread bytes is) = (low, (tt, (small, tt)))
object_small n _ _ low small (of_drop count) = (low, (tt, (small, tt)))
