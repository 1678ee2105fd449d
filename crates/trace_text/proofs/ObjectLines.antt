-- Objects that are put part by part.
use Rattle.std.specs.Prelude.{OnErr}
use Rattle.std.proofs.Common.{◌≡◌, ℕ, ◌<◌, Bool, true, false, cond, Option, Some, None, List, [], ◌∷◌, ◌++◌, length, codes, Result, Ok, Err, refl, sym, ap, ◌∙◌, subst, append_assoc, length-append, arith}
use Rattle.std.proofs.lemmas.List.{append-nil}
use Rattle.std.proofs.lemmas.Grind.{flat_map-append}
use Rattle.std.specs.Fmt.{decimal}
use Rattle.json.specs.Print.{escape_byte, escape, quoted}
use Rattle.entry_codec.specs.Entries.{Message}
use Rattle.trace_text.specs.declared.sight.Kind.{Kind}
use Rattle.trace_text.specs.declared.sight.Sight.{Sight}
use Rattle.trace_text.specs.declared.style.Notation.{Notation}
use Rattle.trace_text.specs.declared.style.Notation.TheVariants.{Text, Json}
use Rattle.trace_text.specs.AnyTerm.{AnyTerm}
use Rattle.std.specs.Option.{option_map}
use Rattle.trace_text.specs.Choosing.{Asks, term_in}
use Rattle.trace_text.specs.Facts.{Function, arity_told, function_of, tells_function}
use Rattle.trace_text.specs.Lines.{end_mark, opaque_line, asks_opaque, long_line}
use Rattle.trace_text.specs.Objects.{Member, of_number, of_text, member_text, more_text, members_text, object_text, object_line, IsUnread, IsObject, of_read, of_unread, arity_text, function_text, function_if, is_of_call, facts_of, message_members, opaque_members}
use Rattle.trace_text.specs.Parts.{IsReadSo}
use Rattle.trace_text.specs.Pretty.{leaf_text}
use Rattle.trace_text.specs.PrettyKinds.{IsPrettyKind}
use Rattle.trace_text.specs.PrettyLines.{kind_word}
use Rattle.trace_text.proofs.KindFinding.{kind_seen, word_tells}
use Rattle.trace_text.proofs.Suiting.{term_spelled}

more_text-append : (xs ys : List Member) → more_text (xs ++ ys) ≡ more_text xs ++ more_text ys
more_text-append [] ys = refl
more_text-append (x ∷ xs) ys = ap (λ t. 44 ∷ t) (ap (λ t. member_text x ++ t) (more_text-append xs ys) ∙ sym (append_assoc (member_text x) (more_text xs) (more_text ys)))

pub joined : (old a b : List ℕ) (xs ys : List Member) → a ≡ old ++ more_text xs → b ≡ a ++ more_text ys → b ≡ old ++ more_text (xs ++ ys)
joined old a b xs ys x y = y ∙ ap (λ (l : List ℕ). l ++ more_text ys) x ∙ append_assoc old (more_text xs) (more_text ys) ∙ ap (λ (l : List ℕ). old ++ l) (sym (more_text-append xs ys))

-- a first member
pub opened : (old a b : List ℕ) (m : Member) → a ≡ old ++ 123 ∷ [] → b ≡ a ++ member_text m → b ≡ old ++ 123 ∷ members_text (m ∷ [])
opened old a b m x y = y ∙ ap (λ (l : List ℕ). l ++ member_text m) x ∙ append_assoc old (123 ∷ []) (member_text m) ∙ ap (λ (l : List ℕ). old ++ 123 ∷ l) (sym (append-nil (member_text m)))

-- further ones
pub grown : (old a b : List ℕ) (m : Member) (xs ys : List Member) → a ≡ old ++ 123 ∷ members_text (m ∷ xs) → b ≡ a ++ more_text ys → b ≡ old ++ 123 ∷ members_text (m ∷ (xs ++ ys))
grown old a b m xs ys x y =
    y ∙ ap (λ (l : List ℕ). l ++ more_text ys) x ∙ append_assoc old (123 ∷ members_text (m ∷ xs)) (more_text ys)
    ∙ ap (λ (l : List ℕ). old ++ 123 ∷ l) (append_assoc (member_text m) (more_text xs) (more_text ys) ∙ ap (λ (l : List ℕ). member_text m ++ l) (sym (more_text-append xs ys)))

-- and the end
pub closed : (old a b : List ℕ) (members : List Member) → a ≡ old ++ 123 ∷ members_text members → b ≡ a ++ 125 ∷ 10 ∷ [] → b ≡ old ++ object_line members
unfolding object_line object_text
closed old a b members x y =
    y ∙ ap (λ (l : List ℕ). l ++ 125 ∷ 10 ∷ []) x ∙ append_assoc old (123 ∷ members_text members) (125 ∷ 10 ∷ [])
    ∙ ap (λ (l : List ℕ). old ++ 123 ∷ l) (sym (append_assoc (members_text members) (125 ∷ []) (10 ∷ [])))

pub end_put : (old a b c : List ℕ) (m : Member) → a ≡ old ++ 123 ∷ [] → b ≡ a ++ member_text m → c ≡ b ++ 125 ∷ 10 ∷ [] → c ≡ old ++ object_line (m ∷ [])
end_put old a b c m x y z = closed old b c (m ∷ []) (opened old a b m x y) z

pub counts_put : (old a b c d e : List ℕ) (m n o : Member) → a ≡ old ++ 123 ∷ [] → b ≡ a ++ member_text m → c ≡ b ++ more_text (n ∷ []) → d ≡ c ++ more_text (o ∷ []) → e ≡ d ++ 125 ∷ 10 ∷ []
    → e ≡ old ++ object_line (m ∷ n ∷ o ∷ [])
counts_put old a b c d e m n o v w x y z = closed old d e (m ∷ n ∷ o ∷ []) (grown old c d m (n ∷ []) (o ∷ []) (grown old b c m [] (n ∷ []) (opened old a b m v w) x) y) z

pub number_put : (old a b c : List ℕ) (m n o : Member) → a ≡ old ++ 123 ∷ members_text (m ∷ n ∷ []) → b ≡ a ++ more_text (o ∷ []) → c ≡ b ++ 125 ∷ 10 ∷ [] → c ≡ old ++ object_line (m ∷ n ∷ o ∷ [])
number_put old a b c m n o x y z = closed old b c (m ∷ n ∷ o ∷ []) (grown old a b m (n ∷ []) (o ∷ []) x y) z

pub part_put : (old a b c d e : List ℕ) (m n o p q : Member) → a ≡ old ++ 123 ∷ members_text (m ∷ n ∷ []) → b ≡ a ++ more_text (o ∷ []) → c ≡ b ++ more_text (p ∷ []) → d ≡ c ++ more_text (q ∷ [])
    → e ≡ d ++ 125 ∷ 10 ∷ [] → e ≡ old ++ object_line (m ∷ n ∷ o ∷ p ∷ q ∷ [])
part_put old a b c d e m n o p q v w x y z =
    closed old d e (m ∷ n ∷ o ∷ p ∷ q ∷ []) (grown old c d m (n ∷ o ∷ p ∷ []) (q ∷ []) (grown old b c m (n ∷ o ∷ []) (p ∷ []) (grown old a b m (n ∷ []) (o ∷ []) v w) x) y) z

pub message_put : (old a b c d : List ℕ) (m n o : Member) (facts : List Member) → a ≡ old ++ 123 ∷ members_text (m ∷ n ∷ []) → b ≡ a ++ more_text facts → c ≡ b ++ more_text (o ∷ []) → d ≡ c ++ 125 ∷ 10 ∷ []
    → d ≡ old ++ object_line (m ∷ n ∷ (facts ++ o ∷ []))
message_put old a b c d m n o facts w x y z =
    closed old c d (m ∷ n ∷ (facts ++ o ∷ [])) (grown old b c m (n ∷ facts) (o ∷ []) (grown old a b m (n ∷ []) facts w x) y) z

-- ---- what a message tells of

called_text : (old h first second : List ℕ) → ((old ++ 44 ∷ (h ++ 34 ∷ first)) ++ second) ++ 34 ∷ [] ≡ old ++ 44 ∷ ((h ++ (34 ∷ ((first ++ second) ++ 34 ∷ []))) ++ [])
called_text old h first second =
    ap (λ (l : List ℕ). l ++ 34 ∷ []) (append_assoc old (44 ∷ (h ++ 34 ∷ first)) second) ∙ append_assoc old (44 ∷ ((h ++ 34 ∷ first) ++ second)) (34 ∷ [])
    ∙ ap (λ (l : List ℕ). old ++ 44 ∷ l)
    (ap (λ (l : List ℕ). l ++ 34 ∷ []) (append_assoc h (34 ∷ first) second) ∙ append_assoc h (34 ∷ (first ++ second)) (34 ∷ []) ∙ sym (append-nil (h ++ (34 ∷ ((first ++ second) ++ 34 ∷ [])))))

-- a function put part by part
pub function_text_put : (old a b c m n : List ℕ) (f : Function) → m ≡ leaf_text f.of_module → n ≡ leaf_text f.of_name
    → a ≡ old ++ 44 ∷ ((quoted (codes "mfa") ++ 58 ∷ []) ++ 34 ∷ escape (m ++ codes ":" ++ n)) → b ≡ a ++ escape (arity_text (arity_told f.arguments)) → c ≡ b ++ 34 ∷ []
    → c ≡ old ++ more_text (of_text (codes "mfa") (function_text f) ∷ [])
function_text_put old a b c m n f first second x y z =
    let h = quoted (codes "mfa") ++ 58 ∷ [] in
    let names = leaf_text f.of_module ++ codes ":" ++ leaf_text f.of_name in
    let arity = arity_text (arity_told f.arguments) in
    let named : m ++ codes ":" ++ n ≡ names = ap (λ (l : List ℕ). l ++ codes ":" ++ n) first ∙ ap (λ (l : List ℕ). leaf_text f.of_module ++ codes ":" ++ l) second in
    z ∙ ap (λ (l : List ℕ). l ++ 34 ∷ []) (y ∙ ap (λ (l : List ℕ). l ++ escape arity) (x ∙ ap (λ (l : List ℕ). old ++ 44 ∷ (h ++ 34 ∷ escape l)) named))
    ∙ called_text old h (escape names) (escape arity)
    ∙ ap (λ (l : List ℕ). old ++ 44 ∷ ((h ++ (34 ∷ (l ++ 34 ∷ []))) ++ [])) (sym (flat_map-append escape_byte names arity))

pub function_some : (kind : Option Kind) (t : AnyTerm) (f : Function) → tells_function kind ≡ true → function_of t ≡ Some f → function_if (is_of_call (kind_word kind)) (Some t) ≡ Some (function_text f)
function_some kind t f e is = ap (λ (b : Bool). cond b (option_map function_text (function_of t)) None) (word_tells kind ∙ e) ∙ ap (option_map function_text) is

pub function_none : (tells : Bool) (t : AnyTerm) → function_of t ≡ None → function_if tells (Some t) ≡ None
function_none true t is = ap (option_map function_text) is
function_none false t is = refl

-- ---- messages

pub message_object : (n : ℕ) (bytes word text old new : List ℕ) (kind : Option Kind) (seen : List Sight) (r : IsReadSo kind bytes seen text) → word ≡ kind_word kind
    → new ≡ old ++ object_line (of_number (codes "n") n ∷ of_text (codes "kind") word ∷ (facts_of word (Some r.t) ++ of_text (codes "text") text ∷ []))
    → (members : List Member) × IsObject n (Message bytes) members × (new ≡ old ++ object_line members)
message_object n bytes word text old new kind seen r says e =
    let named : IsPrettyKind r.t word = subst (IsPrettyKind r.t) (sym (says ∙ ap kind_word r.is_kind)) (kind_seen r.t) in
    let there : term_in bytes ≡ Some r.t = term_spelled bytes r.t r.short r.spells in (
      message_members n word bytes text,
      of_read bytes word text (r.t, r.short, r.spells, named, r.is_seen.pretty),
      e ∙ ap (λ (o : Option AnyTerm). old ++ object_line (of_number (codes "n") n ∷ of_text (codes "kind") word ∷ (facts_of word o ++ of_text (codes "text") text ∷ []))) (sym there),
    )

pub unread_object : (n : ℕ) (bytes old new : List ℕ) → IsUnread bytes → new ≡ old ++ object_line (opaque_members n (length bytes))
    → (members : List Member) × IsObject n (Message bytes) members × (new ≡ old ++ object_line members)
unread_object n bytes old new is e = (opaque_members n (length bytes), of_unread bytes is, e)

-- ---- what isn't read has some bytes

pub opaque_some : (notation : Notation) (n count : ℕ) → 0 < length (opaque_line notation n count)
unfolding object_line object_text
opaque_some Text n count = omega (arith, length-append (decimal n ++ codes " " ++ (codes "opaque " ++ decimal count)) (10 ∷ []))
opaque_some Json n count = omega (arith, length-append (object_text (opaque_members n count)) (10 ∷ []))

pub none_some : (notation : Notation) (asks : Option Asks) (n count : ℕ) → asks ≡ None → 0 < length (long_line notation asks n count)
none_some notation None n count is = opaque_some notation n count
none_some notation (Some asks) n count is = absurd cc

pub asked_some : (notation : Notation) (asks : Asks) (n count : ℕ) → asks_opaque asks n ≡ true → 0 < length (cond (asks_opaque asks n) (opaque_line notation n count) [] ++ end_mark asks n)
asked_some notation asks n count asked =
    subst (λ (b : Bool). 0 < length (cond b (opaque_line notation n count) [] ++ end_mark asks n)) (sym asked)
    (omega (arith, opaque_some notation n count, length-append (opaque_line notation n count) (end_mark asks n)))

pub on_err_of : {A E : Type 0} (r : Result A E) (P : Type 0) → P → OnErr r P
on_err_of (Ok x) P p = tt
on_err_of (Err e) P p = p
