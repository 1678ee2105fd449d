-- What a message tells, by what was read of it.
use Rattle.std.proofs.Common.{◌≡◌, ℕ, Bool, true, false, cond, Option, Some, None, List, [], ◌∷◌, ◌++◌, codes, refl, sym, ap, subst, ◌∙◌, append_assoc}
use Rattle.std.specs.Bool.{then_some}
use Rattle.std.specs.Option.{option_map}
use Rattle.std.specs.Prelude.{MatchOption}
use Rattle.ext_format.proofs.FieldLaws.{IsBytes}
use Rattle.trace_text.specs.declared.sight.Kind.{Kind}
use Rattle.trace_text.specs.declared.sight.Sight.{Sight}
use Rattle.trace_text.specs.AnyTerm.{Leaf, AnyTerm}
use Rattle.trace_text.specs.Facts.{Function, traced, names_function, function_of, arity_told, sent_to, told_name}
use Rattle.trace_text.specs.MessageFacts.{Facts, called_text, facts_of, facts_in, IsTextOf}
use Rattle.trace_text.specs.Objects.{IsUnread, arity_text, function_text}
use Rattle.trace_text.specs.Parts.{IsReadSo, IsSeenSo, IsTheTracee}
use Rattle.trace_text.specs.Pretty.{leaf_text, IsPretty}
use Rattle.trace_text.specs.PrettyLines.{kind_word}
use Rattle.trace_text.specs.Sights.{sight}
use Rattle.trace_text.proofs.Suiting.{term_spelled, no_term}

-- ---- the function

grouped : (old h l k : List ℕ) → (((old ++ h) ++ 58 ∷ []) ++ l) ++ k ≡ old ++ (h ++ codes ":" ++ l ++ k)
grouped old h l k = simp append_assoc

-- a function put part by part
pub function_put : (old a b c new m n : List ℕ) (f : Function) → m ≡ leaf_text f.of_module → n ≡ leaf_text f.of_name → a ≡ old ++ m → b ≡ a ++ 58 ∷ [] → c ≡ b ++ n → new ≡ c ++ arity_text (arity_told f.arguments)
    → new ≡ old ++ function_text f
function_put old a b c new m n f first second w x y z =
    let arity = arity_text (arity_told f.arguments) in
    z ∙ ap (λ (l : List ℕ). l ++ arity) (y ∙ ap (λ (l : List ℕ). l ++ n) (x ∙ ap (λ (l : List ℕ). l ++ 58 ∷ []) w))
    ∙ ap (λ (l : List ℕ). (((old ++ l) ++ 58 ∷ []) ++ n) ++ arity) first
    ∙ ap (λ (l : List ℕ). (((old ++ leaf_text f.of_module) ++ 58 ∷ []) ++ l) ++ arity) second
    ∙ grouped old (leaf_text f.of_module) (leaf_text f.of_name) arity

called_by : (kind : Option Kind) (t : AnyTerm) (b : Bool) → kind ≡ (sight t).kind → names_function kind ≡ b → called_text t ≡ option_map function_text (cond b (function_of t) None)
called_by kind t b is tells = ap (λ (b : Bool). option_map function_text (cond b (function_of t) None)) (ap names_function (sym is) ∙ tells)

-- a message of a kind that tells of none
pub no_call : (kind : Option Kind) (t : AnyTerm) → kind ≡ (sight t).kind → names_function kind ≡ false → None ≡ called_text t
no_call kind t is tells = sym (called_by kind t false is tells)

-- one of another kind
pub no_function : (kind : Option Kind) (t : AnyTerm) → kind ≡ (sight t).kind → names_function kind ≡ true → function_of t ≡ None → None ≡ called_text t
no_function kind t is tells none = sym (called_by kind t true is tells ∙ ap (option_map function_text) none)

pub the_function : (kind : Option Kind) (t : AnyTerm) (f : Function) (old new : List ℕ) → kind ≡ (sight t).kind → names_function kind ≡ true → function_of t ≡ Some f → old ≡ [] → new ≡ old ++ function_text f
    → then_some true new ≡ called_text t
the_function kind t f old new is tells some empty put =
    ap Some (put ∙ ap (λ (l : List ℕ). l ++ function_text f) empty) ∙ sym (called_by kind t true is tells ∙ ap (option_map function_text) some)

-- ---- what is told

-- what was seen, by equal parts
pub seen_as : (t : AnyTerm) (text text' : List ℕ) (seen seen' : List Sight) → seen' ≡ seen → text' ≡ text → IsSeenSo t seen text → IsSeenSo t seen' text'
seen_as t text text' seen seen' e f s = record { members = e ∙ s.members; pretty = subst (IsPretty t) (sym f) s.pretty }

-- texts that are lent
pub tracee_lent : {R : Type 0} (now : R → List ℕ) (o : Option R) (who : Option Leaf) → MatchOption o (who ≡ None) (λ own. IsTheTracee (now own) who) → option_map now o ≡ option_map leaf_text who
tracee_lent now None who is = sym (ap (option_map leaf_text) is)
tracee_lent now (Some own) who is = ap Some is.text ∙ sym (ap (option_map leaf_text) is.is)

some_lent : {R : Type 0} (now : R → List ℕ) (tells : Bool) (lent : R) → option_map now (then_some tells lent) ≡ then_some tells (now lent)
some_lent now true lent = refl
some_lent now false lent = refl

pub function_lent : {R : Type 0} (now : R → List ℕ) (tells : Bool) (o : Option R) (lent : R) (held : List ℕ) (told : Option (List ℕ)) → o ≡ then_some tells lent → now lent ≡ held → then_some tells held ≡ told → option_map now o ≡ told
function_lent now tells o lent held told is by e = ap (option_map now) is ∙ some_lent now tells lent ∙ ap (then_some tells) by ∙ e

abbrev facts_by : List ℕ → Option (List ℕ) → Option (List ℕ) → Option (List ℕ) → Option (List ℕ) → Facts
facts_by kind who function receiver name = record { kind = kind; tracee = who; function = function; receiver = receiver; name = name }

pub facts_are : (t : AnyTerm) (kind : Option Kind) (word : List ℕ) (who function receiver name : Option (List ℕ)) → kind ≡ (sight t).kind → word ≡ kind_word kind → who ≡ option_map leaf_text (traced t)
    → function ≡ called_text t → receiver ≡ option_map leaf_text (sent_to t) → name ≡ option_map leaf_text (told_name t) → facts_by word who function receiver name ≡ facts_of t
facts_are t kind word who function receiver name is says traces calls sends names =
    let k = kind_word (sight t).kind in
    let p = option_map leaf_text (traced t) in
    let r = option_map leaf_text (sent_to t) in
    ap (λ (w : List ℕ). facts_by w who function receiver name) (says ∙ ap kind_word is) ∙ ap (λ (o : Option (List ℕ)). facts_by k o function receiver name) traces
    ∙ ap (λ (o : Option (List ℕ)). facts_by k p o receiver name) calls ∙ ap (λ (o : Option (List ℕ)). facts_by k p (called_text t) o name) sends ∙ ap (λ (o : Option (List ℕ)). facts_by k p (called_text t) r o) names

pub facts_read : (bytes text : List ℕ) (kind : Option Kind) (seen : List Sight) (told : Facts) (r : IsReadSo kind bytes seen text) → told ≡ facts_of r.t → Some told ≡ facts_in bytes
facts_read bytes text kind seen told r e = ap Some e ∙ sym (ap (option_map facts_of) (term_spelled bytes r.t r.short r.spells))

pub text_read : (bytes text told : List ℕ) (kind : Option Kind) (seen : List Sight) → IsReadSo kind bytes seen text → told ≡ text → IsTextOf bytes told
text_read bytes text told kind seen r same = (r.t, term_spelled bytes r.t r.short r.spells, subst (IsPretty r.t) (sym same) r.is_seen.pretty)

pub facts_unread : (bytes : List ℕ) → IsBytes bytes → IsUnread bytes → None ≡ facts_in bytes
facts_unread bytes fits is = sym (ap (option_map facts_of) (no_term bytes fits is))
