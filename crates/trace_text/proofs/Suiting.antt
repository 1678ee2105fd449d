-- What a choice asks for, part by part.
use Rattle.std.specs.Prelude.{not, is_none, map, IfOk}
use Rattle.std.proofs.Common.{◌≡◌, ℕ, ◌<◌, ◌≤◌, Bool, true, false, ◌&&◌, ◌||◌, cond, leb, eqb, List, [], ◌∷◌, ◌++◌, length, length-append, take, codes, Option, Some, None, Result, Ok, Err, inl, inr, refl, sym, ap, ◌∙◌, subst, arith}
use Rattle.std.specs.List.{list_any}
use Rattle.std.specs.Str.{bytes_eq}
use Rattle.std.proofs.lemmas.Slice.Eq.{bytes_eq-Decides}
use Rattle.std.proofs.lemmas.Bool.{le-leb, lt-leb, eq-eqb, eqb-true}
use Rattle.std.proofs.lemmas.List.{append-nil, take_all}
use Rattle.ext_format.specs.declared.fault.DecodeFault.{DecodeFault}
use Rattle.ext_format.proofs.FieldLaws.{IsBytes}
use Rattle.trace_text.specs.AnyTerm.{AnyTerm, Leaf}
use Rattle.trace_text.specs.AnyReading.{any_whole_at}
use Rattle.trace_text.specs.Facts.{Function, traced, function_of, tells_function, called}
use Rattle.trace_text.specs.Choosing.{Asked, AskedFunction, Asks, asks_no_text, names_kind, names_nothing, is_one_traced, is_text, is_shown, is_of_arity, is_function, is_one_called, is_of_any, suits, suits_opaque, suits_if, if_all, term_in}
use Rattle.trace_text.specs.Objects.{IsUnread}
use Rattle.trace_text.specs.Parts.{IsReadSo}
use Rattle.trace_text.specs.Pretty.{leaf_text}
use Rattle.trace_text.specs.PrettyLines.{kind_word, longest_message, IsOpaqueAny}
use Rattle.trace_text.specs.Sights.{sight}
use Rattle.trace_text.specs.SpellsAny.{SpellsAny}
use Rattle.trace_text.specs.declared.sight.Kind.{Kind}
use Rattle.trace_text.specs.declared.sight.Sight.{Sight}
use Rattle.trace_text.proofs.AnyAgain.{whole_again}
use Rattle.trace_text.proofs.AnySound.{whole_takes}
use Rattle.trace_text.proofs.PartLemmas.{false_if}

pub list_any-map : {X Y : Type 0} (p : X → Bool) (h : Y → X) (ys : List Y) → list_any p (map h ys) ≡ list_any (λ y. p (h y)) ys
list_any-map p h [] = refl
list_any-map p h (y ∷ ys) = ap (λ (b : Bool). p (h y) || b) (list_any-map p h ys)

and_false : (b : Bool) → (b && false) ≡ false
and_false true = refl
and_false false = refl

and_true : (b : Bool) → (b && true) ≡ b
and_true true = refl
and_true false = refl

pub other_arity : (asked : AskedFunction) (f : Function) → is_of_arity asked.of_arity f.arguments ≡ false → is_function asked f ≡ false
other_arity asked f e =
    let m = is_text 39 39 asked.of_module (leaf_text f.of_module) in
    let n = is_shown asked.of_name (leaf_text f.of_name) in
    ap (λ (b : Bool). m && (n && b)) e ∙ ap (λ (b : Bool). m && b) (and_false n) ∙ and_false m

pub other_name : (asked : AskedFunction) (f : Function) → is_shown asked.of_name (leaf_text f.of_name) ≡ false → is_function asked f ≡ false
other_name asked f e =
    let m = is_text 39 39 asked.of_module (leaf_text f.of_module) in
    ap (λ (b : Bool). m && (b && is_of_arity asked.of_arity f.arguments)) e ∙ and_false m

pub by_module : (asked : AskedFunction) (f : Function) → is_of_arity asked.of_arity f.arguments ≡ true → is_shown asked.of_name (leaf_text f.of_name) ≡ true → is_function asked f ≡ is_text 39 39 asked.of_module (leaf_text f.of_module)
by_module asked f counted named =
    let m = is_text 39 39 asked.of_module (leaf_text f.of_module) in
    let n = is_shown asked.of_name (leaf_text f.of_name) in
    ap (λ (b : Bool). m && (n && b)) counted ∙ ap (λ (b : Bool). m && (b && true)) named ∙ and_true m

-- ---- texts by how long they are

other_length : (a b : List ℕ) → (length a ≡ length b → ⊥) → bytes_eq a b ≡ false
other_length a b never = false_if (bytes_eq a b) (λ e. never (ap length ((bytes_eq-Decides a b).0 e)))

pub text_as_long : (opening closing : ℕ) (asked shown : List ℕ) → length shown ≡ length asked → is_text opening closing asked shown ≡ bytes_eq shown asked
text_as_long opening closing asked shown same =
    ap (λ (b : Bool). bytes_eq shown asked || b) (other_length shown (opening ∷ (asked ++ closing ∷ [])) (λ e. omega (arith, e, same, length-append asked (closing ∷ [])))) ∙ or_false (bytes_eq shown asked)
  where
    or_false : (b : Bool) → (b || false) ≡ b
    or_false true = refl
    or_false false = refl

pub text_between : (opening closing : ℕ) (asked shown : List ℕ) → (length shown ≡ length asked → ⊥) → is_text opening closing asked shown ≡ bytes_eq shown (opening ∷ (asked ++ closing ∷ []))
text_between opening closing asked shown never = ap (λ (b : Bool). b || bytes_eq shown (opening ∷ (asked ++ closing ∷ []))) (other_length shown asked never)

-- ---- functions

pub called_by : (functions : List AskedFunction) (t : AnyTerm) (kind : Option Kind) (b : Bool) → kind ≡ (sight t).kind → tells_function kind ≡ b → is_one_called functions (called t) ≡ b && is_one_called functions (function_of t)
called_by functions t kind true is tells = ap (λ (b : Bool). is_one_called functions (cond b (function_of t) None)) (ap tells_function (sym is) ∙ tells)
called_by functions t kind false is tells = ap (λ (b : Bool). is_one_called functions (cond b (function_of t) None)) (ap tells_function (sym is) ∙ tells)

-- ---- where nothing is asked of messages

both_true : (a b : Bool) → a && b ≡ true → (a ≡ true) × (b ≡ true)
both_true true b e = (refl, e)
both_true false b e = absurd cc

no_items : {A : Type 0} (xs : List A) → eqb (length xs) 0 ≡ true → xs ≡ []
no_items [] e = refl
no_items (x ∷ xs) e = absurd (omega (arith, eqb-true (length (x ∷ xs)) 0 e))

no_kind : (kinds : Option (List ℕ)) (kind : List ℕ) → is_none kinds ≡ true → names_kind kinds kind ≡ false
no_kind None kind e = refl
no_kind (Some words) kind e = absurd cc

none_traced : (who : Option Leaf) → is_one_traced [] who ≡ false
none_traced None = refl
none_traced (Some who) = refl

none_called : (f : Option Function) → is_one_called [] f ≡ false
none_called None = refl
none_called (Some f) = refl

all_named : (a b c x y z : Bool) → a && (b && c) ≡ true → (a || x) && ((b || y) && (c || z)) ≡ true
all_named true true true x y z e = refl
all_named true true false x y z e = absurd cc
all_named true false c x y z e = absurd cc
all_named false b c x y z e = absurd cc

pub none_named : (asked : Asked) (t : AnyTerm) → names_nothing asked ≡ true → is_of_any asked t ≡ false
none_named asked t e =
    let a = both_true (is_none asked.kinds) (eqb (length asked.pids) 0 && eqb (length asked.functions) 0) e in
    let b = both_true (eqb (length asked.pids) 0) (eqb (length asked.functions) 0) a.1 in
    ap (λ (b : Bool). b || (is_one_traced asked.pids (traced t) || is_one_called asked.functions (called t))) (no_kind asked.kinds (kind_word (sight t).kind) a.0)
    ∙ ap (λ (l : List (List ℕ)). is_one_traced l (traced t) || is_one_called asked.functions (called t)) (no_items asked.pids b.0)
    ∙ ap (λ (b : Bool). b || is_one_called asked.functions (called t)) (none_traced (traced t))
    ∙ ap (λ (l : List AskedFunction). is_one_called l (called t)) (no_items asked.functions b.1) ∙ none_called (called t)

all_opaque : (a b c x y : Bool) → a && (b && c) ≡ true → y ≡ false → (a || x) && (b && (c && not y)) ≡ true
all_opaque true true true x y e is = ap not is
all_opaque true true false x y e is = absurd cc
all_opaque true false c x y e is = absurd cc
all_opaque false b c x y e is = absurd cc

pub all_suit : (asks : Asks) (o : Option AnyTerm) → asks_no_text asks ≡ true → suits_if asks o ≡ true
all_suit asks None e =
    let a = both_true (names_nothing asks.only) (names_nothing asks.not) e in
    let b = both_true (is_none asks.not.kinds) (eqb (length asks.not.pids) 0 && eqb (length asks.not.functions) 0) a.1 in
    all_opaque (is_none asks.only.kinds) (eqb (length asks.only.pids) 0) (eqb (length asks.only.functions) 0) (names_kind asks.only.kinds (codes "opaque")) (names_kind asks.not.kinds (codes "opaque"))
    a.0 (no_kind asks.not.kinds (codes "opaque") b.0)
all_suit asks (Some t) e =
    let a = both_true (names_nothing asks.only) (names_nothing asks.not) e in
    let only = all_named (is_none asks.only.kinds) (eqb (length asks.only.pids) 0) (eqb (length asks.only.functions) 0) (names_kind asks.only.kinds (kind_word (sight t).kind)) (is_one_traced asks.only.pids (traced t))
    (is_one_called asks.only.functions (called t)) a.0 in
    ap (λ (b : Bool). b && not (is_of_any asks.not t)) only ∙ ap not (none_named asks.not t a.1)

-- ---- which term a message is

term_by : (bytes : List ℕ) (b : Bool) → leb (length bytes) longest_message ≡ b → term_in bytes ≡ cond b (if_all (any_whole_at bytes) (length bytes)) None
unfolding term_in
term_by bytes b e = ap (λ (c : Bool). cond c (if_all (any_whole_at bytes) (length bytes)) None) e

spelled_whole : (bytes : List ℕ) (t : AnyTerm) → SpellsAny t bytes → any_whole_at bytes ≡ Ok (t, length bytes)
spelled_whole bytes t is = subst (λ (l : List ℕ). any_whole_at l ≡ Ok (t, length bytes)) (append-nil bytes) (whole_again t bytes [] is)

pub term_spelled : (bytes : List ℕ) (t : AnyTerm) → length bytes ≤ longest_message → SpellsAny t bytes → term_in bytes ≡ Some t
term_spelled bytes t le is =
    term_by bytes true (le-leb (length bytes) longest_message le) ∙ ap (λ (r : Result (AnyTerm × ℕ) DecodeFault). if_all r (length bytes)) (spelled_whole bytes t is)
    ∙ ap (λ (b : Bool). cond b (Some t) None) (eq-eqb (length bytes) (length bytes) refl)

pub term_too_long : (bytes : List ℕ) → longest_message < length bytes → term_in bytes ≡ None
term_too_long bytes lt = term_by bytes false (lt-leb (length bytes) longest_message lt)

none_read : (bytes : List ℕ) (x : AnyTerm × ℕ) (b : Bool) → IsBytes bytes → IsOpaqueAny bytes → any_whole_at bytes ≡ Ok x → eqb x.1 (length bytes) ≡ b → cond b (Some x.0) None ≡ None
none_read bytes x false fits opaque e is = refl
none_read bytes x true fits opaque e is =
    let n : x.1 ≡ length bytes = eqb-true x.1 (length bytes) is in
    absurd (opaque x.0 (subst (λ (l : List ℕ). SpellsAny x.0 l) (ap (λ (k : ℕ). take k bytes) n ∙ take_all (length bytes) bytes (omega arith)) (whole_takes bytes x fits e).1))

none_of : (bytes : List ℕ) (r : Result (AnyTerm × ℕ) DecodeFault) → IsBytes bytes → IsOpaqueAny bytes → any_whole_at bytes ≡ r → if_all r (length bytes) ≡ None
none_of bytes (Ok x) fits opaque e = none_read bytes x (eqb x.1 (length bytes)) fits opaque e refl
none_of bytes (Err fault) fits opaque e = refl

none_there : (bytes : List ℕ) (b : Bool) → leb (length bytes) longest_message ≡ b → IsBytes bytes → IsOpaqueAny bytes → term_in bytes ≡ None
none_there bytes true e fits opaque = term_by bytes true e ∙ none_of bytes (any_whole_at bytes) fits opaque refl
none_there bytes false e fits opaque = term_by bytes false e

pub term_opaque : (bytes : List ℕ) → IsBytes bytes → IsOpaqueAny bytes → term_in bytes ≡ None
term_opaque bytes fits opaque = none_there bytes (leb (length bytes) longest_message) refl fits opaque

-- a message that is read, by equal parts
pub read_as : (kind : Option Kind) (bytes text text' : List ℕ) (seen seen' : List Sight) → seen' ≡ seen → text' ≡ text → IsReadSo kind bytes seen text → IsReadSo kind bytes seen' text'
read_as kind bytes text text' seen seen' e f r = subst (λ (s : List Sight). IsReadSo kind bytes s text') (sym e) (subst (IsReadSo kind bytes seen) (sym f) r)

-- what is asked of a message that is read, and of one that isn't
pub asked_read : (asks : Asks) (kind : Option Kind) (bytes text : List ℕ) (seen : List Sight) (r : IsReadSo kind bytes seen text) → suits asks r.t ≡ suits_if asks (term_in bytes)
asked_read asks kind bytes text seen r = sym (ap (suits_if asks) (term_spelled bytes r.t r.short r.spells))

-- a message that isn't read
pub no_term : (bytes : List ℕ) → IsBytes bytes → IsUnread bytes → term_in bytes ≡ None
no_term bytes fits (inl opaque) = term_opaque bytes fits opaque
no_term bytes fits (inr long) = term_too_long bytes long

pub asked_unread : (asks : Asks) (bytes : List ℕ) → IsBytes bytes → IsUnread bytes → suits_opaque asks ≡ suits_if asks (term_in bytes)
asked_unread asks bytes fits is = sym (ap (suits_if asks) (no_term bytes fits is))

pub if_ok_weaker : {X Y : Type 0} (r : Result X Y) (P Q : X → Type 0) → ((x : X) → P x → Q x) → IfOk r P → IfOk r Q
if_ok_weaker (Ok x) P Q f h = f x h
if_ok_weaker (Err e) P Q f h = h
