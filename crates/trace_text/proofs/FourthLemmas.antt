-- What stands behind who is traced and an atom, where a message has none.
use Rattle.std.proofs.Common.{◌≡◌, ◌<◌, Bool, true, false, cond, ◌&&◌, List, ◌∷◌, length, Option, Some, None, refl, sym, ap, ◌∙◌, arith}
use Rattle.std.specs.Option.{option_and_then}
use Rattle.trace_text.specs.declared.sight.Sight.{Sight}
use Rattle.trace_text.specs.declared.sight.Sort.{Sort}
use Rattle.trace_text.specs.AnyTerm.{AnyTerm, leaf, float, tuple, nil, cons, map, AnyMembers, no_members, member}
use Rattle.trace_text.specs.Facts.{is_tag, is_tracee, leaf_if, function_behind, function_in, function_of, atom_behind, registered, behind_tag, tracee_of, traced}
use Rattle.trace_text.specs.Parts.{members_seen}
use Rattle.trace_text.specs.Sights.{is_atom, sort_of, sight}
use Rattle.trace_text.proofs.PartLemmas.{OfThree, three_seen}

pub leaf_none : (test : Sort → Bool) (t : AnyTerm) → test (sight t).sort ≡ false → leaf_if test t ≡ None
leaf_none test (leaf l) e = ap (λ (b : Bool). cond b (Some l) None) e
leaf_none test (float bits) e = refl
leaf_none test (tuple ts) e = refl
leaf_none test nil e = refl
leaf_none test (cons a b) e = refl
leaf_none test (map ts) e = refl

none_then : {X Y : Type 0} (o : Option Y) (x : Option X) → x ≡ None → option_and_then (λ _. x) o ≡ None
none_then None x e = refl
none_then (Some y) x e = e

-- nothing is told where there are few members, or no atom
record OfFourth {X : Type 0} (f : AnyMembers → Option X) : Type 0 where
  none : f no_members ≡ None
  one : (a : AnyTerm) → f (member a no_members) ≡ None
  two : (a b : AnyTerm) → f (member a (member b no_members)) ≡ None
  other : (a b : AnyTerm) (ts : AnyMembers) → leaf_if is_atom b ≡ None → f (member a (member b ts)) ≡ None

functions : OfFourth function_behind
functions = record { none = refl; one = λ a. refl; two = λ a b. refl; other = no_word }
  where
    no_word : (a b : AnyTerm) (ts : AnyMembers) → leaf_if is_atom b ≡ None → function_behind (member a (member b ts)) ≡ None
    no_word a b no_members e = refl
    no_word a b (member d us) e = ap (option_and_then (λ _. function_in d)) e

names : OfFourth atom_behind
names = record { none = refl; one = λ a. refl; two = λ a b. refl; other = no_word }
  where
    no_word : (a b : AnyTerm) (ts : AnyMembers) → leaf_if is_atom b ≡ None → atom_behind (member a (member b ts)) ≡ None
    no_word a b no_members e = refl
    no_word a b (member d us) e = ap (option_and_then (λ _. leaf_if is_atom d)) e

-- whatever the tag is
either : {X : Type 0} (f : AnyMembers → Option X) (a : AnyTerm) (ts : AnyMembers) → f ts ≡ None → f no_members ≡ None → f (behind_tag (tuple (member a ts))) ≡ None
either f (leaf l) ts e g = by (is_tag (sort_of l))
  where
    by : (b : Bool) → f (cond b ts no_members) ≡ None
    by true = e
    by false = g
either f (float bits) ts e g = g
either f (tuple us) ts e g = g
either f nil ts e g = g
either f (cons x y) ts e g = g
either f (map us) ts e g = g

untagged : {X : Type 0} (f : AnyMembers → Option X) (a : AnyTerm) (ts : AnyMembers) → is_tag (sight a).sort ≡ false → f no_members ≡ None → f (behind_tag (tuple (member a ts))) ≡ None
untagged f (leaf l) ts e g = ap (λ (b : Bool). f (cond b ts no_members)) e ∙ g
untagged f (float bits) ts e g = g
untagged f (tuple us) ts e g = g
untagged f nil ts e g = g
untagged f (cons x y) ts e g = g
untagged f (map us) ts e g = g

few : {X : Type 0} (f : AnyMembers → Option X) → OfFourth f → (t : AnyTerm) → length (members_seen t) < 4 → option_and_then (λ _. f (behind_tag t)) (traced t) ≡ None
few f never (tuple no_members) short = none_then (traced (tuple no_members)) (f no_members) never.none
few f never (tuple (member a no_members)) short = none_then (traced (tuple (member a no_members))) _ (either f a no_members never.none never.none)
few f never (tuple (member a (member b no_members))) short = none_then (traced (tuple (member a (member b no_members)))) _ (either f a (member b no_members) (never.one b) never.none)
few f never (tuple (member a (member b (member c no_members)))) short =
    none_then (traced (tuple (member a (member b (member c no_members))))) _ (either f a (member b (member c no_members)) (never.two b c) never.none)
few f never (tuple (member a (member b (member c (member d ts))))) short = absurd (omega (arith, short))
few f never (leaf l) short = none_then (traced (leaf l)) (f no_members) never.none
few f never (float bits) short = none_then (traced (float bits)) (f no_members) never.none
few f never nil short = none_then (traced nil) (f no_members) never.none
few f never (cons a b) short = none_then (traced (cons a b)) (f no_members) never.none
few f never (map ts) short = none_then (traced (map ts)) (f no_members) never.none

module _ {X : Type 0} (f : AnyMembers → Option X) (never : OfFourth f) (tag who word : Sight) (more : List Sight) where
  not_these : (t : AnyTerm) → OfThree t tag who word more → (p q r : Bool) → is_tag tag.sort ≡ p → is_tracee who.sort ≡ q → is_atom word.sort ≡ r → (p && (q && r)) ≡ false
      → option_and_then (λ _. f (behind_tag t)) (traced t) ≡ None
  not_these t o false q r tags traces words e =
      let u = tuple (member o.a (member o.b (member o.c o.ts))) in
      ap (λ (t : AnyTerm). option_and_then (λ _. f (behind_tag t)) (traced t)) o.is
      ∙ none_then (traced u) _ (untagged f o.a (member o.b (member o.c o.ts)) (ap (λ (g : Sight). is_tag g.sort) (sym o.is_tag) ∙ tags) never.none)
  not_these t o true false r tags traces words e =
      let u = tuple (member o.a (member o.b (member o.c o.ts))) in
      let none = leaf_none is_tracee o.b (ap (λ (g : Sight). is_tracee g.sort) (sym o.is_who) ∙ traces) in
      ap (λ (t : AnyTerm). option_and_then (λ _. f (behind_tag t)) (traced t)) o.is
      ∙ ap (option_and_then (λ _. f (behind_tag u))) (either tracee_of o.a (member o.b (member o.c o.ts)) none refl)
  not_these t o true true false tags traces words e =
      let u = tuple (member o.a (member o.b (member o.c o.ts))) in
      let none = leaf_none is_atom o.c (ap (λ (g : Sight). is_atom g.sort) (sym o.is_word) ∙ words) in
      ap (λ (t : AnyTerm). option_and_then (λ _. f (behind_tag t)) (traced t)) o.is
      ∙ none_then (traced u) _ (either f o.a (member o.b (member o.c o.ts)) (never.other o.b o.c o.ts none) never.none)
  not_these t o true true true tags traces words e = absurd cc

-- the signs of a message that begins so
pub begun_so : (a b c : Bool) → (a && (b && c)) ≡ true → (a ≡ true) × (b ≡ true) × (c ≡ true)
begun_so true true true e = (refl, refl, refl)
begun_so true true false e = absurd cc
begun_so true false c e = absurd cc
begun_so false b c e = absurd cc

module _ (t : AnyTerm) (seen : List Sight) (is : seen ≡ members_seen t) where
  pub too_few : length seen < 4 → (function_of t ≡ None) × (registered t ≡ None)
  too_few short = let less : length (members_seen t) < 4 = (let e = ap length is in omega (arith, e, short)) in (few function_behind functions t less, few atom_behind names t less)

  pub not_begun : (tag who word : Sight) (more : List Sight) → seen ≡ tag ∷ who ∷ word ∷ more → (is_tag tag.sort && (is_tracee who.sort && is_atom word.sort)) ≡ false → (function_of t ≡ None) × (registered t ≡ None)
  not_begun tag who word more there e =
      let o = three_seen t seen tag who word more is there in (
        not_these function_behind functions tag who word more t o (is_tag tag.sort) (is_tracee who.sort) (is_atom word.sort) refl refl refl e,
        not_these atom_behind names tag who word more t o (is_tag tag.sort) (is_tracee who.sort) (is_atom word.sort) refl refl refl e,
      )
