-- Parts of a message, as they are put.
use Rattle.std.proofs.Common.{◌≡◌, ℕ, zero, suc, ◌+◌, ◌-◌, ◌*◌, ◌^◌, ◌<◌, ◌≤◌, ℤ, pos, negsuc, Bool, true, false, cond, nat_eq, List, [], ◌∷◌, ◌++◌, length, drop, map as each, codes, Option, Some, None, Result, Ok, Err, refl, sym, ap, subst, ◌∙◌, append_assoc, append-nil, arith, ◌&&◌, get_or, length-append}
use Rattle.std.proofs.Math.Seq.{drop-append_seam}
use Rattle.std.proofs.lemmas.List.{drop-drop}
use Rattle.std.specs.Int.{w8, w16, w32, w64}
use Rattle.std.specs.Fmt.{decimal}
use Rattle.std.specs.Str.{bytes_eq}
use Rattle.std.specs.Option.{option_and_then}
use Rattle.std.proofs.lemmas.Bool.{eqb-true}
use Rattle.std.proofs.lemmas.Bool.Decides.{same_from_decides, Decides-eqb}
use Rattle.std.proofs.lemmas.Fmt.{decimal_digit, decimal-digits_of, decimal_injective}
use Rattle.std.proofs.lemmas.Slice.Eq.{bytes_eq-Decides}
use Rattle.ext_format.specs.declared.fault.DecodeFault.{DecodeFault}
use Rattle.ext_format.specs.declared.fault.DecodeFault.TheVariants.{TooBig}
use Rattle.ext_format.specs.Reading.{◌>>=◌, Fails, Read, number_at, sized_at}
use Rattle.trace_text.specs.declared.separator.Separator.TheVariants.{Behind}
use Rattle.trace_text.specs.declared.message.Opening.{Opening}
use Rattle.trace_text.specs.declared.told.Told.{Told as Written}
use Rattle.trace_text.specs.declared.sight.Sight.{Sight}
use Rattle.trace_text.specs.declared.sight.Sort.{Sort}
use Rattle.trace_text.specs.declared.sight.Sort.TheVariants as sorts
use Rattle.trace_text.specs.AnyTerm.{Leaf, int, AnyTerm, leaf, float, tuple, nil, cons, map, closure, conses, any_integers, any_count, AnyMembers, no_members, member}
use Rattle.trace_text.specs.declared.any_tag.AnyTag.{AnyTag}
use Rattle.trace_text.specs.declared.any_tag.AnyTag.TheVariants as any
use Rattle.trace_text.specs.AnyReading.{leaf_at as leaf_at_tag, finite, any_members_at, any_tuple_at, any_list_at, any_map_at, fun_head_at, fun_at, any_fields_at, any_term_at, any_whole_at}
use Rattle.trace_text.specs.BigText.{whole_decimal, whole_signed}
use Rattle.trace_text.specs.Choosing.{is_count}
use Rattle.trace_text.specs.Facts.{is_tag, is_tracee, leaf_if, Function, with_names, function_in, function_behind, behind_tag, tracee_of, traced, function_of, atom_behind, registered, arity_told}
use Rattle.trace_text.specs.Objects.{unsigned_told}
use Rattle.trace_text.specs.Parts.{members_seen, IsFifthAt, IsSeenSo, is_tuple, Opens, PutMessage, PutParts}
use Rattle.trace_text.specs.Pretty.{is_printable, leaf_text, IsPretty, a_leaf, a_tuple, ArePretty, with_member}
use Rattle.trace_text.specs.Printed.{Puts, PutTerm, any_tuple_of}
use Rattle.trace_text.specs.declared.sight.Shape.{Shape}
use Rattle.trace_text.specs.declared.sight.Shape.TheVariants as shapes
use Rattle.trace_text.specs.declared.sight.Sizes.{Sizes}
use Rattle.trace_text.specs.declared.sight.Kind.{Kind}
use Rattle.trace_text.specs.Sights.{is_atom, is_number, sort_of, sight, sights, shape_of, shape_of_function, is_function_shape, plain, parts_kind, arity_in}
use Rattle.trace_text.proofs.AnyLemmas.{members_count, tail_alone}
use Rattle.trace_text.proofs.Steps.{Each, just, after, fails_as, bracketed}
use Rattle.trace_text.proofs.WholeDecimal.{AreGlyphs, whole_glyphs}

-- ---- leaves by their sorts

-- a sort of leaves alone
pub record OfLeaves (test : Sort → Bool) : Type 0 where
  pub other : test sorts.Other ≡ false
  pub list : (count : Option ℕ) → test (sorts.List count) ≡ false
  pub of_tuple : (shape : Shape) → test (sorts.Tuple shape) ≡ false

pub leaf_is : (test : Sort → Bool) → OfLeaves test → (t : AnyTerm) → test (sight t).sort ≡ true → (l : Leaf) × (t ≡ leaf l) × (leaf_if test t ≡ Some l)
leaf_is test never (leaf l) e = (l, refl, ap (λ (b : Bool). cond b (Some l) None) e)
leaf_is test never (float bits) e = let n = never.other in absurd cc
leaf_is test never (tuple ts) e = let n = never.of_tuple (shape_of (sights ts)) in absurd cc
leaf_is test never nil e = let n = never.list (Some 0) in absurd cc
leaf_is test never (cons a b) e = let n = never.list (arity_in (cons a b)) in absurd cc
leaf_is test never (map ts) e = let n = never.other in absurd cc

pub atoms : OfLeaves is_atom
atoms = record { other = refl; list = λ count. refl; of_tuple = λ shape. refl }

pub tags : OfLeaves is_tag
tags = record { other = refl; list = λ count. refl; of_tuple = λ shape. refl }

pub tracees : OfLeaves is_tracee
tracees = record { other = refl; list = λ count. refl; of_tuple = λ shape. refl }

pub own_text : (l : Leaf) (own : List ℕ) → IsPretty (leaf l) own → own ≡ leaf_text l
own_text l _ (a_leaf _) = refl

-- what stands behind the first bytes, passed over in steps
pub dropped : (first rest text : List ℕ) (n : ℕ) → text ≡ first ++ rest → n ≡ length first → drop n text ≡ rest
dropped first rest text n is counted = ap (λ (k : ℕ). drop k text) counted ∙ ap (drop (length first)) is ∙ drop-append_seam first rest

pub dropped_twice : (first rest text once : List ℕ) (n m : ℕ) → text ≡ first ++ rest → once ≡ drop n text → n + m ≡ length first → drop m once ≡ rest
dropped_twice first rest text once n m is from counted = ap (drop m) from ∙ drop-drop m n text ∙ dropped first rest text _ is (omega (arith, counted))

-- what stands behind a text and the sign after it
pub after_sign : (first rest text once : List ℕ) (sign n : ℕ) → text ≡ first ++ sign ∷ rest → once ≡ drop n text → n ≡ length first → drop 1 once ≡ rest
after_sign first rest text once sign n is from counted =
    dropped_twice (first ++ sign ∷ []) rest text once n 1 (is ∙ sym (append_assoc first (sign ∷ []) rest)) from (omega (arith, counted, length-append first (sign ∷ [])))

-- the texts of a tuple's members
pub tuple_begins : (a : AnyTerm) (ts : AnyMembers) (text more : List ℕ) → IsPretty (tuple (member a ts)) text
    → (own rest : List ℕ) × IsPretty a own × ArePretty Behind ts rest × (text ++ more ≡ 123 ∷ (own ++ (rest ++ 125 ∷ more)))
tuple_begins a ts _ more (a_tuple _ _ (with_member _ _ _ own rest p are)) =
    (own, rest, p, are, ap (λ (l : List ℕ). 123 ∷ l) (append_assoc (own ++ rest) (125 ∷ []) more ∙ append_assoc own rest (125 ∷ more)))

pub goes_on_with : (b : AnyTerm) (ts : AnyMembers) (text more : List ℕ) → ArePretty Behind (member b ts) text
    → (own rest : List ℕ) × IsPretty b own × ArePretty Behind ts rest × (text ++ more ≡ 44 ∷ (own ++ (rest ++ more)))
goes_on_with b ts _ more (with_member _ _ _ own rest p are) = (own, rest, p, are, ap (λ (l : List ℕ). 44 ∷ l) (append_assoc own rest more))

-- a leaf, by what was seen of it
pub record OfLeaf (t : AnyTerm) (own : List ℕ) : Type 0 where
  pub l : Leaf
  pub is : t ≡ leaf l
  pub text : own ≡ leaf_text l
  pub size : (sight t).sizes.first ≡ length own

pub leaf_by : (test : Sort → Bool) → OfLeaves test → (t : AnyTerm) (own : List ℕ) → test (sight t).sort ≡ true → IsPretty t own → (o : OfLeaf t own) × (leaf_if test t ≡ Some o.l)
leaf_by test never t own e p =
    let l = leaf_is test never t e in
    let text = own_text l.0 own (subst (λ (t : AnyTerm). IsPretty t own) l.1 p) in
    (record { l = l.0; is = l.1; text = text; size = ap (λ (t : AnyTerm). (sight t).sizes.first) l.1 ∙ ap length (sym text) }, l.2)

pub number_is : (t : AnyTerm) → is_number (sight t).sort ≡ true → (z : ℤ) × (t ≡ leaf (int z))
number_is (leaf (int z)) e = (z, refl)
number_is t e = absurd cc

leaf_there : (t : AnyTerm) (l : Leaf) (own : List ℕ) → t ≡ leaf l → IsPretty t own → OfLeaf t own
leaf_there t l own is p =
    let text = own_text l own (subst (λ (t : AnyTerm). IsPretty t own) is p) in
    record { l = l; is = is; text = text; size = ap (λ (t : AnyTerm). (sight t).sizes.first) is ∙ ap length (sym text) }

function_number : (s : Sort) → shape_of_function s ≡ shapes.Function → is_number s ≡ true
function_number sorts.Number e = refl
function_number (sorts.Character c) e = refl
function_number (sorts.List count) e = absurd cc
function_number s e = absurd cc

pub told_arity : (t : AnyTerm) (own text : List ℕ) (size : ℕ) (shape : Shape) → shape ≡ shape_of_function (sight t).sort → shape ≡ shapes.Function → size ≡ (sight t).sizes.first → IsPretty t own
    → (z : ℤ) × (t ≡ leaf (int z)) × (own ≡ whole_signed z) × (size ≡ length own)
told_arity t own text size shape is f sized p =
    let z = number_is t (function_number (sight t).sort (sym is ∙ f)) in
    let o = leaf_there t (int z.0) own z.1 p in
    (z.0, z.1, own_text (int z.0) own (subst (λ (t : AnyTerm). IsPretty t own) z.1 p), sized ∙ o.size)

-- ---- who is traced

tagged : (a : AnyTerm) (ts : AnyMembers) → is_tag (sight a).sort ≡ true → behind_tag (tuple (member a ts)) ≡ ts
tagged (leaf l) ts e = ap (λ (b : Bool). cond b ts no_members) e
tagged (float bits) ts e = absurd cc
tagged (tuple us) ts e = absurd cc
tagged nil ts e = absurd cc
tagged (cons x y) ts e = absurd cc
tagged (map us) ts e = absurd cc

-- three members, and what is seen of them
pub record OfThree (t : AnyTerm) (tag who word : Sight) (more : List Sight) : Type 0 where
  pub a : AnyTerm
  pub b : AnyTerm
  pub c : AnyTerm
  pub ts : AnyMembers
  pub is : t ≡ tuple (member a (member b (member c ts)))
  pub is_tag : tag ≡ sight a
  pub is_who : who ≡ sight b
  pub is_word : word ≡ sight c
  pub are_more : more ≡ sights ts

three_of : (ts : AnyMembers) (tag who word : Sight) (more : List Sight) → tag ∷ who ∷ word ∷ more ≡ sights ts → OfThree (tuple ts) tag who word more
three_of (member a (member b (member c ts))) tag who word more e =
    record { a = a; b = b; c = c; ts = ts; is = refl; is_tag = cc; is_who = cc; is_word = cc; are_more = cc }
three_of no_members tag who word more e = absurd cc
three_of (member a no_members) tag who word more e = absurd cc
three_of (member a (member b no_members)) tag who word more e = absurd cc

pub three_seen : (t : AnyTerm) (seen : List Sight) (tag who word : Sight) (more : List Sight) → seen ≡ members_seen t → seen ≡ tag ∷ who ∷ word ∷ more → OfThree t tag who word more
three_seen (tuple ts) seen tag who word more is e = three_of ts tag who word more (sym e ∙ is)
three_seen (leaf l) seen tag who word more is e = absurd cc
three_seen (float bits) seen tag who word more is e = absurd cc
three_seen nil seen tag who word more is e = absurd cc
three_seen (cons a b) seen tag who word more is e = absurd cc
three_seen (map ts) seen tag who word more is e = absurd cc

-- the text of a message by who is traced
pub record HasTracee (t : AnyTerm) (text : List ℕ) (tag who : Sight) : Type 0 where
  pub first : List ℕ
  pub second : List ℕ
  pub rest : List ℕ
  pub text_is : text ≡ 123 ∷ (first ++ 44 ∷ (second ++ rest))
  pub tag_size : tag.sizes.first ≡ length first
  pub who_size : who.sizes.first ≡ length second
  pub l : Leaf
  pub is : traced t ≡ Some l
  pub own : second ≡ leaf_text l

-- what stands for a sight that isn't there
abbrev pub no_sight : Sight
no_sight = plain sorts.Number

pub three_at : (seen : List Sight) → 3 ≤ length seen → seen ≡ get_or seen 0 no_sight ∷ get_or seen 1 no_sight ∷ get_or seen 2 no_sight ∷ drop 3 seen
three_at (a ∷ b ∷ c ∷ ss) e = refl
three_at [] e = absurd (omega (arith, e))
three_at (a ∷ []) e = absurd (omega (arith, e))
three_at (a ∷ b ∷ []) e = absurd (omega (arith, e))

pub four_at : (seen : List Sight) → 4 ≤ length seen → seen ≡ get_or seen 0 no_sight ∷ get_or seen 1 no_sight ∷ get_or seen 2 no_sight ∷ get_or seen 3 no_sight ∷ drop 4 seen
four_at (a ∷ b ∷ c ∷ d ∷ ss) e = refl
four_at [] e = absurd (omega (arith, e))
four_at (a ∷ []) e = absurd (omega (arith, e))
four_at (a ∷ b ∷ []) e = absurd (omega (arith, e))
four_at (a ∷ b ∷ c ∷ []) e = absurd (omega (arith, e))

module _ (t : AnyTerm) (seen : List Sight) (text : List ℕ) (s : IsSeenSo t seen text) where
  module _ (tag who word : Sight) (more : List Sight) (there : seen ≡ tag ∷ who ∷ word ∷ more) where
    abbrev pub of : OfThree t tag who word more
    of = three_seen t seen tag who word more s.members there

    module _ (tagged_so : is_tag tag.sort ≡ true) where
      behind : behind_tag t ≡ member of.b (member of.c of.ts)
      behind = ap behind_tag of.is ∙ tagged of.a (member of.b (member of.c of.ts)) (ap (λ (g : Sight). is_tag g.sort) (sym of.is_tag) ∙ tagged_so)

      module _ (traced_so : is_tracee who.sort ≡ true) where
        abbrev pub begins : (own rest : List ℕ) × IsPretty of.a own × ArePretty Behind (member of.b (member of.c of.ts)) rest × (text ++ [] ≡ 123 ∷ (own ++ (rest ++ 125 ∷ [])))
        begins = tuple_begins of.a (member of.b (member of.c of.ts)) text [] (subst (λ (t : AnyTerm). IsPretty t text) of.is s.pretty)

        abbrev pub second : (own rest : List ℕ) × IsPretty of.b own × ArePretty Behind (member of.c of.ts) rest × (begins.1 ++ 125 ∷ [] ≡ 44 ∷ (own ++ (rest ++ 125 ∷ [])))
        second = goes_on_with of.b (member of.c of.ts) begins.1 (125 ∷ []) begins.3

        abbrev pub first_is : OfLeaf of.a begins.0
        first_is = (leaf_by is_tag tags of.a begins.0 (ap (λ (g : Sight). is_tag g.sort) (sym of.is_tag) ∙ tagged_so) begins.2).0

        abbrev pub second_is : (o : OfLeaf of.b second.0) × (leaf_if is_tracee of.b ≡ Some o.l)
        second_is = leaf_by is_tracee tracees of.b second.0 (ap (λ (g : Sight). is_tracee g.sort) (sym of.is_who) ∙ traced_so) second.2

        pub has_tracee : HasTracee t text tag who
        has_tracee = record {
          first = begins.0;
          second = second.0;
          rest = second.1 ++ 125 ∷ [];
          text_is = sym (append-nil text) ∙ begins.4 ∙ ap (λ (l : List ℕ). 123 ∷ (begins.0 ++ l)) second.4;
          tag_size = ap (λ (g : Sight). g.sizes.first) of.is_tag ∙ first_is.size;
          who_size = ap (λ (g : Sight). g.sizes.first) of.is_who ∙ second_is.0.size;
          l = second_is.0.l;
          is = ap tracee_of behind ∙ second_is.1;
          own = second_is.0.text;
        }

        function_is : function_of t ≡ function_behind (member of.b (member of.c of.ts))
        function_is = ap (option_and_then (λ _. function_behind (behind_tag t))) (ap tracee_of behind ∙ second_is.1) ∙ ap function_behind behind

        atom_is : registered t ≡ atom_behind (member of.b (member of.c of.ts))
        atom_is = ap (option_and_then (λ _. atom_behind (behind_tag t))) (ap tracee_of behind ∙ second_is.1) ∙ ap atom_behind behind

-- ---- the function

-- whether two members are atoms, what the third makes of them, and whether all are numbers
names_if : (p q m : Bool) (of shape : Shape) → cond (p && q) of (cond m shapes.Moment shapes.Other) ≡ shape → is_function_shape shape ≡ true → (p ≡ true) × (q ≡ true) × (shape ≡ of)
names_if true true m of shape e is = (refl, refl, sym e)
names_if true false true of shape e is = absurd (let never = ap is_function_shape e in cc)
names_if true false false of shape e is = absurd (let never = ap is_function_shape e in cc)
names_if false q true of shape e is = absurd (let never = ap is_function_shape e in cc)
names_if false q false of shape e is = absurd (let never = ap is_function_shape e in cc)

two_never : (p m : Bool) (shape : Shape) → cond p shapes.Reason (cond m shapes.Moment shapes.Other) ≡ shape → is_function_shape shape ≡ false
two_never true m shape e = sym (ap is_function_shape e)
two_never false true shape e = sym (ap is_function_shape e)
two_never false false shape e = sym (ap is_function_shape e)

-- a tuple of two atoms and a term
pub record OfNames (d : AnyTerm) (shape : Shape) : Type 0 where
  pub m : AnyTerm
  pub f : AnyTerm
  pub c : AnyTerm
  pub is : d ≡ tuple (member m (member f (member c no_members)))
  pub m_atom : is_atom (sight m).sort ≡ true
  pub f_atom : is_atom (sight f).sort ≡ true
  pub shape_is : shape ≡ shape_of_function (sight c).sort

pub tuple_shape : (ts : AnyMembers) (shape : Shape) → sorts.Tuple (shape_of (sights ts)) ≡ sorts.Tuple shape → shape_of (sights ts) ≡ shape
tuple_shape ts shape e = cc

pub of_names : (ts : AnyMembers) (shape : Shape) → shape_of (sights ts) ≡ shape → is_function_shape shape ≡ true → OfNames (tuple ts) shape
of_names (member m (member f (member c no_members))) shape e is =
    let h = names_if (is_atom (sight m).sort) (is_atom (sight f).sort) (is_number (sight m).sort && (is_number (sight f).sort && is_number (sight c).sort)) (shape_of_function (sight c).sort) shape e is in
    record { m = m; f = f; c = c; is = refl; m_atom = h.0; f_atom = h.1; shape_is = h.2 }
of_names (member m (member f no_members)) shape e is = let never = two_never (is_atom (sight m).sort) (is_number (sight m).sort && is_number (sight f).sort) shape e in absurd cc
of_names no_members shape e is = absurd (let never = ap is_function_shape e in cc)
of_names (member m no_members) shape e is = absurd (let never = ap is_function_shape e in cc)
of_names (member m (member f (member c (member d ts)))) shape e is = absurd (let never = ap is_function_shape e in cc)

leaf_no_tuple : (l : Leaf) (shape : Shape) → sort_of l ≡ sorts.Tuple shape → ⊥
leaf_no_tuple (int (pos n)) shape e = by_printable (is_printable n) e
  where
    by_printable : (b : Bool) → cond b (sorts.Character n) sorts.Number ≡ sorts.Tuple shape → ⊥
    by_printable true e = absurd cc
    by_printable false e = absurd cc
leaf_no_tuple l shape e = absurd cc

pub names_there : (d : AnyTerm) (shape : Shape) → (sight d).sort ≡ sorts.Tuple shape → is_function_shape shape ≡ true → OfNames d shape
names_there (tuple ts) shape e is = of_names ts shape (tuple_shape ts shape e) is
names_there (leaf l) shape e is = absurd (leaf_no_tuple l shape e)
names_there d shape e is = absurd cc

-- its text by its members
pub record HasNames (d : AnyTerm) (shape : Shape) (text : List ℕ) : Type 0 where
  pub first : List ℕ
  pub second : List ℕ
  pub third : List ℕ
  pub rest : List ℕ
  pub text_is : text ≡ 123 ∷ (first ++ 44 ∷ (second ++ 44 ∷ (third ++ rest)))
  pub module_size : (sight d).sizes.first ≡ length first
  pub name_size : (sight d).sizes.second ≡ length second
  pub f : Function
  pub arguments_size : (sight d).sizes.third ≡ (sight f.arguments).sizes.first
  pub is : function_in d ≡ Some f
  pub module_text : first ≡ leaf_text f.of_module
  pub name_text : second ≡ leaf_text f.of_name
  pub pretty : IsPretty f.arguments third
  pub shape_is : shape ≡ shape_of_function (sight f.arguments).sort

module _ (d : AnyTerm) (shape : Shape) (own rest : List ℕ) (n : OfNames d shape) (p : IsPretty d own) where
  abbrev pub names_begin : (own' r : List ℕ) × IsPretty n.m own' × ArePretty Behind (member n.f (member n.c no_members)) r × (own ++ rest ≡ 123 ∷ (own' ++ (r ++ 125 ∷ rest)))
  names_begin = tuple_begins n.m (member n.f (member n.c no_members)) own rest (subst (λ (t : AnyTerm). IsPretty t own) n.is p)

  abbrev pub name_next : (own' r : List ℕ) × IsPretty n.f own' × ArePretty Behind (member n.c no_members) r × (names_begin.1 ++ 125 ∷ rest ≡ 44 ∷ (own' ++ (r ++ 125 ∷ rest)))
  name_next = goes_on_with n.f (member n.c no_members) names_begin.1 (125 ∷ rest) names_begin.3

  abbrev pub arguments_next : (own' r : List ℕ) × IsPretty n.c own' × ArePretty Behind no_members r × (name_next.1 ++ 125 ∷ rest ≡ 44 ∷ (own' ++ (r ++ 125 ∷ rest)))
  arguments_next = goes_on_with n.c no_members name_next.1 (125 ∷ rest) name_next.3

  abbrev pub module_is : (o : OfLeaf n.m names_begin.0) × (leaf_if is_atom n.m ≡ Some o.l)
  module_is = leaf_by is_atom atoms n.m names_begin.0 n.m_atom names_begin.2

  abbrev pub name_is : (o : OfLeaf n.f name_next.0) × (leaf_if is_atom n.f ≡ Some o.l)
  name_is = leaf_by is_atom atoms n.f name_next.0 n.f_atom name_next.2

  sizes_are : (sight d).sizes ≡ record { first = (sight n.m).sizes.first; second = (sight n.f).sizes.first; third = (sight n.c).sizes.first }
  sizes_are = ap (λ (t : AnyTerm). (sight t).sizes) n.is

  pub has_names : HasNames d shape (own ++ rest)
  has_names = record {
    first = names_begin.0;
    second = name_next.0;
    third = arguments_next.0;
    rest = arguments_next.1 ++ 125 ∷ rest;
    text_is = names_begin.4 ∙ ap (λ (l : List ℕ). 123 ∷ (names_begin.0 ++ l)) name_next.4 ∙ ap (λ (l : List ℕ). 123 ∷ (names_begin.0 ++ 44 ∷ (name_next.0 ++ l))) arguments_next.4;
    module_size = ap (λ (s : Sizes). s.first) sizes_are ∙ module_is.0.size;
    name_size = ap (λ (s : Sizes). s.second) sizes_are ∙ name_is.0.size;
    arguments_size = ap (λ (s : Sizes). s.third) sizes_are;
    f = record { of_module = module_is.0.l; of_name = name_is.0.l; arguments = n.c };
    is = ap function_in n.is ∙ ap (λ (o : Option Leaf). with_names n.c o (leaf_if is_atom n.f)) module_is.1 ∙ ap (with_names n.c (Some module_is.0.l)) name_is.1;
    module_text = module_is.0.text;
    name_text = name_is.0.text;
    pretty = arguments_next.2;
    shape_is = n.shape_is;
  }

-- ---- what tells how many arguments there are

-- four members
pub record OfFour (ts : AnyMembers) (more : Sight) (others : List Sight) : Type 0 where
  pub d : AnyTerm
  pub us : AnyMembers
  pub is : ts ≡ member d us
  pub seen : more ≡ sight d

pub four_of : (ts : AnyMembers) (more : Sight) (others : List Sight) → more ∷ others ≡ sights ts → OfFour ts more others
four_of (member d us) more others e = record { d = d; us = us; is = refl; seen = cc }
four_of no_members more others e = absurd cc

-- the text of a message by its first four members
pub record HasFourth (t : AnyTerm) (text : List ℕ) (tag who word more : Sight) : Type 0 where
  pub first : List ℕ
  pub second : List ℕ
  pub third : List ℕ
  pub fourth : List ℕ
  pub rest : List ℕ
  pub text_is : text ≡ 123 ∷ (first ++ 44 ∷ (second ++ 44 ∷ (third ++ 44 ∷ (fourth ++ rest))))
  pub tag_size : tag.sizes.first ≡ length first
  pub who_size : who.sizes.first ≡ length second
  pub word_size : word.sizes.first ≡ length third
  pub d : AnyTerm
  pub seen : more ≡ sight d
  pub pretty : IsPretty d fourth
  pub is : function_of t ≡ function_in d
  pub named : registered t ≡ leaf_if is_atom d
  pub some : 0 < length rest

pub four_fit : {t : AnyTerm} {text : List ℕ} {tag who word more : Sight} (h : HasFourth t text tag who word more) → tag.sizes.first + who.sizes.first + word.sizes.first + 5 ≤ length text
four_fit h =
    omega (
      arith,
      ap length h.text_is,
      length-append h.first (44 ∷ (h.second ++ 44 ∷ (h.third ++ 44 ∷ (h.fourth ++ h.rest)))),
      length-append h.second (44 ∷ (h.third ++ 44 ∷ (h.fourth ++ h.rest))),
      length-append h.third (44 ∷ (h.fourth ++ h.rest)),
      length-append h.fourth h.rest,
      h.some,
      h.tag_size,
      h.who_size,
      h.word_size,
    )

pub dropped_to_four : {t : AnyTerm} {text : List ℕ} {tag who word more : Sight} (h : HasFourth t text tag who word more) (place : ℕ) → place ≡ tag.sizes.first + who.sizes.first + word.sizes.first + 4 → drop place text ≡ h.fourth ++ h.rest
dropped_to_four {t} {text} {tag} {who} {word} {more} h place is =
    let a = 123 ∷ h.first in
    let b = 44 ∷ h.second in
    let c = 44 ∷ h.third in
    let X = h.fourth ++ h.rest in
    let whole : text ≡ (((a ++ b) ++ c) ++ 44 ∷ []) ++ X =
    h.text_is ∙ sym (append_assoc a b (c ++ 44 ∷ X)) ∙ sym (append_assoc (a ++ b) c (44 ∷ X)) ∙ sym (append_assoc ((a ++ b) ++ c) (44 ∷ []) X) in
    dropped (((a ++ b) ++ c) ++ 44 ∷ []) X text place whole
    (omega (arith, is, length-append ((a ++ b) ++ c) (44 ∷ []), length-append (a ++ b) c, length-append a b, h.tag_size, h.who_size, h.word_size))

pub dropped_four : {t : AnyTerm} {text : List ℕ} {tag who word more : Sight} (h : HasFourth t text tag who word more) (place : ℕ) → place ≡ tag.sizes.first + who.sizes.first + word.sizes.first + 5
    → drop place text ≡ drop 1 (h.fourth ++ h.rest)
dropped_four {t} {text} {tag} {who} {word} {more} h place is =
    let before = tag.sizes.first + who.sizes.first + word.sizes.first + 4 in
    ap (λ (n : ℕ). drop n text) (let e : place ≡ before + 1 = omega (arith, is) in e) ∙ sym (drop-drop 1 before text) ∙ ap (drop 1) (dropped_to_four h before refl)

-- after who is traced
module _ (t : AnyTerm) (seen : List Sight) (text : List ℕ) (s : IsSeenSo t seen text) (tag who word more : Sight) (others : List Sight) (there : seen ≡ tag ∷ who ∷ word ∷ more ∷ others)
    (tagged_so : is_tag tag.sort ≡ true) (traced_so : is_tracee who.sort ≡ true) where
  abbrev pub three : OfThree t tag who word (more ∷ others)
  three = of t seen text s tag who word (more ∷ others) there

  abbrev pub four : OfFour three.ts more others
  four = four_of three.ts more others three.are_more

  behind_is : function_of t ≡ option_and_then (λ _. function_in four.d) (leaf_if is_atom three.c)
  behind_is = function_is t seen text s tag who word (more ∷ others) there tagged_so traced_so ∙ ap (λ (ts : AnyMembers). function_behind (member three.b (member three.c ts))) four.is

  name_is_behind : registered t ≡ option_and_then (λ _. leaf_if is_atom four.d) (leaf_if is_atom three.c)
  name_is_behind = atom_is t seen text s tag who word (more ∷ others) there tagged_so traced_so ∙ ap (λ (ts : AnyMembers). atom_behind (member three.b (member three.c ts))) four.is

  module _ (worded_so : is_atom word.sort ≡ true) where
    abbrev pub rest_of : List ℕ
    rest_of = (second t seen text s tag who word (more ∷ others) there tagged_so traced_so).1

    abbrev pub third : (own rest : List ℕ) × IsPretty three.c own × ArePretty Behind three.ts rest × (rest_of ++ 125 ∷ [] ≡ 44 ∷ (own ++ (rest ++ 125 ∷ [])))
    third = goes_on_with three.c three.ts rest_of (125 ∷ []) (second t seen text s tag who word (more ∷ others) there tagged_so traced_so).3

    abbrev pub fourth : (own rest : List ℕ) × IsPretty four.d own × ArePretty Behind four.us rest × (third.1 ++ 125 ∷ [] ≡ 44 ∷ (own ++ (rest ++ 125 ∷ [])))
    fourth = goes_on_with four.d four.us third.1 (125 ∷ []) (subst (λ (ts : AnyMembers). ArePretty Behind ts third.1) four.is third.3)

    text_by_four : text ≡ 123 ∷ ((has_tracee t seen text s tag who word (more ∷ others) there tagged_so traced_so).first ++ 44 ∷ ((has_tracee t seen text s tag who word (more ∷ others) there tagged_so traced_so).second
        ++ 44 ∷ (third.0 ++ 44 ∷ (fourth.0 ++ (fourth.1 ++ 125 ∷ [])))))
    unfolding has_tracee
    text_by_four =
        let h = has_tracee t seen text s tag who word (more ∷ others) there tagged_so traced_so in
        h.text_is ∙ ap (λ (l : List ℕ). 123 ∷ (h.first ++ 44 ∷ (h.second ++ l))) (third.4 ∙ ap (λ (l : List ℕ). 44 ∷ (third.0 ++ l)) fourth.4)

    abbrev pub third_is : (o : OfLeaf three.c third.0) × (leaf_if is_atom three.c ≡ Some o.l)
    third_is = leaf_by is_atom atoms three.c third.0 (ap (λ (g : Sight). is_atom g.sort) (sym three.is_word) ∙ worded_so) third.2

    pub has_fourth : HasFourth t text tag who word more
    has_fourth =
        let h = has_tracee t seen text s tag who word (more ∷ others) there tagged_so traced_so in
        record {
          first = h.first;
          second = h.second;
          third = third.0;
          fourth = fourth.0;
          rest = fourth.1 ++ 125 ∷ [];
          text_is = text_by_four;
          tag_size = h.tag_size;
          who_size = h.who_size;
          word_size = ap (λ (g : Sight). g.sizes.first) three.is_word ∙ third_is.0.size;
          d = four.d;
          seen = four.seen;
          pretty = fourth.2;
          is = behind_is ∙ ap (option_and_then (λ _. function_in four.d)) third_is.1;
          named = name_is_behind ∙ ap (option_and_then (λ _. leaf_if is_atom four.d)) third_is.1;
          some = omega (arith, length-append fourth.1 (125 ∷ []));
        }

-- ---- what is told of arguments

head_of : List ℕ → ℕ
head_of [] = 0
head_of (x ∷ xs) = x

-- no decimal begins with a minus
each_digit : (ds xs : List ℕ) → 45 ∷ xs ≡ each (λ d. 48 + d) ds → ⊥
unfolding head_of
each_digit [] xs e = absurd cc
each_digit (d ∷ ds) xs e = let h : 45 ≡ 48 + d = ap head_of e in omega (arith, h)

no_minus : (n : ℕ) (xs : List ℕ) → n < 2 ^ 64 → 45 ∷ xs ≡ decimal n → ⊥
unfolding head_of
no_minus zero xs lt e = let h : 45 ≡ 48 + 0 = ap head_of (e ∙ decimal_digit 0 (omega arith)) in omega (arith, h)
no_minus (suc n) xs lt e = each_digit _ xs (e ∙ decimal-digits_of (suc n) (omega arith) lt)

pub false_if : (b : Bool) → (b ≡ true → ⊥) → b ≡ false
false_if true never = absurd (never refl)
false_if false never = refl

pub integer_asked : (z : ℤ) (asked : ℕ) → asked < 2 ^ 64 → bytes_eq (whole_signed z) (decimal asked) ≡ is_count asked (arity_told (leaf (int z)))
integer_asked (pos n) asked lt = refl
integer_asked (negsuc n) asked lt =
    let d = bytes_eq-Decides (45 ∷ whole_decimal (suc n)) (decimal asked) in false_if (bytes_eq (45 ∷ whole_decimal (suc n)) (decimal asked)) (λ h. no_minus asked (whole_decimal (suc n)) lt (d.0 h))

no_sign : (digits : List ℕ) → AreGlyphs digits → unsigned_told digits ≡ Some digits
no_sign [] high = refl
no_sign (c ∷ cs) high = ap (λ (b : Bool). cond b None (Some (c ∷ cs))) (false_if (nat_eq c 45) (λ e. let h = eqb-true c 45 e in let low = high.0 in omega (arith, h, low)))

pub integer_told : (z : ℤ) → unsigned_told (whole_signed z) ≡ arity_told (leaf (int z))
integer_told (pos n) = no_sign (whole_decimal n) (whole_glyphs n)
integer_told (negsuc n) = refl

pub same_count : (n asked : ℕ) → n < 2 ^ 64 → asked < 2 ^ 64 → nat_eq n asked ≡ is_count asked (Some (decimal n))
same_count n asked a b =
    let d = bytes_eq-Decides (decimal n) (decimal asked) in
    same_from_decides {P = n ≡ asked} (nat_eq n asked) (bytes_eq (decimal n) (decimal asked)) (Decides-eqb n asked) (λ h. decimal_injective n asked a b (d.0 h), λ p. d.1 (ap decimal p))

-- ---- what is no tuple

abbrev NoTuple : AnyTerm × List ℕ → Type 0
NoTuple x = is_tuple x.0 ≡ false

string_none : (bytes rest : List ℕ) → is_tuple (conses (any_integers bytes) nil) ≡ false
string_none [] rest = refl
string_none (b ∷ bs) rest = refl

sized : (b : Bool) (t : AnyTerm) (rest : List ℕ) → is_tuple t ≡ false → Each NoTuple (cond b (Ok (t, rest)) (Err TooBig))
sized true t rest is = just NoTuple (t, rest) is
sized false t rest is = λ x e. absurd cc

maps : (read : List ℕ → Read AnyTerm) (bytes : List ℕ) → Each NoTuple (any_map_at read bytes)
unfolding any_map_at
maps read bytes = after NoTuple (number_at w32 bytes) _ (λ n _. after NoTuple (any_members_at read (2 * n.0) n.1) _ (λ ts _. just NoTuple (map ts.0, ts.1) refl))

funs : (read : List ℕ → Read AnyTerm) (bytes : List ℕ) → Each NoTuple (fun_at read bytes)
unfolding fun_at
funs read bytes =
    after NoTuple (number_at w32 bytes) _ (λ s _. after NoTuple (fun_head_at s.1) _ (λ h _. after NoTuple (any_members_at read h.0.free h.1) _ (λ ts _.
    sized (nat_eq s.0 (length bytes - length ts.1)) (leaf (closure h.0.mod_name h.0.index h.0.uniq)) ts.1 refl)))

pub other_none : (inner : Result (List ℕ → Read AnyTerm) DecodeFault) (tag : AnyTag) (bytes : List ℕ) → (tag ≡ any.SmallTuple → ⊥) → (tag ≡ any.LargeTuple → ⊥) → (tag ≡ any.List → ⊥)
    → Each NoTuple (any_fields_at inner tag bytes)
unfolding any_fields_at
other_none inner (any.Leaf tag) bytes s l k = after NoTuple (leaf_at_tag tag bytes) _ (λ l _. just NoTuple (leaf l.0, l.1) refl)
other_none inner any.NewFloat bytes s l k = after NoTuple (number_at w64 bytes) _ (λ a _. after NoTuple (finite a.0) _ (λ bits _. just NoTuple (float bits, a.1) refl))
other_none inner any.Nil bytes s l k = just NoTuple (nil, bytes) refl
other_none inner any.String bytes s l k = after NoTuple inner _ (λ read _. after NoTuple (sized_at w16 bytes) _ (λ x _. just NoTuple (conses (any_integers x.0) nil, x.1) (string_none x.0 x.1)))
other_none inner any.Map bytes s l k = after NoTuple inner _ (λ read _. maps read bytes)
other_none inner any.NewFun bytes s l k = after NoTuple inner _ (λ read _. funs read bytes)
other_none inner any.SmallTuple bytes s l k = absurd (s refl)
other_none inner any.LargeTuple bytes s l k = absurd (l refl)
other_none inner any.List bytes s l k = absurd (k refl)

some_conses : (ts : AnyMembers) (tail : AnyTerm) (n : ℕ) → any_count ts ≡ n → 0 < n → is_tuple (conses ts tail) ≡ false
some_conses no_members tail n e some = absurd (omega (arith, e, some))
some_conses (member t ts) tail n e some = refl

pub list_none : (inner : Result (List ℕ → Read AnyTerm) DecodeFault) (bytes behind : List ℕ) (n : ℕ) → number_at w32 bytes ≡ Ok (n, behind) → 0 < n → Each NoTuple (any_fields_at inner any.List bytes)
unfolding any_fields_at any_list_at
list_none inner bytes behind n e some =
    after NoTuple inner _ (λ read _. subst (λ (r : Read ℕ). Each NoTuple (r >>= λ n. any_members_at read n.0 n.1 >>= λ ts. read ts.1 >>= λ tail. Ok (conses ts.0 tail.0, tail.1))) (sym e)
    (after NoTuple (any_members_at read n behind) _ (λ ts es. after NoTuple (read ts.1) _ (λ tail _. just NoTuple (conses ts.0 tail.0, tail.1) (some_conses ts.0 tail.0 n (members_count read n behind ts es) some)))))

-- ---- as it is put

-- the fifth member stays where it is when more is put
pub fifth_stays : (t : AnyTerm) (text new more : List ℕ) (place now : ℕ) → IsFifthAt t text place → new ≡ text ++ more → now ≡ place → IsFifthAt t new now
fifth_stays (tuple (member a (member b (member c (member d (member e ts)))))) text new more place now (front, own, rest, p, is, text_is) put same =
    (front, own, rest ++ more, p, same ∙ is, put ∙ ap (λ (l : List ℕ). l ++ more) text_is ∙ append_assoc front (44 ∷ (own ++ rest)) more ∙ ap (λ (l : List ℕ). front ++ 44 ∷ l) (append_assoc own rest more))
fifth_stays t text new more place now is e same = tt

pub no_fifth : (t : AnyTerm) (text : List ℕ) (place : ℕ) → is_tuple t ≡ false → IsFifthAt t text place
no_fifth (tuple ts) text place e = absurd cc
no_fifth t text place e = tt

no_tuple_seen : (t : AnyTerm) → is_tuple t ≡ false → (None ≡ (sight t).kind) × ([] ≡ members_seen t)
no_tuple_seen (tuple ts) e = absurd cc
no_tuple_seen t e = (refl, refl)

pub other_put : (read : Read AnyTerm) (rest : List ℕ) (seen : List Sight) (old new : Written Sight) → PutTerm old.text.items old.seen.items read new.text.items seen rest → new.seen.items ≡ [] → Each NoTuple read
    → PutMessage None old new read rest
other_put read rest seen old new p cleared none =
    let never = no_tuple_seen p.t (none (p.t, rest) p.is) in
    record { t = p.t; is = p.is; text = p.text; pretty = p.pretty; line_is = p.line_is; is_kind = never.0; members = cleared ∙ never.1; fifth = no_fifth p.t new.text.items new.place (none (p.t, rest) p.is) }

pub members_put : (read : List ℕ → Read AnyTerm) (bytes rest : List ℕ) (n count : ℕ) (old begun put new : Written Sight) (kind : Option Kind) → old.seen.items ≡ [] → count ≡ n → begun.text.items ≡ old.text.items ++ codes "{"
    → begun.seen.items ≡ old.seen.items → PutParts begun put (any_members_at read count bytes) rest → new.text.items ≡ put.text.items ++ codes "}" → new.seen.items ≡ put.seen.items → new.place ≡ put.place → kind ≡ parts_kind new.seen.items
    → PutMessage kind old new (any_tuple_of read n bytes) rest
members_put read bytes rest n count old begun put new kind empty same is_one stayed parts is_new still at is_kind =
    let m = parts.put in
    let members : any_members_at read n bytes ≡ Ok (m.ts, rest) = ap (λ (k : ℕ). any_members_at read k bytes) (sym same) ∙ m.is in
    let seen : new.seen.items ≡ sights m.ts = still ∙ m.seen_is ∙ ap (λ (l : List Sight). l ++ sights m.ts) (stayed ∙ empty) in
    record {
      t = tuple m.ts;
      is = rw members refl;
      text = codes "{" ++ m.text ++ codes "}";
      pretty = a_tuple m.ts m.text m.pretty;
      line_is = bracketed old.text.items (codes "{") m.text (codes "}") begun.text.items put.text.items new.text.items is_one m.line_is is_new;
      is_kind = is_kind ∙ ap parts_kind seen;
      members = seen;
      fifth = fifth_stays (tuple m.ts) put.text.items new.text.items (codes "}") put.place new.place parts.fifth is_new at;
    }

pub tuple_fails : (read : List ℕ → Read AnyTerm) (n count : ℕ) (bytes : List ℕ) (d : DecodeFault) → count ≡ n → Fails d (any_members_at read count bytes) → Fails d (any_tuple_of read n bytes)
tuple_fails read n count bytes d same h = fails_as d (any_members_at read count bytes) (any_tuple_of read n bytes) (λ e. ap (λ (k : ℕ). any_members_at read k bytes >>= λ ts. Ok (tuple ts.0, ts.1)) (sym same) ∙ ap (λ (r : Read AnyMembers). r >>= λ ts. Ok (tuple ts.0, ts.1)) e) h

pub opened_message : (whole : Read AnyTerm) (read : List ℕ → Read AnyTerm) (r : Result (Option Kind) DecodeFault) (old new : Written Sight) (n : ℕ) (bytes rest : List ℕ) → whole ≡ any_tuple_of read n bytes
    → Puts r (any_tuple_of read n bytes) (λ kind. PutMessage kind old new (any_tuple_of read n bytes) rest) → Puts r whole (λ kind. PutMessage kind old new whole rest)
opened_message whole read r old new n bytes rest is put = subst (λ (w : Read AnyTerm). Puts r w (λ kind. PutMessage kind old new w rest)) (sym is) put

pub whole_put : (bytes behind rest : List ℕ) (v n : ℕ) (kind : Option Kind) (old new : Written Sight) → number_at w8 bytes ≡ Ok (v, behind) → v ≡ 131 → n ≡ length bytes - length rest → PutMessage kind old new (any_term_at 256 behind) rest
    → PutMessage kind old new (any_whole_at bytes) n
unfolding any_whole_at
whole_put bytes behind rest v n kind old new e is sized p =
    let as_read : ℕ → Result (AnyTerm × ℕ) DecodeFault = λ k. Ok (p.t, k) in
    record { t = p.t; is = rw (e, is, p.is) (ap as_read (sym sized)); text = p.text; pretty = p.pretty; line_is = p.line_is; is_kind = p.is_kind; members = p.members; fifth = p.fifth }

-- ---- what opens a tuple

module _ (inner : Result (List ℕ → Read AnyTerm) DecodeFault) (read : List ℕ → Read AnyTerm) (there : inner ≡ Ok read) (tag : AnyTag) (bytes behind : List ℕ) (n : ℕ) where
  small_tuple : tag ≡ any.SmallTuple → number_at w8 bytes ≡ Ok (n, behind) → any_fields_at inner tag bytes ≡ any_tuple_of read n behind
  unfolding any_fields_at any_tuple_at
  small_tuple is e = rw (is, there, e) refl

  large_tuple : tag ≡ any.LargeTuple → number_at w32 bytes ≡ Ok (n, behind) → any_fields_at inner tag bytes ≡ any_tuple_of read n behind
  unfolding any_fields_at any_tuple_at
  large_tuple is e = rw (is, there, e) refl

  pub some_list : tag ≡ any.List → number_at w32 bytes ≡ Ok (n, behind) → 0 < n → Each NoTuple (any_fields_at inner tag bytes)
  some_list is e some = subst (λ (g : AnyTag). Each NoTuple (any_fields_at inner g bytes)) (sym is) (list_none inner bytes behind n e some)

  empty_list : tag ≡ any.List → number_at w32 bytes ≡ Ok (n, behind) → n ≡ 0 → any_fields_at inner tag bytes ≡ read behind
  unfolding any_fields_at
  empty_list is e no_members_there = rw (is, there) (tail_alone read bytes behind n e no_members_there)

  pub tail_opens : (r : Result (Option Opening) DecodeFault) → tag ≡ any.List → number_at w32 bytes ≡ Ok (n, behind) → n ≡ 0 → Opens r (read behind) → Opens r (any_fields_at inner tag bytes)
  tail_opens r is e none_there o = subst (Opens r) (sym (empty_list is e none_there)) o
