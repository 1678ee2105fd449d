-- The receiver of a message that is sent, as it is put.
use Rattle.std.proofs.Common.{◌≡◌, ℕ, ◌+◌, ◌-◌, ◌<◌, ◌≤◌, Bool, true, false, cond, List, [], ◌∷◌, ◌++◌, length, drop, Option, Some, None, Result, Ok, Err, refl, sym, ap, subst, ◌∙◌, append_assoc, length-append, append-nil, get_or, arith}
use Rattle.std.specs.Prelude.{MatchOption}
use Rattle.ext_format.specs.declared.fault.DecodeFault.{DecodeFault}
use Rattle.ext_format.specs.Reading.{Fails, Read}
use Rattle.trace_text.specs.declared.separator.Separator.TheVariants.{First, Behind}
use Rattle.trace_text.specs.declared.told.Told.{Told as Written}
use Rattle.trace_text.specs.declared.sight.Sight.{Sight}
use Rattle.trace_text.specs.declared.sight.Kind.{Kind}
use Rattle.trace_text.specs.declared.sight.Sort.{Sort}
use Rattle.trace_text.specs.AnyTerm.{Leaf, AnyTerm, leaf, float, tuple, nil, cons, map, any_count, AnyMembers, no_members, member}
use Rattle.trace_text.specs.AnyReading.{any_members_at, any_whole_at}
use Rattle.trace_text.specs.Facts.{leaf_if, receiver_if, sent_to, tells_receiver, registered, tells_registered, tells_target, told_name}
use Rattle.trace_text.specs.Parts.{members_seen, IsFifthAt, IsTheTracee, PutMessage, PutParts}
use Rattle.trace_text.specs.Pretty.{IsPretty, ArePretty}
use Rattle.trace_text.specs.Printed.{Puts, PutMembers, TellsMembers}
use Rattle.trace_text.specs.Sights.{is_atom, is_pid, sight}
use Rattle.ext_format.proofs.FieldLaws.{IsBytes}
use Rattle.trace_text.specs.Choosing.{term_in}
use Rattle.trace_text.specs.PrettyLines.{longest_message}
use Rattle.trace_text.proofs.Suiting.{term_spelled}
use Rattle.trace_text.proofs.PrettyTelling.{spells_read}
use Rattle.trace_text.proofs.AnyLemmas.{members_count}
use Rattle.trace_text.proofs.MembersInRow.{join, separator_after, put_behind, fails_before, fails_behind}
use Rattle.trace_text.proofs.FourthLemmas.{leaf_none}
use Rattle.trace_text.proofs.PartLemmas.{OfLeaves, dropped, goes_on_with, leaf_by}

-- ---- where it stands

few_members : (ts : AnyMembers) (text : List ℕ) (place : ℕ) → any_count ts < 5 → IsFifthAt (tuple ts) text place
few_members no_members text place few = tt
few_members (member a no_members) text place few = tt
few_members (member a (member b no_members)) text place few = tt
few_members (member a (member b (member c no_members))) text place few = tt
few_members (member a (member b (member c (member d no_members)))) text place few = tt
few_members (member a (member b (member c (member d (member e ts))))) text place few = absurd (omega (arith, few))

four_behind : (ts : AnyMembers) → any_count ts ≡ 4 → separator_after First ts ≡ Behind
four_behind (member a ts) few = go ts
  where
    go : (ts : AnyMembers) → separator_after Behind ts ≡ Behind
    go no_members = refl
    go (member a ts) = go ts
four_behind no_members few = absurd (omega (arith, few))

-- the fifth stands behind four
fifth_behind : (front ts : AnyMembers) (mid own text : List ℕ) (place : ℕ) → any_count front ≡ 4 → ArePretty Behind ts own → place ≡ length mid → text ≡ mid ++ own → IsFifthAt (tuple (join front ts)) text place
fifth_behind (member a (member b (member c (member d no_members)))) (member e ts) mid own text place four are is text_is =
    let g = goes_on_with e ts own [] are in
    (mid, g.0, g.1 ++ [], g.2, is, text_is ∙ ap (λ (l : List ℕ). mid ++ l) (sym (append-nil own) ∙ g.4))
fifth_behind (member a (member b (member c (member d no_members)))) no_members mid own text place four are is text_is = tt
fifth_behind (member a (member b (member c (member d (member x xs))))) ts mid own text place four are is text_is = absurd (omega (arith, four))
fifth_behind no_members ts mid own text place four are is text_is = absurd (omega (arith, four))
fifth_behind (member a no_members) ts mid own text place four are is text_is = absurd (omega (arith, four))
fifth_behind (member a (member b no_members)) ts mid own text place four are is text_is = absurd (omega (arith, four))
fifth_behind (member a (member b (member c no_members))) ts mid own text place four are is text_is = absurd (omega (arith, four))

module _ (read : List ℕ → Read AnyTerm) (bytes rest : List ℕ) (old new : Written Sight) where
  -- members that are put at once
  pub few_put : (n : ℕ) → n < 5 → PutMembers First old.text.items old.seen.items (any_members_at read n bytes) new.text.items new.seen.items rest → PutParts old new (any_members_at read n bytes) rest
  few_put n few p = record { put = p; fifth = few_members p.ts new.text.items new.place (let e = members_count read n bytes (p.ts, rest) p.is in omega (arith, e, few)) }

  -- the first four, and those behind them
  pub parts_put : (n m : ℕ) (mid middle : List ℕ) (sees : List Sight) → 4 + m ≡ n → PutMembers First old.text.items old.seen.items (any_members_at read 4 bytes) mid sees middle
      → PutMembers Behind mid sees (any_members_at read m middle) new.text.items new.seen.items rest → new.place ≡ length mid → PutParts old new (any_members_at read n bytes) rest
  unfolding put_behind
  parts_put n m mid middle sees all p q at =
      let four = members_count read 4 bytes (p.ts, middle) p.is in
      subst (λ (k : ℕ). PutParts old new (any_members_at read k bytes) rest) all (record {
        put = put_behind read 4 m bytes First Behind old.text.items mid new.text.items middle rest old.seen.items sees new.seen.items p (sym (four_behind p.ts four)) q;
        fifth = fifth_behind p.ts q.ts mid q.text new.text.items new.place four q.pretty at q.line_is;
      })

pub few_puts : {X : Type 0} (read : List ℕ → Read AnyTerm) (bytes rest : List ℕ) (old new : Written Sight) (n : ℕ) (r : Result X DecodeFault) → n < 5 → TellsMembers r First (any_members_at read n bytes) old new rest
    → Puts r (any_members_at read n bytes) (λ _. PutParts old new (any_members_at read n bytes) rest)
few_puts read bytes rest old new n (Ok x) few p = few_put read bytes rest old new n few p
few_puts read bytes rest old new n (Err d) few p = p

module _ (read : List ℕ → Read AnyTerm) (bytes : List ℕ) (n m : ℕ) (long : 5 ≤ n) (left : m ≡ n - 4) where
  four_left : 4 + m ≡ n
  four_left = omega (arith, long, left)

  pub four_fail : (d : DecodeFault) → Fails d (any_members_at read 4 bytes) → Fails d (any_members_at read n bytes)
  four_fail d h = subst (λ (k : ℕ). Fails d (any_members_at read k bytes)) four_left (fails_before read 4 m bytes d h)

  pub others_fail : (d : DecodeFault) (ts : AnyMembers) (middle : List ℕ) → any_members_at read 4 bytes ≡ Ok (ts, middle) → Fails d (any_members_at read m middle) → Fails d (any_members_at read n bytes)
  others_fail d ts middle is h = subst (λ (k : ℕ). Fails d (any_members_at read k bytes)) four_left (fails_behind read 4 m bytes d ts middle is h)

  pub parts_puts : (old new : Written Sight) (mid middle rest : List ℕ) (sees : List Sight) → PutMembers First old.text.items old.seen.items (any_members_at read 4 bytes) mid sees middle
      → PutMembers Behind mid sees (any_members_at read m middle) new.text.items new.seen.items rest → new.place ≡ length mid → PutParts old new (any_members_at read n bytes) rest
  parts_puts old new mid middle rest sees p q at = parts_put read bytes rest old new n m mid middle sees four_left p q at

-- ---- who it is

pub pids : OfLeaves is_pid
pids = record { other = refl; list = λ count. refl; of_tuple = λ shape. refl }

not_sent : (t : AnyTerm) (b : Bool) → tells_receiver (sight t).kind ≡ b → sent_to t ≡ cond b (receiver_if is_pid t) None
not_sent t b e = ap (λ (b : Bool). cond b (receiver_if is_pid t) None) e

pub no_receiver : (t : AnyTerm) (k : Option Kind) → k ≡ (sight t).kind → tells_receiver k ≡ false → sent_to t ≡ None
no_receiver t k is never = not_sent t false (ap tells_receiver (sym is) ∙ never)

pub few_seen : (test : Sort → Bool) (t : AnyTerm) → length (members_seen t) < 5 → receiver_if test t ≡ None
few_seen test (leaf l) few = refl
few_seen test (float bits) few = refl
few_seen test nil few = refl
few_seen test (cons a b) few = refl
few_seen test (map ts) few = refl
few_seen test (tuple no_members) few = refl
few_seen test (tuple (member a no_members)) few = refl
few_seen test (tuple (member a (member b no_members))) few = refl
few_seen test (tuple (member a (member b (member c no_members)))) few = refl
few_seen test (tuple (member a (member b (member c (member d no_members))))) few = refl
few_seen test (tuple (member a (member b (member c (member d (member e ts)))))) few = absurd (omega (arith, few))

pub not_so_many : (t : AnyTerm) (seen : List Sight) → tells_receiver (sight t).kind ≡ true → seen ≡ members_seen t → length seen < 5 → sent_to t ≡ None
not_so_many t seen tells is few = not_sent t true tells ∙ few_seen is_pid t (let e = ap length is in omega (arith, e, few))

-- the fifth member of a term, and what is seen of it
pub record OfFive (t : AnyTerm) (to : Sight) : Type 0 where
  pub e : AnyTerm
  pub is_to : to ≡ sight e
  pub is : (test : Sort → Bool) → receiver_if test t ≡ leaf_if test e
  pub stands : (text : List ℕ) (place : ℕ) → IsFifthAt t text place → (front own rest : List ℕ) × IsPretty e own × (place ≡ length front) × (text ≡ front ++ 44 ∷ (own ++ rest))

five_of : (t : AnyTerm) (a b c d to : Sight) (more : List Sight) → a ∷ b ∷ c ∷ d ∷ to ∷ more ≡ members_seen t → OfFive t to
five_of (tuple (member a (member b (member c (member d (member e ts)))))) x y z w to more is = record { e = e; is_to = cc; is = λ test. refl; stands = λ text place h. h }
five_of (tuple (member a (member b (member c (member d no_members))))) x y z w to more is = absurd cc
five_of (tuple (member a (member b (member c no_members)))) x y z w to more is = absurd cc
five_of (tuple (member a (member b no_members))) x y z w to more is = absurd cc
five_of (tuple (member a no_members)) x y z w to more is = absurd cc
five_of (tuple no_members) x y z w to more is = absurd cc
five_of (leaf l) x y z w to more is = absurd cc
five_of (float bits) x y z w to more is = absurd cc
five_of nil x y z w to more is = absurd cc
five_of (cons a b) x y z w to more is = absurd cc
five_of (map ts) x y z w to more is = absurd cc

pub five_at : (seen : List Sight) (other : Sight) → 5 ≤ length seen → seen ≡ get_or seen 0 other ∷ get_or seen 1 other ∷ get_or seen 2 other ∷ get_or seen 3 other ∷ get_or seen 4 other ∷ drop 5 seen
five_at (a ∷ b ∷ c ∷ d ∷ e ∷ ss) other long = refl
five_at [] other long = absurd (omega (arith, long))
five_at (a ∷ []) other long = absurd (omega (arith, long))
five_at (a ∷ b ∷ []) other long = absurd (omega (arith, long))
five_at (a ∷ b ∷ c ∷ []) other long = absurd (omega (arith, long))
five_at (a ∷ b ∷ c ∷ d ∷ []) other long = absurd (omega (arith, long))

pub five_there : (t : AnyTerm) (seen : List Sight) (other : Sight) → seen ≡ members_seen t → 5 ≤ length seen → OfFive t (get_or seen 4 other)
five_there t seen other is long = five_of t _ _ _ _ _ _ (sym (five_at seen other long) ∙ is)

module _ (t : AnyTerm) (to : Sight) (five : OfFive t to) (test : Sort → Bool) where
  pub not_such : test to.sort ≡ false → receiver_if test t ≡ None
  not_such never = five.is test ∙ leaf_none test five.e (ap (λ (s : Sight). test s.sort) (sym five.is_to) ∙ never)

  -- it is told by the text that stands behind the place, as long as was seen
  pub the_fifth : OfLeaves test → (text rest shown : List ℕ) (place next : ℕ) → IsFifthAt t text place → test to.sort ≡ true → next ≡ place + 1 → rest ≡ drop next text
      → ((own more : List ℕ) → rest ≡ own ++ more → to.sizes.first ≡ length own → shown ≡ own) → IsTheTracee shown (receiver_if test t)
  the_fifth leaves text rest shown place next fifth is_such at from cut =
      let h = five.stands text place fifth in
      let o = leaf_by test leaves five.e h.1 (ap (λ (s : Sight). test s.sort) (sym five.is_to) ∙ is_such) h.3 in
      let parted : text ≡ (h.0 ++ 44 ∷ []) ++ (h.1 ++ h.2) = h.5 ∙ sym (append_assoc h.0 (44 ∷ []) (h.1 ++ h.2)) in
      let there : rest ≡ h.1 ++ h.2 = from ∙ dropped (h.0 ++ 44 ∷ []) (h.1 ++ h.2) text next parted (let l = length-append h.0 (44 ∷ []) in let p = h.4 in omega (arith, l, p, at)) in
      record { l = o.0.l; is = five.is test ∙ o.1; text = cut h.1 h.2 there (ap (λ (s : Sight). s.sizes.first) five.is_to ∙ o.0.size) ∙ o.0.text }

module _ (t : AnyTerm) (to : Sight) (five : OfFive t to) (tells : tells_receiver (sight t).kind ≡ true) where
  pub no_process : is_pid to.sort ≡ false → sent_to t ≡ None
  no_process never = not_sent t true tells ∙ not_such t to five is_pid never

  pub the_process : (text rest shown : List ℕ) (place next : ℕ) → IsFifthAt t text place → is_pid to.sort ≡ true → next ≡ place + 1 → rest ≡ drop next text
      → ((own more : List ℕ) → rest ≡ own ++ more → to.sizes.first ≡ length own → shown ≡ own) → IsTheTracee shown (sent_to t)
  the_process text rest shown place next fifth is_process at from cut = subst (IsTheTracee shown) (sym (not_sent t true tells)) (the_fifth t to five is_pid pids text rest shown place next fifth is_process at from cut)

-- ---- a name

pub name_by : (t : AnyTerm) (k : Option Kind) (b c : Bool) → k ≡ (sight t).kind → tells_registered k ≡ b → tells_target k ≡ c → told_name t ≡ cond b (registered t) (cond c (receiver_if is_atom t) None)
name_by t k b c is gets sends =
    ap (λ (b : Bool). cond b (registered t) (cond (tells_target (sight t).kind) (receiver_if is_atom t) None)) (ap tells_registered (sym is) ∙ gets)
    ∙ ap (λ (c : Bool). cond b (registered t) (cond c (receiver_if is_atom t) None)) (ap tells_target (sym is) ∙ sends)

-- it is told by what is found of the one or the other
pub name_as : {R : Type 0} (now : R → List ℕ) (o : Option R) (t : AnyTerm) (l : Option Leaf) → told_name t ≡ l → MatchOption o (l ≡ None) (λ own. IsTheTracee (now own) l) → MatchOption o (told_name t ≡ None) (λ own. IsTheTracee (now own) (told_name t))
name_as now o t l is m = subst (λ (l : Option Leaf). MatchOption o (l ≡ None) (λ own. IsTheTracee (now own) l)) (sym is) m

-- ---- what is read

-- it stands there in the term that a message is
pub fifth_read : (bytes : List ℕ) (n : ℕ) (old new : Written Sight) (kind : Option Kind) → PutMessage kind old new (any_whole_at bytes) n → n ≡ length bytes → IsBytes bytes → length bytes ≤ longest_message
    → (t : AnyTerm) → term_in bytes ≡ Some t → IsFifthAt t new.text.items new.place
fifth_read bytes n old new kind m all fits short t is =
    let same : Some m.t ≡ Some t = sym (term_spelled bytes m.t short (spells_read bytes m.t n fits m.is all)) ∙ is in
    subst (λ (o : AnyTerm). IsFifthAt o new.text.items new.place) (let e : m.t ≡ t = cc in e) m.fifth
