-- Members of a term in a row, as they are read and put.
use Rattle.std.proofs.Common.{◌≡◌, ℕ, zero, suc, ◌+◌, ◌-◌, ◌<◌, ◌≤◌, List, [], ◌∷◌, ◌++◌, Ok, Err, refl, sym, ap, subst, ◌∙◌, append_assoc, append-nil, arith}
use Rattle.ext_format.specs.declared.fault.DecodeFault.{DecodeFault}
use Rattle.ext_format.specs.Reading.{◌>>=◌, Fails, Read}
use Rattle.trace_text.specs.declared.separator.Separator.{Separator}
use Rattle.trace_text.specs.declared.sight.Sight.{Sight}
use Rattle.trace_text.specs.Separators.{before, then_one}
use Rattle.trace_text.specs.AnyTerm.{AnyTerm, AnyMembers, no_members, member}
use Rattle.trace_text.specs.AnyReading.{any_members_at}
use Rattle.trace_text.specs.Pretty.{ArePretty, none, with_member}
use Rattle.trace_text.specs.Printed.{PutTerm, PutMembers}
use Rattle.trace_text.specs.Sights.{sight, sights}
use Rattle.trace_text.proofs.Steps.{fails_as}

abbrev pub join : AnyMembers → AnyMembers → AnyMembers
join no_members ts = ts
join (member s ss) ts = member s (join ss ts)

-- what was read before, and what is still read
abbrev pub with_front : AnyMembers → Read AnyMembers → Read AnyMembers
with_front front read = read >>= λ x. Ok (join front x.0, x.1)

front_none : (read : Read AnyMembers) → with_front no_members read ≡ read
front_none (Ok x) = refl
front_none (Err d) = refl

-- the separator of the one after these
abbrev pub separator_after : Separator → AnyMembers → Separator
separator_after separator no_members = separator
separator_after separator (member t ts) = separator_after (then_one separator) ts

after_more : (separator : Separator) (front ts : AnyMembers) → separator_after separator (join front ts) ≡ separator_after (separator_after separator front) ts
after_more separator no_members ts = refl
after_more separator (member s ss) ts = after_more (then_one separator) ss ts

pub sights_join : (front ts : AnyMembers) → sights (join front ts) ≡ sights front ++ sights ts
sights_join no_members ts = refl
sights_join (member s ss) ts = ap (λ (l : List Sight). sight s ∷ l) (sights_join ss ts)

pub pretty_join : (separator : Separator) (front ts : AnyMembers) (text own : List ℕ) → ArePretty separator front text → ArePretty (separator_after separator front) ts own → ArePretty separator (join front ts) (text ++ own)
pretty_join separator no_members ts _ own (none _) are = are
pretty_join separator (member s ss) ts _ own (with_member _ _ _ first rest p more) are =
    let is : before separator ++ first ++ (rest ++ own) ≡ (before separator ++ first ++ rest) ++ own = sym (append_assoc (before separator ++ first) rest own) in
    subst (λ (l : List ℕ). ArePretty separator (member s (join ss ts)) l) is (with_member separator s (join ss ts) first (rest ++ own) p (pretty_join (then_one separator) ss ts rest own more are))

-- a member before those that are read
abbrev with_first : AnyTerm → Read AnyMembers → Read AnyMembers
with_first t read = read >>= λ others. Ok (member t others.0, others.1)

front_member : (t : AnyTerm) (ts : AnyMembers) (read : Read AnyMembers) → with_first t (with_front ts read) ≡ with_front (member t ts) read
front_member t ts (Ok x) = refl
front_member t ts (Err d) = refl

more_others : (read : List ℕ → Read AnyTerm) (n : ℕ) (t : AnyTerm) (others : Read AnyMembers) → with_first t (others >>= λ x. with_front x.0 (any_members_at read n x.1)) ≡ (with_first t others >>= λ x. with_front x.0 (any_members_at read n x.1))
more_others read n t (Ok x) = front_member t x.0 (any_members_at read n x.1)
more_others read n t (Err d) = refl

-- after so many members so many more are read
abbrev ReadsMore : (List ℕ → Read AnyTerm) → ℕ → ℕ → Type 0
ReadsMore read m n = (bytes : List ℕ) → any_members_at read (m + n) bytes ≡ (any_members_at read m bytes >>= λ x. with_front x.0 (any_members_at read n x.1))

more_first : (read : List ℕ → Read AnyTerm) (m n : ℕ) (r : Read AnyTerm) → ReadsMore read m n → (r >>= λ first. with_first first.0 (any_members_at read (m + n) first.1))
    ≡ ((r >>= λ first. with_first first.0 (any_members_at read m first.1)) >>= λ x. with_front x.0 (any_members_at read n x.1))
more_first read m n (Ok first) more = ap (with_first first.0) (more first.1) ∙ more_others read n first.0 (any_members_at read m first.1)
more_first read m n (Err d) more = refl

pub more_read : (read : List ℕ → Read AnyTerm) (m n : ℕ) → ReadsMore read m n
unfolding any_members_at
more_read read zero n bytes = let e : 0 + n ≡ n = omega arith in rw e (sym (front_none (any_members_at read n bytes)))
more_read read (suc m) n bytes = let e : suc m + n ≡ suc (m + n) = omega arith in rw e (more_first read m n (read bytes) (more_read read m n))

module _ (read : List ℕ → Read AnyTerm) (m n : ℕ) (bytes : List ℕ) where
  pub fails_before : (d : DecodeFault) → Fails d (any_members_at read m bytes) → Fails d (any_members_at read (m + n) bytes)
  fails_before d h = fails_as d (any_members_at read m bytes) (any_members_at read (m + n) bytes) (λ e. more_read read m n bytes ∙ ap (λ (r : Read AnyMembers). r >>= λ x. with_front x.0 (any_members_at read n x.1)) e) h

  pub fails_behind : (d : DecodeFault) (ts : AnyMembers) (rest : List ℕ) → any_members_at read m bytes ≡ Ok (ts, rest) → Fails d (any_members_at read n rest) → Fails d (any_members_at read (m + n) bytes)
  fails_behind d ts rest is h =
      fails_as d (any_members_at read n rest) (any_members_at read (m + n) bytes)
      (λ e. more_read read m n bytes ∙ ap (λ (r : Read AnyMembers). r >>= λ x. with_front x.0 (any_members_at read n x.1)) is ∙ ap (with_front ts) e) h

  unfoldable pub put_behind : (separator after : Separator) (line mid now rest last : List ℕ) (seen sees more : List Sight) (p : PutMembers separator line seen (any_members_at read m bytes) mid sees rest) → after ≡ separator_after separator p.ts
      → PutMembers after mid sees (any_members_at read n rest) now more last → PutMembers separator line seen (any_members_at read (m + n) bytes) now more last
  put_behind separator after line mid now rest last seen sees more p follows q =
      record {
        ts = join p.ts q.ts;
        is = more_read read m n bytes ∙ ap (λ (r : Read AnyMembers). r >>= λ x. with_front x.0 (any_members_at read n x.1)) p.is ∙ ap (with_front p.ts) q.is;
        text = p.text ++ q.text;
        pretty = pretty_join separator p.ts q.ts p.text q.text p.pretty (subst (λ (m : Separator). ArePretty m q.ts q.text) follows q.pretty);
        line_is = q.line_is ∙ ap (λ (l : List ℕ). l ++ q.text) p.line_is ∙ append_assoc line p.text q.text;
        seen_is = q.seen_is ∙ ap (λ (l : List Sight). l ++ sights q.ts) p.seen_is ∙ append_assoc seen (sights p.ts) (sights q.ts) ∙ ap (λ (l : List Sight). seen ++ l) (sym (sights_join p.ts q.ts));
      }

-- the first alone
abbrev first_alone : AnyTerm × List ℕ → Read AnyMembers
first_alone first = Ok (member first.0 no_members, first.1)

abbrev one_of : Read AnyTerm → Read AnyMembers
one_of read = read >>= first_alone

one_by : (read : List ℕ → Read AnyTerm) (r : Read AnyTerm) → one_of r ≡ (r >>= λ first. with_first first.0 (any_members_at read 0 first.1))
unfolding any_members_at
one_by read (Ok x) = refl
one_by read (Err d) = refl

-- one member
module _ (read : List ℕ → Read AnyTerm) (bytes : List ℕ) where
  pub one_is : one_of (read bytes) ≡ any_members_at read 1 bytes
  unfolding any_members_at
  one_is = one_by read (read bytes)

  pub one_fails : (d : DecodeFault) → Fails d (read bytes) → Fails d (any_members_at read 1 bytes)
  one_fails d h = fails_as d (read bytes) (any_members_at read 1 bytes) (λ e. sym one_is ∙ ap one_of e) h

  unfoldable pub put_one : (separator : Separator) (line mid now rest : List ℕ) (seen sees : List Sight) → mid ≡ line ++ before separator → PutTerm mid seen (read bytes) now sees rest → PutMembers separator line seen (any_members_at read 1 bytes) now sees rest
  put_one separator line mid now rest seen sees is p =
      record {
        ts = member p.t no_members;
        is = sym one_is ∙ ap one_of p.is;
        text = before separator ++ p.text;
        pretty = subst (λ (l : List ℕ). ArePretty separator (member p.t no_members) l) (append-nil (before separator ++ p.text)) (with_member separator p.t no_members p.text [] p.pretty (none (then_one separator)));
        line_is = p.line_is ∙ ap (λ (l : List ℕ). l ++ p.text) is ∙ append_assoc line (before separator) p.text;
        seen_is = p.seen_is;
      }

-- none were put yet
unfoldable pub none_put : (read : List ℕ → Read AnyTerm) (separator : Separator) (line bytes : List ℕ) (seen : List Sight) → PutMembers separator line seen (any_members_at read 0 bytes) line seen bytes
unfolding any_members_at
none_put read separator line bytes seen = record { ts = no_members; is = refl; text = []; pretty = none separator; line_is = sym (append-nil line); seen_is = sym (append-nil seen) }

-- so many were put, and the separator of the next
pub record PutSome (read : List ℕ → Read AnyTerm) (n : ℕ) (separator next : Separator) (line : List ℕ) (seen : List Sight) (bytes now : List ℕ) (sees : List Sight) (rest : List ℕ) : Type 0 where
  pub put : PutMembers separator line seen (any_members_at read n bytes) now sees rest
  pub follows : next ≡ separator_after separator put.ts

pub begun : (read : List ℕ → Read AnyTerm) (separator : Separator) (line bytes : List ℕ) (seen : List Sight) → PutSome read 0 separator separator line seen bytes line seen bytes
unfolding none_put
begun read separator line bytes seen = record { put = none_put read separator line bytes seen; follows = refl }

module _ (read : List ℕ → Read AnyTerm) (n : ℕ) (separator next : Separator) (line : List ℕ) (seen : List Sight) (bytes now : List ℕ) (sees : List Sight) (rest : List ℕ) (some : PutSome read n separator next line seen bytes now sees rest) where
  pub one_more : (mid new last : List ℕ) (more : List Sight) (after : Separator) → mid ≡ now ++ before next → PutTerm mid sees (read rest) new more last → after ≡ then_one next → PutSome read (n + 1) separator after line seen bytes new more last
  unfolding put_behind put_one
  one_more mid new last more after is p goes =
      let q = put_one read rest next now mid new last sees more is p in
      record { put = put_behind read n 1 bytes separator next line now new rest last seen sees more some.put some.follows q; follows = goes ∙ ap then_one some.follows ∙ sym (after_more separator some.put.ts (member p.t no_members)) }

  pub one_less : (count : ℕ) (d : DecodeFault) → n < count → Fails d (read rest) → Fails d (any_members_at read count bytes)
  one_less count d lt h =
      let left = count - (n + 1) in
      let split : n + (1 + left) ≡ count = omega (arith, lt) in
      subst (λ (k : ℕ). Fails d (any_members_at read k bytes)) split (fails_behind read n (1 + left) bytes d some.put.ts rest some.put.is (fails_before read 1 left rest d (one_fails read rest d h)))

  pub all_of : (count : ℕ) → n ≤ count → count ≤ n → PutMembers separator line seen (any_members_at read count bytes) now sees rest
  all_of count le ge = let same : n ≡ count = omega (arith, le, ge) in subst (λ (k : ℕ). PutMembers separator line seen (any_members_at read k bytes) now sees rest) same some.put
