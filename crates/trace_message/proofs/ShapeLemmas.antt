-- What the shapes that are found part by part rest on.
use Rattle.std.proofs.Common.{◌≡◌, ℕ, ℤ, Bool, true, false, ◌&&◌, cond, List, [], ◌∷◌, ◌++◌, map, None, refl, ap, ◌∙◌}
use Rattle.std.proofs.lemmas.List.{map-append}
use Rattle.trace_terms.specs.Data.{Data, int, atom, pid, tuple, list, binary, Members, no_members, member}
use Rattle.std.specs.List.{IsLastAndRest}
use Rattle.trace_terms.specs.declared.term.Term.{Term}
use Rattle.trace_terms.specs.View.{view, members_of}
use Rattle.trace_message.specs.Kinds.{IsStamp, moment, monotonic}
use Rattle.trace_message.specs.Shapes.{list_of, is_atom, is_int, is_stamp, row_kind, stamped_row_kind}
use Rattle.trace_message.specs.Rows.{ends_with, front_of}
use Rattle.trace_message.specs.Tuples.{triple_of}
use Rattle.trace_message.proofs.RowLemmas.{stamped-snoc}

-- ---- members as a list

pub list_of-members_of : (ts : List Data) → list_of (members_of ts) ≡ ts
list_of-members_of [] = refl
list_of-members_of (t ∷ ts) = ap (λ us. t ∷ us) (list_of-members_of ts)

pub members_of-list_of : (ts : Members) → members_of (list_of ts) ≡ ts
members_of-list_of no_members = refl
members_of-list_of (member t ts) = ap (λ us. member t us) (members_of-list_of ts)

-- ---- tests

pub both : (a b : Bool) → (a && b) ≡ true → (a ≡ true) × (b ≡ true)
both true b e = (refl, e)
both false b e = absurd cc

pub atom_is : (t : Data) → is_atom t ≡ true → (text : List ℕ) × (t ≡ atom text)
atom_is (int n) e = absurd cc
atom_is (atom text) e = (text, refl)
atom_is (pid p) e = absurd cc
atom_is (tuple ts) e = absurd cc
atom_is (list ts) e = absurd cc
atom_is (binary bytes) e = absurd cc

pub int_is : (t : Data) → is_int t ≡ true → (n : ℤ) × (t ≡ int n)
int_is (int n) e = (n, refl)
int_is (atom text) e = absurd cc
int_is (pid p) e = absurd cc
int_is (tuple ts) e = absurd cc
int_is (list ts) e = absurd cc
int_is (binary bytes) e = absurd cc

-- ---- the time stamp at the end

pub stamp_is : (t : Data) → is_stamp t ≡ true → IsStamp t
stamp_is (tuple (member a (member b (member c no_members)))) e =
    let h = both (is_int a) (is_int b && is_int c) e in
    let k = both (is_int b) (is_int c) h.1 in
    let x = int_is a h.0 in
    let y = int_is b k.0 in
    let z = int_is c k.1 in
    let q : tuple (member a (member b (member c no_members))) ≡ triple_of (int x.0) (int y.0) (int z.0) = cc (x.1, y.1, z.1) in
    rw q (moment x.0 y.0 z.0)
stamp_is (int n) e = monotonic n
stamp_is (tuple no_members) e = absurd cc
stamp_is (tuple (member a no_members)) e = absurd cc
stamp_is (tuple (member a (member b no_members))) e = absurd cc
stamp_is (tuple (member a (member b (member c (member d ts))))) e = absurd cc
stamp_is (atom text) e = absurd cc
stamp_is (pid p) e = absurd cc
stamp_is (list ts) e = absurd cc
stamp_is (binary bytes) e = absurd cc

pub is_stamp_of : (t : Data) → IsStamp t → is_stamp t ≡ true
is_stamp_of _ (moment mega sec micro) = refl
is_stamp_of _ (monotonic nanoseconds) = refl

pub ends_is : (ts : List Data) → ends_with is_stamp ts ≡ true → (stamp : Data) × (IsStamp stamp × (ts ≡ front_of ts ++ stamp ∷ []))
ends_is [] e = absurd cc
ends_is (t ∷ []) e = (t, (stamp_is t e, refl))
ends_is (t ∷ u ∷ ts) e =
    let h = ends_is (u ∷ ts) e in
    (h.0, (h.1.0, ap (λ us. t ∷ us) h.1.1))

-- ---- terms that are cut before the last

stamped_by_last : (xs : List Term) (x : Term) (rest : List Term) → IsLastAndRest xs x rest → stamped_row_kind (map view xs) ≡ cond (is_stamp (view x)) (row_kind (map view rest)) None
stamped_by_last xs x rest h = rw (h.0, map-append view rest (x ∷ [])) (stamped-snoc is_stamp row_kind (map view rest) (view x))

pub with_stamp : (xs : List Term) (x : Term) (rest : List Term) → IsLastAndRest xs x rest → is_stamp (view x) ≡ true → stamped_row_kind (map view xs) ≡ row_kind (map view rest)
with_stamp xs x rest h is = stamped_by_last xs x rest h ∙ ap (λ b. cond b (row_kind (map view rest)) None) is

pub without_stamp : (xs : List Term) (x : Term) (rest : List Term) → IsLastAndRest xs x rest → is_stamp (view x) ≡ false → stamped_row_kind (map view xs) ≡ None
without_stamp xs x rest h is = stamped_by_last xs x rest h ∙ ap (λ b. cond b (row_kind (map view rest)) None) is
