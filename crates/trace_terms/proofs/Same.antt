-- `==` tells whether two terms are the same.
use Rattle.std.proofs.Common.{◌≡◌, ℕ, ◌&&◌, Bool, false, List, [], ◌∷◌, map, refl, ap, subst}
use Rattle.std.specs.Bool.{Decides}
use Rattle.std.specs.Ordering.{int_eq}
use Rattle.std.specs.Prelude.{nat_eq}
use Rattle.std.specs.Cmp.Lexicographic.{pointwise}
use Rattle.std.proofs.lemmas.Bool.Decides.{Decides-int_eq, Decides-eqb, Decides-like, Decides-and}
use Rattle.std.proofs.lemmas.Slice.Eq.{slice_eq-Decides}
use Rattle.trace_terms.specs.contracts.term.TermPartialEq.TheImpl as of_terms
use Rattle.trace_terms.specs.contracts.term.TermPartialEq.TheImpl.Laws.{is}
use Rattle.trace_terms.specs.contracts.term.PidPartialEq.TheImpl as of_pids
use Rattle.trace_terms.specs.declared.term.Pid.{Pid}
use Rattle.trace_terms.specs.declared.term.Term.{Term, roll-Term, out-Term, out-roll-Term, roll-out-Term, map-Term, fold-roll-Term, ind-Term}
use Rattle.trace_terms.specs.declared.term.Term.TheOpen.{Term-F}
use Rattle.trace_terms.specs.Data.{Data, int, atom, pid, tuple, list, binary}
use Rattle.trace_terms.specs.View.{view, view_step, members_view}

-- what `==` answers
abbrev equals : Term → Term → Bool
equals = of_terms.ghosts.eq

-- ---- bytes and pids

pub bytes_tell : (s t : List ℕ) → Decides (pointwise nat_eq s t) (s ≡ t)
bytes_tell s t = slice_eq-Decides Decides-eqb s t (pointwise nat_eq s t) refl

pub pids_tell : (p q : Pid) → Decides (of_pids.ghosts.eq p q) (p ≡ q)
pids_tell p q =
    Decides-like (of_pids.ghosts.eq p q) (λ e. λ i. record { node = e.0 i; id = e.1.0 i; serial = e.1.1.0 i; creation = e.1.1.1 i }) (λ e. (ap (λ (r : Pid). r.node) e, (ap (λ (r : Pid). r.id) e, (ap (λ (r : Pid). r.serial) e, ap (λ (r : Pid). r.creation) e))))
    (Decides-and _ _ (bytes_tell p.node q.node) (Decides-and _ _ (Decides-eqb p.id q.id) (Decides-and _ _ (Decides-eqb p.serial q.serial) (Decides-eqb p.creation q.creation))))

-- ---- members

abbrev Told : Term → Type 0
Told a = (b : Term) → Decides (equals a b) (view a ≡ view b)

abbrev AllTold : List Term → Type 0
AllTold [] = Unit {0}
AllTold (a ∷ xs) = Told a × AllTold xs

members_tell : (xs ys : List Term) → AllTold xs → Decides (pointwise equals xs ys) (members_view xs ≡ members_view ys)
members_tell [] [] told = (λ _. refl, λ _. refl)
members_tell [] (b ∷ ys) told = (λ e. absurd cc, λ e. absurd cc)
members_tell (a ∷ xs) [] told = (λ e. absurd cc, λ e. absurd cc)
members_tell (a ∷ xs) (b ∷ ys) told =
    Decides-like (equals a b && pointwise equals xs ys) (λ e. let first = e.0 in let others = e.1 in cc) (λ e. (cc, cc)) (Decides-and (equals a b) (pointwise equals xs ys) (told.0 b) (members_tell xs ys told.1))

-- ---- one level

abbrev kids : Term-F Term → List Term
kids (Term-F.Tuple v) = v.items
kids (Term-F.List v) = v.items
kids x = []

abbrev layers_equal : Term-F Term → Term-F Term → Bool
layers_equal (Term-F.Int m) (Term-F.Int n) = int_eq m n
layers_equal (Term-F.Atom s) (Term-F.Atom t) = pointwise nat_eq s t
layers_equal (Term-F.Pid p) (Term-F.Pid q) = of_pids.ghosts.eq p q
layers_equal (Term-F.Tuple v) (Term-F.Tuple w) = pointwise equals v.items w.items
layers_equal (Term-F.List v) (Term-F.List w) = pointwise equals v.items w.items
layers_equal (Term-F.Binary v) (Term-F.Binary w) = pointwise nat_eq v.items w.items
layers_equal x y = false

layers_are : (x y : Term-F Term) → equals (roll-Term x) (roll-Term y) ≡ layers_equal x y
layers_are (Term-F.Int m) (Term-F.Int n) = rw (is (roll-Term (Term-F.Int m)) (roll-Term (Term-F.Int n)), out-roll-Term (Term-F.Int m), out-roll-Term (Term-F.Int n)) refl
layers_are (Term-F.Atom s) (Term-F.Atom t) = rw (is (roll-Term (Term-F.Atom s)) (roll-Term (Term-F.Atom t)), out-roll-Term (Term-F.Atom s), out-roll-Term (Term-F.Atom t)) refl
layers_are (Term-F.Pid p) (Term-F.Pid q) = rw (is (roll-Term (Term-F.Pid p)) (roll-Term (Term-F.Pid q)), out-roll-Term (Term-F.Pid p), out-roll-Term (Term-F.Pid q)) refl
layers_are (Term-F.Tuple v) (Term-F.Tuple w) = rw (is (roll-Term (Term-F.Tuple v)) (roll-Term (Term-F.Tuple w)), out-roll-Term (Term-F.Tuple v), out-roll-Term (Term-F.Tuple w)) refl
layers_are (Term-F.List v) (Term-F.List w) = rw (is (roll-Term (Term-F.List v)) (roll-Term (Term-F.List w)), out-roll-Term (Term-F.List v), out-roll-Term (Term-F.List w)) refl
layers_are (Term-F.Binary v) (Term-F.Binary w) = rw (is (roll-Term (Term-F.Binary v)) (roll-Term (Term-F.Binary w)), out-roll-Term (Term-F.Binary v), out-roll-Term (Term-F.Binary w)) refl
layers_are x y = rw (is (roll-Term x) (roll-Term y), out-roll-Term x, out-roll-Term y) refl

abbrev layer_view : Term-F Term → Data
layer_view x = view_step (map-Term Term Data view x)

layers_tell : (x y : Term-F Term) → AllTold (kids x) → Decides (layers_equal x y) (layer_view x ≡ layer_view y)
layers_tell (Term-F.Int m) (Term-F.Int n) told = Decides-like (int_eq m n) (λ e. ap int e) (λ e. cc) (Decides-int_eq m n)
layers_tell (Term-F.Atom s) (Term-F.Atom t) told = Decides-like (pointwise nat_eq s t) (λ e. ap atom e) (λ e. cc) (bytes_tell s t)
layers_tell (Term-F.Pid p) (Term-F.Pid q) told = Decides-like (of_pids.ghosts.eq p q) (λ e. ap pid e) (λ e. cc) (pids_tell p q)
layers_tell (Term-F.Tuple v) (Term-F.Tuple w) told = Decides-like (pointwise equals v.items w.items) (λ e. ap tuple e) (λ e. cc) (members_tell v.items w.items told)
layers_tell (Term-F.List v) (Term-F.List w) told = Decides-like (pointwise equals v.items w.items) (λ e. ap list e) (λ e. cc) (members_tell v.items w.items told)
layers_tell (Term-F.Binary v) (Term-F.Binary w) told = Decides-like (pointwise nat_eq v.items w.items) (λ e. ap binary e) (λ e. cc) (bytes_tell v.items w.items)
layers_tell x y told = (λ e. absurd cc, λ e. absurd cc)

-- ---- terms

all_told : (xs : List ((a : Term) × Told a)) → AllTold (map (λ e. e.0) xs)
all_told [] = tt
all_told (a ∷ xs) = (a.1, all_told xs)

kids_told : (y : Term-F ((a : Term) × Told a)) → AllTold (kids (map-Term ((a : Term) × Told a) Term (λ e. e.0) y))
kids_told (Term-F.Tuple v) = all_told v.items
kids_told (Term-F.List v) = all_told v.items
kids_told y = tt

pub same_terms : (a b : Term) → Decides (equals a b) (view a ≡ view b)
same_terms = ind-Term Told (λ x y e b.
    let told = subst (λ (z : Term-F Term). AllTold (kids z)) e (kids_told y) in
    let z = out-Term b in
    let rolled : Decides (equals (roll-Term x) (roll-Term z)) (view (roll-Term x) ≡ view (roll-Term z)) =
    rw (layers_are x z, fold-roll-Term Data view_step x, fold-roll-Term Data view_step z) (layers_tell x z told) in
    subst (λ (c : Term). Decides (equals (roll-Term x) c) (view (roll-Term x) ≡ view c)) (roll-out-Term b) rolled)
