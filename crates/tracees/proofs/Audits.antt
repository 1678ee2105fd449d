-- Whether an entry agrees with a window.
use Rattle.std.proofs.Common.{◌≡◌, ◌↔◌, IsTrue, ℕ, zero, suc, take, drop, get_or, ◌+◌, ◌-◌, ◌<◌, ◌≤◌, Bool, List, [], ◌∷◌, ◌++◌, length, refl, sym, ◌∙◌, ap, subst, arith}
use Rattle.std.specs.Bool.{Decides}
use Rattle.std.specs.Prelude.{nat_eq, slice_get, Some}
use Rattle.std.specs.Cmp.Lexicographic.{pointwise}
use Rattle.std.proofs.lemmas.Bool.Decides.{Decides-eqb, Decides-like}
use Rattle.std.proofs.lemmas.Slice.Eq.{slice_eq-Decides}
use Rattle.std.proofs.lemmas.Option.{slice_get_within}
use Rattle.entry_codec.specs.contracts.model.EntryPartialEq.TheImpl as of_entries
use Rattle.entry_codec.specs.Entries.{Entry, Message, Drop}
use Rattle.entry_codec.specs.Seen.{view, views}
use Rattle.entry_codec.specs.declared.model.Entry.{Entry as Held}
use Rattle.entry_codec.specs.declared.model.Entry.TheVariants as held
use Rattle.tracees.specs.Agreement.{Agrees, older, inside, newer, AreAgreed}

-- `==` tells whether two entries are the same
pub same_entries : (a b : Held) → Decides (of_entries.ghosts.eq a b) (view a ≡ view b)
same_entries (held.Message v) (held.Message w) =
    Decides-like (pointwise nat_eq v.items w.items) (λ e. ap Message e) (λ e. cc) (slice_eq-Decides Decides-eqb v.items w.items (pointwise nat_eq v.items w.items) refl)
same_entries (held.Drop m) (held.Drop n) = Decides-like (nat_eq m n) (λ e. ap Drop e) (λ e. cc) (Decides-eqb m n)
same_entries a b = (λ e. absurd cc, λ e. absurd cc)

-- what stands at a place of the window is the entry that is kept
pub agrees_inside : (first covered number : ℕ) (window : List Entry) (kept e : Entry) (r : Bool) → first ≤ number → slice_get window (number - first) ≡ Some kept → Decides r (kept ≡ e) → IsTrue r ↔ Agrees first window covered number e
agrees_inside first covered number window kept e r from at tells = (
  λ t. inside from (at ∙ ap Some (tells.0 t)),
  λ a. tells.1 (same a),
)
  where
    same : Agrees first window covered number e → kept ≡ e
    same (older before) = absurd (omega (arith, before, from))
    same (inside h got) = cc
    same (newer past h) = absurd (omega (arith, past, from, slice_get_within window (number - first) kept at))

-- after the window it is to be one that isn't covered
pub agrees_past : (first covered number : ℕ) (window : List Entry) (e : Entry) → first + length window ≤ number → Agrees first window covered number e → covered ≤ number
agrees_past first covered number window e past (older before) = absurd (omega (arith, before, past))
agrees_past first covered number window e past (inside from got) = absurd (omega (arith, past, from, slice_get_within window (number - first) e got))
agrees_past first covered number window e past (newer h within) = within

-- ---- one entry after another

pub agreed_append : (first covered number : ℕ) (window front rest : List Entry) → AreAgreed first window covered number front → AreAgreed first window covered (number + length front) rest → AreAgreed first window covered number (front ++ rest)
agreed_append first covered number window [] rest a b = subst (λ n. AreAgreed first window covered n rest) (let same : number + 0 ≡ number = omega arith in same) b
agreed_append first covered number window (e ∷ front) rest a b =
    (a.0, agreed_append first covered (number + 1) window front rest a.1 (subst (λ n. AreAgreed first window covered n rest) (let same : number + length (e ∷ front) ≡ number + 1 + length front = omega arith in same) b))

-- entries after the window agree where none is covered
pub agreed_beyond : (first covered number : ℕ) (window es : List Entry) → first + length window ≤ number → covered ≤ number → AreAgreed first window covered number es
agreed_beyond first covered number window [] past within = tt
agreed_beyond first covered number window (e ∷ es) past within = (newer past within, agreed_beyond first covered (number + 1) window es (omega (arith, past)) (omega (arith, within)))

pub split_at : (items : List Held) (i : ℕ) (x : Held) → i < length items → x ≡ get_or items i x → views items ≡ take i (views items) ++ view x ∷ drop (suc i) (views items)
split_at [] i x h e = absurd (omega (arith, h))
split_at (y ∷ items) zero x h e = ap (λ (z : Held). view z ∷ views items) (sym e)
split_at (y ∷ items) (suc i) x h e = ap (λ (l : List Entry). view y ∷ l) (split_at items i x (omega (arith, h)) e)

pub take_one_more : (items : List Held) (i : ℕ) (x : Held) → i < length items → x ≡ get_or items i x → take (suc i) (views items) ≡ take i (views items) ++ view x ∷ []
take_one_more [] i x h e = absurd (omega (arith, h))
take_one_more (y ∷ items) zero x h e = ap (λ (z : Held). view z ∷ []) (sym e)
take_one_more (y ∷ items) (suc i) x h e = ap (λ (l : List Entry). view y ∷ l) (take_one_more items i x (omega (arith, h)) e)
