-- Terms and atoms are spelled by one word each.
use Rattle.std.proofs.Common.{arith, sym, subst, ◌∙◌, ap, ◌≡◌, ◌≢◌, ◌≤◌, ℕ, refl, Option, None, Some, List, [], ◌∷◌, ◌++◌, length, take, drop, Vec, Global}
use Rattle.std.proofs.lemmas.List.{append-nil, take-append-drop, length-take}
use Rattle.trace_terms.specs.Data.{Data, list, Members}
use Rattle.trace_terms.specs.View.{view, view_step, members_of}
use Rattle.trace_terms.specs.declared.term.Term.{Term, List as ListTerm, roll-Term, out-Term, roll-out-Term, map-Term, fold-roll-Term}
use Rattle.trace_terms.specs.declared.term.Term.TheOpen.{Term-F}
use Rattle.ext_format.specs.Spelling.{Spells as SpellsTerm}
use Rattle.ext_format.proofs.Again.{one_reading}
use Rattle.script_lines.specs.Spellings.{IsFoundAs, IsBytes}
use Rattle.script_lines.specs.Table.{IsTerm, IsAtom, IsArguments}
use Rattle.script_lines.proofs.Numbers.{only_bytes}

pub only_term : (w : List ℕ) (t u : Data) → IsTerm w t → IsTerm w u → t ≡ u
only_term w t u h j = (one_reading t u h.bytes j.bytes [] [] h.spell j.spell (ap (λ (b : List ℕ). b ++ []) (only_bytes w h.bytes j.bytes h.are j.are))).0

pub only_atom : (w x y : List ℕ) → IsAtom w x → IsAtom w y → x ≡ y
only_atom w x y h j = h.same ∙ sym j.same

same_members : (a b : List Data) → members_of a ≡ members_of b → a ≡ b
same_members [] [] e = refl
same_members [] (u ∷ us) e = cc
same_members (t ∷ ts) [] e = cc
same_members (t ∷ ts) (u ∷ us) e =
    let p : t ≡ u = cc in
    let q : members_of ts ≡ members_of us = cc in
    ap (λ (x : Data). x ∷ ts) p ∙ ap (λ (l : List Data). u ∷ l) (same_members ts us q)

pub only_arguments : (w : List ℕ) (a b : List Data) → IsArguments w a → IsArguments w b → a ≡ b
only_arguments w a b h j = let e : list (members_of a) ≡ list (members_of b) = only_term w (list (members_of a)) (list (members_of b)) h j in same_members a b (cc)

-- the bytes of a word spell what the word does
pub term_found : {V : Type 0} (seen : V → Data) (word bytes : List ℕ) (o : Option V) → IsBytes word bytes → IsFoundAs seen (λ t. SpellsTerm t bytes) o → IsFoundAs seen (IsTerm word) o
term_found seen word bytes (Some v) are h = record { bytes = bytes; are = are; spell = h }
term_found seen word bytes None are h = λ t k. h t (subst (λ (b : List ℕ). SpellsTerm t b) (only_bytes word k.bytes bytes k.are are) k.spell)

-- bytes that go on after a term spell none
pub not_whole : (t u : Data) (n : ℕ) (bytes : List ℕ) → n ≤ length bytes → n ≢ length bytes → SpellsTerm u (take n bytes) → SpellsTerm t bytes → ⊥
not_whole t u n bytes within other found h =
    let e : bytes ≡ take n bytes = (one_reading t u bytes (take n bytes) [] (drop n bytes) h found (append-nil bytes ∙ sym (take-append-drop n bytes))).1 in
    let l : length bytes ≡ length (take n bytes) = ap (λ (b : List ℕ). length b) e in
    other (omega (arith, l, length-take n bytes))

list_of : (x : Term-F Term) (ms : Members) → view_step (map-Term Term Data view x) ≡ list ms → (v : Vec Term Global) × (x ≡ Term-F.List v)
list_of (Term-F.Int n) ms e = absurd cc
list_of (Term-F.Atom text) ms e = absurd cc
list_of (Term-F.Pid p) ms e = absurd cc
list_of (Term-F.Tuple v) ms e = absurd cc
list_of (Term-F.List v) ms e = (v, refl)
list_of (Term-F.Binary v) ms e = absurd cc

-- a term that is no list isn't seen as one
pub not_list : (t : Term) (ms : Members) → ((v : Vec Term Global) → t ≡ ListTerm v → ⊥) → view t ≡ list ms → ⊥
unfolding roll-Term list_of denote.Hole.Carrier.roll
not_list t ms none e =
    let r : roll-Term (out-Term t) ≡ t = roll-out-Term t in
    let f : view_step (map-Term Term Data view (out-Term t)) ≡ list ms = sym (fold-roll-Term Data view_step (out-Term t)) ∙ ap view r ∙ e in
    let l = list_of (out-Term t) ms f in
    none l.0 (sym r ∙ ap roll-Term l.1)
