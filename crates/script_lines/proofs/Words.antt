-- So many words, and what they spell.
use Rattle.std.proofs.Common.{inl, inr, Result, Ok, Err, subst, ◌≡◌, ℕ, Option, None, Some, List, [], ◌∷◌}
use Rattle.std.specs.Result.{OkIff, result_ok}
use Rattle.script_lines.specs.Keywords.{text_of, Behind}
use Rattle.script_lines.specs.Table.{PlainRow, HeldRow, IsOfDesk, Row}
use Rattle.script_lines.specs.declared.keyword.Keyword.{Keyword}
use Rattle.script_lines.specs.declared.line.Line.{Line}
use Rattle.script_lines.proofs.Keywords.{behind}
use Rattle.script_lines.specs.EventFaults.{IsSpelled, IsSpelledAs}
use Rattle.script_lines.specs.declared.event.EventFault.{EventFault}
use Rattle.script_lines.specs.declared.event.EventFault.TheVariants as faults
use Rattle.script_lines.specs.Spellings.{IsFound, IsFoundAs, IsNumber, IsNumberIn, Sole, Two, Three, First}

-- where the word spells nothing, the only word doesn't
pub sole_not : {X : Type 0} (P : List ℕ → X → Type 0) (ws : List (List ℕ)) (a : List ℕ) → ws ≡ a ∷ [] → ((x : X) → P a x → ⊥) → (x : X) → Sole P ws x → ⊥
sole_not P ws a e none x s = let p : s.word ≡ a = cc (s.are, e) in none x (subst (λ (w : List ℕ). P w x) p s.spells)

pub two_not1 : {X Y : Type 0} (P : List ℕ → X → Type 0) (Q : List ℕ → Y → Type 0) (ws : List (List ℕ)) (a b : List ℕ) → ws ≡ a ∷ b ∷ [] → ((x : X) → P a x → ⊥) → (x : X) (y : Y) → Two P Q ws x y → ⊥
two_not1 P Q ws a b e none x y s = let p : s.word1 ≡ a = cc (s.are, e) in none x (subst (λ (w : List ℕ). P w x) p s.spells1)

pub two_not2 : {X Y : Type 0} (P : List ℕ → X → Type 0) (Q : List ℕ → Y → Type 0) (ws : List (List ℕ)) (a b : List ℕ) → ws ≡ a ∷ b ∷ [] → ((y : Y) → Q b y → ⊥) → (x : X) (y : Y) → Two P Q ws x y → ⊥
two_not2 P Q ws a b e none x y s = let p : s.word2 ≡ b = cc (s.are, e) in none y (subst (λ (w : List ℕ). Q w y) p s.spells2)

pub three_not3 : {X Y Z : Type 0} (P : List ℕ → X → Type 0) (Q : List ℕ → Y → Type 0) (R : List ℕ → Z → Type 0) (ws : List (List ℕ)) (a b c : List ℕ) → ws ≡ a ∷ b ∷ c ∷ [] → ((z : Z) → R c z → ⊥) → (x : X) (y : Y) (z : Z) → Three P Q R ws x y z → ⊥
three_not3 P Q R ws a b c e none x y z s = let p : s.word3 ≡ c = cc (s.are, e) in none z (subst (λ (w : List ℕ). R w z) p s.spells3)

pub three_not1 : {X Y Z : Type 0} (P : List ℕ → X → Type 0) (Q : List ℕ → Y → Type 0) (R : List ℕ → Z → Type 0) (ws : List (List ℕ)) (a b c : List ℕ) → ws ≡ a ∷ b ∷ c ∷ [] → ((x : X) → P a x → ⊥) → (x : X) (y : Y) (z : Z) → Three P Q R ws x y z → ⊥
three_not1 P Q R ws a b c e none x y z s = let p : s.word1 ≡ a = cc (s.are, e) in none x (subst (λ (w : List ℕ). P w x) p s.spells1)

pub three_not2 : {X Y Z : Type 0} (P : List ℕ → X → Type 0) (Q : List ℕ → Y → Type 0) (R : List ℕ → Z → Type 0) (ws : List (List ℕ)) (a b c : List ℕ) → ws ≡ a ∷ b ∷ c ∷ [] → ((y : Y) → Q b y → ⊥) → (x : X) (y : Y) (z : Z) → Three P Q R ws x y z → ⊥
three_not2 P Q R ws a b c e none x y z s = let p : s.word2 ≡ b = cc (s.are, e) in none y (subst (λ (w : List ℕ). Q w y) p s.spells2)

pub first_not : {X Y : Type 0} (P : List ℕ → X → Type 0) (Q : List (List ℕ) → Y → Type 0) (ws others : List (List ℕ)) (a : List ℕ) → ws ≡ a ∷ others → ((x : X) → P a x → ⊥) → (x : X) (y : Y) → First P Q ws x y → ⊥
first_not P Q ws others a e none x y s = let p : s.word ≡ a = cc (s.are, e) in none x (subst (λ (w : List ℕ). P w x) p s.spells)

pub first_not_others : {X Y : Type 0} (P : List ℕ → X → Type 0) (Q : List (List ℕ) → Y → Type 0) (ws others : List (List ℕ)) (a : List ℕ) → ws ≡ a ∷ others → ((y : Y) → Q others y → ⊥) → (x : X) (y : Y) → First P Q ws x y → ⊥
first_not_others P Q ws others a e none x y s = let p : s.others ≡ others = cc (s.are, e) in none y (subst (λ (o : List (List ℕ)). Q o y) p s.spells_others)

-- a number within bounds is a number
pub any_number : (least most : ℕ) (ws : List (List ℕ)) (n : ℕ) → Sole (IsNumberIn least most) ws n → Sole IsNumber ws n
any_number least most ws n s = record { word = s.word; are = s.are; spells = s.spells.number }

-- nothing was found
pub none_found : {X : Type 0} (P : X → Type 0) (o : Option X) → o ≡ None → IsFound P o → (x : X) → P x → ⊥
none_found {X} P o e h = let Q : Option X → Type 0 = λ p. IsFound P p in subst Q e h

pub none_found_as : {V X : Type 0} (seen : V → X) (P : X → Type 0) (o : Option V) → o ≡ None → IsFoundAs seen P o → (x : X) → P x → ⊥
none_found_as {V} seen P o e h = let Q : Option V → Type 0 = λ p. IsFoundAs seen P p in subst Q e h

pub found_as : {V X : Type 0} (seen : V → X) (P : X → Type 0) (o : Option V) (v : V) → o ≡ Some v → IsFoundAs seen P o → P (seen v)
found_as {V} seen P o v e h = let Q : Option V → Type 0 = λ p. IsFoundAs seen P p in subst Q e h

-- ---- one thing is spelled at most

pub one_sole : {X : Type 0} (P : List ℕ → X → Type 0) → ((w : List ℕ) (x y : X) → P w x → P w y → x ≡ y) → (ws : List (List ℕ)) (x y : X) → Sole P ws x → Sole P ws y → x ≡ y
one_sole P only ws x y s t = let p : t.word ≡ s.word = cc (s.are, t.are) in only s.word x y s.spells (subst (λ (w : List ℕ). P w y) p t.spells)

pub one_two : {X Y : Type 0} (P : List ℕ → X → Type 0) (Q : List ℕ → Y → Type 0) → ((w : List ℕ) (x y : X) → P w x → P w y → x ≡ y) → ((w : List ℕ) (x y : Y) → Q w x → Q w y → x ≡ y)
    → (ws : List (List ℕ)) (x u : X) (y v : Y) → Two P Q ws x y → Two P Q ws u v → (x ≡ u) × (y ≡ v)
one_two P Q only1 only2 ws x u y v s t =
    let p : t.word1 ≡ s.word1 = cc (s.are, t.are) in
    let q : t.word2 ≡ s.word2 = cc (s.are, t.are) in
    (only1 s.word1 x u s.spells1 (subst (λ (w : List ℕ). P w u) p t.spells1), only2 s.word2 y v s.spells2 (subst (λ (w : List ℕ). Q w v) q t.spells2))

pub one_three : {X Y Z : Type 0} (P : List ℕ → X → Type 0) (Q : List ℕ → Y → Type 0) (R : List ℕ → Z → Type 0) → ((w : List ℕ) (x y : X) → P w x → P w y → x ≡ y) → ((w : List ℕ) (x y : Y) → Q w x → Q w y → x ≡ y) → ((w : List ℕ) (x y : Z) → R w x → R w y → x ≡ y)
    → (ws : List (List ℕ)) (x u : X) (y v : Y) (z i : Z) → Three P Q R ws x y z → Three P Q R ws u v i → (x ≡ u) × (y ≡ v) × (z ≡ i)
one_three P Q R only1 only2 only3 ws x u y v z i s t =
    let p : t.word1 ≡ s.word1 = cc (s.are, t.are) in
    let q : t.word2 ≡ s.word2 = cc (s.are, t.are) in
    let r : t.word3 ≡ s.word3 = cc (s.are, t.are) in
    (only1 s.word1 x u s.spells1 (subst (λ (w : List ℕ). P w u) p t.spells1), only2 s.word2 y v s.spells2 (subst (λ (w : List ℕ). Q w v) q t.spells2), only3 s.word3 z i s.spells3 (subst (λ (w : List ℕ). R w i) r t.spells3))

pub same_first : {X Y U V : Type 0} (P : List ℕ → X → Type 0) (Q : List (List ℕ) → Y → Type 0) (R : List ℕ → U → Type 0) (S : List (List ℕ) → V → Type 0) (ws : List (List ℕ)) (x : X) (y : Y) (u : U) (v : V)
    (s : First P Q ws x y) (t : First R S ws u v) → (t.word ≡ s.word) × (t.others ≡ s.others)
same_first P Q R S ws x y u v s t = (cc (s.are, t.are), cc (s.are, t.are))

-- what a conversion has no value for isn't within its bounds
pub no_value : {A E : Type 0} (P : Type 0) (v : A) (r : Result A E) → result_ok r ≡ None → OkIff r P v → P → ⊥
no_value P v (Ok x) e k p = cc
no_value P v (Err fault) e k p = k p

pub behind_as : {V X : Type 0} (seen : V → X) (Says : Keyword → List (List ℕ) → X → Type 0) (words others : List (List ℕ)) (k : Keyword) (o : Option V) → words ≡ text_of k ∷ others → IsFoundAs seen (Says k others) o
    → IsFoundAs seen (Behind Says words) o
behind_as seen Says words others k (Some v) e h = record { keyword = k; others = others; begins = e; says = h }
behind_as {V} {X} seen Says words others k None e h = let nothing : Option X = None in let n : IsFound (Behind Says words) nothing = behind Says words others k nothing e h in n

-- a line that has a row in one of the three tables
pub row_found : (k : Keyword) (ws : List (List ℕ)) (o : Option Line) → ((x : Line) → PlainRow k ws x → ⊥) → ((x : Line) → HeldRow k ws x → ⊥) → IsFound (IsOfDesk k ws) o → IsFound (Row k ws) o
row_found k ws (Some x) plain held h = inr (inr h)
row_found k ws None plain held h = λ x r. elim r [ inl p ↦ plain x p | inr s ↦ elim s [ inl p ↦ held x p | inr p ↦ h x p ] ]

-- ---- what words spell, or why they spell nothing

-- what is spelled of one thing is spelled of another
pub spelled_weaker : {V X Y : Type 0} (seen : V → X) (P : X → Type 0) (shown : V → Y) (Q : Y → Type 0) (r : Result V EventFault) → ((o : Option V) → IsFoundAs seen P o → IsFoundAs shown Q o) → IsSpelledAs seen P r → IsSpelledAs shown Q r
spelled_weaker seen P shown Q (Ok v) f h = f (Some v) h
spelled_weaker {V} seen P shown Q (Err faults.Unspelled) f h = let nothing : Option V = None in f nothing h
spelled_weaker seen P shown Q (Err faults.NoMemory) f h = h

-- where a part isn't spelled, the whole isn't
pub missed : {X Y : Type 0} (P : X → Type 0) (Q : Y → Type 0) (fault : EventFault) → (((x : X) → P x → ⊥) → (y : Y) → Q y → ⊥) → IsSpelled P (Err fault) → IsSpelled Q (Err fault)
missed P Q faults.Unspelled f h = f h
missed P Q faults.NoMemory f h = h

pub unspelled : {X : Type 0} (P : X → Type 0) (fault : EventFault) → fault ≡ faults.Unspelled → IsSpelled P (Err fault) → (x : X) → P x → ⊥
unspelled P fault e h = let Q : EventFault → Type 0 = λ f. IsSpelled P (Err f) in subst Q e h
