-- Keywords and their texts.
use Rattle.std.proofs.Common.{arith, sym, ◌∙◌, ap, subst, ◌≡◌, ℕ, Bool, true, false, cond, Option, None, Some, List, [], ◌∷◌, refl, inl, inr, ◌⊎◌, ◌≤◌, ◌<◌, ◌+◌, ◌-◌, length, get_or, take, drop, Bor, ◌≢◌, IfSome}
use Rattle.std.proofs.lemmas.List.{at_drop_all, at_drop_more, take_rest}
use Rattle.std.specs.Prelude.{if◌then◌else◌}
use Rattle.std.specs.Str.{bytes_eq}
use Rattle.std.proofs.lemmas.Slice.Eq.{bytes_eq-Decides}
use Rattle.script_lines.specs.Spellings.{IsFound, texts, Sole}
use Rattle.script_lines.specs.declared.keyword.Keyword.{Keyword}
use Rattle.script_lines.specs.declared.keyword.Keyword.TheVariants as keywords
use Rattle.script_lines.specs.Keywords.{text_of, all_keywords, keyword_among, Behind}

one_of : (k n : Keyword) (b : Bool) (o : Option Keyword) → cond b (Some k) o ≡ Some n → ((b ≡ true) × (k ≡ n)) ⊎ (o ≡ Some n)
one_of k n true o e = inl (refl, cc)
one_of k n false o e = inr e

-- what is found has the text
pub keyword_text : (ks : List Keyword) (text : List ℕ) (n : Keyword) → keyword_among ks text ≡ Some n → text ≡ text_of n
unfolding keyword_among
keyword_text [] text n e = cc
keyword_text (k ∷ ks) text n e =
    elim (one_of k n (bytes_eq text (text_of k)) (keyword_among ks text) e) [
      | inl h ↦ (bytes_eq-Decides text (text_of k)).0 h.0 ∙ ap text_of h.1
      | inr h ↦ keyword_text ks text n h
    ]

-- each is found by its text
pub text_keyword : (n : Keyword) → keyword_among all_keywords (text_of n) ≡ Some n
unfolding keyword_among
text_keyword keywords.Store = refl
text_keyword keywords.Bytes = refl
text_keyword keywords.Fuse = refl
text_keyword keywords.FailOnce = refl
text_keyword keywords.Create = refl
text_keyword keywords.Resume = refl
text_keyword keywords.Files = refl
text_keyword keywords.List = refl
text_keyword keywords.Wipe = refl
text_keyword keywords.Crash = refl
text_keyword keywords.Put = refl
text_keyword keywords.Lose = refl
text_keyword keywords.Flush = refl
text_keyword keywords.Seal = refl
text_keyword keywords.Tick = refl
text_keyword keywords.Abandon = refl
text_keyword keywords.Close = refl
text_keyword keywords.Desk = refl
text_keyword keywords.Stamp = refl
text_keyword keywords.Mono = refl
text_keyword keywords.Tracee = refl
text_keyword keywords.Emit = refl
text_keyword keywords.Hand = refl
text_keyword keywords.FlushFor = refl
text_keyword keywords.Counts = refl
text_keyword keywords.File = refl
text_keyword keywords.Wrap = refl
text_keyword keywords.Time = refl
text_keyword keywords.Kept = refl
text_keyword keywords.Low = refl
text_keyword keywords.High = refl
text_keyword keywords.Receive = refl
text_keyword keywords.Send = refl
text_keyword keywords.SendLost = refl
text_keyword keywords.Call = refl
text_keyword keywords.Return = refl
text_keyword keywords.Exception = refl

pub one_keyword : (m n : Keyword) → text_of m ≡ text_of n → m ≡ n
one_keyword m n e =
    let a : keyword_among all_keywords (text_of m) ≡ Some m = text_keyword m in
    let b : keyword_among all_keywords (text_of n) ≡ Some n = text_keyword n in cc

-- what the words after a keyword say, all the words say
pub behind : {X : Type 0} (Says : Keyword → List (List ℕ) → X → Type 0) (words others : List (List ℕ)) (k : Keyword) (o : Option X) → words ≡ text_of k ∷ others → IsFound (Says k others) o
    → IsFound (Behind Says words) o
behind Says words others k (Some x) e h = record { keyword = k; others = others; begins = e; says = h }
behind {X} Says words others k None e h = λ x b.
    let p : k ≡ b.keyword = one_keyword k b.keyword (cc (e, b.begins)) in
    let q : others ≡ b.others = cc (e, b.begins) in
    h x (subst (λ (m : Keyword). Says m others x) (sym p) (subst (λ (ws : List (List ℕ)). Says b.keyword ws x) (sym q) b.says))

-- words that begin with none say nothing
pub no_keyword : {X : Type 0} (Says : Keyword → List (List ℕ) → X → Type 0) (words : List (List ℕ)) → ((k : Keyword) (others : List (List ℕ)) → words ≡ text_of k ∷ others → ⊥) → (x : X) → Behind Says words x → ⊥
no_keyword Says words none x b = none b.keyword b.others b.begins

pub not_named : (text : List ℕ) → keyword_among all_keywords text ≡ None → (n : Keyword) → text ≡ text_of n → ⊥
not_named text e n same = let a : keyword_among all_keywords (text_of n) ≡ Some n = text_keyword n in cc

-- the words from the first on
first_of : (ws : List (Bor (List ℕ))) (d : Bor (List ℕ)) → 1 ≤ length ws → texts ws ≡ (get_or ws 0 d).now ∷ texts (take (length ws - 1) (drop 1 ws))
first_of [] d some = absurd (omega arith)
first_of (w ∷ ws) d some = rw (take_rest (w ∷ ws) 1) refl

pub keyword_found : (ws : List (Bor (List ℕ))) (d : Bor (List ℕ)) (k : Keyword) → 1 ≤ length ws → Some k ≡ keyword_among all_keywords (get_or ws 0 d).now
    → texts ws ≡ text_of k ∷ texts (take (length ws - 1) (drop 1 ws))
keyword_found ws d k some e =
    let h : (get_or ws 0 d).now ≡ text_of k = keyword_text all_keywords (get_or ws 0 d).now k (sym e) in
    first_of ws d some ∙ ap (λ (text : List ℕ). text ∷ texts (take (length ws - 1) (drop 1 ws))) h

pub keyword_missing : (ws : List (Bor (List ℕ))) (d : Bor (List ℕ)) → 1 ≤ length ws → None ≡ keyword_among all_keywords (get_or ws 0 d).now
    → (x : Keyword × List (List ℕ)) → texts ws ≡ text_of x.0 ∷ x.1 → ⊥
keyword_missing ws d some e x same =
    let f = first_of ws d some in
    not_named (get_or ws 0 d).now (sym e) x.0 (cc (f, same))

-- ---- so many words

pub not_sole : {X : Type 0} (P : List ℕ → X → Type 0) (ws : List (List ℕ)) → length ws ≢ 1 → (x : X) → Sole P ws x → ⊥
not_sole P ws other x s = other (ap (λ (xs : List (List ℕ)). length xs) s.are)

pub at_some : {X : Type 0} (P : X → Type 0) (o : Option X) (x : X) → o ≡ Some x → IfSome o P → P x
at_some {X} P o x e h = let Q : Option X → Type 0 = λ p. IfSome p P in subst Q e h

pub found_at : {X : Type 0} (P : X → Type 0) (o : Option X) (x : X) → o ≡ Some x → IsFound P o → P x
found_at {X} P o x e h = let Q : Option X → Type 0 = λ p. IsFound P p in subst Q e h

-- ---- a table of their texts

-- the first keyword of the rows that the text is
abbrev pub named_in : List (Bor (List ℕ) × Keyword) → List ℕ → Option Keyword
named_in [] text = None
named_in (row ∷ rows) text = if bytes_eq text row.0.now then Some row.1 else named_in rows text

pub row_of : (row : Bor (List ℕ) × Keyword) (rows : List (Bor (List ℕ) × Keyword)) (text : List ℕ) → bytes_eq text row.0.now ≡ true → named_in (row ∷ rows) text ≡ Some row.1
row_of row rows text e = rw e refl

pub other_row : (row : Bor (List ℕ) × Keyword) (rows : List (Bor (List ℕ) × Keyword)) (text : List ℕ) → bytes_eq text row.0.now ≡ false → named_in (row ∷ rows) text ≡ named_in rows text
other_row row rows text e = rw e refl

pub at_row : (rows : List (Bor (List ℕ) × Keyword)) (i : ℕ) (d : Bor (List ℕ) × Keyword) (text : List ℕ) (k : Option Keyword) → named_in (drop i rows) text ≡ k → i < length rows → bytes_eq text (get_or rows i d).0.now ≡ true → Some (get_or rows i d).1 ≡ k
at_row rows i d text k was low e = sym (row_of (get_or rows i d) (drop (i + 1) rows) text e) ∙ sym (at_drop_more (λ (rs : List (Bor (List ℕ) × Keyword)). named_in rs text) rows i d low) ∙ was

pub past_row : (rows : List (Bor (List ℕ) × Keyword)) (i : ℕ) (d : Bor (List ℕ) × Keyword) (text : List ℕ) (k : Option Keyword) → named_in (drop i rows) text ≡ k → i < length rows → bytes_eq text (get_or rows i d).0.now ≡ false → named_in (drop (i + 1) rows) text ≡ k
past_row rows i d text k was low e = sym (other_row (get_or rows i d) (drop (i + 1) rows) text e) ∙ sym (at_drop_more (λ (rs : List (Bor (List ℕ) × Keyword)). named_in rs text) rows i d low) ∙ was

pub past_rows : (rows : List (Bor (List ℕ) × Keyword)) (i : ℕ) (text : List ℕ) (k : Option Keyword) → named_in (drop i rows) text ≡ k → length rows ≤ i → None ≡ k
past_rows rows i text k was all = sym (at_drop_all (λ (rs : List (Bor (List ℕ) × Keyword)). named_in rs text) rows i all) ∙ was
