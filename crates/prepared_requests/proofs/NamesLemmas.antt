-- Texts that are added one after the other.
use Rattle.std.proofs.Common.{◌≡◌, ℕ, ◌+◌, ◌<◌, false, Option, List, [], ◌∷◌, ◌++◌, length, length-append, take, get_or, map, sym, ap, ◌∙◌, arith}
use Rattle.std.specs.Prelude.{Result, Ok, Err, OnOk, is_err}
use Rattle.std.specs.List.{flat_map}
use Rattle.std.proofs.lemmas.List.{append-nil, flat_map_more, length-map, map-append, take_more}
use Rattle.std.proofs.lemmas.List.Sums.{fold-append}
use Rattle.entry_codec.specs.Entries.{Entry}
use Rattle.prepared_requests.specs.Names.{AreTold, Holding, holding_in, holdings_in, or_itself, with_holding}

-- what one more means stands behind what those before it do
pub one_more : {X Y A : Type 0} (g : X → Y) (f : Y → List A) (before now : List A) (xs : List X) (i : ℕ) (d : X) → i < length xs → now ≡ before ++ flat_map f (map g (take i xs)) → now ++ f (g (get_or xs i d)) ≡ before ++ flat_map f (map g (take (i + 1) xs))
one_more {X} {Y} {A} g f before now xs i d within is =
    ap (λ (l : List A). l ++ f (g (get_or xs i d))) is ∙ flat_map_more f before (map g (take i xs)) (g (get_or xs i d))
    ∙ ap (λ (l : List Y). before ++ flat_map f l) (sym (ap (map g) (take_more xs i d within) ∙ map-append g (take i xs) (get_or xs i d ∷ [])))

-- where nothing was added, the name itself stands there
pub nobody : {X : Type 0} (g : X → List ℕ) (text : List ℕ) (before now : List X) (found : List (List ℕ)) → map g now ≡ map g before ++ found → length now ≡ length before → map g now ++ text ∷ [] ≡ map g before ++ or_itself text found
nobody g text before now [] is same = ap (λ (l : List (List ℕ)). l ++ text ∷ []) (is ∙ append-nil (map g before))
nobody g text before now (one ∷ more) is same = absurd (omega (arith, same, length-map now g, length-map before g, ap length is, length-append (map g before) (one ∷ more)))

-- where something was, that does
pub somebody : {X : Type 0} (g : X → List ℕ) (text : List ℕ) (before now : List X) (found : List (List ℕ)) → map g now ≡ map g before ++ found → (length now ≡ length before → ⊥) → map g now ≡ map g before ++ or_itself text found
somebody g text before now [] is differs = absurd (differs (omega (arith, length-map now g, length-map before g, ap length (is ∙ append-nil (map g before)))))
somebody g text before now (one ∷ more) is differs = is

-- what one more entry tells was noted
pub told_on : {E F : Type 0} (fault : Option F) (asked own : List (List ℕ)) (known more : List Holding) (entries after : List Entry) (entry : Entry) (result : Result Unit E) → is_err result ≡ false → own ≡ asked → OnOk result (more ≡ with_holding known (holding_in own entry))
    → AreTold fault asked known entries → after ≡ entries ++ entry ∷ [] → AreTold fault asked more after
told_on fault asked own known more entries after entry (Ok done) ok same noted was is = λ none.
    noted ∙ ap (λ (l : List Holding). with_holding l (holding_in own entry)) (was none) ∙ ap (λ (l : List (List ℕ)). with_holding (holdings_in asked entries) (holding_in l entry)) same
    ∙ sym (fold-append (λ (l : List Holding) (e : Entry). with_holding l (holding_in asked e)) [] entries (entry ∷ [])) ∙ ap (holdings_in asked) (sym is)
told_on fault asked own known more entries after entry (Err why) ok same noted was is = absurd (cc)
