-- The functions that tell their ends.
use Rattle.std.proofs.Common.{◌≡◌, ℕ, ◌||◌, Bool, true, false, List, [], ◌∷◌, ◌++◌, Vec, refl, sym, ap, ◌∙◌, subst, ⊎_elim, cond}
use Rattle.std.specs.declared.alloc.Global.{Global}
use Rattle.std.specs.Cmp.Lexicographic.{bytes_decides, nat_list_eq_equiv}
use Rattle.std.specs.HashSet.{HashSet, UpdatesBy}
use Rattle.std.specs.Set.{KeepsOthers}
use Rattle.std.specs.Str.{bytes_eq}
use Rattle.std.proofs.lemmas.Bool.{cases_Bool, cond-true, cond-false}
use Rattle.std.proofs.lemmas.List.Folds.{list_any-append}
use Rattle.trace_views.specs.Stacks.{Act, AreEnds, Returns, has_name, is_end_of, is_known, tells_end}
use Rattle.trace_views.specs.declared.ends.Ends.{Ends}
use Rattle.trace_times.proofs.KeyLemmas.{apart, key_eq}

module _ {S : Type 0} (text : List ℕ) (old new : HashSet (Vec ℕ Global) S) where
  others : KeepsOthers key_eq (λ k. bytes_eq text k.items) old.keys new.keys → (other : List ℕ) → bytes_eq text other ≡ false → has_name new other ≡ has_name old other
  unfolding KeepsOthers
  others h other e = h (λ k. bytes_eq other k.items) (λ x y. nat_list_eq_equiv.congr other x.items y.items) (λ k. apart text other k.items e)

  -- this text is there now, and the others as before
  pub put_there : UpdatesBy key_eq (λ k. bytes_eq text k.items) old new true → (other : List ℕ) → has_name new other ≡ cond (bytes_eq text other) true (has_name old other)
  put_there h other =
      ⊎_elim
      (λ y. subst (λ l. has_name new l ≡ true) ((bytes_decides text other).0 y) h.1 ∙ sym (cond-true (bytes_eq text other) true (has_name old other) y))
      (λ n. others h.3 other n ∙ sym (cond-false (bytes_eq text other) true (has_name old other) n))
      (cases_Bool (bytes_eq text other))

-- what is known already stays so
pub known_already : (ends : Ends) (function : List ℕ) → is_known ends function ≡ true → (other : List ℕ) → is_known ends other ≡ cond (bytes_eq function other) true (is_known ends other)
known_already ends function known other =
    ⊎_elim
    (λ y. subst (λ l. is_known ends l ≡ true) ((bytes_decides function other).0 y) known ∙ sym (cond-true (bytes_eq function other) true (is_known ends other) y))
    (λ n. sym (cond-false (bytes_eq function other) true (is_known ends other) n))
    (cases_Bool (bytes_eq function other))

either : (p q : Bool) → cond p true q ≡ (q || (p || false))
either true true = refl
either true false = refl
either false true = refl
either false false = refl

-- an end is told
pub ends_more : (old new : Ends) (acts : List Act) (process function : List ℕ) → AreEnds old acts → ((other : List ℕ) → is_known new other ≡ cond (bytes_eq function other) true (is_known old other)) → AreEnds new (acts ++ Returns process function ∷ [])
ends_more old new acts process function were learned other =
    learned other ∙ ap (λ known. cond (bytes_eq function other) true known) (were other) ∙ either (bytes_eq function other) (tells_end acts other) ∙ sym (list_any-append (is_end_of other) acts (Returns process function ∷ []))

or_not : (q : Bool) → q ≡ (q || false)
or_not true = refl
or_not false = refl

-- something else is
pub ends_still : (ends : Ends) (acts : List Act) (act : Act) → ((function : List ℕ) → is_end_of function act ≡ false) → AreEnds ends acts → AreEnds ends (acts ++ act ∷ [])
ends_still ends acts act none were other =
    were other ∙ or_not (tells_end acts other) ∙ ap (λ b. tells_end acts other || (b || false)) (sym (none other)) ∙ sym (list_any-append (is_end_of other) acts (act ∷ []))
