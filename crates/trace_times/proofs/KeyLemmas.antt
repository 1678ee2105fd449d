-- What a change of the row of one text leaves of the others.
use Rattle.std.proofs.Common.{◌≡◌, ℕ, Bool, true, false, List, Option, Vec, sym, ◌∙◌, subst, ⊎_elim}
use Rattle.std.specs.declared.alloc.Global.{Global}
use Rattle.std.specs.Cmp.Lexicographic.{bytes_decides, nat_list_eq_equiv}
use Rattle.std.specs.HashMap.{HashMap, UpdatesBy}
use Rattle.std.specs.Map.{update, KeepsOthers}
use Rattle.std.specs.Str.{bytes_eq}
use Rattle.std.proofs.lemmas.Bool.{cases_Bool, cond-true, cond-false}
use Rattle.trace_times.specs.Keyed.{row_at}

-- keys are equal where their bytes are
abbrev pub key_eq : Vec ℕ Global → Vec ℕ Global → Bool
key_eq a b = bytes_eq a.items b.items

pub apart : (text other key : List ℕ) → bytes_eq text other ≡ false → bytes_eq text key ≡ true → bytes_eq other key ≡ false
apart text other key n y = nat_list_eq_equiv.symm other key ∙ sym (nat_list_eq_equiv.congr text key other y) ∙ n

module _ {R S : Type 0} (text : List ℕ) (old new : HashMap (Vec ℕ Global) R S) where
  others : KeepsOthers key_eq (λ k. bytes_eq text k.items) old.entries new.entries → (other : List ℕ) → bytes_eq text other ≡ false → row_at new other ≡ row_at old other
  unfolding KeepsOthers
  others h other e = h (λ k. bytes_eq other k.items) (λ x y. nat_list_eq_equiv.congr other x.items y.items) (λ k. apart text other k.items e)

  -- the row of this text is w, and the others stay
  pub updated : (w : Option R) → UpdatesBy key_eq (λ k. bytes_eq text k.items) old new w → (other : List ℕ) → row_at new other ≡ update bytes_eq (row_at old) text w other
  updated w h other =
      ⊎_elim
      (λ y. subst (λ l. row_at new l ≡ w) ((bytes_decides text other).0 y) h.1 ∙ sym (cond-true (bytes_eq text other) w (row_at old other) y))
      (λ n. others h.3 other n ∙ sym (cond-false (bytes_eq text other) w (row_at old other) n))
      (cases_Bool (bytes_eq text other))
