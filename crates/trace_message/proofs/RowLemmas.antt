-- A row that is cut before its last.
use Rattle.std.proofs.Common.{◌≡◌, Bool, true, false, cond, List, [], ◌∷◌, ◌++◌, Option, None, refl, ap, ◌∙◌}
use Rattle.std.specs.List.{IsLastAndRest}
use Rattle.trace_message.specs.Rows.{ends_with, front_of, stamped}

ends-snoc : {T : Type 0} (is : T → Bool) (ts : List T) (t : T) → ends_with is (ts ++ t ∷ []) ≡ is t
ends-snoc is [] t = refl
ends-snoc is (u ∷ []) t = refl
ends-snoc is (u ∷ v ∷ ts) t = ends-snoc is (v ∷ ts) t

front-snoc : {T : Type 0} (ts : List T) (t : T) → front_of (ts ++ t ∷ []) ≡ ts
front-snoc [] t = refl
front-snoc (u ∷ []) t = refl
front-snoc (u ∷ v ∷ ts) t = ap (λ us. u ∷ us) (front-snoc (v ∷ ts) t)

pub stamped-snoc : {T K : Type 0} (is : T → Bool) (kind_of : List T → Option K) (ts : List T) (t : T) → stamped is kind_of (ts ++ t ∷ []) ≡ cond (is t) (kind_of ts) None
stamped-snoc is kind_of ts t = rw (ends-snoc is ts t, front-snoc ts t) refl

stamped_by_last : {T K : Type 0} (is : T → Bool) (kind_of : List T → Option K) (row : List T) (t : T) (rest : List T) → IsLastAndRest row t rest → stamped is kind_of row ≡ cond (is t) (kind_of rest) None
stamped_by_last is kind_of row t rest h = rw h.0 (stamped-snoc is kind_of rest t)

pub with_stamp : {T K : Type 0} (is : T → Bool) (kind_of : List T → Option K) (row : List T) (t : T) (rest : List T) → IsLastAndRest row t rest → is t ≡ true → stamped is kind_of row ≡ kind_of rest
with_stamp is kind_of row t rest h e = stamped_by_last is kind_of row t rest h ∙ ap (λ b. cond b (kind_of rest) None) e

pub without_stamp : {T K : Type 0} (is : T → Bool) (kind_of : List T → Option K) (row : List T) (t : T) (rest : List T) → IsLastAndRest row t rest → is t ≡ false → stamped is kind_of row ≡ None
without_stamp is kind_of row t rest h e = stamped_by_last is kind_of row t rest h ∙ ap (λ b. cond b (kind_of rest) None) e
