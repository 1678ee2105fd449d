use Rattle.std.proofs.Common.{◌≡◌, ◌<◌, ◌+◌, ◌++◌, ℕ, zero, suc, List, [], ◌∷◌, length, Some, map, slice_get, sym, subst, ◌∙◌, ap, arith, rules}
use Rattle.std.specs.String.{string_bytes}
use Rattle.trace_lookup.specs.Places.{name_of}
use Rattle.trace_lookup.proofs.place.Place.names.Goals as goal

-- a list that has these items in their order, with one more after them
more_at : {A B : Type 0} (f : A → B) (at : ℕ → B) (xs : List A) (x : A) → ((i : ℕ) → i < length xs → slice_get (map f xs) i ≡ Some (at i)) → f x ≡ at (length xs)
    → (i : ℕ) → i < length xs + 1 → slice_get (map f (xs ++ x ∷ [])) i ≡ Some (at i)
more_at f at [] x before is zero less = ap Some is
more_at f at [] x before is (suc i) less = absurd (omega (arith, less))
more_at f at (y ∷ xs) x before is zero less = before zero (omega arith)
more_at f at (y ∷ xs) x before is (suc i) less =
    let longer : length (y ∷ xs) ≡ suc (length xs) = omega arith in
    more_at f (λ j. at (suc j)) xs x (λ j there. before (suc j) (omega (arith, there))) (is ∙ ap at longer) i (omega (arith, less))

pub loop-k-preserved : goal.loop-k-preserved
loop-k-preserved c =
    let at = name_of c.args.self.now.kind c.args.self.now.base.now c.args.self.now.suffix.now in
    let had = c.loop-k.invariant in
    let count : length c.loop-k.names.items ≡ c.loop-k.k = had.count in
    record {
      count = search rules;
      names = λ i less. subst (λ names. slice_get (map string_bytes names) i ≡ Some (at i)) (sym c.in_ok-push.ensures.items)
          (more_at string_bytes at c.loop-k.names.items c.in_ok-name.field-0 (λ j there. had.names j (omega (arith, there, count))) (c.in_ok-name.ensures ∙ ap at (sym count)) i (omega (arith, less, count)));
    }
