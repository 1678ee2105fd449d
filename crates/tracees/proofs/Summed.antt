-- The sums of accounts of a book of ledgers.
use Rattle.std.proofs.Common.{◌≡◌, ℕ, ◌+◌, ◌≤◌, List, [], ◌∷◌, length, map, refl, sym, ◌∙◌, ap, arith}
use Rattle.std.specs.List.{sum_by}
use Rattle.std.proofs.lemmas.List.{length-map}
use Rattle.std.proofs.lemmas.List.Sums.{sum_by-cons}
use Rattle.tracees.specs.Books.{totals}
use Rattle.tracees.specs.Sums.{summed, AreShares}
use Rattle.tracees.specs.declared.book.Totals.{Totals}

sum_by_map : {X : Type 0} (h : Totals → ℕ) (g : X → Totals) (xs : List X) → sum_by h (map g xs) ≡ sum_by (λ x. h (g x)) xs
sum_by_map h g [] = refl
sum_by_map h g (x ∷ xs) = omega (arith, sum_by_map h g xs, sum_by-cons h (g x) (map g xs), sum_by-cons (λ x. h (g x)) x xs)

sum_by_two : {X : Type 0} (f u : X → ℕ) (xs : List X) → sum_by (λ x. f x + u x) xs ≡ sum_by f xs + sum_by u xs
sum_by_two f u [] = refl
sum_by_two f u (x ∷ xs) = omega (arith, sum_by_two f u xs, sum_by-cons f x xs, sum_by-cons u x xs, sum_by-cons (λ x. f x + u x) x xs)

-- accounts of flushed messages, other messages and drops
module _ {X : Type 0} (f u d : X → ℕ) where
  abbrev pub counts_of : X → Totals
  counts_of x = totals (f x + u x) (d x) (f x)

  pub summed_counts : (xs : List X) → summed (map counts_of xs) ≡ totals (sum_by f xs + sum_by u xs) (sum_by d xs) (sum_by f xs)
  summed_counts xs =
      let messages : sum_by (λ (t : Totals). t.messages) (map counts_of xs) ≡ sum_by f xs + sum_by u xs = sum_by_map (λ (t : Totals). t.messages) counts_of xs ∙ sum_by_two f u xs in
      let drops : sum_by (λ (t : Totals). t.drops) (map counts_of xs) ≡ sum_by d xs = sum_by_map (λ (t : Totals). t.drops) counts_of xs in
      let flushed : sum_by (λ (t : Totals). t.flushed) (map counts_of xs) ≡ sum_by f xs = sum_by_map (λ (t : Totals). t.flushed) counts_of xs in
      λ i. totals (messages i) (drops i) (flushed i)

  -- the same counts in each ledger are the same counts
  pub same_counts : (xs ys : List X) → map f xs ≡ map f ys → map u xs ≡ map u ys → map d xs ≡ map d ys → map counts_of xs ≡ map counts_of ys
  same_counts [] [] p q r = refl
  same_counts [] (y ∷ ys) p q r = absurd (cc p)
  same_counts (x ∷ xs) [] p q r = absurd (cc p)
  same_counts (x ∷ xs) (y ∷ ys) p q r =
      let a : f x ≡ f y = cc p in
      let b : u x ≡ u y = cc q in
      let c : d x ≡ d y = cc r in
      let rest = same_counts xs ys (cc p) (cc q) (cc r) in
      λ i. totals (a i + b i) (c i) (a i) ∷ rest i

  -- what each ledger's sum is within, the accounts are shares of
  pub are_shares : (xs : List X) (flushed unflushed drops attached : ℕ) → sum_by f xs ≤ flushed → sum_by u xs ≤ unflushed → sum_by d xs ≤ drops → length xs ≤ attached → AreShares (totals (flushed + unflushed) drops flushed) attached (map counts_of xs)
  are_shares xs flushed unflushed drops attached a b c n = record {
    number = omega (arith, n, length-map xs counts_of);
    within = record {
      messages = omega (arith, a, b, ap (λ (t : Totals). t.messages) (summed_counts xs));
      drops = omega (arith, c, ap (λ (t : Totals). t.drops) (summed_counts xs));
      flushed = omega (arith, a, ap (λ (t : Totals). t.flushed) (summed_counts xs));
    };
  }

  -- the counts of the ledgers are the sums of the accounts
  pub sum_is : (xs : List X) (flushed unflushed drops : ℕ) → flushed ≡ sum_by f xs → unflushed ≡ sum_by u xs → drops ≡ sum_by d xs → totals (flushed + unflushed) drops flushed ≡ summed (map counts_of xs)
  sum_is xs flushed unflushed drops a b c =
      let first : totals (flushed + unflushed) drops flushed ≡ totals (sum_by f xs + sum_by u xs) (sum_by d xs) (sum_by f xs) = λ i. totals (a i + b i) (c i) (a i) in
      first ∙ sym (summed_counts xs)
