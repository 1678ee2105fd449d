-- One place of a list written, and jobs that are as they were.
use Rattle.std.proofs.Common.{◌≡◌, ◌≢◌, ℕ, ◌+◌, ◌<◌, List, length, get_or, set, sym, subst, ⊎_elim, ap, ◌∙◌, arith}
use Rattle.std.proofs.lemmas.Bool.{cases_eq}
use Rattle.std.proofs.lemmas.List.{get_or-set_same, get_or-set_other, get_or_default}
use Rattle.tracees.specs.declared.book.Bookkeeping.{Ghosts as BookGhosts}
use Rattle.tracees.specs.declared.job.Job.{Job}
use Rattle.tracees.specs.Jobs.{IsSameJob}

-- where what is written stands in R to what stood there, each place still stands in R to what it was
each_written : {X : Type 0} (R : X → X → Type 0) (xs ys : List X) (i : ℕ) (y there : X) → length ys ≡ length xs → i < length xs → ((k : ℕ) (d : X) → k < length xs → R (get_or xs k d) (get_or ys k d))
    → ((x : X) → R x (get_or ys i there) → R x y) → (k : ℕ) (d : X) → k < length xs → R (get_or xs k d) (get_or (set ys i y) k d)
each_written R xs ys i y there same at each more k d lt = ⊎_elim
    (λ (e : k ≡ i).
    let here : i < length ys = omega arith in
    let is : get_or (set ys i y) k d ≡ y = ap (λ j. get_or (set ys i y) j d) e ∙ get_or-set_same ys i y d here in
    let was : get_or ys k d ≡ get_or ys i there = ap (λ j. get_or ys j d) e ∙ get_or_default ys i d there here in
    subst (R (get_or xs k d)) (sym is) (more (get_or xs k d) (subst (R (get_or xs k d)) was (each k d lt))))
    (λ (n : k ≢ i). subst (R (get_or xs k d)) (sym (get_or-set_other ys i k y d n)) (each k d lt))
    (cases_eq k i)

-- one place more
pub each_more : {X : Type 0} (Q : X → Type 0) (ys : List X) (i : ℕ) (y : X) → i < length ys → Q y → ((k : ℕ) (d : X) → k < i → Q (get_or ys k d)) → (k : ℕ) (d : X) → k < i + 1 → Q (get_or (set ys i y) k d)
each_more Q ys i y at new each k d lt = ⊎_elim
    (λ (e : k ≡ i).
    let is : get_or (set ys i y) k d ≡ y = ap (λ j. get_or (set ys i y) j d) e ∙ get_or-set_same ys i y d at in
    subst Q (sym is) new)
    (λ (n : k ≢ i). subst Q (sym (get_or-set_other ys i k y d n)) (each k d (omega arith)))
    (cases_eq k i)

same_both : {K S : Type 0} {keep : BookGhosts K S} (x y z : Job K S keep) → IsSameJob x y → IsSameJob y z → IsSameJob x z
same_both x y z p q = record { traced = q.traced ∙ p.traced; acts = q.acts ∙ p.acts; receipts = q.receipts ∙ p.receipts; state = q.state ∙ p.state }

-- the job at a place was replaced by one that is the same
pub same_written : {K S : Type 0} {keep : BookGhosts K S} (xs ys : List (Job K S keep)) (i : ℕ) (y there : Job K S keep) → length ys ≡ length xs → i < length xs → ((k : ℕ) (d : Job K S keep) → k < length xs → IsSameJob (get_or xs k d) (get_or ys k d))
    → IsSameJob (get_or ys i there) y → (k : ℕ) (d : Job K S keep) → k < length xs → IsSameJob (get_or xs k d) (get_or (set ys i y) k d)
same_written xs ys i y there long at each same = each_written (λ x z. IsSameJob x z) xs ys i y there long at each (λ x p. same_both x (get_or ys i there) y p same)
