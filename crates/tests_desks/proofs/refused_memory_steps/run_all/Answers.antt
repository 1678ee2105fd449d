use Rattle.std.proofs.Common.{◌≡◌, ℕ, zero, suc, ◌+◌, ◌++◌, List, [], ◌∷◌, length, map, slice_get, Some, is_ok, if◌then◌else◌, ap, sym, subst, ◌∙◌, arith, rules}
use Rattle.std.proofs.lemmas.Option.{same_Some}
use Rattle.tracees.specs.Desks.{DeskState}
use Rattle.tracees.specs.States.{place_of}
use Rattle.tests_desks.proofs.refused_memory_steps.run_all.Goals as goal

-- desks that are numbered from n on, with one more after them
numbered_on : {P D : Type 0} (f : D → DeskState P) (n : ℕ) (xs : List D) (x : D) → ((i : ℕ) (p : DeskState P) → slice_get (map f xs) i ≡ Some p → p.number ≡ n + i)
    → (f x).number ≡ n + length xs → (i : ℕ) (p : DeskState P) → slice_get (map f (xs ++ x ∷ [])) i ≡ Some p → p.number ≡ n + i
numbered_on f n [] x before is zero p e = ap (λ q. q.number) (sym (same_Some (f x) p e)) ∙ is
numbered_on f n [] x before is (suc i) p e = absurd (cc)
numbered_on f n (y ∷ xs) x before is zero p e = before zero p e
numbered_on f n (y ∷ xs) x before is (suc i) p e =
    let later = numbered_on f (suc n) xs x (λ j q there. let one = before (suc j) q there in omega (arith, one)) (omega (arith, is)) i p e in
    omega (arith, later)

-- the same, numbered by their places
numbered_more : {P D : Type 0} (f : D → DeskState P) (xs ys : List D) (x : D) → ys ≡ xs ++ x ∷ [] → ((i : ℕ) (p : DeskState P) → slice_get (map f xs) i ≡ Some p → p.number ≡ i)
    → (f x).number ≡ length xs → (i : ℕ) (p : DeskState P) → slice_get (map f ys) i ≡ Some p → p.number ≡ i
numbered_more f xs ys x pushed before is i p e =
    let there = subst (λ zs. slice_get (map f zs) i ≡ Some p) pushed e in
    let found = numbered_on f 0 xs x (λ j q at. let one = before j q at in omega (arith, one)) (omega (arith, is)) i p there in
    omega (arith, found)

pub loop-port-preserved : goal.loop-port-preserved
loop-port-preserved g c =
    let desks = c.loop-port.desks.items in
    let desk = c.opened-desk.result in
    let number : desk.number ≡ length desks = search rules in
    let pushed : c.push.new.self.items ≡ desks ++ desk ∷ [] = c.push.ensures.items ∙ ap (λ r. if is_ok r then desks ++ desk ∷ [] else desks) c.expect.ensures in
    numbered_more (place_of g.P.TracePort Rattle.tracees.specs.contracts.book.PlainBookBookkeeping.TheImpl.ghosts) desks c.push.new.self.items desk pushed c.loop-port.invariant number
