-- What one more message does to the rows.
use Rattle.std.proofs.Common.{◌≡◌, ℕ, cond, ◌+◌, ◌<◌, ◌≤◌, Bool, true, false, ◌&&◌, ◌||◌, ◌==◌, List, [], ◌∷◌, ◌++◌, Option, Some, None, if◌then◌else◌, fold, refl, sym, ap, ◌∙◌, subst, arith, unwrap_or, option_map, Vec, bytes_eq, codes, ⊎_elim}
use borrow.Author.Tests.{eqb-true, ne_eqb}
use Rattle.std.specs.declared.alloc.Global.{Global}
use Rattle.std.specs.Cmp.Lexicographic.{bytes_decides}
use Rattle.std.specs.HashMap.{HashMap}
use Rattle.std.proofs.lemmas.Bool.{cases_Bool, cond-true, cond-false}
use Rattle.std.proofs.lemmas.List.Sums.{fold_push, sum_by_push}
use Rattle.trace_text.specs.MessageFacts.{Facts}
use Rattle.trace_views.specs.Counting.{Telling, Read, Waiting, comes_if, goes_if, Holders, Mail, changed_name, holder_after, mail, mail_after, no_mail, to_whom, with_holder, waiting_for, how_many, passes, does, is_told, is_to, is_of, is_sent, row_of, ProcessCounts, all_of_process, counted_of_process}
use Rattle.trace_times.specs.Keyed.{row_at}
use Rattle.trace_views.specs.Rows.{Puts, one_if, counts_of_function, function_counts_with, no_function_counts, is_of_functions, counts_of_process, process_counts_with, process_counts_sent_to, process_counts_at, no_process_counts, is_of_processes, who_does, holder_in, AreNamesTold, SetsName, PutsProcess, PutsIfTold, AreFunctionsCounted, AreProcessesCounted}
use Rattle.trace_views.specs.declared.row.FunctionRow.{FunctionRow}
use Rattle.trace_views.specs.declared.row.ProcessRow.{ProcessRow}

-- one message more
pub how_many_more : (test : Facts → Bool) (told : List Telling) (facts : Facts) → how_many test (told ++ (Read facts ∷ [])) ≡ how_many test told + one_if (test facts)
how_many_more test told facts = sum_by_push _ told (Read facts)

-- where one of three tests holds, a count isn't 0
one_counts : (p q r : Bool) → (p || (q || r)) ≡ true → (x y z : ℕ) → (x + one_if p + (y + one_if q) + (z + one_if r) == 0) ≡ false
one_counts true q r h x y z = ne_eqb _ 0 (λ e. omega arith)
one_counts false true r h x y z = ne_eqb _ 0 (λ e. omega arith)
one_counts false false true h x y z = ne_eqb _ 0 (λ e. omega arith)
one_counts false false false h x y z = cc

module _ {C : Type 0} (pack : ℕ → ℕ → ℕ → C) where
  -- what a row counts, and nothing where there is none
  row_or_none : (x y z : ℕ) → unwrap_or (row_of (x + y + z) (pack x y z)) (pack 0 0 0) ≡ pack x y z
  row_or_none x y z = go (x + y + z == 0) refl
    where
      go : (b : Bool) → (x + y + z == 0) ≡ b → unwrap_or (row_of (x + y + z) (pack x y z)) (pack 0 0 0) ≡ pack x y z
      go true e =
          let none : x + y + z ≡ 0 = eqb-true (x + y + z) 0 e in
          let no_x : x ≡ 0 = omega arith in
          let no_y : y ≡ 0 = omega arith in
          let no_z : z ≡ 0 = omega arith in
          rw (no_x, no_y, no_z) refl
      go false e = rw e refl

  module _ (text_of : Facts → Option (List ℕ)) (p q r : Facts → Bool) where
    abbrev of : List ℕ → (Facts → Bool) → Facts → Bool
    of text test facts = is_told text (text_of facts) && test facts

    abbrev row : List ℕ → List Telling → Option C
    row text told =
        row_of (how_many (of text p) told + how_many (of text q) told + how_many (of text r) told)
        (pack (how_many (of text p) told) (how_many (of text q) told) (how_many (of text r) told))

    module _ (text : List ℕ) (told : List Telling) (facts : Facts) where
      here : (test : Facts → Bool) → is_told text (text_of facts) ≡ true → how_many (of text test) (told ++ (Read facts ∷ [])) ≡ how_many (of text test) told + one_if (test facts)
      here test e = how_many_more (of text test) told facts ∙ ap (λ b. how_many (of text test) told + one_if (b && test facts)) e

      elsewhere : (test : Facts → Bool) → is_told text (text_of facts) ≡ false → how_many (of text test) (told ++ (Read facts ∷ [])) ≡ how_many (of text test) told
      elsewhere test e = how_many_more (of text test) told facts ∙ ap (λ b. how_many (of text test) told + one_if (b && test facts)) e ∙ omega arith

      -- a message that tells of the text, and is counted
      stepped : is_told text (text_of facts) ≡ true → (p facts || (q facts || r facts)) ≡ true
          → (with : C → C) → ((x y z : ℕ) → with (pack x y z) ≡ pack (x + one_if (p facts)) (y + one_if (q facts)) (z + one_if (r facts)))
          → Some (with (unwrap_or (row text told) (pack 0 0 0))) ≡ row text (told ++ (Read facts ∷ []))
      stepped e one with law =
          rw (row_or_none, law, here p e, here q e, here r e, one_counts (p facts) (q facts) (r facts) one (how_many (of text p) told) (how_many (of text q) told) (how_many (of text r) told)) refl

      -- one that doesn't tell of it
      kept : is_told text (text_of facts) ≡ false → row text (told ++ (Read facts ∷ [])) ≡ row text told
      kept e = rw (elsewhere p e, elsewhere q e, elsewhere r e) refl

module _ {R C S : Type 0} (counts : R → C) (pack : ℕ → ℕ → ℕ → C) (text_of : Facts → Option (List ℕ)) (p q r : Facts → Bool)
    (old new : HashMap (Vec ℕ Global) R S) (told : List Telling) (facts : Facts) where
  -- the row of one text is put, and all rows are those that are told
  all_stepped : (text : List ℕ) (put : R) (with : C → C) → text_of facts ≡ Some text → (p facts || (q facts || r facts)) ≡ true
      → ((x y z : ℕ) → with (pack x y z) ≡ pack (x + one_if (p facts)) (y + one_if (q facts)) (z + one_if (r facts)))
      → Puts old new text put → counts put ≡ with (unwrap_or (option_map counts (row_at old text)) (pack 0 0 0))
      → ((other : List ℕ) → option_map counts (row_at old other) ≡ row pack text_of p q r other told)
      → (other : List ℕ) → option_map counts (row_at new other) ≡ row pack text_of p q r other (told ++ (Read facts ∷ []))
  all_stepped text put with is_text one law puts is_put before other = ⊎_elim same differs (cases_Bool (bytes_eq text other))
    where
      tells : is_told other (text_of facts) ≡ bytes_eq text other
      tells = ap (is_told other) is_text

      same : bytes_eq text other ≡ true → option_map counts (row_at new other) ≡ row pack text_of p q r other (told ++ (Read facts ∷ []))
      same y =
          let is_other : text ≡ other = (bytes_decides text other).0 y in
          ap (option_map counts) (puts other ∙ cond-true (bytes_eq text other) (Some put) (row_at old other) y)
          ∙ ap Some (is_put ∙ ap (λ o. with (unwrap_or o (pack 0 0 0))) (ap (λ t. option_map counts (row_at old t)) is_other ∙ before other))
          ∙ stepped pack text_of p q r other told facts (tells ∙ y) one with law

      differs : bytes_eq text other ≡ false → option_map counts (row_at new other) ≡ row pack text_of p q r other (told ++ (Read facts ∷ []))
      differs n =
          ap (option_map counts) (puts other ∙ cond-false (bytes_eq text other) (Some put) (row_at old other) n)
          ∙ before other ∙ sym (kept pack text_of p q r other told facts (tells ∙ n))

-- the rows of functions, after one is put
pub functions_counted : {S : Type 0} (old new : HashMap (Vec ℕ Global) FunctionRow S) (told : List Telling) (facts : Facts) (function : List ℕ) (put : FunctionRow)
    → facts.function ≡ Some function → is_of_functions facts.kind ≡ true → Puts old new function put
    → counts_of_function put ≡ function_counts_with facts.kind (unwrap_or (option_map counts_of_function (row_at old function)) no_function_counts)
    → AreFunctionsCounted old told → AreFunctionsCounted new (told ++ (Read facts ∷ []))
functions_counted old new told facts function put is_function one puts is_put before =
    all_stepped counts_of_function (λ x y z. record { calls = x; returns = y; exceptions = z }) (λ f. f.function) (is_of (codes "call")) (is_of (codes "return")) (is_of (codes "exception"))
    old new told facts function put (function_counts_with facts.kind) is_function one (λ x y z. refl) puts is_put before

-- ---- processes

-- no more wait than ever did
abbrev Bounded : ProcessCounts → Type 0
Bounded counts = counts.waiting.now ≤ counts.waiting.most

goes_bounded : (goes : Bool) (waiting : Waiting) → waiting.now ≤ waiting.most → (goes_if goes waiting).now ≤ (goes_if goes waiting).most
goes_bounded true waiting le = omega (arith, le)
goes_bounded false waiting le = le

comes_bounded : (comes : Bool) (waiting : Waiting) → waiting.now ≤ waiting.most → (comes_if comes waiting).now ≤ (comes_if comes waiting).most
comes_bounded true waiting le = omega arith
comes_bounded false waiting le = le

bounded_from : (process : List ℕ) (before : Mail) (told : List Telling) → (before.waiting process).now ≤ (before.waiting process).most → ((fold mail_after before told).waiting process).now ≤ ((fold mail_after before told).waiting process).most
bounded_from process before [] le = le
bounded_from process before (telling ∷ told) le =
    bounded_from process (mail_after before telling) told
    (comes_bounded (passes (is_to before.holders process) telling) _ (goes_bounded (passes (does process (is_of (codes "receive"))) telling) (before.waiting process) le))

-- where nothing is counted, there is nothing
nothing : (counts : ProcessCounts) → Bounded counts → all_of_process counts ≡ 0 → counts ≡ no_process_counts
nothing counts bounded none =
    let a : counts.calls ≡ 0 = omega (arith, none) in
    let b : counts.sent ≡ 0 = omega (arith, none) in
    let d : counts.received ≡ 0 = omega (arith, none) in
    let e : counts.waiting.most ≡ 0 = omega (arith, none) in
    let f : counts.waiting.now ≡ 0 = omega (arith, e, bounded) in
    λ i. record { calls = a i; sent = b i; received = d i; waiting = record { now = f i; most = e i } }

row_counts : (counts : ProcessCounts) → Bounded counts → unwrap_or (row_of (all_of_process counts) counts) no_process_counts ≡ counts
row_counts counts bounded = go (all_of_process counts == 0) refl
  where
    go : (b : Bool) → (all_of_process counts == 0) ≡ b → unwrap_or (row_of (all_of_process counts) counts) no_process_counts ≡ counts
    go true e = rw e (sym (nothing counts bounded (eqb-true (all_of_process counts) 0 e)))
    go false e = rw e refl

has_row : (counts : ProcessCounts) → 0 < all_of_process counts → row_of (all_of_process counts) counts ≡ Some counts
has_row counts some = let e : (all_of_process counts == 0) ≡ false = ne_eqb (all_of_process counts) 0 (λ none. omega (arith, none, some)) in rw e refl

abbrev own_with : Bool → Bool → Bool → ProcessCounts → ProcessCounts
own_with p q r counts = record { calls = counts.calls + one_if p; sent = counts.sent + one_if q; received = counts.received + one_if r; waiting = goes_if r counts.waiting }

-- a message that is counted counts for something
own_some : (p q r : Bool) (counts : ProcessCounts) → (p || (q || r)) ≡ true → 0 < all_of_process (own_with p q r counts)
own_some true q r counts h = omega arith
own_some false true r counts h = omega arith
own_some false false true counts h = omega arith
own_some false false false counts h = cc

own_none : (counts : ProcessCounts) → own_with false false false counts ≡ counts
own_none counts =
    let a : counts.calls + 0 ≡ counts.calls = omega arith in
    let b : counts.sent + 0 ≡ counts.sent = omega arith in
    let d : counts.received + 0 ≡ counts.received = omega arith in
    λ i. record { calls = a i; sent = b i; received = d i; waiting = counts.waiting }

-- one of the process, and one that isn't counted or of another
own_steps : (t p q r : Bool) (counts : ProcessCounts) → own_with (t && p) (t && q) (t && r) counts ≡ (if (p || (q || r)) && t then own_with p q r counts else counts)
own_steps false true q r counts = own_none counts
own_steps false false true r counts = own_none counts
own_steps false false false true counts = own_none counts
own_steps false false false false counts = own_none counts
own_steps true true q r counts = refl
own_steps true false true r counts = refl
own_steps true false false true counts = refl
own_steps true false false false counts = own_none counts

abbrev own_if : List ℕ → Facts → ProcessCounts → ProcessCounts
own_if process facts counts = if is_told process (who_does facts) then process_counts_with facts.kind counts else counts

abbrev sent_if : Holders → List ℕ → Facts → ProcessCounts → ProcessCounts
sent_if holders process facts counts = if is_to holders process facts then process_counts_sent_to counts else counts

told_if : (b : Bool) (process : List ℕ) (who : Option (List ℕ)) → is_told process (if b then who else None) ≡ (b && is_told process who)
told_if true process who = refl
told_if false process who = refl

sent_by : (b : Bool) (counts : ProcessCounts) → (if b then process_counts_sent_to counts else counts) ≡ record counts { waiting = comes_if b counts.waiting }
sent_by true counts = refl
sent_by false counts = refl

-- what one message more comes to
counted_more : (process : List ℕ) (told : List Telling) (facts : Facts) → counted_of_process process (told ++ (Read facts ∷ [])) ≡ sent_if (mail told).holders process facts (own_if process facts (counted_of_process process told))
counted_more process told facts =
    let counts = counted_of_process process told in
    let t = is_told process facts.tracee in
    let p = is_of (codes "call") facts in
    let q = is_sent facts in
    let r = is_of (codes "receive") facts in
    let own = own_steps t p q r counts ∙ sym (ap (λ b. if b then process_counts_with facts.kind counts else counts) (told_if (p || (q || r)) process facts.tracee)) in
    let calls = how_many_more (does process (is_of (codes "call"))) told facts in
    let sent = how_many_more (does process is_sent) told facts in
    let received = how_many_more (does process (is_of (codes "receive"))) told facts in
    let waits = ap (λ (m : Mail). m.waiting process) (fold_push mail_after no_mail told (Read facts)) in
    let comes = is_to (mail told).holders process facts in
    (λ i. record { calls = calls i; sent = sent i; received = received i; waiting = waits i })
    ∙ ap (λ (counts : ProcessCounts). record counts { waiting = comes_if comes counts.waiting }) own
    ∙ sym (sent_by comes (own_if process facts counts))

module _ {S : Type 0} (counts : ProcessCounts) (bounded : Bounded counts) (process : List ℕ) (old new : HashMap (Vec ℕ Global) ProcessRow S)
    (is : option_map counts_of_process (row_at old process) ≡ row_of (all_of_process counts) counts) (change : ProcessCounts → ProcessCounts) where
  abbrev HasChange : Bool → Type 0
  HasChange b = option_map counts_of_process (row_at new process) ≡ row_of (all_of_process (if b then change counts else counts)) (if b then change counts else counts)

  -- no row is put
  put_none : ((process : List ℕ) → row_at new process ≡ row_at old process) → HasChange false
  put_none same = ap (option_map counts_of_process) (same process) ∙ is

  -- the row of one process is put
  put_for : (text : List ℕ) → ((counts : ProcessCounts) → 0 < all_of_process (change counts)) → PutsProcess old new text (change (process_counts_at old text)) → HasChange (bytes_eq text process)
  put_for text some (put, puts, is_put) = ⊎_elim same differs (cases_Bool (bytes_eq text process))
    where
      same : bytes_eq text process ≡ true → HasChange (bytes_eq text process)
      same y =
          let is_text : text ≡ process = (bytes_decides text process).0 y in
          let had : process_counts_at old text ≡ counts = ap (process_counts_at old) is_text ∙ ap (λ o. unwrap_or o no_process_counts) is ∙ row_counts counts bounded in
          subst HasChange (sym y)
          (ap (option_map counts_of_process) (puts process ∙ cond-true (bytes_eq text process) (Some put) (row_at old process) y) ∙ ap Some (is_put ∙ ap change had) ∙ sym (has_row (change counts) (some counts)))

      differs : bytes_eq text process ≡ false → HasChange (bytes_eq text process)
      differs n = subst HasChange (sym n) (ap (option_map counts_of_process) (puts process ∙ cond-false (bytes_eq text process) (Some put) (row_at old process) n) ∙ is)

  put_if : (text : Option (List ℕ)) → ((counts : ProcessCounts) → 0 < all_of_process (change counts)) → PutsIfTold text change old new → HasChange (is_told process text)
  put_if None some puts = put_none puts
  put_if (Some text) some puts = put_for text some puts

-- the rows of processes, after what a message tells of one was put, and then that it is sent to one
pub processes_counted : {S : Type 0} (old middle new : HashMap (Vec ℕ Global) ProcessRow S) (told : List Telling) (facts : Facts)
    → PutsIfTold (who_does facts) (process_counts_with facts.kind) old middle → PutsIfTold (to_whom (mail told).holders facts) process_counts_sent_to middle new
    → AreProcessesCounted old told → AreProcessesCounted new (told ++ (Read facts ∷ []))
processes_counted old middle new told facts does comes before process =
    put_if (own_if process facts (counted_of_process process told)) own_bounded process middle new (first (is_of_processes facts.kind) refl does) process_counts_sent_to (to_whom (mail told).holders facts) (λ counts. omega arith) comes
    ∙ ap (λ (counts : ProcessCounts). row_of (all_of_process counts) counts) (sym (counted_more process told facts))
  where
    bounded : Bounded (counted_of_process process told)
    bounded = bounded_from process no_mail told (omega arith)

    first : (b : Bool) → is_of_processes facts.kind ≡ b → PutsIfTold (if b then facts.tracee else None) (process_counts_with facts.kind) old middle
        → HasChange (counted_of_process process told) bounded process old middle (before process) (process_counts_with facts.kind) (is_told process (if b then facts.tracee else None))
    first true e puts = put_if (counted_of_process process told) bounded process old middle (before process) (process_counts_with facts.kind) facts.tracee (λ counts. own_some _ _ _ counts e) puts
    first false e puts = put_none (counted_of_process process told) bounded process old middle (before process) (process_counts_with facts.kind) puts

    own_bounded : Bounded (own_if process facts (counted_of_process process told))
    own_bounded = go (is_told process (who_does facts))
      where
        go : (b : Bool) → Bounded (if b then process_counts_with facts.kind (counted_of_process process told) else counted_of_process process told)
        go true = goes_bounded (bytes_eq facts.kind (codes "receive")) (waiting_for process told) bounded
        go false = bounded

-- ---- names

-- where all names have the same processes, they have after one is given
same_holders : (name holder : Option (List ℕ)) (a b : Holders) → ((n : List ℕ) → a n ≡ b n) → (n : List ℕ) → with_holder name holder a n ≡ with_holder name holder b n
same_holders None holder a b same n = same n
same_holders (Some name) holder a b same n = ap (λ o. cond (bytes_eq name n) holder o) (same n)

-- the names, after what a message tells of one was put
pub names_told : {S : Type 0} (old new : HashMap (Vec ℕ Global) (Vec ℕ Global) S) (told : List Telling) (facts : Facts)
    → SetsName (changed_name facts) (holder_after facts) old new → AreNamesTold old told → AreNamesTold new (told ++ (Read facts ∷ []))
names_told old new told facts sets before name =
    sets name ∙ same_holders (changed_name facts) (holder_after facts) (holder_in old) (mail told).holders before name
    ∙ sym (ap (λ (m : Mail). m.holders name) (fold_push mail_after no_mail told (Read facts)))
