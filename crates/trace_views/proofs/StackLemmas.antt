-- Stacks of calls, and the rows under their texts.
use Rattle.std.proofs.Common.{◌≡◌, ℕ, ℤ, suc, min, arith, None, nat_le, count_by, ◌+◌, ◌-◌, ◌==◌, ◌<◌, ◌≤◌, ◌||◌, Bool, true, false, Option, Some, List, [], ◌∷◌, ◌++◌, Vec, length, map, take, get_or, refl, sym, ◌∙◌, ap, subst, ⊎_elim, cond, reverse, append-nil, Bor}
use Rattle.std.proofs.lemmas.Bool.{cases_Bool, cond-true, cond-false}
use Rattle.std.proofs.lemmas.List.{map-append, take_min, length-map, length-reverse}
use Rattle.std.proofs.Math.Seq.{take-length}
use Rattle.std.proofs.lemmas.List.Sums.{fold-append, sum_by_push}
use Rattle.std.specs.List.{list_any, take-map}
use Rattle.std.proofs.lemmas.Grind.{flat_map-append}
use Rattle.std.specs.Map.Iter.{deref_pair}
use Rattle.std.specs.Io.KnownBytes.{Appends}
use Rattle.std.proofs.KnownBytes.{Appends-trans}
use Rattle.std.specs.BTreeMap.{UpdatesBy, is_at}
use Rattle.std.specs.Cmp.{eq_by_cmp_equiv}
use Rattle.std.specs.Cmp.Lexicographic.{slice_cmp, bytes_decides, nat_list_cmp_total, nat_list_eq_equiv, texts_ties}
use Rattle.std.specs.declared.alloc.Global.{Global}
use Rattle.std.specs.declared.cmp.Ordering.{Ordering}
use Rattle.std.specs.Map.{update, KeepsOthers}
use Rattle.std.specs.Option.{option_map, unwrap_or}
use Rattle.std.specs.Ordering.{is_eq, nat_cmp, eq_by_cmp}
use Rattle.std.specs.Str.{bytes_eq}
use Rattle.trace_views.specs.declared.stack_rows.StackRow.{StackRow}
use Rattle.trace_views.specs.declared.ends.Ends.{Ends}
use Rattle.trace_times.specs.declared.open_calls.OpenCall.{OpenCall}
use Rattle.trace_times.specs.declared.open_calls.OpenCalls.{OpenCalls}
use Rattle.trace_views.specs.declared.stacks.Stacks.{Stacks}
use Rattle.trace_times.specs.Opens.{Changes, back_in, from_newest, open_calls, going_on, is_full, most_of_all, most_of_process, newest_of, outside, placed, with_call, with_return}
use Rattle.trace_views.specs.Stacks.{Act, Calls as CallsOne, Folding, IsFolded, Rows, calls_at, folding, is_known, lines_of, names_in, names_of, one_name, shown_text, stack_line, stack_row_at, stack_text, tells_end, with_act, with_call_of, with_names, names_with, nothing_told}
use Rattle.trace_times.proofs.OpenLemmas.{reverse-step, length-going_on}

-- ---- texts

abbrev pub Calls : Type 0
Calls = List (OpenCall (Vec ℕ Global))

-- the functions of the calls from one place on up to another
abbrev pub names_between : Calls → ℕ → ℕ → List (List ℕ)
names_between calls from place = names_in (take (place - from) (reverse (take place calls)))

-- one more function is written
pub text-step : (process : List ℕ) (calls : Calls) (from place : ℕ) (call : OpenCall (Vec ℕ Global)) (text : List ℕ) → from ≤ place → place < length calls → call ≡ get_or calls place call
    → text ≡ stack_text process (names_between calls from place) → text ++ (59 ∷ one_name call.function.items) ≡ stack_text process (names_between calls from (place + 1))
text-step process calls from place call text order within is so_far =
    ap (λ (l : List ℕ). l ++ (59 ∷ one_name call.function.items)) so_far ∙ sym (ap (λ (l : Calls). stack_text process (names_in l)) more)
  where
    more : take (place + 1 - from) (reverse (take (place + 1) calls)) ≡ call ∷ take (place - from) (reverse (take place calls))
    more = let longer : place + 1 - from ≡ suc (place - from) = omega arith in rw (longer, reverse-step calls place call within is) refl

-- all that are shown are written
pub text-end : (process : List ℕ) (calls : Calls) (most : ℕ) → stack_text process (names_between calls (length calls - most) (length calls)) ≡ stack_text process (take most (names_in (reverse calls)))
text-end process calls most =
    ap (λ (names : List (List ℕ)). stack_text process names)
    (ap (λ (l : Calls). names_in (take (length calls - (length calls - most)) (reverse l))) (take-length calls)
    ∙ ap (λ n. names_in (take n (reverse calls))) size ∙ ap (λ (l : Calls). names_in l) (take_min most (reverse calls)) ∙ sym (take-map _ most (reverse calls)))
  where
    size : length calls - (length calls - most) ≡ min most (length (reverse calls))
    size = rw length-reverse (omega arith)

-- one more function behind the text of a stack
pub text-more : (process function : List ℕ) (names : List (List ℕ)) (text : List ℕ) → text ≡ stack_text (one_name process) (take 255 names) → text ++ (59 ∷ one_name function) ≡ shown_text process (function ∷ names)
text-more process function names text is = ap (λ (l : List ℕ). l ++ (59 ∷ one_name function)) is

-- a name without a semicolon stays as it is
pub plain_name : (name : List ℕ) → list_any (λ byte. byte == 59) name ≡ false → one_name name ≡ name
plain_name [] none = refl
plain_name (byte ∷ name) none = by_test (byte == 59) refl (λ rest. plain_name name rest)
  where
    by_test : (b : Bool) → (byte == 59) ≡ b → (list_any (λ one. one == 59) name ≡ false → one_name name ≡ name) → one_name (byte ∷ name) ≡ byte ∷ name
    by_test true is more = absurd (cc)
    by_test false is more =
        let rest : list_any (λ one. one == 59) name ≡ false = rw is at none in
        rw is (ap (λ (l : List ℕ). byte ∷ l) (more rest))

-- ---- processes

names-with_call : (full : Bool) (call : OpenCall (Vec ℕ Global)) (calls : Calls) → names_in (with_call full call calls) ≡ with_call full call.function.items (names_in calls)
names-with_call full call calls =
    go (full || nat_le most_of_process (length calls)) ∙ ap (λ n. cond (full || nat_le most_of_process n) (take n (call.function.items ∷ names_in calls)) (call.function.items ∷ names_in calls)) (sym (length-map calls _))
  where
    go : (b : Bool) → names_in (cond b (take (length calls) (call ∷ calls)) (call ∷ calls)) ≡ cond b (take (length calls) (call.function.items ∷ names_in calls)) (call.function.items ∷ names_in calls)
    go true = sym (take-map _ (length calls) (call ∷ calls))
    go false = refl

names-outside : (name : List ℕ) (calls : Calls) → option_map names_in (outside (λ call. bytes_eq call.function.items name) calls) ≡ outside (λ one. bytes_eq one name) (names_in calls)
names-outside name [] = refl
names-outside name (call ∷ calls) = choose (bytes_eq call.function.items name) (names-outside name calls)
  where
    choose : (b : Bool) → option_map names_in (outside (λ call. bytes_eq call.function.items name) calls) ≡ outside (λ one. bytes_eq one name) (names_in calls)
        → option_map names_in (cond b (Some calls) (outside (λ call. bytes_eq call.function.items name) calls)) ≡ cond b (Some (names_in calls)) (outside (λ one. bytes_eq one name) (names_in calls))
    choose true so_far = refl
    choose false so_far = so_far

names-with_return : (name : List ℕ) (calls : Calls) → names_in (with_return (λ call. bytes_eq call.function.items name) calls) ≡ with_return (λ one. bytes_eq one name) (names_in calls)
names-with_return name calls = go (outside _ calls) ∙ ap (λ o. unwrap_or o (names_in calls)) (names-outside name calls)
  where
    go : (o : Option Calls) → names_in (unwrap_or o calls) ≡ unwrap_or (option_map names_in o) (names_in calls)
    go None = refl
    go (Some _) = refl

names-from_newest : (name : List ℕ) (calls : Calls) → option_map names_in (from_newest (λ call. bytes_eq call.function.items name) calls) ≡ from_newest (λ one. bytes_eq one name) (names_in calls)
names-from_newest name [] = refl
names-from_newest name (call ∷ calls) = choose (bytes_eq call.function.items name) (names-from_newest name calls)
  where
    choose : (b : Bool) → option_map names_in (from_newest (λ call. bytes_eq call.function.items name) calls) ≡ from_newest (λ one. bytes_eq one name) (names_in calls)
        → option_map names_in (cond b (Some (call ∷ calls)) (from_newest (λ call. bytes_eq call.function.items name) calls)) ≡ cond b (Some (names_in (call ∷ calls))) (from_newest (λ one. bytes_eq one name) (names_in calls))
    choose true so_far = refl
    choose false so_far = so_far

names-back_in : (name : List ℕ) (calls : Calls) → names_in (back_in (λ call. bytes_eq call.function.items name) calls) ≡ back_in (λ one. bytes_eq one name) (names_in calls)
names-back_in name calls = go (from_newest _ calls) ∙ ap (λ o. unwrap_or o (names_in calls)) (names-from_newest name calls)
  where
    go : (o : Option Calls) → names_in (unwrap_or o calls) ≡ unwrap_or (option_map names_in o) (names_in calls)
    go None = refl
    go (Some _) = refl

-- a call that has its place is of its function
function_placed : (eq : Vec ℕ Global → Vec ℕ Global → Bool) (call : OpenCall (Vec ℕ Global)) (newest : Option (OpenCall (Vec ℕ Global))) → (placed eq call newest).function ≡ call.function
function_placed eq call None = refl
function_placed eq call (Some around) = refl

names-going_on : (time : Option ℤ) (calls : Calls) → names_in (going_on time calls) ≡ names_in calls
names-going_on time [] = refl
names-going_on time (call ∷ calls) = refl

-- what is told of one more act
pub folding-more : (before acts : List Act) (act : Act) → folding before (acts ++ act ∷ []) ≡ with_act (folding before acts) act
folding-more before acts act = fold-append with_act (nothing_told (tells_end before)) acts (act ∷ [])

-- a function that tells its ends is called, and any other
pub opened : (told : Folding) (process function : List ℕ) → told.ends function ≡ true → with_act told (CallsOne process function) ≡ with_call_of true told process function
opened told process function is = ap (λ b. with_call_of b told process function) is

pub passed : (told : Folding) (process function : List ℕ) → told.ends function ≡ false → with_act told (CallsOne process function) ≡ with_call_of false told process function
passed told process function is = ap (λ b. with_call_of b told process function) is

-- the open calls are those that are told
pub record Follows (opens : OpenCalls (Vec ℕ Global)) (told : Folding) : Type 0 where
  pub names : (process : List ℕ) → names_of opens process ≡ told.opens process
  pub count : opens.count ≡ told.count

pub follows_so : (before acts : List Act) (stacks : Stacks) → IsFolded before stacks acts → Follows stacks.opens (folding before acts)
follows_so before acts stacks was = record { names = was.opens; count = was.count }

-- the stacks are those of what was told still
pub folded_still : (before acts : List Act) (old new : Stacks) → IsFolded before old acts → new.opens ≡ old.opens → new.ends ≡ old.ends → ((text : List ℕ) → calls_at new.rows.rows text ≡ calls_at old.rows.rows text) → IsFolded before new acts
folded_still before acts old new was opens ends calls = record {
  opens = λ p. ap (λ (o : OpenCalls (Vec ℕ Global)). names_of o p) opens ∙ was.opens p;
  count = ap (λ (o : OpenCalls (Vec ℕ Global)). o.count) opens ∙ was.count;
  ends = λ f. ap (λ (e : Ends). is_known e f) ends ∙ was.ends f;
  calls = λ text. calls text ∙ was.calls text;
}

-- the stacks are those of what is told with one act more
pub folded_so : (before acts : List Act) (act : Act) (stacks : Stacks) (told : Folding) → with_act (folding before acts) act ≡ told → Follows stacks.opens told
    → ((function : List ℕ) → is_known stacks.ends function ≡ told.ends function) → ((text : List ℕ) → calls_at stacks.rows.rows text ≡ count_by (λ stack. bytes_eq stack text) told.called)
    → IsFolded before stacks (acts ++ act ∷ [])
folded_so before acts act stacks told is follows ends calls =
    let more : told ≡ folding before (acts ++ act ∷ []) = sym (folding-more before acts act ∙ is) in
    record {
      opens = λ p. follows.names p ∙ ap (λ (t : Folding). t.opens p) more;
      count = follows.count ∙ ap (λ (t : Folding). t.count) more;
      ends = λ f. ends f ∙ ap (λ (t : Folding). t.ends f) more;
      calls = λ text. calls text ∙ ap (λ (t : Folding). count_by (λ stack. bytes_eq stack text) t.called) more;
    }

-- those of one process change
pub follows : (old new : OpenCalls (Vec ℕ Global)) (told : Folding) (process : List ℕ) (now : Calls) (names : List (List ℕ)) → Changes old new process now → names_in now ≡ names → Follows old told
    → Follows new (with_names told process names)
follows old new told process now names h is before = record {
  names = λ p. ap (λ (l : Calls). names_in l) (h.calls p) ∙ go p (bytes_eq process p);
  count =
      let kept : length now ≡ length names = sym (length-map now _) ∙ ap (λ (l : List (List ℕ)). length l) is in
      let had : length (open_calls old process) ≡ length (told.opens process) = sym (length-map (open_calls old process) _) ∙ ap (λ (l : List (List ℕ)). length l) (before.names process) in
      h.count ∙ omega (arith, before.count);
}
  where
    go : (p : List ℕ) (b : Bool) → names_in (cond b now (open_calls old p)) ≡ cond b names (told.opens p)
    go p true = is
    go p false = before.names p

-- the newest call of one goes on
pub follows-going_on : (old new : OpenCalls (Vec ℕ Global)) (told : Folding) (process : List ℕ) (time : Option ℤ) → Changes old new process (going_on time (open_calls old process)) → Follows old told → Follows new told
follows-going_on old new told process time h before = record {
  names = λ p. ap (λ (l : Calls). names_in l) (h.calls p) ∙ ⊎_elim (same p) (other p) (cases_Bool (bytes_eq process p));
  count = omega (arith, h.count, length-going_on time (open_calls old process), before.count);
}
  where
    now : Calls
    now = going_on time (open_calls old process)

    same : (p : List ℕ) → bytes_eq process p ≡ true → names_in (cond (bytes_eq process p) now (open_calls old p)) ≡ told.opens p
    same p y =
        ap (λ (l : Calls). names_in l) (cond-true (bytes_eq process p) now (open_calls old p) y) ∙ names-going_on time (open_calls old process)
        ∙ before.names process ∙ ap told.opens ((bytes_decides process p).0 y)

    other : (p : List ℕ) → bytes_eq process p ≡ false → names_in (cond (bytes_eq process p) now (open_calls old p)) ≡ told.opens p
    other p n = ap (λ (l : Calls). names_in l) (cond-false (bytes_eq process p) now (open_calls old p) n) ∙ before.names p

-- a process calls a function
pub follows-call : (eq : Vec ℕ Global → Vec ℕ Global → Bool) (old new : OpenCalls (Vec ℕ Global)) (told : Folding) (process : List ℕ) (call : OpenCall (Vec ℕ Global))
    → Changes old new process (with_call (is_full old) (placed eq call (newest_of (open_calls old process))) (open_calls old process)) → Follows old told → Follows new (with_names told process (names_with told process call.function.items))
follows-call eq old new told process call h before =
    let put = placed eq call (newest_of (open_calls old process)) in
    let same : put.function.items ≡ call.function.items = ap (λ (f : Vec ℕ Global). f.items) (function_placed eq call (newest_of (open_calls old process))) in
    follows old new told process _ (names_with told process call.function.items) h
    (names-with_call (is_full old) put (open_calls old process)
    ∙ ap (λ (l : List ℕ). with_call (is_full old) l (names_of old process)) same
    ∙ ap (λ (l : List (List ℕ)). with_call (is_full old) call.function.items l) (before.names process)
    ∙ ap (λ n. with_call (nat_le most_of_all n) call.function.items (told.opens process)) before.count) before

-- it leaves one
pub follows-return : (old new : OpenCalls (Vec ℕ Global)) (told : Folding) (process name : List ℕ)
    → Changes old new process (with_return (λ call. bytes_eq call.function.items name) (open_calls old process)) → Follows old told
    → Follows new (with_names told process (with_return (λ one. bytes_eq one name) (told.opens process)))
follows-return old new told process name h before =
    follows old new told process _ (with_return (λ one. bytes_eq one name) (told.opens process)) h
    (names-with_return name (open_calls old process) ∙ ap (λ (l : List (List ℕ)). with_return (λ one. bytes_eq one name) l) (before.names process)) before

-- it is back in one
pub follows-back : (old new : OpenCalls (Vec ℕ Global)) (told : Folding) (process name : List ℕ)
    → Changes old new process (back_in (λ call. bytes_eq call.function.items name) (open_calls old process)) → Follows old told
    → Follows new (with_names told process (back_in (λ one. bytes_eq one name) (told.opens process)))
follows-back old new told process name h before =
    follows old new told process _ (back_in (λ one. bytes_eq one name) (told.opens process)) h
    (names-back_in name (open_calls old process) ∙ ap (λ (l : List (List ℕ)). back_in (λ one. bytes_eq one name) l) (before.names process)) before

-- its own calls are the ones that were told now
pub names_now : (told : Folding) (process : List ℕ) (names : List (List ℕ)) → (with_names told process names).opens process ≡ names
names_now told process names = cond-true (bytes_eq process process) names (told.opens process) (nat_list_eq_equiv.refl process)

-- one more stack is called
pub called_more : (text shown : List ℕ) (called : List (List ℕ)) → count_by (λ stack. bytes_eq stack text) (called ++ shown ∷ []) ≡ count_by (λ stack. bytes_eq stack text) called + cond (bytes_eq shown text) 1 0
called_more text shown called = sum_by_push _ called shown

-- ---- rows

apart : (text other key : List ℕ) → bytes_eq text other ≡ false → bytes_eq text key ≡ true → bytes_eq other key ≡ false
apart text other key n y = nat_list_eq_equiv.symm other key ∙ sym (nat_list_eq_equiv.congr text key other y) ∙ n

apart_in_order : (text other key : List ℕ) → bytes_eq text other ≡ false → is_eq (slice_cmp nat_cmp text key) ≡ true → is_eq (slice_cmp nat_cmp other key) ≡ false
apart_in_order text other key n y = sym (texts_ties other key) ∙ apart text other key n (texts_ties text key ∙ y)

-- keys are ordered by their bytes
abbrev pub key_cmp : Vec ℕ Global → Vec ℕ Global → Ordering
key_cmp a b = slice_cmp nat_cmp a.items b.items

module _ (text : List ℕ) (old new : Rows) where
  others : KeepsOthers (eq_by_cmp key_cmp) (is_at (λ k. slice_cmp nat_cmp text k.items)) old.entries new.entries → (other : List ℕ) → bytes_eq text other ≡ false → stack_row_at new other ≡ stack_row_at old other
  unfolding KeepsOthers
  others h other e = h (is_at (λ k. slice_cmp nat_cmp other k.items)) (λ x y. (eq_by_cmp_equiv nat_list_cmp_total).congr other x.items y.items) (λ k. apart_in_order text other k.items e)

  -- the row of this text is w, and the others stay
  pub updated_row : (w : Option StackRow) → UpdatesBy key_cmp (λ k. slice_cmp nat_cmp text k.items) old new w → (other : List ℕ) → stack_row_at new other ≡ update bytes_eq (stack_row_at old) text w other
  updated_row w h other =
      ⊎_elim
      (λ y. subst (λ l. stack_row_at new l ≡ w) ((bytes_decides text other).0 y) h.1 ∙ sym (cond-true (bytes_eq text other) w (stack_row_at old other) y))
      (λ n. others h.3 other n ∙ sym (cond-false (bytes_eq text other) w (stack_row_at old other) n))
      (cases_Bool (bytes_eq text other))

-- ---- lines

-- one more row
pub lines-more : (is_timed : Bool) (shown : List (Bor (Vec ℕ Global) × Bor StackRow)) (one : Bor (Vec ℕ Global) × Bor StackRow) → lines_of is_timed (map deref_pair (shown ++ one ∷ [])) ≡ lines_of is_timed (map deref_pair shown) ++ stack_line is_timed (deref_pair one)
lines-more is_timed shown one =
    ap (lines_of is_timed) (map-append deref_pair shown (one ∷ [])) ∙ flat_map-append (stack_line is_timed) (map deref_pair shown) (deref_pair one ∷ [])
    ∙ ap (λ (l : List ℕ). lines_of is_timed (map deref_pair shown) ++ l) (append-nil (stack_line is_timed (deref_pair one)))

-- a line is written
pub line-step : (is_timed : Bool) (shown : List (Bor (Vec ℕ Global) × Bor StackRow)) (one : Bor (Vec ℕ Global) × Bor StackRow) (a b c d : Option (List ℕ)) (text number : List ℕ)
    → Appends a b (lines_of is_timed (map deref_pair shown)) → Appends b c text → Appends c d number → text ++ number ≡ stack_line is_timed (deref_pair one)
    → Appends a d (lines_of is_timed (map deref_pair (shown ++ one ∷ [])))
line-step is_timed shown one a b c d text number so_far first second is =
    let line : Appends b d (stack_line is_timed (deref_pair one)) = subst (Appends b d) is (Appends-trans b c d text number first second) in
    subst (Appends a d) (sym (lines-more is_timed shown one)) (Appends-trans a b d _ _ so_far line)
