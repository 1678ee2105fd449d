-- The calls of processes as they are held, the oldest first.
use Rattle.std.proofs.Common.{◌≡◌, ℕ, ℤ, slice_set, ◌+◌, ◌<◌, Bool, true, false, Option, Some, List, [], ◌∷◌, ◌++◌, Vec, length, take, get_or, refl, sym, ◌∙◌, ap, cond, reverse, arith}
use Rattle.std.proofs.lemmas.List.{reverse-append, take_more, take_more_set}
use Rattle.std.proofs.lemmas.Grind.{common_steps}
use Rattle.std.specs.HashMap.{HashMap, UpdatesBy}
use Rattle.std.specs.Cmp.Lexicographic.{nat_list_eq_equiv}
use Rattle.std.proofs.lemmas.Bool.{cond-true}
use Rattle.std.specs.Str.{bytes_eq}
use Rattle.std.specs.declared.alloc.Global.{Global}
use Rattle.std.specs.declared.collections.VecDeque.{VecDeque}
use Rattle.trace_times.specs.declared.open_calls.OpenCall.{OpenCall}
use Rattle.trace_times.specs.declared.open_calls.OpenCalls.{OpenCalls}
use Rattle.trace_times.specs.Opens.{Changes, calls_in, ended_at, from_newest, going_on, newest_of, open_calls, outside}
use Rattle.trace_times.specs.Keyed.{row_at}
use Rattle.trace_times.proofs.KeyLemmas.{key_eq, updated}

module _ {C : Type 0} where
  -- the newest first, up to a place and one more
  pub reverse-step : (xs : List C) (i : ℕ) (x : C) → i < length xs → x ≡ get_or xs i x → reverse (take (i + 1) xs) ≡ x ∷ reverse (take i xs)
  reverse-step xs i x within is = ap (λ (l : List C). reverse l) (take_more xs i x within ∙ ap (λ y. take i xs ++ y ∷ []) (sym is)) ∙ reverse-append (take i xs) (x ∷ [])

  -- the newest of them passes the test or doesn't
  pub outside-step : (test : C → Bool) (xs : List C) (i : ℕ) (x : C) (passes : Bool) → i < length xs → x ≡ get_or xs i x → test x ≡ passes
      → outside test (reverse (take (i + 1) xs)) ≡ cond passes (Some (reverse (take i xs))) (outside test (reverse (take i xs)))
  outside-step test xs i x passes within is tested =
      ap (outside test) (reverse-step xs i x within is) ∙ ap (λ (b : Bool). cond b (Some (reverse (take i xs))) (outside test (reverse (take i xs)))) tested

  pub from_newest-step : (test : C → Bool) (xs : List C) (i : ℕ) (x : C) (passes : Bool) → i < length xs → x ≡ get_or xs i x → test x ≡ passes
      → from_newest test (reverse (take (i + 1) xs)) ≡ cond passes (Some (reverse (take (i + 1) xs))) (from_newest test (reverse (take i xs)))
  from_newest-step test xs i x passes within is tested =
      ap (from_newest test) (reverse-step xs i x within is) ∙ ap (λ (b : Bool). cond b (Some (x ∷ reverse (take i xs))) (from_newest test (reverse (take i xs)))) tested
      ∙ ap (λ (l : List C). cond passes (Some l) (from_newest test (reverse (take i xs)))) (sym (reverse-step xs i x within is))

chosen : {F : Type 0} (test : Bool) (a b : Option (VecDeque (OpenCall F) Global)) → calls_in (cond test a b) ≡ cond test (calls_in a) (calls_in b)
chosen true a b = refl
chosen false a b = refl

module _ {F S : Type 0} (process : List ℕ) (old new : HashMap (Vec ℕ Global) (VecDeque (OpenCall F) Global) S) where
  -- these are the calls of this process, and the others keep theirs
  pub has_calls : (w : Option (VecDeque (OpenCall F) Global)) (now : List (OpenCall F)) → UpdatesBy key_eq (λ k. bytes_eq process k.items) old new w → calls_in w ≡ now
      → (other : List ℕ) → calls_in (row_at new other) ≡ cond (bytes_eq process other) now (calls_in (row_at old other))
  has_calls w now h is other =
      ap calls_in (updated process old new w h other) ∙ chosen (bytes_eq process other) w (row_at old other)
      ∙ ap (λ calls. cond (bytes_eq process other) calls (calls_in (row_at old other))) is

module _ {C : Type 0} (calls : List C) (n : ℕ) (last : C) (all : n + 1 ≡ length calls) (is : last ≡ get_or calls n last) where
  -- the newest is the last
  pub reverse-last : reverse calls ≡ last ∷ reverse (take n calls)
  reverse-last =
      let within : n < length calls = omega arith in
      let whole : take (n + 1) calls ≡ calls = grind (arith, common_steps) in
      ap (λ (l : List C). reverse l) (sym whole) ∙ reverse-step calls n last within is

  -- it is put anew
  pub reverse-set : (now : C) → reverse (slice_set calls n now) ≡ now ∷ reverse (take n calls)
  reverse-set now =
      let within : n < length calls = omega arith in
      let whole_now : take (n + 1) (slice_set calls n now) ≡ slice_set calls n now = grind (arith, common_steps) in
      ap (λ (l : List C). reverse l) (sym whole_now ∙ take_more_set calls n now within) ∙ reverse-append (take n calls) (now ∷ [])

  pub newest-last : newest_of (reverse calls) ≡ Some last
  newest-last = ap newest_of reverse-last

module _ {F : Type 0} (calls : List (OpenCall F)) (n : ℕ) (last : OpenCall F) (all : n + 1 ≡ length calls) (is : last ≡ get_or calls n last) where
  -- the newest of some calls goes on
  pub going_on-last : (time : Option ℤ) → reverse (slice_set calls n (record last { time = time })) ≡ going_on time (reverse calls)
  going_on-last time = reverse-set calls n last all is (record last { time = time }) ∙ sym (ap (going_on time) (reverse-last calls n last all is))

  -- calls that ended took so long
  pub ended_at-last : (ended : ℕ) → reverse (slice_set calls n (record last { ended = ended })) ≡ ended_at ended (reverse calls)
  ended_at-last ended = reverse-set calls n last all is (record last { ended = ended }) ∙ sym (ap (ended_at ended) (reverse-last calls n last all is))

-- as many go on
pub length-going_on : {F : Type 0} (time : Option ℤ) (calls : List (OpenCall F)) → length (going_on time calls) ≡ length calls
length-going_on time [] = refl
length-going_on time (call ∷ calls) = refl

pub length-ended_at : {F : Type 0} (ended : ℕ) (calls : List (OpenCall F)) → length (ended_at ended calls) ≡ length calls
length-ended_at ended [] = refl
length-ended_at ended (call ∷ calls) = refl

-- some time is the one that is there
pub ended_stays : {F : Type 0} (calls : List (OpenCall F)) → (ended : ℕ) × (ended_at ended calls ≡ calls)
ended_stays [] = (0, refl)
ended_stays (call ∷ calls) = (call.ended, refl)

module _ {F : Type 0} (old middle new : OpenCalls F) (process : List ℕ) (now : List (OpenCall F)) (changes : Changes old middle process now) where
  -- these are its calls
  pub calls_now : open_calls middle process ≡ now
  calls_now = changes.calls process ∙ cond-true (bytes_eq process process) now (open_calls old process) (nat_list_eq_equiv.refl process)

  -- and then their time is told
  pub changes_ended : (ended : ℕ) → Changes middle new process (ended_at ended (open_calls middle process)) → Changes old new process (ended_at ended now)
  changes_ended ended h = record {
    calls = λ other.
        h.calls other ∙ ap (λ calls. cond (bytes_eq process other) (ended_at ended calls) (open_calls middle other)) calls_now
        ∙ ap (λ calls. cond (bytes_eq process other) (ended_at ended now) calls) (changes.calls other) ∙ twice (bytes_eq process other) (ended_at ended now) now (open_calls old other);
    count =
        let long = length-ended_at ended (open_calls middle process) in
        let all = length-ended_at ended now in
        let had : length (open_calls middle process) ≡ length now = ap (λ (l : List (OpenCall F)). length l) calls_now in
        h.count ∙ omega (arith, changes.count, long, all, had);
  }
    where
      twice : (b : Bool) (x y z : List (OpenCall F)) → cond b x (cond b y z) ≡ cond b x z
      twice true x y z = refl
      twice false x y z = refl
