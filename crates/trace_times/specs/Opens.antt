-- The calls that are open, the newest of a process first.
use Rattle.std.specs.Prelude.{◌≡◌, ℕ, ℤ, ◌+◌, ◌-◌, Bool, ◌||◌, Option, Some, None, List, [], ◌∷◌, length, reverse, take, nat_le, nat_lt, if◌then◌else◌}
use Rattle.std.specs.Option.{option_map, unwrap_or}
use Rattle.std.specs.Str.{bytes_eq}
use Rattle.std.specs.declared.alloc.Global.{Global}
use Rattle.std.specs.declared.collections.VecDeque.{VecDeque}
use Rattle.trace_times.specs.declared.open_calls.OpenCall.{OpenCall}
use Rattle.trace_times.specs.declared.open_calls.OpenCalls.{OpenCalls}
use Rattle.trace_times.specs.Keyed.{row_at}

-- at most so many calls of one process are open
abbrev pub most_of_process : ℕ
most_of_process = 1000

-- and so many of all
abbrev pub most_of_all : ℕ
most_of_all = 1000000

-- at most so many calls of one function, one directly within the other, count for the depth
abbrev pub most_of_run : ℕ
most_of_run = 8

-- a depth of at most so many is told
abbrev pub most_depth : ℕ
most_depth = 1000

module _ {C : Type 0} where
  -- the newest of some calls
  abbrev pub newest_of : List C → Option C
  newest_of [] = None
  newest_of (call ∷ calls) = Some call

  -- one more call; where so many are open that it has no room it takes the place of the oldest
  abbrev pub with_call : Bool → C → List C → List C
  with_call is_full call calls = if is_full || nat_le most_of_process (length calls) then take (length calls) (call ∷ calls) else call ∷ calls

  -- the calls that the newest one that passes the test is within
  abbrev pub outside : (C → Bool) → List C → Option (List C)
  outside test [] = None
  outside test (call ∷ calls) = if test call then Some calls else outside test calls

  -- that one ends, with those within it
  abbrev pub with_return : (C → Bool) → List C → List C
  with_return test calls = unwrap_or (outside test calls) calls

  -- the newest one that passes the test, and those that it is within
  abbrev pub from_newest : (C → Bool) → List C → Option (List C)
  from_newest test [] = None
  from_newest test (call ∷ calls) = if test call then Some (call ∷ calls) else from_newest test calls

  -- that one goes on, and those within it are over
  abbrev pub back_in : (C → Bool) → List C → List C
  back_in test calls = unwrap_or (from_newest test calls) calls

-- as many of a run with a call that is of the same function, or isn't
abbrev pub run_with : Bool → ℕ → ℕ
run_with is_same run = if is_same then (if nat_lt most_of_run run then run else run + 1) else 1

-- the depth of a call within one of this depth, with the run that it ends
abbrev pub depth_with : ℕ → ℕ → ℕ
depth_with run depth = if nat_lt most_of_run run || nat_le most_depth depth then depth else depth + 1

module _ {F : Type 0} where
  -- a call of a function
  abbrev pub called_at : F → Option ℤ → OpenCall F
  called_at function time = record { function = function; time = time; depth = 0; run = 0; before = 0; ended = 0 }

  -- a call directly within another one, with the run that it ends
  abbrev pub placed_in : OpenCall F → OpenCall F → ℕ → OpenCall F
  placed_in call around run = record call { depth = depth_with run around.depth; run = run; before = around.ended; ended = around.ended }

  -- a call where this is the newest one that is open
  abbrev pub placed : (F → F → Bool) → OpenCall F → Option (OpenCall F) → OpenCall F
  placed eq call None = record call { depth = 1; run = 1 }
  placed eq call (Some around) = placed_in call around (run_with (eq around.function call.function) around.run)

  -- calls that ended took so long, up to now
  abbrev pub ended_at : ℕ → List (OpenCall F) → List (OpenCall F)
  ended_at ended [] = []
  ended_at ended (call ∷ calls) = record call { ended = ended } ∷ calls

  -- those of a process that has these, or none
  abbrev pub calls_in : Option (VecDeque (OpenCall F) Global) → List (OpenCall F)
  calls_in stack = unwrap_or (option_map (λ calls. reverse calls.items) stack) []

  -- the open calls of a process
  abbrev pub open_calls : OpenCalls F → List ℕ → List (OpenCall F)
  open_calls opens process = calls_in (row_at opens.stacks process)

  -- these are now the calls of this process, and the others keep theirs
  abbrev pub HasCalls : OpenCalls F → OpenCalls F → List ℕ → List (OpenCall F) → Type 0
  HasCalls old new process now = (other : List ℕ) → open_calls new other ≡ (if bytes_eq process other then now else open_calls old other)

  -- the newest one goes on at this time
  abbrev pub going_on : Option ℤ → List (OpenCall F) → List (OpenCall F)
  going_on time [] = []
  going_on time (call ∷ calls) = record call { time = time } ∷ calls

  -- as many are open as may be
  abbrev pub is_full : OpenCalls F → Bool
  is_full opens = nat_le most_of_all opens.count

  -- and how many they are in all goes with them
  pub record Changes (old new : OpenCalls F) (process : List ℕ) (now : List (OpenCall F)) : Type 0 where
    pub calls : HasCalls old new process now
    pub count : new.count ≡ old.count + length now - length (open_calls old process)
