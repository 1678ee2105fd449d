-- What messages tell of the calls of processes.
use Rattle.std.specs.Prelude.{ℕ, ◌||◌, Option, Some, None, List, map, codes, if◌then◌else◌}
use Rattle.std.specs.Str.{bytes_eq}
use Rattle.entry_codec.specs.Entries.{Entry, Message, Drop}
use Rattle.trace_text.specs.MessageFacts.{Facts, facts_in}
use Rattle.trace_views.specs.Stacks.{Act, Calls, Returns, ReturnsTo, Exits, Loses, Other}
use Rattle.trace_views.specs.declared.acts.Act.{Act as Told}
use Rattle.trace_views.specs.declared.acts.Act.TheVariants as told

-- a process is told, and maybe a function
abbrev pub act_with : List ℕ → List ℕ → Option (List ℕ) → Act
act_with kind process None = Other
act_with kind process (Some function) =
    if bytes_eq kind (codes "call") then Calls process function else
    (if bytes_eq kind (codes "return") || bytes_eq kind (codes "exception") then Returns process function else (if bytes_eq kind (codes "return_to") then ReturnsTo process function else Other))

abbrev pub act_by : List ℕ → Option (List ℕ) → Option (List ℕ) → Act
act_by kind None function = Other
act_by kind (Some process) function = if bytes_eq kind (codes "exit") then Exits process else act_with kind process function

-- what a message tells
abbrev pub act_of : Facts → Act
act_of facts = act_by facts.kind facts.tracee facts.function

-- one that isn't read is a loss: nobody can tell what it was of
abbrev pub act_if : Option Facts → Act
act_if None = Loses
act_if (Some facts) = act_of facts

-- what an entry tells
abbrev pub act_in : Entry → Act
act_in (Message bytes) = act_if (facts_in bytes)
act_in (Drop count) = Loses

-- what entries tell
abbrev pub acts_in : List Entry → List Act
acts_in entries = map act_in entries

-- as it is told
abbrev pub seen_act : Told → Act
seen_act (told.Call process function) = Calls process.now function.now
seen_act (told.Return process function) = Returns process.now function.now
seen_act (told.ReturnTo process function) = ReturnsTo process.now function.now
seen_act (told.Exit process) = Exits process.now
seen_act told.Loss = Loses
seen_act told.Other = Other
