-- Which entries are asked for, where there may be a choice.
use denote.Ref.{Bor}
use Rattle.std.specs.Prelude.{ℕ, Bool, true, Option, Some, None}
use Rattle.std.specs.Option.{option_map}
use Rattle.entry_codec.specs.Entries.{Entry}
use Rattle.trace_text.specs.declared.choice.Choice.{Choice}
use Rattle.trace_text.specs.Choosing.{Asks, asks_of, chooses}
use Rattle.trace_text.specs.Lines.{asks_part}

-- what a choice asks for, where there is one
abbrev pub asks_where : Option (Bor Choice) → Option Asks
asks_where choice = option_map (λ choice. asks_of choice.now) choice

-- the entry of this number is asked for; where nothing is said, each is
abbrev pub is_chosen : Option Asks → ℕ → Entry → Bool
is_chosen None n e = true
is_chosen (Some asks) n e = chooses asks n e

-- parts of this number are asked for
abbrev pub is_part_chosen : Option Asks → ℕ → Bool
is_part_chosen None n = true
is_part_chosen (Some asks) n = asks_part asks n
