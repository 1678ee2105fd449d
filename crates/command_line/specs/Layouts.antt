-- How a listing is laid out for a person.
use Rattle.std.specs.Prelude.{Bool, not, ◌&&◌, ◌||◌, is_some, is_none}
use Rattle.command_line.specs.declared.layout.Layout.{Layout}

-- each line has a row, also where the last alone are shown
abbrev pub shows_each : Layout → Bool
shows_each layout = ((is_none layout.since && is_none layout.until) && is_none layout.grep) && not layout.is_from_now

-- a text may be cut
abbrev pub may_cut : Layout → Bool
may_cut layout = not layout.is_full || is_some layout.longest_text
