-- The files of a trace.
use Rattle.std.specs.Prelude.{ℕ, ◌+◌, Option, Some, None, List, ◌++◌}
use Rattle.std.specs.Fmt.{decimal}
use Rattle.command_line.specs.declared.request.Wanted.{Wanted}
use Rattle.trace_lookup.specs.declared.place.Kind.{Kind}
use Rattle.trace_lookup.specs.declared.place.Kind.TheVariants as kinds
use Rattle.trace_lookup.specs.declared.place.RunEnd.{RunEnd}
use Rattle.trace_lookup.specs.declared.place.RunEnd.TheVariants as turning

-- one file, or one more than the runs that a wrap keeps
abbrev pub file_count : Kind → ℕ
file_count kinds.File = 1
file_count (kinds.Wrap count) = count + 1

-- the name of one of the files: the base, and in a wrap its number and the suffix
abbrev pub name_of : Kind → List ℕ → List ℕ → ℕ → List ℕ
name_of kinds.File base suffix k = base
name_of (kinds.Wrap count) base suffix k = base ++ decimal k ++ suffix

-- the bytes of a run of a wrap where the command line doesn't say
abbrev pub standard_size : ℕ
standard_size = 131072

-- the size that is asked for
abbrev pub size_of : Option ℕ → ℕ
size_of None = standard_size
size_of (Some size) = size

-- what ends a run of a new wrap: the time where one is asked for, else the size
abbrev pub run_end_by : Option ℕ → Option ℕ → RunEnd
run_end_by size None = turning.Size (size_of size)
run_end_by size (Some millis) = turning.Time millis

abbrev pub run_end_of : Wanted → RunEnd
run_end_of wanted = run_end_by wanted.size wanted.time
