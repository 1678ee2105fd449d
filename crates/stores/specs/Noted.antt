-- What the record of real files tells of their calls.
use Rattle.std.specs.Prelude.{ℕ, Option, Some, None}
use Rattle.stores.specs.Events.{Past}
use Rattle.stores.specs.NamedFiles.{count}
use Rattle.stores.specs.declared.call_record.CallRecord.{CallRecord}
use Rattle.stores.specs.declared.fault.FileFault.{FileFault}
use Rattle.stores.specs.declared.named_files.NamedFiles.{NamedFiles}

-- these files, and the calls on them so far
abbrev pub past : NamedFiles → CallRecord → Past
past files calls = record { world = calls.world; names = calls.names; count = count files; events = calls.events; earlier = calls.earlier }

-- the file of a refusal
abbrev pub told_file : Option FileFault → Option ℕ
told_file None = None
told_file (Some fault) = Some fault.file
