use Rattle.std.proofs.Common.{◌≡◌, ◌++◌, map, string_bytes, take}
use Rattle.std.specs.List.{flat_map}
use Rattle.prepared_requests.specs.Names.{holding_of, process_of}
use Rattle.prepared_requests.proofs.holder.put_processes.Given as goal

abbrev pub invariant-loop-holder : goal.invariant-loop-holder
invariant-loop-holder l = map (λ s. string_bytes s) l.processes.items ≡ map (λ s. string_bytes s) l.initial.processes.items ++ flat_map (process_of l.name) (map holding_of (take l.holder-index l.holders))
