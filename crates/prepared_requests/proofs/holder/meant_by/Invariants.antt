use Rattle.std.proofs.Common.{◌≡◌, map, string_bytes, take}
use Rattle.std.specs.List.{flat_map}
use Rattle.prepared_requests.specs.Names.{holding_of, meant_by}
use Rattle.prepared_requests.proofs.holder.meant_by.Given as goal

abbrev pub invariant-loop-text : goal.invariant-loop-text
invariant-loop-text l = map (λ s. string_bytes s) l.processes.items ≡ flat_map (meant_by (map holding_of l.holders)) (map (λ s. string_bytes s) (take l.text-index l.texts))
