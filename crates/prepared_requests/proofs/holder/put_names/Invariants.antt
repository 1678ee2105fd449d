use Rattle.std.proofs.Common.{◌≡◌, ◌++◌, map, string_bytes, take}
use Rattle.std.specs.List.{flat_map}
use Rattle.prepared_requests.specs.Names.{name_in}
use Rattle.prepared_requests.proofs.holder.put_names.Given as goal

abbrev pub invariant-loop-text : goal.invariant-loop-text
invariant-loop-text l = map (λ s. string_bytes s) l.names.items ≡ map (λ s. string_bytes s) l.initial.names.items ++ flat_map name_in (map (λ s. string_bytes s) (take l.text-index l.texts))
