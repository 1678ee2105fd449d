use Rattle.std.proofs.Common.{◌≡◌, ◌<◌, ℕ, length, Some, map, slice_get}
use Rattle.std.specs.String.{string_bytes}
use Rattle.trace_lookup.specs.Places.{name_of}
use Rattle.trace_lookup.proofs.place.Place.names.Given as goal

abbrev pub invariant-loop-k : goal.invariant-loop-k
invariant-loop-k l = record {
  count : length l.names.items ≡ l.k;
  names : (i : ℕ) → i < l.k → slice_get (map string_bytes l.names.items) i ≡ Some (name_of l.self.kind l.self.base.now l.self.suffix.now i);
}
