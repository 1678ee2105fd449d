use Rattle.std.proofs.Common.{◌≡◌, map, take}
use Rattle.stores.specs.CallRecords.{states_of, contents_of}
use Rattle.stores.specs.Crashes.{filled}
use Rattle.stores.proofs.crash.filled.Given as goal

abbrev pub invariant-loop-k : goal.invariant-loop-k
invariant-loop-k l = contents_of l.image.items ≡ map (filled l.byte l.longest) (states_of (take l.k l.files))
