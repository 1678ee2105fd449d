use Rattle.std.proofs.Common.{◌≡◌, ◌⊎◌, ◌≤◌, ◌+◌, ◌*◌, ◌-◌}
use Rattle.stores.specs.FolderStore.{honest_of, reads_of, clock_of}
use Rattle.commands.specs.Informing.{most_to_sum}
use Rattle.commands.specs.Files.{OnlyLooks}
use Rattle.commands.proofs.Informed.{NotWhole}
use Rattle.commands.proofs.informing.look_over.Given as goal

-- the files were read at most
abbrev pub invariant-readings : goal.invariant-readings
invariant-readings l = record {
  few : l.made ≤ 4;
  place : l.files.place ≡ l.fn.files.place;
  calls : honest_of l.files.store → clock_of l.files.store ≤ clock_of l.fn.files.store + l.made * most_to_sum (reads_of l.fn.files.store);
  once : honest_of l.files.store → (l.made ≡ 0) ⊎ NotWhole (reads_of l.fn.files.store);
  only_reads : (l.files.store ≡ l.fn.files.store) ⊎ OnlyLooks l.fn.files.store l.files.store;
}

abbrev pub decreases-readings : goal.decreases-readings
decreases-readings l = 4 - l.made
