use Rattle.std.proofs.Common.{◌≡◌, ◌⊎◌, ◌≤◌, ◌+◌, ◌*◌, ◌-◌}
use Rattle.stores.specs.FolderStore.{honest_of, reads_of, clock_of}
use Rattle.commands.specs.Files.{OnlyLooks}
use Rattle.commands.specs.Live.{most_to_open, Openings}
use Rattle.commands.proofs.live.open_live.Given as goal

-- each opening so far made its device calls
abbrev pub invariant-openings : goal.invariant-openings
invariant-openings l = record {
  few : l.made ≤ 31;
  place : l.files.place ≡ l.fn.files.place;
  only_reads : (l.files.store ≡ l.fn.files.store) ⊎ OnlyLooks l.fn.files.store l.files.store;
  openings : Openings l.fn.files.store l.made l.files.store;
  calls : honest_of l.files.store → clock_of l.files.store ≤ clock_of l.fn.files.store + l.made * most_to_open (reads_of l.fn.files.store);
}

abbrev pub decreases-openings : goal.decreases-openings
decreases-openings l = 31 - l.made
