-- Files that are looked at one by one.
use Rattle.std.proofs.Common.{◌≡◌, ℕ, ◌≤◌}
use Rattle.std.specs.Prelude.{Result}
use Rattle.trace_store.specs.Disk.{Image, SameImages, IsDeviceCall}
use Rattle.trace_store.specs.Moments.{started, goes_on}
use Rattle.trace_store.specs.Device.{OnlyReads}

-- one device call that writes nothing
pub reads_once : {D M T E : Type 0} {made : D → M} (honest : D → Type 0) (clock_of failures_of : D → ℕ) (reads : D → Image) (images : D → Image → Type 0) (moments : D → ℕ → Image → Type 0)
    → ((s : D) (t : ℕ) (c : Image) → honest s → t ≤ clock_of s → images s c → moments s t c) → ((s : D) (c : Image) → honest s → moments s (clock_of s) c → images s c) → (old new : D) (r : Result T E)
    → IsDeviceCall made honest clock_of failures_of reads images moments old new r → (honest new → reads new ≡ reads old) → (honest new → SameImages (images old) (images new)) → OnlyReads made honest clock_of reads images moments old new
reads_once honest clock_of failures_of reads images moments counts_now only_now old new r call same_reads same_images = record {
  same_made = call.same_made;
  was_honest = call.was_honest;
  count = call.count;
  same_reads = same_reads;
  same_images = same_images;
  each_moment = λ h. goes_on honest clock_of failures_of reads images moments counts_now old old new (images old) r h
      (started honest clock_of failures_of reads images moments old (images old) (λ c left. only_now old c (call.was_honest h) left)) call (same_images h).no_more;
}
