-- A trace that is handed to a writer of lines.
use Rattle.std.proofs.Common.{◌≡◌, ◌≤◌, ◌<◌, ◌^◌, ℕ, Option, List, [], length, refl, sym, inl, inr, subst}
use Rattle.std.specs.Prelude.{Result, Ok, Err, OnOk, IfErr}
use Rattle.std.specs.Io.KnownBytes.{Appends}
use Rattle.std.proofs.lemmas.Result.{IfErr-weaker}
use Rattle.trace_store.specs.Disk.{Image}
use Rattle.stores.specs.FolderStore.{failures_of}
use Rattle.stores.specs.declared.folder_store.FolderStore.{FolderStore}
use Rattle.foreign_files.specs.Standing.{IsStanding}
use Rattle.foreign_files.specs.declared.standing.Standing.TheVariants as standings
use Rattle.trace_items.specs.declared.consumer.Consumer.{Ghosts}
use Rattle.trace_client.specs.Forms.{Form}
use Rattle.trace_client.specs.SoFar.{Point, point_at}
use Rattle.trace_reader.specs.Listings.{TellsFailures}
use Rattle.trace_reader.specs.Reading.{IsWhyNotRead}
use Rattle.trace_reader.specs.declared.fault.ReadFault.{ReadFault}
use Rattle.trace_listings.specs.Lines.{AreKept, by_lines}
use Rattle.trace_listings.specs.Windows.{IsWrittenInTurn}
use Rattle.trace_listings.specs.Writing.{IsFinished}
use Rattle.trace_listings.proofs.Bridge.{store_by, store_kept}
use Rattle.trace_listings.proofs.BridgeTrace.{cut_short_kept, is_ours, opened_cut_kept, opened_left, trace_left, trace_why, why_writer}
use Rattle.trace_listings.proofs.Finished.{finished_err, finished_on, finished_told}
use Rattle.commands.specs.Live.{FailsSo, HandsTrace, OpensInTurn, ReadsLive, WritesLive}

-- an answer stands for a reading that was written out
wrote : (form : Form) (image : Image) (old new : Option (List ℕ)) (count : ℕ) (result : Result Unit ReadFault) → OnOk result ⊥ → IfErr result (λ fault. IsWhyNotRead fault image) → IfErr result (λ fault. IsWrittenInTurn form fault image old new count) → WritesLive form image old new count result
wrote form image old new count (Ok done) ill why left = absurd ill
wrote form image old new count (Err fault) ill why left = (why, left)

module _ {C : Type 0} (lent : C → ℕ × ℕ) (form : C → Form) (at : C → Point) (contents : C → Option (List ℕ)) (entries : C → ℕ) where
  abbrev lines : Ghosts C
  lines = by_lines lent form at contents entries

  -- what was lent stays so
  pub live_kept : (image : Image) (answer : Result Unit ReadFault) (a b : C) → HandsTrace lines image a b answer → AreKept (lent a) (lent b)
  live_kept image (Ok done) a b h = store_kept lent form at contents entries image a b h.1
  live_kept image (Err fault) a b h = elim h.1 [
    | inl cut ↦ cut_short_kept lent form at contents entries fault image a b cut
    | inr opened ↦ opened_cut_kept lent form at contents entries opened.0 fault image a b opened.3
  ]

  -- what is written of it, once the fragments that waited were
  pub live_wrote : (image : Image) (a b : C) (d : Option (List ℕ)) → at a ≡ point_at 0 → entries a ≡ 0 → (at b).number < 2 ^ 64 → (answer now : Result Unit ReadFault) → HandsTrace lines image a b answer → OnOk answer ((now ≡ answer) × (d ≡ contents b))
      → IfErr answer (λ fault. IsFinished (form b) (at b) (contents b) d (Err fault) now) → ((at b).held ≡ [] → (now ≡ answer) × (d ≡ contents b)) → WritesLive (form a) image (contents a) d (entries b) now
  live_wrote image a b d start none fits (Ok done) now h same finished nothing =
      rw same.0 (h.0, (let w = store_by lent form at contents entries 0 image a b start h.1 in (w.0, w.1, subst (λ (o : Option (List ℕ)). Appends (contents a) o w.0) (sym same.1) w.2)))
  live_wrote image a b d start none fits (Err fault) now h same finished nothing = elim h.1 [
    | inl cut ↦
        wrote (form a) image (contents a) d (entries b) now (finished_on (form b) (at b) (contents b) d ⊥ (Err fault) now tt finished)
        (trace_why lent form at contents entries image a b d start none fits fault now cut h.0 finished nothing)
        (IfErr-weaker now _ _ (λ f w. inl w) (trace_left lent form at contents entries image a b d start none fits fault now cut finished nothing))
    | inr opened ↦
        wrote (form a) image (contents a) d (entries b) now (finished_on (form b) (at b) (contents b) d ⊥ (Err fault) now tt finished)
        (finished_err (form b) (at b) (contents b) d (λ f. IsWhyNotRead f image) (why_writer lent form at contents entries image a b d start none fits (is_ours opened.0 image opened.2)) (Err fault) now h.0 finished)
        (opened_left lent form at contents entries image a b d start none fits opened.0 fault now opened.1 opened.2 opened.3 finished nothing)
  ]

-- the device was asked no more then
module _ (form : Form) (at : Point) (b d : Option (List ℕ)) (R : Type 0) (answer now : Result Unit ReadFault) (same : OnOk answer ((now ≡ answer) × R)) (finished : IfErr answer (λ fault. IsFinished form at b d (Err fault) now)) where
  fails_behind : (old new : FolderStore) → FailsSo old new answer → FailsSo old new now
  fails_behind old new was = go answer same finished was
    where
      err : (r : Result Unit ReadFault) → OnOk r ⊥ → IfErr r (TellsFailures (failures_of old) (failures_of new)) → FailsSo old new r
      err (Ok done) ill told = absurd ill
      err (Err fault) ill told = told

      go : (r : Result Unit ReadFault) → OnOk r ((now ≡ r) × R) → IfErr r (λ fault. IsFinished form at b d (Err fault) now) → FailsSo old new r → FailsSo old new now
      go (Ok done) s f w = rw s.0 w
      go (Err fault) s f w = err now (finished_on form at b d ⊥ (Err fault) now tt f) (finished_told form at b d (failures_of old) (failures_of new) (Err fault) now tt w f)

  pub reads_behind : (old new : FolderStore) → ReadsLive old new answer → ReadsLive old new now
  reads_behind old new was = record {
    only_reads = was.only_reads;
    at_most = was.at_most;
    in_turn = record { count = was.in_turn.count; few = was.in_turn.few; mid = was.in_turn.mid; openings = was.in_turn.openings; last = fails_behind was.in_turn.mid new was.in_turn.last };
    once = λ one. fails_behind old new (was.once one);
  }
