-- Looks at a trace that is followed.
use Rattle.std.proofs.Common.{◌≡◌, ℕ, Ok, Err, Option, List, refl, sym, subst, ap, ◌∙◌}
use Rattle.std.specs.Prelude.{Result, OnOk, OnErr, IfOk, IfErr, IfSome}
use Rattle.stores.specs.FolderStore.{past_of, honest_of, reads_of}
use Rattle.stores.specs.declared.folder_store.FolderStore.{FolderStore}
use Rattle.trace_reader.specs.Reading.{IsOfLook}
use Rattle.trace_reader.specs.declared.fault.ReadFault.{ReadFault}
use Rattle.trace_reader.specs.declared.fault.ReadFault.TheVariants as faults
use Rattle.trace_listings.specs.Looks.{HasLooked, IsWhyGone, IsWhyNotLooked}
use Rattle.trace_listings.specs.Sections.{HasTold, IsLookStopped, HasEnded, HasPartlyEnded}
use Rattle.trace_listings.specs.declared.follower.Follower.{Follower}
use Rattle.trace_listings.specs.Writing.{IsOfWriter as IsWriters}
use Rattle.trace_listings.specs.declared.place.Look.{Look}
use Rattle.trace_listings.specs.declared.place.Look.TheVariants as looks
use Rattle.faults.specs.declared.complaint.Complaint.{Complaint}
use Rattle.trace_lookup.specs.declared.place.Place.{Place}
use Rattle.commands.specs.Files.{OnlyLooks}
use Rattle.commands.specs.Telling.{IsOfWriter}
use Rattle.stores.specs.CallRecords.{bytes_of}
use Rattle.stores.specs.Events.{files_after, made_anew}
use Rattle.commands.specs.Following.{style_in, number_in, where_in, found_anew, Stand, LooksAnew, IsLook, Looks, IsGone, IsWhyLookFailed, Ends, sealed, no_end, not_written_out, failed, HasFollowed, IsToldSo}

-- a look by a store that was made anew
pub look_is : (files start after : FolderStore) (old new : Follower) (was now : Option (List ℕ)) (result : Result Look ReadFault)
    → past_of start ≡ made_anew (past_of files) → OnlyLooks start after
    → (honest_of after → IfOk result (HasLooked (style_in old) (reads_of start) (where_in old) (where_in new) was now new.place old.place))
    → OnOk result (HasTold (style_in old) (where_in old) (where_in new) was now) → style_in new ≡ style_in old
    → IfOk result (IsLook files after old new was now)
look_is files start after old new was now (Ok look) anew only looked told style = record {
  anew = record { start = start; anew = anew; only_looks = only };
  found = λ h. subst (λ p. HasLooked (style_in old) (bytes_of (files_after p)) (where_in old) (where_in new) was now new.place old.place look) anew (looked h);
  told = told;
  same_style = style;
}
look_is files start after old new was now (Err fault) anew only looked told style = tt

-- a look that says that there is no trace finds none, or none of which so much was told
pub gone_is : (files start after : FolderStore) (number : ℕ) (result : Result Look ReadFault) → past_of start ≡ made_anew (past_of files) → (honest_of after → IfErr result (IsWhyGone (reads_of start) number)) → honest_of after → IfErr result (IsWhyGone (found_anew files) number)
gone_is files start after number (Ok look) anew gone h = tt
gone_is files start after number (Err fault) anew gone h = subst (λ p. IsWhyGone (bytes_of (files_after p)) number fault) anew (gone h)

-- a look failed for what stands in the files
pub stopped_is : (files start after : FolderStore) (old new : Follower) (was : Option (List ℕ)) (result : Result Look ReadFault) → past_of start ≡ made_anew (past_of files) → IfSome old.place (λ _. IfErr result (λ fault. IsOfLook fault → ⊥)) → (honest_of after → IfErr result (IsWhyNotLooked (style_in old) (reads_of start) (where_in old) (number_in new) was old.place))
    → IfErr result (IsWhyLookFailed files after old new was)
stopped_is files start after old new was (Ok look) anew there why = tt
stopped_is files start after old new was (Err fault) anew there why = (there, λ h. subst (λ p. IsWhyNotLooked (style_in old) (bytes_of (files_after p)) (where_in old) (number_in new) was old.place fault) anew (why h))

-- the last look came to the seal
pub sealed_so : (n : ℕ) (first last : Stand) (files : FolderStore) (after : Follower) (told now : Option (List ℕ)) (result : Result Unit ReadFault) → Looks first n last
    → IsLook last.files files last.follower after last.holds told looks.Sealed → OnOk result (HasEnded (style_in after) (where_in after) told now) → OnErr result (HasPartlyEnded (style_in after) (where_in after) told now) → IfErr result IsWriters
    → HasFollowed first files now result
sealed_so n first last files after told now (Ok done) so_far look ok err writer = record { last = last; refusals = n; looks = so_far; ends = sealed after told look ok }
sealed_so n first last files after told now (Err fault) so_far look ok err writer = record { last = last; refusals = n; looks = so_far; ends = no_end after told fault writer look err }

-- the last look failed
pub failed_so : (n : ℕ) (first last : Stand) (files : FolderStore) (after : Follower) (now : Option (List ℕ)) (fault given : ReadFault) (result : Result Unit ReadFault) → Looks first n last
    → LooksAnew last.files files → IsGone last files fault → IsWhyLookFailed last.files files last.follower after last.holds fault → IsLookStopped (style_in last.follower) (where_in last.follower) (where_in after) last.holds now fault
    → result ≡ Err given → given ≡ fault → HasFollowed first files now result
failed_so n first last files after now fault given result so_far anew gone why stopped is same =
    record { last = last; refusals = n; looks = so_far; ends = subst (Ends last files now) (sym (is ∙ ap Err same)) (failed after fault anew gone why stopped) }

-- what the last look told couldn't be written out
pub untold_so : (n : ℕ) (first last : Stand) (given : ReadFault) (result : Result Unit ReadFault) → Looks first n last
    → result ≡ Err given → given ≡ faults.Write → HasFollowed first last.files last.holds result
untold_so n first last given result so_far is write =
    record { last = last; refusals = n; looks = so_far; ends = subst (Ends last last.files last.holds) (sym (is ∙ ap Err write)) (not_written_out refl refl) }

-- what ended well is told so, or that it couldn't be written out
pub told_well : (place : Place) (store : FolderStore) (result : Result Unit Complaint) → IfErr result IsOfWriter → IsToldSo place store (Ok tt) result
told_well place store (Ok out) unwritten = refl
told_well place store (Err complaint) unwritten = unwritten
