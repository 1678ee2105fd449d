-- A trace that is followed, look by look.
use Rattle.std.specs.Prelude.{◌≡◌, ℕ, ◌+◌, ◌≤◌, Bool, Option, None, Some, List, [], ◌∷◌, Result, Ok, Err, IfSome}
use Rattle.std.proofs.Common.{◌∙◌, ap, arith, subst}
use Rattle.std.proofs.lemmas.List.Elements.{All-tail}
use Rattle.std.specs.Io.KnownBytes.{Keeps}
use Rattle.trace_store.specs.Disk.{Image}
use Rattle.stores.specs.CallRecords.{bytes_of}
use Rattle.stores.specs.Events.{AreHonest, Calls, Past, IsHonest, files_after, made_anew}
use Rattle.stores.specs.FolderStore.{past_of, honest_of}
use Rattle.stores.specs.declared.folder_store.FolderStore.{FolderStore}
use Rattle.trace_text.specs.declared.style.Style.{Style}
use Rattle.trace_client.specs.SoFar.{Point, point_at}
use Rattle.trace_reader.specs.Reading.{IsOfLook}
use Rattle.trace_reader.specs.declared.fault.ReadFault.{ReadFault}
use Rattle.trace_reader.specs.declared.fault.ReadFault.TheVariants as faults
use Rattle.trace_listings.specs.Looks.{HasLooked, IsWhyGone, IsWhyNotLooked}
use Rattle.trace_listings.specs.Lists.{point_in}
use Rattle.trace_listings.specs.Sections.{HasTold, IsLookStopped, HasEnded, HasPartlyEnded}
use Rattle.trace_listings.specs.Writing.{IsOfWriter as IsWriters}
use Rattle.trace_listings.specs.declared.follower.Follower.{Follower}
use Rattle.trace_listings.specs.declared.place.Look.{Look}
use Rattle.trace_listings.specs.declared.place.Look.TheVariants as looks
use Rattle.faults.specs.Faults.{read_fault}
use Rattle.command_line.specs.declared.request.Shown.{Shown}
use Rattle.commands.specs.Commands.{IsStyleOf}
use Rattle.commands.specs.Naming.{IsToldAt}
use Rattle.commands.specs.Telling.{IsOfWriter}
use Rattle.trace_lookup.specs.declared.place.Place.{Place}
use Rattle.commands.specs.Files.{OnlyLooks, LooksBehind}
use Rattle.commands.specs.Live.{MayHaveChanged}
use Rattle.faults.specs.declared.complaint.Complaint.{Complaint}
use Rattle.commands.specs.declared.files.Files.{Files}
use Rattle.commands.specs.declared.following.Seen.{Seen}
use Rattle.commands.specs.declared.following.Seen.TheVariants as seen

abbrev pub style_in : Follower → Style
style_in follower = follower.lister.writer.apart.style

abbrev pub number_in : Follower → ℕ
number_in follower = follower.lister.number

-- where it is: the number of the next entry, and those that it holds
abbrev pub where_in : Follower → Point
where_in follower = point_in follower.lister

-- how the end of a listing is told: as done where it is; else by a fault of the files at this place, or that it couldn't be written out
abbrev pub IsToldSo : Place → FolderStore → Result Unit ReadFault → Result Unit Complaint → Type 0
IsToldSo place store done (Ok out) = done ≡ Ok tt
IsToldSo place store (Ok done) (Err complaint) = IsOfWriter complaint
IsToldSo place store (Err fault) (Err complaint) = IsToldAt place store (read_fault fault) complaint

-- a follower that has told nothing yet
pub record IsNew (style : Style) (follower : Follower) : Type 0 where
  pub same_style : style_in follower ≡ style
  pub at_first : where_in follower ≡ point_at 0
  pub place : follower.place ≡ None

-- the store was made anew over the files as they are now, and then they were only looked at
pub record LooksAnew (old new : FolderStore) : Type 0 where
  pub start : FolderStore
  pub anew : past_of start ≡ made_anew (past_of old)
  pub only_looks : OnlyLooks start new

-- the past of files with these names until a store over them was last made anew
abbrev pub before_in : List (List ℕ) → ℕ → List Calls → Option Past
before_in names count [] = None
before_in names count (calls ∷ earlier) = Some (record { world = calls.world; names = names; count = count; events = calls.events; earlier = earlier })

-- the past of a store until it was last made anew
abbrev pub past_before : Past → Option Past
past_before p = before_in p.names p.count p.earlier

-- after such a look a store tells all of its past before it
pub tells_before : (old new : FolderStore) → LooksAnew old new → past_before (past_of new) ≡ Some (past_of old)
tells_before old new look = ap (λ m. past_before m.0) look.only_looks.same_made ∙ ap past_before look.anew

-- and it follows the disk model only where it did so then
pub was_honest : (old new : FolderStore) → LooksAnew old new → honest_of new → honest_of old
was_honest old new look h =
    let p = past_of old in
    let before : Calls = record { world = p.world; events = p.events } in
    let each = (subst IsHonest look.anew (look.only_looks.was_honest h)).1 in
    (each 0 before (omega arith), All-tail (λ c. AreHonest c.world p.count c.events) before p.earlier each)

-- what a store that is made anew finds
abbrev pub found_anew : FolderStore → Image
found_anew store = bytes_of (files_after (made_anew (past_of store)))

-- one look at the files as they are now: what it told is what was added since the last, as far as they are honest
pub record IsLook (files looked : FolderStore) (old new : Follower) (was now : Option (List ℕ)) (look : Look) : Type 0 where
  pub anew : LooksAnew files looked
  pub found : honest_of looked
      → HasLooked (style_in old) (found_anew files) (where_in old) (where_in new) was now new.place old.place look
  pub told : HasTold (style_in old) (where_in old) (where_in new) was now
  pub same_style : style_in new ≡ style_in old

-- why a look failed, as far as the files are honest; one that was to go on where the last one ended found its trace
abbrev pub IsWhyLookFailed : FolderStore → FolderStore → Follower → Follower → Option (List ℕ) → ReadFault → Type 0
IsWhyLookFailed files looked old new was fault = IfSome old.place (λ _. IsOfLook fault → ⊥) × (honest_of looked → IsWhyNotLooked (style_in old) (found_anew files) (where_in old) (number_in new) was old.place fault)

-- a look that was refused by a fault that may come of files that changed: it told nothing, and the next goes on where it began
pub record IsMadeAgain (files looked : FolderStore) (old new : Follower) (was now : Option (List ℕ)) : Type 0 where
  pub anew : LooksAnew files looked
  pub fault : ReadFault
  pub changed : MayHaveChanged fault
  pub why_not : IsWhyLookFailed files looked old new was fault
  pub number : number_in new ≡ number_in old
  pub place : new.place ≡ old.place
  pub same_style : style_in new ≡ style_in old
  pub told : HasTold (style_in old) (where_in old) (where_in new) was now

-- what came of one look
abbrev pub IsSeen : FolderStore → FolderStore → Follower → Follower → Option (List ℕ) → Option (List ℕ) → Seen → Type 0
IsSeen files looked old new was now seen.Waits = IsLook files looked old new was now looks.Waits
IsSeen files looked old new was now seen.Sealed = IsLook files looked old new was now looks.Sealed
IsSeen files looked old new was now seen.Changed = IsMadeAgain files looked old new was now

-- it didn't come to the seal
abbrev pub GoesOn : Seen → Type 0
GoesOn seen.Sealed = ⊥
GoesOn came = Unit {0}

-- what looks go on from: the store as the last one left it, what was told, and what the writer holds
pub record Stand : Type 0 where
  pub files : FolderStore
  pub follower : Follower
  pub holds : Option (List ℕ)

-- a look from one such stand to another, where this is what came of it
abbrev pub Sees : Stand → Stand → Seen → Type 0
Sees old new came = IsSeen old.files new.files old.follower new.follower old.holds new.holds came

-- how many looks in a row were refused, after one more
abbrev pub refusals_after : Seen → ℕ → ℕ
refusals_after seen.Changed n = n + 1
refusals_after came n = 0

-- looks one after the other that didn't come to the seal, what each told written out before the next; of those in a row
-- at the end so many were refused, and never more than 31
pub data Looks (first : Stand) : ℕ → Stand → Type 0 where
  none : Looks first 0 first
  more : (n : ℕ) (mid last : Stand) (came : Seen) (now : Option (List ℕ)) → Looks first n mid → Sees mid last came → GoesOn came
      → refusals_after came n ≤ 31 → Keeps last.holds now → Looks first (refusals_after came n) (record last { holds = now })

-- each look was by a store that was made anew
looked_anew : (old new : Stand) (came : Seen) → Sees old new came → LooksAnew old.files new.files
looked_anew old new seen.Waits look = look.anew
looked_anew old new seen.Sealed look = look.anew
looked_anew old new seen.Changed look = look.anew

-- where the last store follows the disk model, so did that of each look: what is said of honest files is said of each
pub were_honest : (first : Stand) (n : ℕ) (last : Stand) → Looks first n last → honest_of last.files → honest_of first.files
were_honest first n last none h = h
were_honest first n last (more before mid end came now earlier sees goes few keeps) h =
    were_honest first before mid earlier (was_honest mid.files end.files (looked_anew mid end came sees) h)

-- where a fault says that there is no trace, the last look found none, or none of which so much was told
abbrev pub IsGone : Stand → FolderStore → ReadFault → Type 0
IsGone mid files fault = honest_of files → IsWhyGone (found_anew mid.files) (number_in mid.follower) fault

-- how it ended: the last look came to the seal, and the last line was written; or a look failed, or what was told
-- couldn't be written out
pub data Ends (mid : Stand) (files : FolderStore) (now : Option (List ℕ)) : Result Unit ReadFault → Type 0 where
  sealed : (follower : Follower) (told : Option (List ℕ)) → IsLook mid.files files mid.follower follower mid.holds told looks.Sealed
      → HasEnded (style_in follower) (where_in follower) told now → Ends mid files now (Ok tt)
  no_end : (follower : Follower) (told : Option (List ℕ)) (fault : ReadFault) → IsWriters fault
      → IsLook mid.files files mid.follower follower mid.holds told looks.Sealed → HasPartlyEnded (style_in follower) (where_in follower) told now → Ends mid files now (Err fault)
  not_written_out : mid.files ≡ files → mid.holds ≡ now → Ends mid files now (Err faults.Write)
  failed : (follower : Follower) (fault : ReadFault) → LooksAnew mid.files files → IsGone mid files fault → IsWhyLookFailed mid.files files mid.follower follower mid.holds fault
      → IsLookStopped (style_in mid.follower) (where_in mid.follower) (where_in follower) mid.holds now fault → Ends mid files now (Err fault)

-- looks from a stand on, and how they ended
pub record HasFollowed (first : Stand) (files : FolderStore) (now : Option (List ℕ)) (result : Result Unit ReadFault) : Type 0 where
  pub last : Stand
  pub refusals : ℕ
  pub looks : Looks first refusals last
  pub ends : Ends last files now result

-- after the last look nothing was asked of the device, or where a fault ended it no more than to tell of that
abbrev pub LooksAfter : Result Unit ReadFault → FolderStore → FolderStore → Type 0
LooksAfter (Ok out) left new = new ≡ left
LooksAfter (Err fault) left new = LooksBehind (read_fault fault) left new

-- a trace was followed from its first entry on, and what was told is written out
pub record FollowsTrace (place : Place) (style : Style) (old new : FolderStore) (was now : Option (List ℕ)) (result : Result Unit Complaint) : Type 0 where
  pub first : Follower
  pub is_new : IsNew style first
  pub done : Result Unit ReadFault
  pub mid : Option (List ℕ)
  pub left : FolderStore
  pub followed : HasFollowed (record { files = old; follower = first; holds = was }) left mid done
  pub out : Keeps mid now
  pub told : IsToldSo place new done result
  pub behind : LooksAfter done left new

-- the trace of these files was followed, in the style that was asked for
abbrev pub Follows : Bool → Shown → Files → Files → Option (List ℕ) → Option (List ℕ) → Result Unit Complaint → Type 0
Follows is_pretty shown old new was now result = (style : Style) × IsStyleOf is_pretty shown style × FollowsTrace old.place style old.store new.store was now result
