-- What is done with a trace or a stream for the words of a command line, and how it is shown.
use Rattle.std.specs.Prelude.{◌≡◌, ◌⊎◌, ℕ, Bool, true, false, Option, Some, None, List, [], Result, Ok, Err, IfSome}
use Rattle.std.specs.Io.KnownBytes.{Appends, Keeps}
use Rattle.stores.specs.Events.{World}
use Rattle.stores.specs.FolderStore.{locked_of, IsSame, IsClosedAnew}
use Rattle.command_line.specs.declared.request.Asked.{Asked}
use Rattle.command_line.specs.declared.request.Shown.{Shown}
use Rattle.command_line.specs.declared.request.TraceRequest.{TraceRequest}
use Rattle.command_line.specs.declared.request.TraceRequest.TheVariants as asks
use Rattle.trace_reader.specs.Observing.{Observations}
use Rattle.trace_client.specs.declared.stream.StreamStyle.{StreamStyle}
use Rattle.commands.specs.Commands.{Serves, Changes, IsUntouched, IsStyleOf, EndsStream}
use Rattle.faults.specs.Complaints.{status_told}
use Rattle.commands.specs.Following.{Follows}
use Rattle.import.specs.Incoming.{Outside, outside}
use Rattle.commands.specs.Sites.{asked_in, IsAtPlace, AgreesOn, NamesTrace}
use Rattle.faults.specs.declared.complaint.Complaint.{Complaint}
use Rattle.commands.specs.declared.files.Files.{Files}
use Rattle.shown_listings.specs.Listings.{Listing, Shows, ShowsFrom}
use Rattle.commands.specs.Later.{MayBeginLater, ShowsNew, LooksAhead, IsShownNearEnd}
use Rattle.trace_client.specs.Streams.{IsListed}
use Rattle.commands.specs.declared.serving.Task.{Task}
use Rattle.commands.specs.declared.serving.Task.TheVariants as tasks
use Rattle.commands.specs.declared.serving.Served.{Served}

-- what is asked is done with the files of a trace, by what is seen of the stream that comes in, as a listing that leaves them so when that was observed
abbrev pub ServesTrace : TraceRequest → Shown → Files → Outside → Files → Observations → Listing
ServesTrace request shown old saw new observed result was now = Serves request shown old new saw observed was now result

-- how a trace is followed, as a listing
abbrev pub KeepsOn : Bool → Shown → Files → Files → Listing
KeepsOn is_pretty shown old new result was now = Follows is_pretty shown old new was now result

-- what is done with the files of a trace, as a listing
abbrev pub Does : Task → Shown → Files → Outside → Files → Observations → Listing
Does (tasks.Asked request) shown files saw left observed = ServesTrace request shown files saw left observed
Does (tasks.Followed is_pretty) shown files saw left observed = KeepsOn is_pretty shown files left

-- the files that are made for what is asked, of which nothing was read yet; they are locked exactly where they are to be changed, and
-- a count that is asked for is their own where they aren't to be written
pub record AreMade (world : World) (request : TraceRequest) (files : Files) : Type 0 where
  pub past : IsUntouched world files
  pub locked : Changes request → locked_of files.store ≡ true
  pub free : (Changes request → ⊥) → locked_of files.store ≡ false
  pub place : IsAtPlace (asked_in request) files
  pub agrees : NamesTrace request → AgreesOn (asked_in request) files.found

-- files were made for what is asked, it was done with them, and they are left; or none could be had, and nothing is written
pub data ServesFiles (world : World) (request : TraceRequest) (shown : Shown) (had was now : Option (List ℕ)) : Result Unit Complaint → Option Served → Type 0 where
  served : {result : Result Unit Complaint} (files : Files) (left : Served) → AreMade world request files → ServesTrace request shown files (outside had 0 []) left.files left.observed.notes result was now
      → ServesFiles world request shown had was now result (Some left)
  no_files : (complaint : Complaint) → status_told complaint ≡ 1 → Keeps was now → ServesFiles world request shown had was now (Err complaint) None

-- What is done with the files of a trace is shown so, where last rows alone are to be shown perhaps after a look ahead; or these
-- were shown by a listing that begins with a later entry.
pub data ShowsTrace (request : TraceRequest) (shown : Shown) (had : Option (List ℕ)) (files : Files) (left : Served) (result : Result Unit Complaint) (was now : Option (List ℕ)) : Type 0 where
  shown_all : (mid : Files) → (mid ≡ files) ⊎ (MayBeginLater request shown × LooksAhead files mid) → Shows shown (ServesTrace request shown mid (outside had 0 []) left.files left.observed.notes) result was now
      → ShowsTrace request shown had files left result was now
  shown_from : (mid : Files) (first : ℕ) (later : Shown) → MayBeginLater request shown → IsShownNearEnd files mid first shown later
      → ShowsFrom first shown.layout (ServesTrace request later mid (outside (Some []) 0 []) left.files left.observed.notes) (Some result) was now → ShowsTrace request shown had files left result was now

-- files were made for what is asked, and what is done with them is shown so, and they are left; or none could be had, and nothing is written
pub data ListsFiles (world : World) (request : TraceRequest) (shown : Shown) (had was now : Option (List ℕ)) : Result Unit Complaint → Option Served → Type 0 where
  listed : {result : Result Unit Complaint} (files : Files) (left : Served) → AreMade world request files → ShowsTrace request shown had files left result was now → ListsFiles world request shown had was now result (Some left)
  not_listed : (complaint : Complaint) → status_told complaint ≡ 1 → Keeps was now → ListsFiles world request shown had was now (Err complaint) None

-- a listing showed the last rows, which came of an entry and what is behind it, and the files were opened anew
pub record HasLast (request : TraceRequest) (shown : Shown) (first : ℕ) (old new : Files) : Type 0 where
  pub left : Served
  pub rows : Option (List ℕ)
  pub shows : ShowsFrom first shown.layout (ServesTrace request shown old (outside (Some []) 0 []) left.files left.observed.notes) (Some (Ok tt)) (Some []) rows
  pub place : new.place ≡ left.files.place
  pub same : IsSame left.files.store new.store
  pub closed : IsClosedAnew left.files.store new.store

-- What is shown of a trace that is followed: what is asked, perhaps after a look ahead; or the same from an entry near the end on, where
-- that is what comes from now on, or the last rows, and these came from there on.
pub data IsShownOf (request : TraceRequest) (old new : Files) (shown : Shown) : Shown → Type 0 where
  as_asked : (old ≡ new) ⊎ ((MayBeginLater request shown ⊎ ShowsNew shown) × LooksAhead old new) → IsShownOf request old new shown shown
  from_now : (first : ℕ) (later : Shown) → ShowsNew shown → IsShownNearEnd old new first shown later → IsShownOf request old new shown later
  last_rows : (mid : Files) (first : ℕ) (later : Shown) → MayBeginLater request shown → IsShownNearEnd old mid first shown later → HasLast request later first mid new → IsShownOf request old new shown later

-- files were made for what is asked, and they were followed and shown so, perhaps from an entry near the end on, and are left; or none
-- could be had, and nothing is written
pub data FollowsFiles (world : World) (asked : Asked) (is_pretty : Bool) (shown : Shown) (was now : Option (List ℕ)) : Result Unit Complaint → Option Served → Type 0 where
  followed : {result : Result Unit Complaint} (files mid : Files) (later : Shown) (left : Served) → AreMade world (asks.List asked is_pretty) files → IsShownOf (asks.List asked is_pretty) files mid shown later
      → Shows later (KeepsOn is_pretty later mid left.files) result was now → FollowsFiles world asked is_pretty shown was now result (Some left)
  not_followed : (complaint : Complaint) → status_told complaint ≡ 1 → Keeps was now → FollowsFiles world asked is_pretty shown was now (Err complaint) None

-- a stream that had these bytes is listed in a style, to its end or until a fault
abbrev pub ListsIn : StreamStyle → Option (List ℕ) → Listing
ListsIn style had (Ok done) was now = IfSome had (λ bytes. (text : List ℕ) × IsListed style bytes (Ok tt) text × Appends was now text)
ListsIn style had (Err complaint) was now = EndsStream style had was now complaint

-- in the style that is asked for, with messages of up to so many bytes
abbrev pub ListsStream : Bool → ℕ → Shown → Option (List ℕ) → Listing
ListsStream is_pretty longest shown had result was now =
    (style : StreamStyle) × IsStyleOf is_pretty shown style.lines × (style.longest ≡ longest) × ListsIn style had result was now
