-- A listing that begins near the end of a trace.
use Rattle.std.specs.Prelude.{◌≡◌, ◌≤◌, ◌<◌, ◌+◌, ℕ, max, Option, Some, None, IfSome, IsSome, [], true, false}
use Rattle.std.specs.Option.{option_map}
use Rattle.recovery.specs.CallCounts.{most_in}
use Rattle.recovery.specs.Outlined.{Outlines}
use Rattle.recovery.specs.Stores.{readings}
use Rattle.recovery.specs.declared.outlined.Outlined.{Outlined}
use Rattle.trace_store.specs.Disk.{Image}
use Rattle.stores.specs.FolderStore.{honest_of, reads_of, clock_of}
use Rattle.command_line.specs.declared.layout.Layout.{Layout}
use Rattle.command_line.specs.declared.layout.TimeColumn.{TimeColumn}
use Rattle.command_line.specs.declared.layout.TimeColumn.TheVariants as columns
use Rattle.command_line.specs.declared.request.Shown.{Shown}
use Rattle.command_line.specs.declared.request.TraceRequest.{TraceRequest}
use Rattle.command_line.specs.declared.request.TraceRequest.TheVariants as requests
use Rattle.trace_text.specs.Choosing.{Asked, Asks, asks_of}
use Rattle.trace_text.specs.declared.choice.Choice.{Choice}
use Rattle.commands.specs.Files.{OnlyLooks, most_to_tell}
use Rattle.commands.specs.Live.{most_to_read}
use Rattle.commands.specs.declared.files.Files.{Files}
use Rattle.commands.specs.declared.later.NearEnd.{NearEnd}

-- a stored trace is to be listed
abbrev pub IsList : TraceRequest → Type 0
IsList (requests.List asked is_pretty) = Unit {0}
IsList _ = ⊥

-- times aren't those since the first that is listed
abbrev pub IsApart : TimeColumn → Type 0
IsApart columns.SinceFirst = ⊥
IsApart _ = Unit {0}

-- the last rows alone are shown, and their times don't depend on the first that is listed
abbrev pub ShowsLast : Option Layout → Type 0
ShowsLast None = ⊥
ShowsLast (Some layout) = IsSome layout.last × IsApart layout.times

-- no last entry is asked for
abbrev pub EndsAtTheEnd : Option Choice → Type 0
EndsAtTheEnd choice = IfSome choice (λ choice. choice.to ≡ None)

-- what is shown of a trace are its last rows, whatever comes before them
pub record MayBeginLater (request : TraceRequest) (shown : Shown) : Type 0 where
  pub list : IsList request
  pub last : ShowsLast shown.layout
  pub to_end : EndsAtTheEnd shown.choice

-- what is there at first isn't shown
abbrev pub IsFromNow : Option Layout → Type 0
IsFromNow None = ⊥
IsFromNow (Some layout) = layout.is_from_now ≡ true

-- what is shown of a trace that is followed is what comes from now on, up to its end
pub record ShowsNew (shown : Shown) : Type 0 where
  pub new : IsFromNow shown.layout
  pub to_end : EndsAtTheEnd shown.choice

-- no kind, process or function is named
abbrev pub nothing : Asked
nothing = record { kinds = None; pids = []; functions = [] }

-- all is asked for from an entry on
abbrev pub all_from : ℕ → Asks
all_from first = record { from = Some first; to = None; is_whole = false; only = nothing; not = nothing }

-- a choice of the same from an entry on
abbrev pub IsChoiceFrom : ℕ → Option Choice → Choice → Type 0
IsChoiceFrom first None later = asks_of later ≡ all_from first
IsChoiceFrom first (Some choice) later = later ≡ record choice { from = Some first }

-- where a choice begins, where there is one
abbrev pub start_asked : Option Choice → Option (Option ℕ)
start_asked choice = option_map (λ choice. choice.from) choice

-- the same is shown by a choice from an entry on
pub record IsBegunAt (first : ℕ) (shown later : Shown) : Type 0 where
  pub choice : Choice
  pub from : IsChoiceFrom first shown.choice choice
  pub is : later ≡ record shown { choice = Some choice }

-- what a choice was, by where it began, where there was one
abbrev pub as_asked : Option Choice → Option (Option ℕ) → Option Choice
as_asked (Some choice) (Some from) = Some (record choice { from = from })
as_asked (Some choice) None = None
as_asked None start = None

-- no later entry is asked for as the first
abbrev pub IsNotLater : Option Choice → ℕ → Type 0
IsNotLater choice first = IfSome choice (λ choice. IfSome choice.from (λ own. own ≤ first))

-- the files were looked at by so many device calls at most, and are in the same place
pub record LooksUpTo (most : Image → ℕ) (old new : Files) : Type 0 where
  pub place : new.place ≡ old.place
  pub only_reads : OnlyLooks old.store new.store
  pub at_most : honest_of new.store → clock_of new.store ≤ clock_of old.store + most (reads_of old.store)

-- it was seen how many entries there are, and then perhaps those from one of them on were listed
abbrev pub LooksAhead : Files → Files → Type 0
LooksAhead old new = LooksUpTo (λ image. most_in image + (most_to_read image + most_to_tell image)) old new

-- so many entries come from this one on to the end of what the files hold, and some before it
pub record IsBeforeEnd (image : Image) (entries entry : ℕ) : Type 0 where
  pub found : Outlined
  pub outlines : Outlines (readings image) found
  pub count : entry + entries ≡ found.total
  pub behind : found.first < entry

-- an entry, or one that is asked for, whichever comes later
abbrev pub later_one : Option ℕ → ℕ → ℕ
later_one None entry = entry
later_one (Some own) entry = max own entry

-- the same of the first entry of a choice
abbrev pub later_of : Option Choice → ℕ → ℕ
later_of None entry = entry
later_of (Some choice) entry = later_one choice.from entry

-- what is shown of what the files hold begins with an entry of these, or with a later one that is asked for
pub record IsNearEnd (choice : Option Choice) (image : Image) (first : ℕ) : Type 0 where
  pub entries : ℕ
  pub entry : ℕ
  pub before : IsBeforeEnd image entries entry
  pub is : first ≡ later_of choice entry

-- the same is shown from an entry near the end on, which a look ahead found, and which isn't before the first that is asked for
pub record IsShownNearEnd (old new : Files) (first : ℕ) (shown later : Shown) : Type 0 where
  pub ahead : LooksUpTo most_in old new
  pub begun : IsBegunAt first shown later
  pub not_later : IsNotLater shown.choice first
  pub near : honest_of new.store → IsNearEnd shown.choice (reads_of old.store) first

-- that, and where what is asked begins
pub record IsNearEndOf (old new : Files) (shown : Shown) (near : NearEnd) : Type 0 where
  pub shows : IsShownNearEnd old new near.first shown near.later
  pub start : near.start ≡ start_asked shown.choice
