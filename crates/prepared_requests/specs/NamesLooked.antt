-- What is asked of a trace after its registered names were looked up.
use Rattle.std.specs.Prelude.{◌≡◌, ℕ, Bool, false, Option, Some, None, List, map}
use Rattle.stores.specs.Events.{World}
use Rattle.stores.specs.FolderStore.{honest_of, reads_of}
use Rattle.trace_store.specs.Disk.{Image}
use Rattle.entry_codec.specs.Entries.{Entry}
use Rattle.trace_text.specs.Choosing.{asks_of}
use Rattle.trace_text.specs.declared.choice.Choice.{Choice}
use Rattle.trace_reader.specs.Reading.{IsWhyNotRead}
use Rattle.trace_reader.specs.declared.fault.ReadFault.{ReadFault}
use Rattle.command_line.specs.declared.request.Asked.{Asked}
use Rattle.command_line.specs.declared.request.Shown.{Shown}
use Rattle.command_line.specs.declared.request.Request.{Request}
use Rattle.command_line.specs.declared.request.Request.TheVariants as requests
use Rattle.commands.specs.Commands.{IsFree}
use Rattle.commands.specs.Files.{OnlyLooks}
use Rattle.commands.specs.Sites.{IsAtPlace, asked_in}
use Rattle.commands.specs.Viewing.{AreExported}
use Rattle.commands.specs.declared.files.Files.{Files}
use Rattle.prepared_requests.specs.Names.{Holding, choice_meant, has_names, holding_of, holdings_in, names_in}
use Rattle.prepared_requests.specs.declared.names_seen.NamesSeen.{NamesSeen}

-- all entries that an export of a trace has tell so much of the processes that had these names
abbrev pub AreSeenIn : List (List ℕ) → List Holding → Image → Type 0
AreSeenIn names known image = (entries : List Entry) × AreExported None image entries × (known ≡ holdings_in names entries)

-- it isn't read to its end
abbrev pub IsNotRead : Image → Type 0
IsNotRead image = (fault : ReadFault) × IsWhyNotRead fault image

abbrev pub IsSeen : List (List ℕ) → Option NamesSeen → Image → Type 0
IsSeen names None image = IsNotRead image
IsSeen names (Some seen) image = AreSeenIn names (map holding_of seen.holders.items) image

-- the files that are asked for were only looked at, and where they follow the disk model, this is told of what they hold
pub record WereLookedAt (world : World) (asked : Asked) (Told : Image → Type 0) : Type 0 where
  pub old : Files
  pub new : Files
  pub free : IsFree world old
  pub place : IsAtPlace asked old
  pub only_reads : OnlyLooks old.store new.store
  pub told : honest_of new.store → Told (reads_of old.store)

-- each name in a choice stands for the processes that had it, where the trace is read
pub data AreLookedUp (world : World) (asked : Asked) (old : Choice) : Choice → Type 0 where
  not_read : WereLookedAt world asked IsNotRead → AreLookedUp world asked old old
  looked_up : (new : Choice) (known : List Holding) → WereLookedAt world asked (AreSeenIn (names_in (asks_of old)) known) → asks_of new ≡ choice_meant known (asks_of old) → AreLookedUp world asked old new

-- a choice has names
abbrev pub are_names_asked : Option Choice → Bool
are_names_asked None = false
are_names_asked (Some choice) = has_names (asks_of choice)

-- those that a request makes, where it has a trace
abbrev pub choice_in : Request → Option Choice
choice_in (requests.Follow asked is_pretty shown) = shown.choice
choice_in (requests.OfTrace request shown) = shown.choice
choice_in (requests.Listing request shown) = shown.choice
choice_in request = None

-- they are looked up where there are some
pub data IsNamed (world : World) (asked : Asked) : Option Choice → Option Choice → Type 0 where
  unnamed : (choice : Option Choice) → are_names_asked choice ≡ false → IsNamed world asked choice choice
  named : (old new : Choice) → AreLookedUp world asked old new → IsNamed world asked (Some old) (Some new)

-- nothing else of what is shown changes
pub record IsShownNamed (world : World) (asked : Asked) (old new : Shown) : Type 0 where
  pub choice : IsNamed world asked old.choice new.choice
  pub is : new ≡ record old { choice = new.choice }

-- nor of a request
abbrev pub IsPrepared : World → Request → Request → Type 0
IsPrepared world (requests.Follow asked is_pretty shown) new = (later : Shown) × IsShownNamed world asked shown later × (new ≡ requests.Follow asked is_pretty later)
IsPrepared world (requests.OfTrace request shown) new = (later : Shown) × IsShownNamed world (asked_in request) shown later × (new ≡ requests.OfTrace request later)
IsPrepared world (requests.Listing request shown) new = (later : Shown) × IsShownNamed world (asked_in request) shown later × (new ≡ requests.Listing request later)
IsPrepared world request new = new ≡ request
