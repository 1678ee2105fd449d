-- Where a trace is stored, by what is asked and what is found.
use Rattle.std.specs.Prelude.{◌≡◌, ◌≢◌, ◌+◌, ◌<◌, ℕ, min, Option, Some, None, List, [], unwrap_or, slice_get}
use Rattle.std.specs.Option.{option_or, option_copied}
use Rattle.command_line.specs.declared.request.Asked.{Asked}
use Rattle.command_line.specs.declared.request.Shape.{Shape}
use Rattle.command_line.specs.declared.request.Shape.TheVariants as shapes
use Rattle.segment.specs.Specification.{count_of}
use Rattle.segment.specs.Seen.{spec_seen}
use Rattle.segment.specs.declared.header.SegHeader.{SegHeader}
use Rattle.segment.specs.declared.specification.StoreSpec.TheVariants as stored
use Rattle.recovery.specs.Stores.{file_for}
use Rattle.trace_lookup.specs.Places.{file_count, name_of}
use Rattle.trace_lookup.specs.declared.lookup.Found.{Found}
use Rattle.trace_lookup.specs.declared.lookup.Found.TheVariants as found
use Rattle.trace_lookup.specs.declared.place.Kind.{Kind}
use Rattle.trace_lookup.specs.declared.place.Kind.TheVariants as kinds
use Rattle.trace_lookup.specs.declared.place.Place.{Place}
use Rattle.trace_lookup.specs.declared.place.TheConstants.{MOST_RUNS, STANDARD_RUNS}

-- the runs that a wrap keeps, where a file of it says so
abbrev pub count_in : Found → Option ℕ
count_in (found.Wrap (Some header)) = count_of (spec_seen header.spec)
count_in _ = None

-- the runs that a wrap keeps, by what a file of it says, else by what is asked
abbrev pub runs_by : Option ℕ → Option ℕ → ℕ
runs_by told asked = min (unwrap_or (option_or told asked) STANDARD_RUNS) MOST_RUNS

-- the kind of a trace of which nothing is found
abbrev pub kind_by : Option Shape → Option ℕ → Kind
kind_by (Some shapes.Wrap) asked = kinds.Wrap (runs_by None asked)
kind_by _ asked = kinds.File

-- what is found says whether a trace is one file or a wrap; where nothing is, what is asked does
abbrev pub kind_for : Asked → Found → Kind
kind_for asked found.File = kinds.File
kind_for asked (found.Wrap header) = kinds.Wrap (runs_by (count_in (found.Wrap header)) asked.count)
kind_for asked found.Nothing = kind_by asked.shape asked.count

-- what the names of files of a kind end with
abbrev pub suffix_by : Kind → Asked → List ℕ
suffix_by kinds.File asked = []
suffix_by (kinds.Wrap count) asked = unwrap_or (option_copied asked.suffix) []

-- the place of a kind that is asked for
pub record IsOfKind (kind : Kind) (asked : Asked) (place : Place) : Type 0 where
  pub kind_is : place.kind ≡ kind
  pub base : place.base.now ≡ asked.base.now
  pub suffix : place.suffix.now ≡ suffix_by kind asked

-- the place of what is asked for, by what is found of it
abbrev pub IsPlaceFor : Asked → Found → Place → Type 0
IsPlaceFor asked is place = IsOfKind (kind_for asked is) asked place

-- what is asked may be one file
abbrev pub MayBeFile : Option Shape → Type 0
MayBeFile (Some shapes.Wrap) = ⊥
MayBeFile _ = Unit {0}

-- or a wrap
abbrev pub MayBeWrap : Option Shape → Type 0
MayBeWrap (Some shapes.File) = ⊥
MayBeWrap _ = Unit {0}

-- where one file is asked for, no wrap is found, and the reverse
abbrev pub FitsShape : Option Shape → Found → Type 0
FitsShape shape found.Nothing = Unit {0}
FitsShape shape found.File = MayBeFile shape
FitsShape shape (found.Wrap header) = MayBeWrap shape

-- a trace with this header is a wrap that has it in this file
abbrev pub IsInFile : SegHeader → ℕ → Type 0
IsInFile header k = (header.spec ≢ stored.File) × (file_for (spec_seen header.spec) header.generation ≡ k)

-- it is in one of so many files, where there is one
abbrev pub IsInOne : ℕ → Option SegHeader → Type 0
IsInOne count None = Unit {0}
IsInOne count (Some header) = (k : ℕ) × (k < count) × IsInFile header k

-- the header that a file of a wrap gave is in its place
abbrev pub IsInPlace : Found → Type 0
IsInPlace (found.Wrap header) = IsInOne (MOST_RUNS + 1) header
IsInPlace _ = Unit {0}

-- what may be found where a trace of this shape is asked for
pub record IsFound (shape : Option Shape) (is : Found) : Type 0 where
  pub fits : FitsShape shape is
  pub placed : IsInPlace is

-- a name of a file of the wrap that is asked for, as long as one can be
abbrev pub IsWrapFile : Asked → List ℕ → Type 0
IsWrapFile asked name = (k : ℕ) × (k < MOST_RUNS + 1) × (name ≡ name_of (kinds.Wrap MOST_RUNS) asked.base.now (suffix_by (kinds.Wrap MOST_RUNS) asked) k)

-- these are the names of all files of a trace, in the order of their numbers
abbrev pub AreNames : Place → List (List ℕ) → Type 0
AreNames place names = (k : ℕ) → k < file_count place.kind → slice_get names k ≡ Some (name_of place.kind place.base.now place.suffix.now k)
