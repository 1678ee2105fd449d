-- A store that is cleared of what isn't a trace's too.
use Rattle.std.specs.Prelude.{◌⊎◌, ℕ, List}
use Rattle.trace_store.specs.Disk.{Image, file_of}
use Rattle.segment.specs.Segments.{IsOpen}
use Rattle.recovery.specs.Wiping.{ClosesIf, MayCloseIf, ClosesEach, IsClosing}
use Rattle.foreign_files.specs.Foreign.{IsForeign}

-- a foreign file is closed: at the end, and at each moment of that
abbrev pub IsPrepared : List ℕ → List ℕ → Type 0
IsPrepared = ClosesIf IsForeign

abbrev pub IsKeptOrPrepared : List ℕ → List ℕ → Type 0
IsKeptOrPrepared = MayCloseIf IsForeign

-- what is cleared: an open file, and a foreign one
abbrev pub IsToClear : List ℕ → Type 0
IsToClear text = IsOpen text ⊎ IsForeign text

-- it is closed: of a file, at its end and at each moment of it, and of a store
abbrev pub IsClearedOf : List ℕ → List ℕ → Type 0
IsClearedOf = ClosesIf IsToClear

abbrev pub IsKeptOrCleared : List ℕ → List ℕ → Type 0
IsKeptOrCleared = MayCloseIf IsToClear

abbrev pub AreCleared : Image → Image → Type 0
AreCleared = ClosesEach IsToClear

abbrev pub IsClearing : (Image → Type 0) → Image → Type 0
IsClearing = IsClosing IsToClear

-- none of its files is foreign
abbrev pub HasNoForeign : Image → Type 0
HasNoForeign image = (file : ℕ) → IsForeign (file_of image file) → ⊥
