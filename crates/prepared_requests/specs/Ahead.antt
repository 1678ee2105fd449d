-- Where entries begin in a stream that comes in, perhaps from within a message on: at the first place from which whole entries follow.
use Rattle.std.specs.Prelude.{◌≡◌, ◌⊎◌, ℕ, ◌+◌, ◌<◌, ◌≤◌, ◌^◌, Bool, true, Option, None, List, [], ◌++◌, length, drop, slice_index}
use Rattle.std.specs.Io.KnownBytes.{IsAtEnd}
use Rattle.entry_codec.specs.Outcomes.{HasHead, IsBadOp, IsZeroDrop, IsHeadCut}
use Rattle.import.specs.Incoming.{version, longest_read, IsBadMessage}
use Rattle.command_line.specs.declared.request.Rules.{Rules}
use Rattle.command_line.specs.declared.request.Ending.TheVariants.{Seal, Keep}
use Rattle.faults.specs.declared.complaint.Complaint.{Complaint}
use Rattle.faults.specs.declared.complaint.Complaint.TheVariants as complaints
use Rattle.script_runner.specs.declared.fault.SimFault.TheVariants as faults
use Rattle.prepared_requests.specs.declared.ahead_scan.Front.{Front}
use Rattle.prepared_requests.specs.declared.ahead_scan.Front.TheVariants as fronts
use Rattle.prepared_requests.specs.declared.ahead_scan.Sight.{Sight}
use Rattle.prepared_requests.specs.declared.ahead_scan.Sight.TheVariants as sights

-- what an import refuses begins these: no entry that a node writes
abbrev pub BeginsNone : List ℕ → Type 0
BeginsNone bytes = IsBadOp bytes ⊎ (IsZeroDrop bytes ⊎ IsBadMessage bytes)

-- the head of a message of so many bytes that a node writes begins these, and its first byte
pub record BeginsMessage (size : ℕ) (bytes : List ℕ) : Type 0 where
  pub some : 0 < size
  pub fits : size < 2 ^ 32
  pub head : HasHead 0 size bytes
  pub came : 5 < length bytes
  pub first : slice_index bytes 5 ≡ version

-- a drop record begins these
pub record BeginsDrop (bytes : List ℕ) : Type 0 where
  pub count : ℕ
  pub some : 0 < count
  pub fits : count < 2 ^ 32
  pub head : HasHead 1 count bytes

-- the head of a message, and nothing more
pub record IsHead (bytes : List ℕ) : Type 0 where
  pub size : ℕ
  pub some : 0 < size
  pub fits : size < 2 ^ 32
  pub head : HasHead 0 size bytes
  pub all : length bytes ≡ 5

-- too few bytes have come to tell what they begin
abbrev pub IsCut : List ℕ → Type 0
IsCut bytes = bytes ≡ [] ⊎ (IsHeadCut bytes ⊎ IsHead bytes)

-- what stands at the front of these, as far as they have come
abbrev pub HasFront : Front → List ℕ → Type 0
HasFront fronts.Cut bytes = IsCut bytes
HasFront fronts.Bad bytes = BeginsNone bytes
HasFront (fronts.Message size) bytes = BeginsMessage size bytes
HasFront fronts.Drop bytes = BeginsDrop bytes

-- an entry that a node writes may begin these, as far as they have come
pub data MayBegin (bytes : List ℕ) : Type 0 where
  cut_short : IsCut bytes → MayBegin bytes
  with_message : (size : ℕ) → BeginsMessage size bytes → MayBegin bytes
  with_drop : BeginsDrop bytes → MayBegin bytes

-- these begin as a stream does, as far as they have come: with a message, or with a drop record and another entry
pub data IsBegun (bytes : List ℕ) : Type 0 where
  cut_first : 0 < length bytes → IsCut bytes → IsBegun bytes
  message_first : (size : ℕ) → BeginsMessage size bytes → IsBegun bytes
  drop_first : BeginsDrop bytes → MayBegin (drop 5 bytes) → IsBegun bytes

-- these begin as no stream does
pub data IsUnbegun (bytes : List ℕ) : Type 0 where
  none_first : BeginsNone bytes → IsUnbegun bytes
  drop_alone : BeginsDrop bytes → BeginsNone (drop 5 bytes) → IsUnbegun bytes

-- whether these begin as a stream does
abbrev pub SeesBegin : Sight → List ℕ → Type 0
SeesBegin sights.Never bytes = IsUnbegun bytes
SeesBegin sights.Unknown bytes = bytes ≡ []
SeesBegin sights.Now bytes = IsBegun bytes

-- a message that is no longer than the longest stands whole at the front of these, and behind it nothing more has come, or what begins as a stream does
pub record IsWhole (longest : ℕ) (bytes : List ℕ) : Type 0 where
  pub size : ℕ
  pub begins : BeginsMessage size bytes
  pub kept : size ≤ longest
  pub whole : 5 + size ≤ length bytes
  pub behind : drop (5 + size) bytes ≡ [] ⊎ IsBegun (drop (5 + size) bytes)

-- none stands there, whatever comes behind these: what begins them is no message, or one that is longer, or has behind it what begins as no stream does
pub data IsNever (longest : ℕ) (bytes : List ℕ) : Type 0 where
  no_entry : BeginsNone bytes → IsNever longest bytes
  no_message : BeginsDrop bytes → IsNever longest bytes
  too_long : (size : ℕ) → BeginsMessage size bytes → longest < size → IsNever longest bytes
  none_behind : (size : ℕ) → BeginsMessage size bytes → 5 + size ≤ length bytes → IsUnbegun (drop (5 + size) bytes) → IsNever longest bytes

-- one may stand there once more has come
pub data IsPart (longest : ℕ) (bytes : List ℕ) : Type 0 where
  too_few : IsCut bytes → IsPart longest bytes
  part : (size : ℕ) → BeginsMessage size bytes → size ≤ longest → length bytes < 5 + size → IsPart longest bytes

-- whether a message stands whole at the front of these
abbrev pub SeesWhole : ℕ → Sight → List ℕ → Type 0
SeesWhole longest sights.Never bytes = IsNever longest bytes
SeesWhole longest sights.Unknown bytes = IsPart longest bytes
SeesWhole longest sights.Now bytes = IsWhole longest bytes

-- whole entries follow from here on: a message, or a drop record and a message
pub data Follow (longest : ℕ) (bytes : List ℕ) : Type 0 where
  a_message : IsWhole longest bytes → Follow longest bytes
  a_drop : BeginsDrop bytes → IsWhole longest (drop 5 bytes) → Follow longest bytes

-- none follow, whatever comes behind these
pub data NeverFollow (longest : ℕ) (bytes : List ℕ) : Type 0 where
  never_entry : BeginsNone bytes → NeverFollow longest bytes
  never_message : (size : ℕ) → BeginsMessage size bytes → IsNever longest bytes → NeverFollow longest bytes
  never_behind : BeginsDrop bytes → IsNever longest (drop 5 bytes) → NeverFollow longest bytes

-- they may follow once more has come
pub data MayFollow (longest : ℕ) (bytes : List ℕ) : Type 0 where
  may_message : IsPart longest bytes → MayFollow longest bytes
  may_behind : BeginsDrop bytes → IsPart longest (drop 5 bytes) → MayFollow longest bytes

-- whether whole entries follow
abbrev pub SeesEntries : ℕ → Sight → List ℕ → Type 0
SeesEntries longest sights.Never bytes = NeverFollow longest bytes
SeesEntries longest sights.Unknown bytes = MayFollow longest bytes
SeesEntries longest sights.Now bytes = Follow longest bytes

-- from each place from one on, up to another one, none follow
abbrev pub NoneBetween : ℕ → ℕ → ℕ → List ℕ → Type 0
NoneBetween longest from to bytes = (p : ℕ) → from ≤ p → p < to → NeverFollow longest (drop p bytes)

-- the same of bytes that begin as no stream does, from their second one on
pub record NoneBefore (longest to : ℕ) (bytes : List ℕ) : Type 0 where
  pub unbegun : IsUnbegun bytes
  pub none : NoneBetween longest 1 to bytes

-- or, where all has come that may come, none that have come whole
abbrev pub NoneWhole : Bool → ℕ → ℕ → List ℕ → Type 0
NoneWhole is_all longest to bytes = (p : ℕ) → 0 < p → p < to → NeverFollow longest (drop p bytes) ⊎ ((is_all ≡ true) × MayFollow longest (drop p bytes))

-- it isn't known yet where entries begin in these: none has come, or from the first place from which any may follow none has come whole
pub data IsOpen (longest : ℕ) (bytes : List ℕ) : Type 0 where
  none_came : bytes ≡ [] → IsOpen longest bytes
  waits : (place : ℕ) → NoneBefore longest place bytes → MayFollow longest (drop place bytes) → IsOpen longest bytes

-- The place in the bytes of a stream that have come before which all is passed over.
--
--   is_all    all has come that may come
--   longest   the bytes of the longest message that is kept
pub data IsAhead (is_all : Bool) (longest : ℕ) (bytes : List ℕ) : ℕ → Type 0 where
  -- they begin as a stream does: nothing is passed over
  begun : IsBegun bytes → IsAhead is_all longest bytes 0
  -- from there on whole entries follow, and from no earlier place
  found : (place : ℕ) → 0 < place → IsUnbegun bytes → NoneWhole is_all longest place bytes → Follow longest (drop place bytes) → IsAhead is_all longest bytes place
  -- from no place whole entries follow: nothing is passed over
  nothing : is_all ≡ true → bytes ≡ [] → IsAhead is_all longest bytes 0
  found_none : is_all ≡ true → IsUnbegun bytes → NoneWhole is_all longest (length bytes) bytes → IsAhead is_all longest bytes 0

-- the most bytes that are read ahead
abbrev pub most : ℕ
most = 67108864

-- all but what the last read gave of these left that open, past so many of them
pub record IsNeeded (start longest : ℕ) (bytes : List ℕ) : Type 0 where
  pub front : List ℕ
  pub chunk : List ℕ
  pub is : bytes ≡ front ++ chunk
  pub read : length chunk ≤ longest_read
  pub left_open : IsOpen longest (drop start front)

-- These bytes of a stream were read ahead, and past so many of them the place is this one. Where it is told by all that may come, the
-- stream is at its end, or the most were read.
pub record LooksAhead (start longest : ℕ) (remaining : Option (List ℕ)) (bytes : List ℕ) (place : ℕ) : Type 0 where
  pub is_all : Bool
  pub all : is_all ≡ true → IsAtEnd remaining ⊎ (most ≤ length bytes)
  pub ahead : IsAhead is_all longest (drop start bytes) place
  pub within : place ≤ length bytes
  pub needed : bytes ≡ [] ⊎ IsNeeded start longest bytes

-- the rules of an import that passes over so many bytes more
abbrev pub passing : ℕ → Rules → Rules
passing count rules = record { skip = rules.skip + count; longest = rules.longest; flushing = rules.flushing; ending = rules.ending }

-- how an import begins, by the bytes of its input that were read ahead
pub data BeginsImport (rules : Rules) (remaining : Option (List ℕ)) (bytes : List ℕ) : Rules → Type 0 where
  -- its trace is to be sealed, or more is to be skipped than is read ahead: none were
  as_asked : (rules.ending ≡ Seal) ⊎ (most ≤ rules.skip) → bytes ≡ [] → BeginsImport rules remaining bytes rules
  -- its trace is to be kept open: past what is to be skipped it passes over all before the place
  from : (place : ℕ) → rules.ending ≡ Keep → LooksAhead rules.skip rules.longest remaining bytes place → BeginsImport rules remaining bytes (passing place rules)

-- the input couldn't be read, or there was no memory for it
abbrev pub IsUnread : Complaint → Type 0
IsUnread complaint = (complaint ≡ complaints.Fault faults.Read None) ⊎ (complaint ≡ complaints.Fault faults.NoMemory None)
