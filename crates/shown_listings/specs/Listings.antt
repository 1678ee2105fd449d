-- Listings, and how they are shown.
use Rattle.std.specs.Prelude.{◌≡◌, ℕ, Bool, true, false, not, ◌&&◌, is_some, Option, Some, None, List, Result, IfErr, IsErr}
use Rattle.std.specs.Io.KnownBytes.{Appends}
use Rattle.command_line.specs.declared.layout.Layout.{Layout}
use Rattle.command_line.specs.Layouts.{shows_each, may_cut}
use Rattle.shown_listings.specs.declared.laid_out.RowsEnd.{RowsEnd}
use Rattle.shown_listings.specs.declared.laid_out.RowsEnd.TheVariants as ends
use Rattle.shown_listings.specs.declared.look.Rule.{Rule}
use Rattle.shown_listings.specs.Rows.{AreLines, ShowsRows, given_lines}
use Rattle.trace_text.specs.declared.choice.Choice.{Choice}
use Rattle.command_line.specs.declared.request.Shown.{Shown}
use Rattle.shown_listings.specs.Ends.{Passed}
use Rattle.faults.specs.declared.complaint.Complaint.{Complaint}
use Rattle.faults.specs.declared.complaint.Complaint.TheVariants as complaints
use Rattle.script_runner.specs.declared.fault.SimFault.TheVariants as faults

-- how a listing ends, and what it does with the bytes that a writer holds
abbrev pub Listing : Type 1
Listing = Result Unit Complaint → Option (List ℕ) → Option (List ℕ) → Type 0

-- All that is listed went to a writer that held some bytes before. Where a text came to these, what stands before its first empty
-- line is written.
pub record Passes (ended : Bool) (Lists : Option (List ℕ) → Option (List ℕ) → Type 0) (was now : Option (List ℕ)) : Type 0 where
  pub held : List ℕ
  pub holds : Option (List ℕ)
  pub lists : Lists (Some held) holds
  pub passed : (text : List ℕ) → Appends (Some held) holds text → Passed ended text was now

-- How it is told that a listing ended: at an empty line, as done, whatever came then, unless what is shown couldn't be written out;
-- else as it ended.
abbrev pub IsToldBy : Bool → Result Unit Complaint → Result Unit Complaint → Type 0
IsToldBy true done result = IfErr result (λ complaint. complaint ≡ complaints.Fault faults.Write None)
IsToldBy false done result = result ≡ done

-- a listing up to an empty line
abbrev pub UpToEnd : Listing → Listing
UpToEnd Lists result was now = (ended : Bool) × (done : Result Unit Complaint) × Passes ended (Lists done) was now × IsToldBy ended done result

-- a listing by this choice may end before its last line
abbrev pub may_end : Option Choice → Bool
may_end None = false
may_end (Some choice) = not choice.is_whole && is_some choice.to

-- how a listing is shown: as it is, or up to an empty line
abbrev pub ShowsBy : Bool → Listing → Listing
ShowsBy false Lists result was now = Lists result was now
ShowsBy true Lists result was now = UpToEnd Lists result was now

-- which rows a layout asks for, whose last are sought from an entry on, or from the first that is listed
abbrev pub rule_from : Option ℕ → Layout → Rule
rule_from first layout = record { shows_each = shows_each layout; may_cut = may_cut layout; last = layout.last; follows = layout.follows; first = first }

-- A text was laid out, as far as it came: its lines have rows, and the first bytes of these are written, or all.
pub record HasRows (rule : Rule) (whole : Type 0) (text : List ℕ) (was now : Option (List ℕ)) : Type 0 where
  pub lines : List (List ℕ)
  pub rest : List ℕ
  pub is : given_lines lines rest ≡ text
  pub each : AreLines lines rest
  pub shows : ShowsRows rule whole lines was now

-- All that is listed went to a writer that held some bytes before. Where a text came to these, it was laid out.
pub record LaysOut (rule : Rule) (whole : Type 0) (Lists : Option (List ℕ) → Option (List ℕ) → Type 0) (was now : Option (List ℕ)) : Type 0 where
  pub held : List ℕ
  pub holds : Option (List ℕ)
  pub lists : Lists (Some held) holds
  pub laid : (text : List ℕ) → Appends (Some held) holds text → HasRows rule whole text was now

-- How it is told that a listing ended: as it did, unless its rows couldn't be written, or there was no memory for one.
abbrev pub IsToldWith : RowsEnd → Result Unit Complaint → Result Unit Complaint → Type 0
IsToldWith ends.Written done result = result ≡ done
IsToldWith ends.Unwritten done result = IfErr result (λ complaint. complaint ≡ complaints.Fault faults.Write None) × IsErr result
IsToldWith ends.NoMemory done result = IfErr result (λ complaint. complaint ≡ complaints.Fault faults.NoMemory None) × IsErr result

-- a listing that is laid out for a person, by a rule
abbrev pub IsLaidOut : Rule → Listing → Listing
IsLaidOut rule Lists result was now =
    (end : RowsEnd) × (done : Result Unit Complaint) × LaysOut rule (end ≡ ends.Written) (Lists done) was now × IsToldWith end done result

-- it was made into some writer
abbrev pub WasListed : Listing → Type 0
WasListed Lists = (done : Result Unit Complaint) × (was : Option (List ℕ)) × (now : Option (List ℕ)) × Lists done was now

-- how a listing is shown that is asked for from an entry on: as it is, or laid out, so that enough of the last rows come from there on; or it was made, and nothing is written
abbrev pub ShowsFrom : ℕ → Option Layout → Listing → Option (Result Unit Complaint) → Option (List ℕ) → Option (List ℕ) → Type 0
ShowsFrom first layout Lists None was now = (now ≡ was) × WasListed Lists
ShowsFrom first None Lists (Some told) was now = Lists told was now
ShowsFrom first (Some layout) Lists (Some told) was now = IsLaidOut (rule_from (Some first) layout) Lists told was now

-- how a listing is shown: as it is, or laid out
abbrev pub ShowsAs : Option Layout → Listing → Listing
ShowsAs None Lists result was now = Lists result was now
ShowsAs (Some layout) Lists result was now = IsLaidOut (rule_from None layout) Lists result was now

abbrev pub Shows : Shown → Listing → Listing
Shows shown Lists result was now = ShowsAs shown.layout (ShowsBy (may_end shown.choice) Lists) result was now
