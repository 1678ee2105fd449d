-- Lines that aren't for what is held.
use Rattle.std.proofs.Common.{◌≡◌, ℕ, refl}
use Rattle.entry_codec.specs.declared.model.Entry.{Entry as Stored}
use Rattle.script_lines.specs.declared.line.Unsynced.{Unsynced}
use Rattle.script_lines.specs.declared.line.Line.{Line}
use Rattle.script_lines.specs.declared.line.Line.TheVariants as lines
use Rattle.script_lines.specs.declared.desk_line.DeskLine.{DeskLine}
use Rattle.script_runner.specs.Asked.{IsOfPortAlone, IsOfDesk}

-- a line that is none of those for a port alone
pub not_of_port : (line : Line) → ((entry : Stored) → line ≡ lines.Put entry → ⊥) → (line ≡ lines.Flush → ⊥) → (line ≡ lines.Seal → ⊥) → ((now : ℕ) → line ≡ lines.Tick now → ⊥) → (line ≡ lines.Abandon → ⊥) → (line ≡ lines.Close → ⊥) → ((unsynced : Unsynced) → line ≡ lines.Crash unsynced → ⊥) → (line ≡ lines.Desk → ⊥) → IsOfPortAlone line → ⊥
not_of_port (lines.Store files) put flush seal tick abandon close crash desk of = of
not_of_port (lines.Bytes file bytes) put flush seal tick abandon close crash desk of = of
not_of_port (lines.Fuse calls) put flush seal tick abandon close crash desk of = of
not_of_port (lines.FailOnce calls) put flush seal tick abandon close crash desk of = of
not_of_port (lines.CreateFile limit) put flush seal tick abandon close crash desk of = of
not_of_port (lines.ResumeFile limit) put flush seal tick abandon close crash desk of = of
not_of_port (lines.CreateWrap size count) put flush seal tick abandon close crash desk of = of
not_of_port (lines.CreateTime millis count) put flush seal tick abandon close crash desk of = of
not_of_port lines.ResumeWrap put flush seal tick abandon close crash desk of = of
not_of_port (lines.Put entry) put flush seal tick abandon close crash desk of = put entry refl
not_of_port lines.Flush put flush seal tick abandon close crash desk of = flush refl
not_of_port lines.Seal put flush seal tick abandon close crash desk of = seal refl
not_of_port (lines.Tick now) put flush seal tick abandon close crash desk of = tick now refl
not_of_port lines.Abandon put flush seal tick abandon close crash desk of = abandon refl
not_of_port lines.Close put flush seal tick abandon close crash desk of = close refl
not_of_port (lines.Crash unsynced) put flush seal tick abandon close crash desk of = crash unsynced refl
not_of_port lines.Desk put flush seal tick abandon close crash desk of = desk refl
not_of_port (lines.AtDesk line) put flush seal tick abandon close crash desk of = of
not_of_port lines.Files put flush seal tick abandon close crash desk of = of
not_of_port lines.List put flush seal tick abandon close crash desk of = of
not_of_port lines.Wipe put flush seal tick abandon close crash desk of = of

-- a line that is none of those for a port in a desk
pub not_of_desk : (line : Line) → (line ≡ lines.Flush → ⊥) → (line ≡ lines.Seal → ⊥) → ((now : ℕ) → line ≡ lines.Tick now → ⊥) → (line ≡ lines.Abandon → ⊥) → (line ≡ lines.Close → ⊥) → ((unsynced : Unsynced) → line ≡ lines.Crash unsynced → ⊥) → ((inner : DeskLine) → line ≡ lines.AtDesk inner → ⊥) → IsOfDesk line → ⊥
not_of_desk (lines.Store files) flush seal tick abandon close crash at_desk of = of
not_of_desk (lines.Bytes file bytes) flush seal tick abandon close crash at_desk of = of
not_of_desk (lines.Fuse calls) flush seal tick abandon close crash at_desk of = of
not_of_desk (lines.FailOnce calls) flush seal tick abandon close crash at_desk of = of
not_of_desk (lines.CreateFile limit) flush seal tick abandon close crash at_desk of = of
not_of_desk (lines.ResumeFile limit) flush seal tick abandon close crash at_desk of = of
not_of_desk (lines.CreateWrap size count) flush seal tick abandon close crash at_desk of = of
not_of_desk (lines.CreateTime millis count) flush seal tick abandon close crash at_desk of = of
not_of_desk lines.ResumeWrap flush seal tick abandon close crash at_desk of = of
not_of_desk (lines.Put entry) flush seal tick abandon close crash at_desk of = of
not_of_desk lines.Flush flush seal tick abandon close crash at_desk of = flush refl
not_of_desk lines.Seal flush seal tick abandon close crash at_desk of = seal refl
not_of_desk (lines.Tick now) flush seal tick abandon close crash at_desk of = tick now refl
not_of_desk lines.Abandon flush seal tick abandon close crash at_desk of = abandon refl
not_of_desk lines.Close flush seal tick abandon close crash at_desk of = close refl
not_of_desk (lines.Crash unsynced) flush seal tick abandon close crash at_desk of = crash unsynced refl
not_of_desk lines.Desk flush seal tick abandon close crash at_desk of = of
not_of_desk (lines.AtDesk line) flush seal tick abandon close crash at_desk of = at_desk line refl
not_of_desk lines.Files flush seal tick abandon close crash at_desk of = of
not_of_desk lines.List flush seal tick abandon close crash at_desk of = of
not_of_desk lines.Wipe flush seal tick abandon close crash at_desk of = of
