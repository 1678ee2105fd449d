-- Keywords that no row begins with.
use Rattle.std.proofs.Common.{refl, ◌≡◌, ℕ, List}
use Rattle.script_lines.specs.Table.{DeskRow, Crashes}
use Rattle.script_lines.specs.declared.keyword.Keyword.{Keyword}
use Rattle.script_lines.specs.declared.keyword.Keyword.TheVariants as keywords
use Rattle.script_lines.specs.declared.line.Line.{Line}
use Rattle.script_lines.specs.declared.desk_line.DeskLine.{DeskLine}

-- what a crash leaves
pub not_left : (k : Keyword) (ws : List (List ℕ)) (x : Line) → (k ≡ keywords.Kept → ⊥) → (k ≡ keywords.Low → ⊥) → (k ≡ keywords.High → ⊥) → Crashes k ws x → ⊥
not_left keywords.Store ws x n0 n1 n2 h = h
not_left keywords.Bytes ws x n0 n1 n2 h = h
not_left keywords.Fuse ws x n0 n1 n2 h = h
not_left keywords.FailOnce ws x n0 n1 n2 h = h
not_left keywords.Create ws x n0 n1 n2 h = h
not_left keywords.Resume ws x n0 n1 n2 h = h
not_left keywords.Files ws x n0 n1 n2 h = h
not_left keywords.List ws x n0 n1 n2 h = h
not_left keywords.Wipe ws x n0 n1 n2 h = h
not_left keywords.Crash ws x n0 n1 n2 h = h
not_left keywords.Put ws x n0 n1 n2 h = h
not_left keywords.Lose ws x n0 n1 n2 h = h
not_left keywords.Flush ws x n0 n1 n2 h = h
not_left keywords.Seal ws x n0 n1 n2 h = h
not_left keywords.Tick ws x n0 n1 n2 h = h
not_left keywords.Abandon ws x n0 n1 n2 h = h
not_left keywords.Close ws x n0 n1 n2 h = h
not_left keywords.Desk ws x n0 n1 n2 h = h
not_left keywords.Stamp ws x n0 n1 n2 h = h
not_left keywords.Mono ws x n0 n1 n2 h = h
not_left keywords.Tracee ws x n0 n1 n2 h = h
not_left keywords.Emit ws x n0 n1 n2 h = h
not_left keywords.Hand ws x n0 n1 n2 h = h
not_left keywords.FlushFor ws x n0 n1 n2 h = h
not_left keywords.Counts ws x n0 n1 n2 h = h
not_left keywords.File ws x n0 n1 n2 h = h
not_left keywords.Wrap ws x n0 n1 n2 h = h
not_left keywords.Time ws x n0 n1 n2 h = h
not_left keywords.Kept ws x n0 n1 n2 h = n0 refl
not_left keywords.Low ws x n0 n1 n2 h = n1 refl
not_left keywords.High ws x n0 n1 n2 h = n2 refl
not_left keywords.Receive ws x n0 n1 n2 h = h
not_left keywords.Send ws x n0 n1 n2 h = h
not_left keywords.SendLost ws x n0 n1 n2 h = h
not_left keywords.Call ws x n0 n1 n2 h = h
not_left keywords.Return ws x n0 n1 n2 h = h
not_left keywords.Exception ws x n0 n1 n2 h = h

-- a line for a desk
pub not_at_desk : (k : Keyword) (ws : List (List ℕ)) (x : DeskLine) → (k ≡ keywords.Stamp → ⊥) → (k ≡ keywords.Mono → ⊥) → (k ≡ keywords.Tracee → ⊥) → (k ≡ keywords.Hand → ⊥) → (k ≡ keywords.FlushFor → ⊥) → (k ≡ keywords.Counts → ⊥) → (k ≡ keywords.Emit → ⊥) → DeskRow k ws x → ⊥
not_at_desk keywords.Store ws x n0 n1 n2 n3 n4 n5 n6 h = h
not_at_desk keywords.Bytes ws x n0 n1 n2 n3 n4 n5 n6 h = h
not_at_desk keywords.Fuse ws x n0 n1 n2 n3 n4 n5 n6 h = h
not_at_desk keywords.FailOnce ws x n0 n1 n2 n3 n4 n5 n6 h = h
not_at_desk keywords.Create ws x n0 n1 n2 n3 n4 n5 n6 h = h
not_at_desk keywords.Resume ws x n0 n1 n2 n3 n4 n5 n6 h = h
not_at_desk keywords.Files ws x n0 n1 n2 n3 n4 n5 n6 h = h
not_at_desk keywords.List ws x n0 n1 n2 n3 n4 n5 n6 h = h
not_at_desk keywords.Wipe ws x n0 n1 n2 n3 n4 n5 n6 h = h
not_at_desk keywords.Crash ws x n0 n1 n2 n3 n4 n5 n6 h = h
not_at_desk keywords.Put ws x n0 n1 n2 n3 n4 n5 n6 h = h
not_at_desk keywords.Lose ws x n0 n1 n2 n3 n4 n5 n6 h = h
not_at_desk keywords.Flush ws x n0 n1 n2 n3 n4 n5 n6 h = h
not_at_desk keywords.Seal ws x n0 n1 n2 n3 n4 n5 n6 h = h
not_at_desk keywords.Tick ws x n0 n1 n2 n3 n4 n5 n6 h = h
not_at_desk keywords.Abandon ws x n0 n1 n2 n3 n4 n5 n6 h = h
not_at_desk keywords.Close ws x n0 n1 n2 n3 n4 n5 n6 h = h
not_at_desk keywords.Desk ws x n0 n1 n2 n3 n4 n5 n6 h = h
not_at_desk keywords.Stamp ws x n0 n1 n2 n3 n4 n5 n6 h = n0 refl
not_at_desk keywords.Mono ws x n0 n1 n2 n3 n4 n5 n6 h = n1 refl
not_at_desk keywords.Tracee ws x n0 n1 n2 n3 n4 n5 n6 h = n2 refl
not_at_desk keywords.Emit ws x n0 n1 n2 n3 n4 n5 n6 h = n6 refl
not_at_desk keywords.Hand ws x n0 n1 n2 n3 n4 n5 n6 h = n3 refl
not_at_desk keywords.FlushFor ws x n0 n1 n2 n3 n4 n5 n6 h = n4 refl
not_at_desk keywords.Counts ws x n0 n1 n2 n3 n4 n5 n6 h = n5 refl
not_at_desk keywords.File ws x n0 n1 n2 n3 n4 n5 n6 h = h
not_at_desk keywords.Wrap ws x n0 n1 n2 n3 n4 n5 n6 h = h
not_at_desk keywords.Time ws x n0 n1 n2 n3 n4 n5 n6 h = h
not_at_desk keywords.Kept ws x n0 n1 n2 n3 n4 n5 n6 h = h
not_at_desk keywords.Low ws x n0 n1 n2 n3 n4 n5 n6 h = h
not_at_desk keywords.High ws x n0 n1 n2 n3 n4 n5 n6 h = h
not_at_desk keywords.Receive ws x n0 n1 n2 n3 n4 n5 n6 h = h
not_at_desk keywords.Send ws x n0 n1 n2 n3 n4 n5 n6 h = h
not_at_desk keywords.SendLost ws x n0 n1 n2 n3 n4 n5 n6 h = h
not_at_desk keywords.Call ws x n0 n1 n2 n3 n4 n5 n6 h = h
not_at_desk keywords.Return ws x n0 n1 n2 n3 n4 n5 n6 h = h
not_at_desk keywords.Exception ws x n0 n1 n2 n3 n4 n5 n6 h = h
