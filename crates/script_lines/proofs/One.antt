-- No words spell two lines.
use Rattle.std.proofs.Common.{sym, ◌∙◌, ap, subst, ◌≡◌, ℕ, pos, false, true, List, Vec, Global, inl, inr}
use Rattle.entry_codec.specs.Seen.{view}
use Rattle.entry_codec.specs.Entries.{Message}
use Rattle.entry_codec.specs.declared.model.Entry.TheVariants as held
use Rattle.trace_message.specs.Events.{EventData, event_view, call, return_from, exception_from, send, send_lost, receive}
use Rattle.script_lines.specs.Keywords.{Behind}
use Rattle.script_lines.specs.Lines.{SaysSame, IsSameAtDesk}
use Rattle.script_lines.specs.Spellings.{IsNumberIn, Sole, Two, Three, First}
use Rattle.script_lines.specs.Table.{IsByte, IsHeld, IsTerm, IsAtom, IsArguments, IsArity, IsTracee, IsLong, IsFlags, IsEvent, DeskRow, Creates, Resumes, Crashes, PlainRow, HeldRow, Row, Spells}
use Rattle.script_lines.specs.declared.keyword.Keyword.{Keyword}
use Rattle.script_lines.specs.declared.keyword.Keyword.TheVariants as keywords
use Rattle.script_lines.specs.declared.line.Unsynced.TheVariants as unsynced
use Rattle.script_lines.specs.declared.line.Line.{Line}
use Rattle.script_lines.specs.declared.line.Line.TheVariants as lines
use Rattle.script_lines.specs.declared.desk_line.DeskLine.{DeskLine}
use Rattle.script_lines.specs.declared.desk_line.DeskLine.TheVariants as desk_lines
use Rattle.script_lines.specs.declared.desk_line.TraceeLine.TheVariants as tracee_lines
use Rattle.script_lines.proofs.Keywords.{one_keyword}
use Rattle.script_lines.proofs.Numbers.{only_number, only_bytes, only_pair}
use Rattle.script_lines.proofs.Terms.{only_term, only_atom, only_arguments}
use Rattle.script_lines.proofs.Flags.{only_flags}
use Rattle.script_lines.proofs.Words.{one_sole, one_two, one_three, same_first}

only_number_in : (least most : ℕ) (w : List ℕ) (x y : ℕ) → IsNumberIn least most w x → IsNumberIn least most w y → x ≡ y
only_number_in least most w x y h j = only_number w x y h.number j.number

one_bytes : (ws : List (List ℕ)) (m n : ℕ) (v u : Vec ℕ Global) → Two (IsNumberIn 0 1000) IsHeld ws m v → Two (IsNumberIn 0 1000) IsHeld ws n u → (m ≡ n) × (v.items ≡ u.items)
one_bytes ws m n v u s t =
    let p : t.word1 ≡ s.word1 = cc (s.are, t.are) in
    let q : t.word2 ≡ s.word2 = cc (s.are, t.are) in
    (only_number_in 0 1000 s.word1 m n s.spells1 (subst (λ (w : List ℕ). IsNumberIn 0 1000 w n) p t.spells1), only_bytes s.word2 v.items u.items s.spells2 (subst (λ (w : List ℕ). IsHeld w u) q t.spells2))

pub one_message : (ws : List (List ℕ)) (v u : Vec ℕ Global) → Sole IsHeld ws v → Sole IsHeld ws u → v.items ≡ u.items
one_message ws v u s t = let p : t.word ≡ s.word = cc (s.are, t.are) in only_bytes s.word v.items u.items s.spells (subst (λ (w : List ℕ). IsHeld w u) p t.spells)

-- what is created
pub one_created : (k : Keyword) (ws : List (List ℕ)) (a b : Line) → Creates k ws a → Creates k ws b → SaysSame a b
one_created keywords.Store ws a b h j = absurd h
one_created keywords.Bytes ws a b h j = absurd h
one_created keywords.Fuse ws a b h j = absurd h
one_created keywords.FailOnce ws a b h j = absurd h
one_created keywords.Create ws a b h j = absurd h
one_created keywords.Resume ws a b h j = absurd h
one_created keywords.Files ws a b h j = absurd h
one_created keywords.List ws a b h j = absurd h
one_created keywords.Wipe ws a b h j = absurd h
one_created keywords.Crash ws a b h j = absurd h
one_created keywords.Put ws a b h j = absurd h
one_created keywords.Lose ws a b h j = absurd h
one_created keywords.Flush ws a b h j = absurd h
one_created keywords.Seal ws a b h j = absurd h
one_created keywords.Tick ws a b h j = absurd h
one_created keywords.Abandon ws a b h j = absurd h
one_created keywords.Close ws a b h j = absurd h
one_created keywords.Desk ws a b h j = absurd h
one_created keywords.Stamp ws a b h j = absurd h
one_created keywords.Mono ws a b h j = absurd h
one_created keywords.Tracee ws a b h j = absurd h
one_created keywords.Emit ws a b h j = absurd h
one_created keywords.Hand ws a b h j = absurd h
one_created keywords.FlushFor ws a b h j = absurd h
one_created keywords.Counts ws a b h j = absurd h
one_created keywords.File ws a b h j = subst (λ (l : Line). SaysSame l b) (sym h.2) (j.2 ∙ ap (λ n. lines.CreateFile n) (one_sole _ only_number ws j.0 h.0 j.1 h.1))
one_created keywords.Wrap ws a b h j = let e = one_two _ _ (only_number_in _ _) (only_number_in _ _) ws j.0 h.0 j.1 h.1 j.2 h.2 in subst (λ (l : Line). SaysSame l b) (sym h.3) (j.3 ∙ ap (λ x. lines.CreateWrap x j.1) e.0 ∙ ap (λ y. lines.CreateWrap h.0 y) e.1)
one_created keywords.Time ws a b h j = let e = one_two _ _ (only_number_in _ _) (only_number_in _ _) ws j.0 h.0 j.1 h.1 j.2 h.2 in subst (λ (l : Line). SaysSame l b) (sym h.3) (j.3 ∙ ap (λ x. lines.CreateTime x j.1) e.0 ∙ ap (λ y. lines.CreateTime h.0 y) e.1)
one_created keywords.Kept ws a b h j = absurd h
one_created keywords.Low ws a b h j = absurd h
one_created keywords.High ws a b h j = absurd h
one_created keywords.Receive ws a b h j = absurd h
one_created keywords.Send ws a b h j = absurd h
one_created keywords.SendLost ws a b h j = absurd h
one_created keywords.Call ws a b h j = absurd h
one_created keywords.Return ws a b h j = absurd h
one_created keywords.Exception ws a b h j = absurd h

-- what is resumed
pub one_resumed : (k : Keyword) (ws : List (List ℕ)) (a b : Line) → Resumes k ws a → Resumes k ws b → SaysSame a b
one_resumed keywords.Store ws a b h j = absurd h
one_resumed keywords.Bytes ws a b h j = absurd h
one_resumed keywords.Fuse ws a b h j = absurd h
one_resumed keywords.FailOnce ws a b h j = absurd h
one_resumed keywords.Create ws a b h j = absurd h
one_resumed keywords.Resume ws a b h j = absurd h
one_resumed keywords.Files ws a b h j = absurd h
one_resumed keywords.List ws a b h j = absurd h
one_resumed keywords.Wipe ws a b h j = absurd h
one_resumed keywords.Crash ws a b h j = absurd h
one_resumed keywords.Put ws a b h j = absurd h
one_resumed keywords.Lose ws a b h j = absurd h
one_resumed keywords.Flush ws a b h j = absurd h
one_resumed keywords.Seal ws a b h j = absurd h
one_resumed keywords.Tick ws a b h j = absurd h
one_resumed keywords.Abandon ws a b h j = absurd h
one_resumed keywords.Close ws a b h j = absurd h
one_resumed keywords.Desk ws a b h j = absurd h
one_resumed keywords.Stamp ws a b h j = absurd h
one_resumed keywords.Mono ws a b h j = absurd h
one_resumed keywords.Tracee ws a b h j = absurd h
one_resumed keywords.Emit ws a b h j = absurd h
one_resumed keywords.Hand ws a b h j = absurd h
one_resumed keywords.FlushFor ws a b h j = absurd h
one_resumed keywords.Counts ws a b h j = absurd h
one_resumed keywords.File ws a b h j = subst (λ (l : Line). SaysSame l b) (sym h.2) (j.2 ∙ ap (λ n. lines.ResumeFile n) (one_sole _ only_number ws j.0 h.0 j.1 h.1))
one_resumed keywords.Wrap ws a b h j = subst (λ (m : Line). SaysSame m b) (sym h.1) j.1
one_resumed keywords.Time ws a b h j = absurd h
one_resumed keywords.Kept ws a b h j = absurd h
one_resumed keywords.Low ws a b h j = absurd h
one_resumed keywords.High ws a b h j = absurd h
one_resumed keywords.Receive ws a b h j = absurd h
one_resumed keywords.Send ws a b h j = absurd h
one_resumed keywords.SendLost ws a b h j = absurd h
one_resumed keywords.Call ws a b h j = absurd h
one_resumed keywords.Return ws a b h j = absurd h
one_resumed keywords.Exception ws a b h j = absurd h

-- what a crash leaves
pub one_left : (k : Keyword) (ws : List (List ℕ)) (a b : Line) → Crashes k ws a → Crashes k ws b → SaysSame a b
one_left keywords.Store ws a b h j = absurd h
one_left keywords.Bytes ws a b h j = absurd h
one_left keywords.Fuse ws a b h j = absurd h
one_left keywords.FailOnce ws a b h j = absurd h
one_left keywords.Create ws a b h j = absurd h
one_left keywords.Resume ws a b h j = absurd h
one_left keywords.Files ws a b h j = absurd h
one_left keywords.List ws a b h j = absurd h
one_left keywords.Wipe ws a b h j = absurd h
one_left keywords.Crash ws a b h j = absurd h
one_left keywords.Put ws a b h j = absurd h
one_left keywords.Lose ws a b h j = absurd h
one_left keywords.Flush ws a b h j = absurd h
one_left keywords.Seal ws a b h j = absurd h
one_left keywords.Tick ws a b h j = absurd h
one_left keywords.Abandon ws a b h j = absurd h
one_left keywords.Close ws a b h j = absurd h
one_left keywords.Desk ws a b h j = absurd h
one_left keywords.Stamp ws a b h j = absurd h
one_left keywords.Mono ws a b h j = absurd h
one_left keywords.Tracee ws a b h j = absurd h
one_left keywords.Emit ws a b h j = absurd h
one_left keywords.Hand ws a b h j = absurd h
one_left keywords.FlushFor ws a b h j = absurd h
one_left keywords.Counts ws a b h j = absurd h
one_left keywords.File ws a b h j = absurd h
one_left keywords.Wrap ws a b h j = absurd h
one_left keywords.Time ws a b h j = absurd h
one_left keywords.Kept ws a b h j = subst (λ (m : Line). SaysSame m b) (sym h.1) j.1
one_left keywords.Low ws a b h j = subst (λ (l : Line). SaysSame l b) (sym h.2) (j.2 ∙ ap (λ n. lines.Crash (unsynced.Fill n false)) (one_sole IsByte only_pair ws j.0 h.0 j.1 h.1))
one_left keywords.High ws a b h j = subst (λ (l : Line). SaysSame l b) (sym h.2) (j.2 ∙ ap (λ n. lines.Crash (unsynced.Fill n true)) (one_sole IsByte only_pair ws j.0 h.0 j.1 h.1))
one_left keywords.Receive ws a b h j = absurd h
one_left keywords.Send ws a b h j = absurd h
one_left keywords.SendLost ws a b h j = absurd h
one_left keywords.Call ws a b h j = absurd h
one_left keywords.Return ws a b h j = absurd h
one_left keywords.Exception ws a b h j = absurd h

-- a line that isn't for a desk and holds no bytes
pub one_plain : (k : Keyword) (ws : List (List ℕ)) (a b : Line) → PlainRow k ws a → PlainRow k ws b → SaysSame a b
one_plain keywords.Store ws a b h j = subst (λ (l : Line). SaysSame l b) (sym h.2) (j.2 ∙ ap (λ n. lines.Store n) (one_sole _ (only_number_in _ _) ws j.0 h.0 j.1 h.1))
one_plain keywords.Bytes ws a b h j = absurd h
one_plain keywords.Fuse ws a b h j = subst (λ (l : Line). SaysSame l b) (sym h.2) (j.2 ∙ ap (λ n. lines.Fuse n) (one_sole _ only_number ws j.0 h.0 j.1 h.1))
one_plain keywords.FailOnce ws a b h j = subst (λ (l : Line). SaysSame l b) (sym h.2) (j.2 ∙ ap (λ n. lines.FailOnce n) (one_sole _ only_number ws j.0 h.0 j.1 h.1))
one_plain keywords.Create ws a b h j = let e : j.keyword ≡ h.keyword = one_keyword j.keyword h.keyword (cc (j.begins, h.begins)) in let f : j.others ≡ h.others = cc (j.begins, h.begins) in one_created h.keyword h.others a b h.says (subst (λ (k : Keyword). Creates k h.others b) e (subst (λ (o : List (List ℕ)). Creates j.keyword o b) f j.says))
one_plain keywords.Resume ws a b h j = let e : j.keyword ≡ h.keyword = one_keyword j.keyword h.keyword (cc (j.begins, h.begins)) in let f : j.others ≡ h.others = cc (j.begins, h.begins) in one_resumed h.keyword h.others a b h.says (subst (λ (k : Keyword). Resumes k h.others b) e (subst (λ (o : List (List ℕ)). Resumes j.keyword o b) f j.says))
one_plain keywords.Files ws a b h j = subst (λ (m : Line). SaysSame m b) (sym h.1) j.1
one_plain keywords.List ws a b h j = subst (λ (m : Line). SaysSame m b) (sym h.1) j.1
one_plain keywords.Wipe ws a b h j = subst (λ (m : Line). SaysSame m b) (sym h.1) j.1
one_plain keywords.Crash ws a b h j = let e : j.keyword ≡ h.keyword = one_keyword j.keyword h.keyword (cc (j.begins, h.begins)) in let f : j.others ≡ h.others = cc (j.begins, h.begins) in one_left h.keyword h.others a b h.says (subst (λ (k : Keyword). Crashes k h.others b) e (subst (λ (o : List (List ℕ)). Crashes j.keyword o b) f j.says))
one_plain keywords.Put ws a b h j = absurd h
one_plain keywords.Lose ws a b h j = subst (λ (l : Line). SaysSame l b) (sym h.2) (held.Drop j.0, j.2, ap (λ n. view (held.Drop n)) (one_sole _ (only_number_in _ _) ws j.0 h.0 j.1 h.1))
one_plain keywords.Flush ws a b h j = subst (λ (m : Line). SaysSame m b) (sym h.1) j.1
one_plain keywords.Seal ws a b h j = subst (λ (m : Line). SaysSame m b) (sym h.1) j.1
one_plain keywords.Tick ws a b h j = subst (λ (l : Line). SaysSame l b) (sym h.2) (j.2 ∙ ap (λ n. lines.Tick n) (one_sole _ only_number ws j.0 h.0 j.1 h.1))
one_plain keywords.Abandon ws a b h j = subst (λ (m : Line). SaysSame m b) (sym h.1) j.1
one_plain keywords.Close ws a b h j = subst (λ (m : Line). SaysSame m b) (sym h.1) j.1
one_plain keywords.Desk ws a b h j = subst (λ (m : Line). SaysSame m b) (sym h.1) j.1
one_plain keywords.Stamp ws a b h j = absurd h
one_plain keywords.Mono ws a b h j = absurd h
one_plain keywords.Tracee ws a b h j = absurd h
one_plain keywords.Emit ws a b h j = absurd h
one_plain keywords.Hand ws a b h j = absurd h
one_plain keywords.FlushFor ws a b h j = absurd h
one_plain keywords.Counts ws a b h j = absurd h
one_plain keywords.File ws a b h j = absurd h
one_plain keywords.Wrap ws a b h j = absurd h
one_plain keywords.Time ws a b h j = absurd h
one_plain keywords.Kept ws a b h j = absurd h
one_plain keywords.Low ws a b h j = absurd h
one_plain keywords.High ws a b h j = absurd h
one_plain keywords.Receive ws a b h j = absurd h
one_plain keywords.Send ws a b h j = absurd h
one_plain keywords.SendLost ws a b h j = absurd h
one_plain keywords.Call ws a b h j = absurd h
one_plain keywords.Return ws a b h j = absurd h
one_plain keywords.Exception ws a b h j = absurd h

-- a line that holds bytes
pub one_held : (k : Keyword) (ws : List (List ℕ)) (a b : Line) → HeldRow k ws a → HeldRow k ws b → SaysSame a b
one_held keywords.Store ws a b h j = absurd h
one_held keywords.Bytes ws a b h j = let e = one_bytes ws j.0 h.0 j.1 h.1 j.2 h.2 in subst (λ (l : Line). SaysSame l b) (sym h.3) (j.1, j.3 ∙ ap (λ n. lines.Bytes n j.1) e.0, e.1)
one_held keywords.Fuse ws a b h j = absurd h
one_held keywords.FailOnce ws a b h j = absurd h
one_held keywords.Create ws a b h j = absurd h
one_held keywords.Resume ws a b h j = absurd h
one_held keywords.Files ws a b h j = absurd h
one_held keywords.List ws a b h j = absurd h
one_held keywords.Wipe ws a b h j = absurd h
one_held keywords.Crash ws a b h j = absurd h
one_held keywords.Put ws a b h j = subst (λ (l : Line). SaysSame l b) (sym h.3) (held.Message j.0, j.3, ap (λ (bytes : List ℕ). Message bytes) (one_message ws j.0 h.0 j.1 h.1))
one_held keywords.Lose ws a b h j = absurd h
one_held keywords.Flush ws a b h j = absurd h
one_held keywords.Seal ws a b h j = absurd h
one_held keywords.Tick ws a b h j = absurd h
one_held keywords.Abandon ws a b h j = absurd h
one_held keywords.Close ws a b h j = absurd h
one_held keywords.Desk ws a b h j = absurd h
one_held keywords.Stamp ws a b h j = absurd h
one_held keywords.Mono ws a b h j = absurd h
one_held keywords.Tracee ws a b h j = absurd h
one_held keywords.Emit ws a b h j = absurd h
one_held keywords.Hand ws a b h j = absurd h
one_held keywords.FlushFor ws a b h j = absurd h
one_held keywords.Counts ws a b h j = absurd h
one_held keywords.File ws a b h j = absurd h
one_held keywords.Wrap ws a b h j = absurd h
one_held keywords.Time ws a b h j = absurd h
one_held keywords.Kept ws a b h j = absurd h
one_held keywords.Low ws a b h j = absurd h
one_held keywords.High ws a b h j = absurd h
one_held keywords.Receive ws a b h j = absurd h
one_held keywords.Send ws a b h j = absurd h
one_held keywords.SendLost ws a b h j = absurd h
one_held keywords.Call ws a b h j = absurd h
one_held keywords.Return ws a b h j = absurd h
one_held keywords.Exception ws a b h j = absurd h

one_return : (ws : List (List ℕ)) (a b : EventData) → IsEvent keywords.Return ws a → IsEvent keywords.Return ws b → a ≡ b
one_return ws a b h j =
    let f = same_first _ _ _ _ ws _ _ _ _ h.4 j.4 in
    let m = only_atom h.4.word h.0 j.0 h.4.spells (subst (λ (w : List ℕ). IsAtom w j.0) f.0 j.4.spells) in
    let e = one_three IsAtom IsArity IsTerm only_atom (only_number_in 0 255) only_term h.4.others h.1 j.1 h.2 j.2 h.3 j.3 h.4.spells_others (subst (λ (o : List (List ℕ)). Three IsAtom IsArity IsTerm o j.1 j.2 j.3) f.1 j.4.spells_others) in
    h.5 ∙ ap (λ x. return_from x h.1 h.2 h.3) m ∙ ap (λ x. return_from j.0 x h.2 h.3) e.0 ∙ ap (λ x. return_from j.0 j.1 x h.3) e.1 ∙ ap (λ x. return_from j.0 j.1 j.2 x) e.2 ∙ sym j.5

one_exception : (ws : List (List ℕ)) (a b : EventData) → IsEvent keywords.Exception ws a → IsEvent keywords.Exception ws b → a ≡ b
one_exception ws a b h j =
    let f = same_first _ _ _ _ ws _ _ _ _ h.5 j.5 in
    let m = only_atom h.5.word h.0 j.0 h.5.spells (subst (λ (w : List ℕ). IsAtom w j.0) f.0 j.5.spells) in
    let s = h.5.spells_others in
    let t = subst (λ (o : List (List ℕ)). First IsAtom (λ vs (_ : ℕ). Three IsArity IsAtom IsTerm vs j.3 j.2 j.4) o j.1 0) f.1 j.5.spells_others in
    let g = same_first _ _ _ _ h.5.others _ _ _ _ s t in
    let n = only_atom s.word h.1 j.1 s.spells (subst (λ (w : List ℕ). IsAtom w j.1) g.0 t.spells) in
    let e = one_three IsArity IsAtom IsTerm (only_number_in 0 255) only_atom only_term s.others h.3 j.3 h.2 j.2 h.4 j.4 s.spells_others (subst (λ (o : List (List ℕ)). Three IsArity IsAtom IsTerm o j.3 j.2 j.4) g.1 t.spells_others) in
    h.6 ∙ ap (λ x. exception_from x h.1 h.3 h.2 h.4) m ∙ ap (λ x. exception_from j.0 x h.3 h.2 h.4) n ∙ ap (λ x. exception_from j.0 j.1 x h.2 h.4) e.0 ∙ ap (λ x. exception_from j.0 j.1 j.3 x h.4) e.1 ∙ ap (λ x. exception_from j.0 j.1 j.3 j.2 x) e.2 ∙ sym j.6

-- an event
pub one_event : (k : Keyword) (ws : List (List ℕ)) (a b : EventData) → IsEvent k ws a → IsEvent k ws b → a ≡ b
one_event keywords.Store ws a b h j = absurd h
one_event keywords.Bytes ws a b h j = absurd h
one_event keywords.Fuse ws a b h j = absurd h
one_event keywords.FailOnce ws a b h j = absurd h
one_event keywords.Create ws a b h j = absurd h
one_event keywords.Resume ws a b h j = absurd h
one_event keywords.Files ws a b h j = absurd h
one_event keywords.List ws a b h j = absurd h
one_event keywords.Wipe ws a b h j = absurd h
one_event keywords.Crash ws a b h j = absurd h
one_event keywords.Put ws a b h j = absurd h
one_event keywords.Lose ws a b h j = absurd h
one_event keywords.Flush ws a b h j = absurd h
one_event keywords.Seal ws a b h j = absurd h
one_event keywords.Tick ws a b h j = absurd h
one_event keywords.Abandon ws a b h j = absurd h
one_event keywords.Close ws a b h j = absurd h
one_event keywords.Desk ws a b h j = absurd h
one_event keywords.Stamp ws a b h j = absurd h
one_event keywords.Mono ws a b h j = absurd h
one_event keywords.Tracee ws a b h j = absurd h
one_event keywords.Emit ws a b h j = absurd h
one_event keywords.Hand ws a b h j = absurd h
one_event keywords.FlushFor ws a b h j = absurd h
one_event keywords.Counts ws a b h j = absurd h
one_event keywords.File ws a b h j = absurd h
one_event keywords.Wrap ws a b h j = absurd h
one_event keywords.Time ws a b h j = absurd h
one_event keywords.Kept ws a b h j = absurd h
one_event keywords.Low ws a b h j = absurd h
one_event keywords.High ws a b h j = absurd h
one_event keywords.Receive ws a b h j = h.2 ∙ ap (λ t. receive t) (one_sole IsTerm only_term ws h.0 j.0 h.1 j.1) ∙ sym j.2
one_event keywords.Send ws a b h j = let e = one_two IsTerm IsTerm only_term only_term ws h.0 j.0 h.1 j.1 h.2 j.2 in h.3 ∙ ap (λ t. send t h.1) e.0 ∙ ap (λ t. send j.0 t) e.1 ∙ sym j.3
one_event keywords.SendLost ws a b h j = let e = one_two IsTerm IsTerm only_term only_term ws h.0 j.0 h.1 j.1 h.2 j.2 in h.3 ∙ ap (λ t. send_lost t h.1) e.0 ∙ ap (λ t. send_lost j.0 t) e.1 ∙ sym j.3
one_event keywords.Call ws a b h j = let e = one_three IsAtom IsAtom IsArguments only_atom only_atom only_arguments ws h.0 j.0 h.1 j.1 h.2 j.2 h.3 j.3 in h.4 ∙ ap (λ m. call m h.1 h.2) e.0 ∙ ap (λ f. call j.0 f h.2) e.1 ∙ ap (λ l. call j.0 j.1 l) e.2 ∙ sym j.4
one_event keywords.Return ws a b h j = one_return ws a b h j
one_event keywords.Exception ws a b h j = one_exception ws a b h j

one_tracee : (ws : List (List ℕ)) (a b : DeskLine) → DeskRow keywords.Tracee ws a → DeskRow keywords.Tracee ws b → IsSameAtDesk a b
one_tracee ws a b h j =
    let f = same_first _ _ _ _ ws _ _ _ _ h.4 j.4 in
    let n = only_number_in 0 999 h.4.word j.0 h.0 (subst (λ (w : List ℕ). IsTracee w j.0) f.0 j.4.spells) h.4.spells in
    let e = one_three IsLong IsLong IsFlags (only_number_in 0 4294967295) (only_number_in 0 4294967295) only_flags h.4.others j.1 h.1 j.2 h.2 j.3 h.3 (subst (λ (o : List (List ℕ)). Three IsLong IsLong IsFlags o j.1 j.2 j.3) f.1 j.4.spells_others) h.4.spells_others in
    subst (λ (l : DeskLine). IsSameAtDesk l b) (sym h.5) (j.5 ∙ ap (λ x. desk_lines.Tracee x j.1 j.2 j.3) n ∙ ap (λ x. desk_lines.Tracee h.0 x j.2 j.3) e.0 ∙ ap (λ x. desk_lines.Tracee h.0 h.1 x j.3) e.1 ∙ ap (λ x. desk_lines.Tracee h.0 h.1 h.2 x) e.2)

one_emit : (ws : List (List ℕ)) (a b : DeskLine) → DeskRow keywords.Emit ws a → DeskRow keywords.Emit ws b → IsSameAtDesk a b
one_emit ws a b h j =
    let f = same_first _ _ _ _ ws _ _ _ _ h.2 j.2 in
    let n = only_number_in 0 999 h.2.word j.0 h.0 (subst (λ (w : List ℕ). IsTracee w j.0) f.0 j.2.spells) h.2.spells in
    let s = h.2.spells_others in
    let t = subst (λ (o : List (List ℕ)). Behind IsEvent o (event_view j.1)) f.1 j.2.spells_others in
    let k : s.keyword ≡ t.keyword = one_keyword s.keyword t.keyword (cc (s.begins, t.begins)) in
    let o : s.others ≡ t.others = cc (s.begins, t.begins) in
    let e = one_event t.keyword t.others (event_view j.1) (event_view h.1) t.says (subst (λ (x : Keyword). IsEvent x t.others (event_view h.1)) k (subst (λ (x : List (List ℕ)). IsEvent s.keyword x (event_view h.1)) o s.says)) in
    subst (λ (l : DeskLine). IsSameAtDesk l b) (sym h.3) (j.1, j.3 ∙ ap (λ x. desk_lines.OfTracee x (tracee_lines.Emit j.1)) n, e)

-- a line for a desk
pub one_at_desk : (k : Keyword) (ws : List (List ℕ)) (a b : DeskLine) → DeskRow k ws a → DeskRow k ws b → IsSameAtDesk a b
one_at_desk keywords.Store ws a b h j = absurd h
one_at_desk keywords.Bytes ws a b h j = absurd h
one_at_desk keywords.Fuse ws a b h j = absurd h
one_at_desk keywords.FailOnce ws a b h j = absurd h
one_at_desk keywords.Create ws a b h j = absurd h
one_at_desk keywords.Resume ws a b h j = absurd h
one_at_desk keywords.Files ws a b h j = absurd h
one_at_desk keywords.List ws a b h j = absurd h
one_at_desk keywords.Wipe ws a b h j = absurd h
one_at_desk keywords.Crash ws a b h j = absurd h
one_at_desk keywords.Put ws a b h j = absurd h
one_at_desk keywords.Lose ws a b h j = absurd h
one_at_desk keywords.Flush ws a b h j = absurd h
one_at_desk keywords.Seal ws a b h j = absurd h
one_at_desk keywords.Tick ws a b h j = absurd h
one_at_desk keywords.Abandon ws a b h j = absurd h
one_at_desk keywords.Close ws a b h j = absurd h
one_at_desk keywords.Desk ws a b h j = absurd h
one_at_desk keywords.Stamp ws a b h j = let e = one_three _ _ _ (only_number_in _ _) (only_number_in _ _) (only_number_in _ _) ws j.0 h.0 j.1 h.1 j.2 h.2 j.3 h.3 in subst (λ (l : DeskLine). IsSameAtDesk l b) (sym h.4) (j.4 ∙ ap (λ x. desk_lines.Stamp x j.1 j.2) e.0 ∙ ap (λ y. desk_lines.Stamp h.0 y j.2) e.1 ∙ ap (λ z. desk_lines.Stamp h.0 h.1 z) e.2)
one_at_desk keywords.Mono ws a b h j = subst (λ (l : DeskLine). IsSameAtDesk l b) (sym h.2) (j.2 ∙ ap (λ n. desk_lines.Mono (pos n)) (one_sole _ (only_number_in _ _) ws j.0 h.0 j.1 h.1))
one_at_desk keywords.Tracee ws a b h j = one_tracee ws a b h j
one_at_desk keywords.Emit ws a b h j = one_emit ws a b h j
one_at_desk keywords.Hand ws a b h j = let e = one_two _ _ (only_number_in _ _) (only_number_in _ _) ws j.0 h.0 j.1 h.1 j.2 h.2 in subst (λ (l : DeskLine). IsSameAtDesk l b) (sym h.3) (j.3 ∙ ap (λ x. desk_lines.OfTracee x (tracee_lines.Hand j.1)) e.0 ∙ ap (λ y. desk_lines.OfTracee h.0 (tracee_lines.Hand y)) e.1)
one_at_desk keywords.FlushFor ws a b h j = subst (λ (l : DeskLine). IsSameAtDesk l b) (sym h.2) (j.2 ∙ ap (λ n. desk_lines.OfTracee n tracee_lines.FlushFor) (one_sole _ (only_number_in _ _) ws j.0 h.0 j.1 h.1))
one_at_desk keywords.Counts ws a b h j = subst (λ (l : DeskLine). IsSameAtDesk l b) (sym h.2) (j.2 ∙ ap (λ n. desk_lines.OfTracee n tracee_lines.Counts) (one_sole _ (only_number_in _ _) ws j.0 h.0 j.1 h.1))
one_at_desk keywords.File ws a b h j = absurd h
one_at_desk keywords.Wrap ws a b h j = absurd h
one_at_desk keywords.Time ws a b h j = absurd h
one_at_desk keywords.Kept ws a b h j = absurd h
one_at_desk keywords.Low ws a b h j = absurd h
one_at_desk keywords.High ws a b h j = absurd h
one_at_desk keywords.Receive ws a b h j = absurd h
one_at_desk keywords.Send ws a b h j = absurd h
one_at_desk keywords.SendLost ws a b h j = absurd h
one_at_desk keywords.Call ws a b h j = absurd h
one_at_desk keywords.Return ws a b h j = absurd h
one_at_desk keywords.Exception ws a b h j = absurd h

-- a keyword has one kind of row
not_both : (k : Keyword) (ws : List (List ℕ)) (a b : Line) (c : DeskLine) → (PlainRow k ws a → HeldRow k ws b → ⊥) × (PlainRow k ws a → DeskRow k ws c → ⊥) × (HeldRow k ws b → DeskRow k ws c → ⊥)
not_both keywords.Store ws a b c = (λ p h. h, λ p d. d, λ h d. h)
not_both keywords.Bytes ws a b c = (λ p h. p, λ p d. p, λ h d. d)
not_both keywords.Fuse ws a b c = (λ p h. h, λ p d. d, λ h d. h)
not_both keywords.FailOnce ws a b c = (λ p h. h, λ p d. d, λ h d. h)
not_both keywords.Create ws a b c = (λ p h. h, λ p d. d, λ h d. h)
not_both keywords.Resume ws a b c = (λ p h. h, λ p d. d, λ h d. h)
not_both keywords.Files ws a b c = (λ p h. h, λ p d. d, λ h d. h)
not_both keywords.List ws a b c = (λ p h. h, λ p d. d, λ h d. h)
not_both keywords.Wipe ws a b c = (λ p h. h, λ p d. d, λ h d. h)
not_both keywords.Crash ws a b c = (λ p h. h, λ p d. d, λ h d. h)
not_both keywords.Put ws a b c = (λ p h. p, λ p d. p, λ h d. d)
not_both keywords.Lose ws a b c = (λ p h. h, λ p d. d, λ h d. h)
not_both keywords.Flush ws a b c = (λ p h. h, λ p d. d, λ h d. h)
not_both keywords.Seal ws a b c = (λ p h. h, λ p d. d, λ h d. h)
not_both keywords.Tick ws a b c = (λ p h. h, λ p d. d, λ h d. h)
not_both keywords.Abandon ws a b c = (λ p h. h, λ p d. d, λ h d. h)
not_both keywords.Close ws a b c = (λ p h. h, λ p d. d, λ h d. h)
not_both keywords.Desk ws a b c = (λ p h. h, λ p d. d, λ h d. h)
not_both keywords.Stamp ws a b c = (λ p h. p, λ p d. p, λ h d. h)
not_both keywords.Mono ws a b c = (λ p h. p, λ p d. p, λ h d. h)
not_both keywords.Tracee ws a b c = (λ p h. p, λ p d. p, λ h d. h)
not_both keywords.Emit ws a b c = (λ p h. p, λ p d. p, λ h d. h)
not_both keywords.Hand ws a b c = (λ p h. p, λ p d. p, λ h d. h)
not_both keywords.FlushFor ws a b c = (λ p h. p, λ p d. p, λ h d. h)
not_both keywords.Counts ws a b c = (λ p h. p, λ p d. p, λ h d. h)
not_both keywords.File ws a b c = (λ p h. p, λ p d. p, λ h d. h)
not_both keywords.Wrap ws a b c = (λ p h. p, λ p d. p, λ h d. h)
not_both keywords.Time ws a b c = (λ p h. p, λ p d. p, λ h d. h)
not_both keywords.Kept ws a b c = (λ p h. p, λ p d. p, λ h d. h)
not_both keywords.Low ws a b c = (λ p h. p, λ p d. p, λ h d. h)
not_both keywords.High ws a b c = (λ p h. p, λ p d. p, λ h d. h)
not_both keywords.Receive ws a b c = (λ p h. p, λ p d. p, λ h d. h)
not_both keywords.Send ws a b c = (λ p h. p, λ p d. p, λ h d. h)
not_both keywords.SendLost ws a b c = (λ p h. p, λ p d. p, λ h d. h)
not_both keywords.Call ws a b c = (λ p h. p, λ p d. p, λ h d. h)
not_both keywords.Return ws a b c = (λ p h. p, λ p d. p, λ h d. h)
not_both keywords.Exception ws a b c = (λ p h. p, λ p d. p, λ h d. h)

one_row : (k : Keyword) (ws : List (List ℕ)) (a b : Line) → Row k ws a → Row k ws b → SaysSame a b
one_row k ws a b h j =
    elim h [
      | inl p ↦ elim j [
        | inl q ↦ one_plain k ws a b p q
        | inr r ↦ elim r [ inl q ↦ absurd ((not_both k ws a b (desk_lines.Mono (pos 0))).0 p q) | inr q ↦ absurd ((not_both k ws a b q.0).1 p q.1) ]
      ]
      | inr s ↦ elim s [
        | inl p ↦ elim j [
          | inl q ↦ absurd ((not_both k ws b a (desk_lines.Mono (pos 0))).0 q p)
          | inr r ↦ elim r [ inl q ↦ one_held k ws a b p q | inr q ↦ absurd ((not_both k ws a a q.0).2 p q.1) ]
        ]
        | inr p ↦ elim j [
          | inl q ↦ absurd ((not_both k ws b b p.0).1 q p.1)
          | inr r ↦ elim r [
            | inl q ↦ absurd ((not_both k ws b b p.0).2 q p.1)
            | inr q ↦ subst (λ (l : Line). SaysSame l b) (sym p.2) (q.0, q.2, one_at_desk k ws p.0 q.0 p.1 q.1)
          ]
        ]
      ]
    ]

-- no text spells two lines
pub one_line : (a b : Line) (text : List ℕ) → Spells a text → Spells b text → SaysSame a b
one_line a b text h j =
    let k : j.keyword ≡ h.keyword = one_keyword j.keyword h.keyword (cc (j.begins, h.begins)) in
    let o : j.others ≡ h.others = cc (j.begins, h.begins) in
    one_row h.keyword h.others a b h.says (subst (λ (x : Keyword). Row x h.others b) k (subst (λ (x : List (List ℕ)). Row j.keyword x b) o j.says))
