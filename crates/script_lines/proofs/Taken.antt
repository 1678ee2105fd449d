-- What is read of a script.
use Rattle.std.proofs.Common.{arith, sym, ◌∙◌, ap, subst, ◌≡◌, ◌≢◌, ◌⊎◌, ℕ, ◌+◌, ◌-◌, ◌<◌, ◌≤◌, Bool, true, false, cond, Option, None, Some, Ok, Err, List, [], ◌∷◌, ◌++◌, All, length, get_or, drop, take, refl, inl, inr, ◌==◌, nat_lt, vec_len, length-append, take_all}
use lib.Seq.{get_or-append-add}
use Rattle.std.proofs.lemmas.List.{take_more}
use Rattle.std.proofs.lemmas.List.Elements.{All-nil, All-append, All-more, All-push}
use Rattle.std.proofs.lemmas.Bool.{and_parts, and_from, cases_lt}
use Rattle.std.proofs.lemmas.Bool.Decides.{nat_tests}
use Rattle.std.proofs.KnownBytes.{starts_with_rest, Consumes-nil, Consumes-trans}
use Rattle.std.proofs.Transfers.{StopsAt-append}
use Rattle.std.specs.Global.{Vec}
use Rattle.std.specs.Option.{is_some}
use Rattle.std.specs.Io.{StartsWith, StopsAt, IsEmptyOrEndsWith, appended_bytes}
use Rattle.std.specs.Io.BufRead.{ends_with_byte, strip_last}
use Rattle.std.specs.Io.KnownBytes.{Consumes}
use Rattle.script_lines.specs.Lines.{IsOfRecord, SaysSame}
use Rattle.script_lines.specs.Reading.{Progress, IsUsedUp, IsTaken, IsTooLong, IsOver, IsReadLine, AreTaken, IsOfScript, TakesOf, TakesMore, TellsRoom, Advances, IsSilent, TellsLine, HasEnded, Breaks, HasStopped}
use Rattle.script_lines.specs.declared.line.Line.{Line}
use Rattle.script_lines.specs.declared.line.Line.TheVariants as lines
use Rattle.script_lines.specs.declared.fault.ScriptFault.{ScriptFault}
use Rattle.script_lines.specs.declared.fault.ScriptFault.TheVariants as faults

-- ---- parts of a line

pub read_more : (a b c : Option (List ℕ)) (old new : List ℕ) → Consumes a b old → StartsWith new old → Consumes b c (appended_bytes old new) → Consumes a c new
read_more a b c old new p s q = subst (Consumes a c) (sym (starts_with_rest new old s)) (Consumes-trans a b c old (drop (length old) new) p q)

pub no_break_more : (old new : List ℕ) → All (λ b. b ≢ 10) old → StartsWith new old → All (λ b. b ≢ 10) (appended_bytes old new) → All (λ b. b ≢ 10) new
no_break_more old new h s k = subst (All (λ b. b ≢ 10)) (sym (starts_with_rest new old s)) (All-append (λ b. b ≢ 10) old (drop (length old) new) h k)

pub stops_more : (old new : List ℕ) → All (λ b. b ≢ 10) old → StartsWith new old → StopsAt (appended_bytes old new) 10 → StopsAt new 10
stops_more old new h s k = subst (λ (l : List ℕ). StopsAt l 10) (sym (starts_with_rest new old s)) (StopsAt-append old (drop (length old) new) 10 h k)

used_up_before : (a b c : Option (List ℕ)) (bytes : List ℕ) → Consumes a b bytes → IsUsedUp b c → IsUsedUp a c
used_up_before None b c bytes p u = tt
used_up_before (Some x) None c bytes p u = absurd p
used_up_before (Some x) (Some y) c bytes p u = u

last_behind : (old part : List ℕ) → 0 < length part → get_or part (length part - 1) 0 ≡ 10 → get_or (old ++ part) (length (old ++ part) - 1) 0 ≡ 10
last_behind old part some h =
    let at : length old + (length part - 1) ≡ length (old ++ part) - 1 = omega (arith, some, length-append old part) in
    subst (λ (n : ℕ). get_or (old ++ part) n 0 ≡ 10) at (get_or-append-add old part (length part - 1) 0 ∙ h)

pub read_whole : (a b c : Option (List ℕ)) (old new : List ℕ) → Consumes a b old → All (λ b. b ≢ 10) old → StartsWith new old → StopsAt (appended_bytes old new) 10
    → IsEmptyOrEndsWith (appended_bytes old new) 10 → (length (appended_bytes old new) ≡ 0 → IsUsedUp b c) → IsReadLine a c new
read_whole a b c old new p h s k ends up =
    let part = drop (length old) new in
    record {
      stops = stops_more old new h s k;
      ends = elim (cases_lt 0 (length part)) [
        | inl some ↦ inr (inl (subst (λ (l : List ℕ). (0 < length l) × (get_or l (length l - 1) 0 ≡ 10)) (sym (starts_with_rest new old s)) (omega (arith, some, length-append old part), last_behind old part some (ends some))))
        | inr none ↦ inr (inr (used_up_before a b c old p (up (omega (arith, none)))))
      ];
    }

-- ---- a line

last_is : (xs : List ℕ) → ends_with_byte 10 xs ≡ true → get_or xs (length xs - 1) 0 ≡ 10
last_is xs e = let p = and_parts (nat_lt 0 (length xs)) (get_or xs (length xs - 1) 0 == 10) e in grind (arith, nat_tests, p.1)

is_less : (n : ℕ) → 0 < n → nat_lt 0 n ≡ true
is_less n h = grind (arith, nat_tests)

is_break : (n : ℕ) → n ≡ 10 → (n == 10) ≡ true
is_break n h = grind (arith, nat_tests)

last_isnt : (xs : List ℕ) → 0 < length xs → ends_with_byte 10 xs ≡ false → get_or xs (length xs - 1) 0 ≢ 10
last_isnt xs some e same =
    let t : ends_with_byte 10 xs ≡ true = and_from (nat_lt 0 (length xs)) (get_or xs (length xs - 1) 0 == 10) (is_less (length xs) some) (is_break (get_or xs (length xs - 1) 0) same) in cc

split_last : (xs : List ℕ) → 0 < length xs → get_or xs (length xs - 1) 0 ≡ 10 → xs ≡ take (length xs - 1) xs ++ 10 ∷ []
split_last xs some last =
    sym (take_all (length xs - 1 + 1) xs (omega (arith, some))) ∙ take_more xs (length xs - 1) 0 (omega (arith, some)) ∙ ap (λ (y : ℕ). take (length xs - 1) xs ++ y ∷ []) last

all_of : (xs : List ℕ) → 0 < length xs → StopsAt xs 10 → get_or xs (length xs - 1) 0 ≢ 10 → All (λ b. b ≢ 10) xs
all_of xs some stops last =
    subst (All (λ b. b ≢ 10)) (take_all (length xs - 1 + 1) xs (omega (arith, some))) (All-more (λ b. b ≢ 10) xs (length xs - 1) 0 (omega (arith, some)) stops last)

taken_by : (was is : Progress) (bytes : List ℕ) (b : Bool) → ends_with_byte 10 bytes ≡ b → Consumes was.left is.left bytes → IsReadLine was.left is.left bytes → 0 < length bytes → is.lines ≡ was.lines + 1
    → IsTaken was is (cond b (take (length bytes - 1) bytes) bytes) ⊎ IsTooLong was is (cond b (take (length bytes - 1) bytes) bytes)
taken_by was is bytes true e p line some counts = inl (record { bytes = bytes; consumes = p; no_break = line.stops; ends = inl (split_last bytes some (last_is bytes e)); counts = counts })
taken_by was is bytes false e p line some counts =
    let last = last_isnt bytes some e in
    let all = all_of bytes some line.stops last in
    elim line.ends [
      | inl long ↦ inr (record { long = long; no_break = all; consumes = p; counts = counts })
      | inr q ↦ elim q [ inl broken ↦ absurd (last broken.1) | inr up ↦ inl (record { bytes = bytes; consumes = p; no_break = all; ends = inr (refl, some, up); counts = counts }) ]
    ]

pub taken : (was is : Progress) (bytes text : List ℕ) → Consumes was.left is.left bytes → IsReadLine was.left is.left bytes → 0 < length bytes → text ≡ strip_last 10 bytes → is.lines ≡ was.lines + 1 → IsTaken was is text ⊎ IsTooLong was is text
taken was is bytes text p line some e counts = subst (λ (t : List ℕ). IsTaken was is t ⊎ IsTooLong was is t) (sym e) (taken_by was is bytes (ends_with_byte 10 bytes) refl p line some counts)

pub some_bytes : (v : Vec ℕ) → false ≡ (vec_len v == 0) → 0 < length v.items
some_bytes v t = let counted = v.ok.0 in grind (arith, nat_tests)

pub advanced : (was is : Progress) (text : List ℕ) (more : Bool) → more ≡ true → Advances was is text (Ok more) → IsTaken was is text ⊎ IsTooLong was is text
advanced was is text more e told = let Told : Bool → Type 0 = λ b. Advances was is text (Ok b) in subst Told e told

-- ---- lines, one after another

-- lines that say nothing were taken
pub record HasPassed (was mid : Progress) : Type 0 where
  pub silent : List (List ℕ)
  pub each : All IsSilent silent
  pub before : AreTaken was silent mid

pub passed_none : (was : Progress) → HasPassed was was
passed_none was = record { silent = []; each = All-nil IsSilent; before = AreTaken.none }

is_taken : (mid is : Progress) (text : List ℕ) → IsTaken mid is text ⊎ IsTooLong mid is text → length text ≤ 300000 → IsTaken mid is text
is_taken mid is text t short = elim t [ inl h ↦ h | inr h ↦ absurd (omega (arith, short, h.long)) ]

consumed : (mid is : Progress) (text : List ℕ) → IsTaken mid is text ⊎ IsTooLong mid is text → (part : List ℕ) × Consumes mid.left is.left part
consumed mid is text t = elim t [ inl h ↦ (h.bytes, h.consumes) | inr h ↦ (text, h.consumes) ]

pub passed_more : (was mid is : Progress) (text : List ℕ) → HasPassed was mid → IsTaken mid is text ⊎ IsTooLong mid is text → IsSilent text → HasPassed was is
passed_more was mid is text h t s = record { silent = h.silent ++ text ∷ []; each = All-push IsSilent h.silent text h.each s; before = AreTaken.more text h.before (is_taken mid is text t s.short) }

pub no_line : (of_desk : Bool) (number : ℕ) (text : List ℕ) (found : Option Line) → false ≡ is_some found → TellsLine of_desk number text (Ok found) → IsSilent text
no_line of_desk number text None e told = told
no_line of_desk number text (Some line) e told = let same : false ≡ true = e in cc

pub ended : (was mid is : Progress) → HasPassed was mid → IsOver mid is → HasEnded was is
ended was mid is h over = record { silent = h.silent; each = h.each; mid = mid; before = h.before; over = over }

stopped : (of_desk : Bool) (was mid is : Progress) (fault : ScriptFault) → HasPassed was mid → Breaks of_desk mid is fault → HasStopped of_desk was is fault
stopped of_desk was mid is fault h b = record { silent = h.silent; each = h.each; mid = mid; before = h.before; breaks = b }

pub stopped_line : (of_desk : Bool) (was mid is : Progress) (text : List ℕ) (fault : ScriptFault) → HasPassed was mid → IsTaken mid is text ⊎ IsTooLong mid is text → TellsLine of_desk is.lines text (Err fault) → HasStopped of_desk was is fault
stopped_line of_desk was mid is text (faults.BadCommand number) h t k = stopped of_desk was mid is (faults.BadCommand number) h (subst (λ (n : ℕ). Breaks of_desk mid is (faults.BadCommand n)) (sym k.0) (Breaks.refused text k.1 t))
stopped_line of_desk was mid is text faults.Read h t k = absurd k
stopped_line of_desk was mid is text faults.TooLong h t k = absurd k
stopped_line of_desk was mid is text faults.NoMemory h t k = let p = consumed mid is text t in stopped of_desk was mid is faults.NoMemory h (Breaks.no_memory p.0 p.1)

pub stopped_read : (of_desk : Bool) (was mid is : Progress) (fault : ScriptFault) → HasPassed was mid → (part : List ℕ) × Consumes mid.left is.left part → IsOfScript fault → HasStopped of_desk was is fault
stopped_read of_desk was mid is (faults.BadCommand number) h p k = absurd k
stopped_read of_desk was mid is faults.Read h p k = stopped of_desk was mid is faults.Read h (Breaks.unread p.0 p.1)
stopped_read of_desk was mid is faults.TooLong h p k = stopped of_desk was mid is faults.TooLong h (Breaks.too_much p.0 p.1)
stopped_read of_desk was mid is faults.NoMemory h p k = stopped of_desk was mid is faults.NoMemory h (Breaks.no_memory p.0 p.1)

pub stopped_after : (of_desk : Bool) (was is : Progress) → HasPassed was is → HasStopped of_desk was is faults.Read
stopped_after of_desk was is h = stopped of_desk was is is faults.Read h (Breaks.unread [] (Consumes-nil is.left))

-- ---- the bytes that may come

pub takes_none : (before : ℕ) (was : Option (List ℕ)) → TakesOf before before was was
takes_none before was = ([], Consumes-nil was, omega arith)

pub takes_both : (before mid now : ℕ) (a b c : Option (List ℕ)) → TakesOf before mid a b → TakesOf mid now b c → TakesOf before now a c
takes_both before mid now a b c p q = (p.0 ++ q.0, Consumes-trans a b c p.0 q.0 p.1 q.1, omega (arith, length-append p.0 q.0, p.2, q.2))

takes_more : (before mid : ℕ) (a b c : Option (List ℕ)) → TakesOf before mid a b → TakesMore mid b c → TakesMore before a c
takes_more before mid a b c p q = (p.0 ++ q.0, Consumes-trans a b c p.0 q.0 p.1 q.1, omega (arith, length-append p.0 q.0, p.2, q.2))

-- after lines that say nothing: the next line wasn't had, or it is refused
pub told_behind : (A : Type 0) (before mid now : ℕ) (a b c : Option (List ℕ)) (fault : ScriptFault) → TakesOf before mid a b → TellsRoom {A = Bool} mid now b c (Err fault) → TellsRoom {A = A} before now a c (Err fault)
told_behind A before mid now a b c (faults.BadCommand number) p q = takes_both before mid now a b c p q
told_behind A before mid now a b c faults.Read p q = tt
told_behind A before mid now a b c faults.TooLong p q = takes_more before mid a b c p q
told_behind A before mid now a b c faults.NoMemory p q = tt

pub told_of_line : (A : Type 0) (before mid now : ℕ) (a b c : Option (List ℕ)) (of_desk : Bool) (number : ℕ) (text : List ℕ) (fault : ScriptFault) → TakesOf before mid a b → TakesOf mid now b c
    → TellsLine of_desk number text (Err fault) → TellsRoom {A = A} before now a c (Err fault)
told_of_line A before mid now a b c of_desk number text (faults.BadCommand bad) p q k = takes_both before mid now a b c p q
told_of_line A before mid now a b c of_desk number text faults.Read p q k = tt
told_of_line A before mid now a b c of_desk number text faults.TooLong p q k = absurd k
told_of_line A before mid now a b c of_desk number text faults.NoMemory p q k = tt

-- ---- lines that say the same stand in the same scripts

pub of_record : (a b : Line) → SaysSame a b → IsOfRecord b → IsOfRecord a
of_record (lines.Bytes file bytes) b s k = subst (λ (l : Line). IsOfRecord l) s.1 k
of_record (lines.Put entry) b s k = subst (λ (l : Line). IsOfRecord l) s.1 k
of_record (lines.AtDesk line) b s k = tt
of_record (lines.Store n) b s k = subst (λ (l : Line). IsOfRecord l) s k
of_record (lines.Fuse n) b s k = subst (λ (l : Line). IsOfRecord l) s k
of_record (lines.FailOnce n) b s k = subst (λ (l : Line). IsOfRecord l) s k
of_record (lines.CreateFile n) b s k = subst (λ (l : Line). IsOfRecord l) s k
of_record (lines.ResumeFile n) b s k = subst (λ (l : Line). IsOfRecord l) s k
of_record (lines.CreateWrap n m) b s k = subst (λ (l : Line). IsOfRecord l) s k
of_record (lines.CreateTime n m) b s k = subst (λ (l : Line). IsOfRecord l) s k
of_record lines.ResumeWrap b s k = subst (λ (l : Line). IsOfRecord l) s k
of_record lines.Flush b s k = subst (λ (l : Line). IsOfRecord l) s k
of_record lines.Seal b s k = subst (λ (l : Line). IsOfRecord l) s k
of_record (lines.Tick n) b s k = subst (λ (l : Line). IsOfRecord l) s k
of_record lines.Abandon b s k = subst (λ (l : Line). IsOfRecord l) s k
of_record lines.Close b s k = subst (λ (l : Line). IsOfRecord l) s k
of_record (lines.Crash u) b s k = subst (λ (l : Line). IsOfRecord l) s k
of_record lines.Desk b s k = subst (λ (l : Line). IsOfRecord l) s k
of_record lines.Files b s k = subst (λ (l : Line). IsOfRecord l) s k
of_record lines.List b s k = subst (λ (l : Line). IsOfRecord l) s k
of_record lines.Wipe b s k = subst (λ (l : Line). IsOfRecord l) s k
