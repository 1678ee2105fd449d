-- The kind that is found is the kind by the table, both ways.
use Rattle.std.proofs.Common.{◌≡◌, ◌↔◌, ℕ, ℤ, Bool, true, false, ◌&&◌, ◌||◌, cond, List, [], ◌∷◌, ◌++◌, Option, Some, None, refl, sym, ap, ◌∙◌}
use Rattle.std.specs.Cmp.Lexicographic.{bytes_decides}
use Rattle.std.specs.Str.{bytes_eq}
use Rattle.trace_terms.specs.declared.term.Pid.{Pid}
use Rattle.trace_terms.specs.Data.{Data, int, atom, pid, tuple, list, binary, Members, no_members, member}
use Rattle.trace_message.specs.declared.event.Flags.{Flags}
use Rattle.trace_message.specs.declared.event.Stamp.{Stamp}
use Rattle.trace_message.specs.declared.seen.Seen.{Seen}
use Rattle.trace_message.specs.declared.seen.Seen.TheVariants as kinds
use Rattle.trace_message.specs.declared.word.Word.{Word}
use Rattle.trace_message.specs.declared.word.Word.TheVariants.{Trace, TraceTs, Call, ReturnFrom, ExceptionFrom, Send, SendToNonExistingProcess, Receive}
use Rattle.trace_message.specs.Events as events
use Rattle.trace_message.specs.Events.{EventData}
use Rattle.trace_message.specs.Kinds.{IsRow, moment, monotonic, IsMessage, plain, stamped, calls, calls_with_arity, returns, raises, sends, sends_lost, receives, seen_of}
use Rattle.trace_message.specs.Messages.{called_with, row_of, told_by, is_asked, message_of}
use Rattle.trace_message.specs.Shapes.{list_of, is_atom, is_int, is_list, is_function, is_reason, is_call, is_return, is_exception, is_stamp, kind_behind, row_kind, stamped_row_kind, kind_under, parts_kind, kind_of}
use Rattle.trace_message.specs.Rows.{is_one, is_two, front_of, ends_with, only_if}
use Rattle.trace_message.specs.Tuples.{tuple_of, pair_of, triple_of, function_of}
use Rattle.trace_message.specs.Words.{text_of, word_named}
use Rattle.trace_message.proofs.ShapeLemmas.{list_of-members_of, members_of-list_of, both, atom_is, int_is, is_stamp_of, ends_is}
use Rattle.trace_message.proofs.RowLemmas.{stamped-snoc}

-- ---- words

named_or : (text : List ℕ) (v w : Word) (other : Option Word) (b : Bool) → bytes_eq text (text_of v) ≡ b → cond b (Some v) other ≡ Some w → (other ≡ Some w → text ≡ text_of w) → text ≡ text_of w
named_or text v w other true is e otherwise =
    let same : v ≡ w = cc in
    (bytes_decides text (text_of v)).0 is ∙ ap text_of same
named_or text v w other false is e otherwise = otherwise e

pub word_named-is : (text : List ℕ) (w : Word) → word_named text ≡ Some w → text ≡ text_of w
unfolding word_named
word_named-is text w e =
    named_or text Trace w _ _ refl e (λ e1.
    named_or text TraceTs w _ _ refl e1 (λ e2.
    named_or text Call w _ _ refl e2 (λ e3.
    named_or text ReturnFrom w _ _ refl e3 (λ e4.
    named_or text ExceptionFrom w _ _ refl e4 (λ e5.
    named_or text Send w _ _ refl e5 (λ e6.
    named_or text SendToNonExistingProcess w _ _ refl e6 (λ e7.
    named_or text Receive w _ _ refl e7 (λ e8. absurd cc))))))))

-- ---- rows, as they are found

only : (test : Bool) (k seen : Seen) → only_if test k ≡ Some seen → (test ≡ true) × (k ≡ seen)
only true k seen e = (refl, cc)
only false k seen e = absurd cc

called_row : (m f : List ℕ) (c : Data) → (is_list c || is_int c) ≡ true → IsRow kinds.Call (atom (text_of Call) ∷ triple_of (atom m) (atom f) c ∷ [])
called_row m f (list args) e = calls m f args
called_row m f (int n) e = calls_with_arity m f n
called_row m f (atom text) e = absurd cc
called_row m f (pid p) e = absurd cc
called_row m f (tuple ts) e = absurd cc
called_row m f (binary bytes) e = absurd cc

call_row : (row : List Data) → is_call row ≡ true → IsRow kinds.Call (atom (text_of Call) ∷ row)
call_row (tuple (member a (member b (member c no_members))) ∷ []) e =
    let h = both (is_atom a) (is_atom b && (is_list c || is_int c)) e in
    let k = both (is_atom b) (is_list c || is_int c) h.1 in
    let x = atom_is a h.0 in
    let y = atom_is b k.0 in
    let q : tuple (member a (member b (member c no_members))) ≡ triple_of (atom x.0) (atom y.0) c = cc (x.1, y.1) in
    rw q (called_row x.0 y.0 c k.1)
call_row (tuple no_members ∷ []) e = absurd cc
call_row (tuple (member a no_members) ∷ []) e = absurd cc
call_row (tuple (member a (member b no_members)) ∷ []) e = absurd cc
call_row (tuple (member a (member b (member c (member d ts)))) ∷ []) e = absurd cc
call_row [] e = absurd cc
call_row (int n ∷ row) e = absurd cc
call_row (atom text ∷ row) e = absurd cc
call_row (pid p ∷ row) e = absurd cc
call_row (list ts ∷ row) e = absurd cc
call_row (binary bytes ∷ row) e = absurd cc
call_row (tuple ts ∷ u ∷ us) e = absurd cc

-- {M,F,Arity}
function_is : (ts : Members) → is_function (list_of ts) ≡ true → (m : List ℕ) × ((f : List ℕ) × ((n : ℤ) × (tuple ts ≡ triple_of (atom m) (atom f) (int n))))
function_is (member a (member b (member c no_members))) e =
    let h = both (is_atom a) (is_atom b && is_int c) e in
    let k = both (is_atom b) (is_int c) h.1 in
    let x = atom_is a h.0 in
    let y = atom_is b k.0 in
    let z = int_is c k.1 in
    (x.0, (y.0, (z.0, cc (x.1, y.1, z.1))))
function_is no_members e = absurd cc
function_is (member a no_members) e = absurd cc
function_is (member a (member b no_members)) e = absurd cc
function_is (member a (member b (member c (member d ts)))) e = absurd cc

-- {Class,Value}
reason_is : (ts : Members) → is_reason (list_of ts) ≡ true → (class : List ℕ) × ((value : Data) × (tuple ts ≡ pair_of (atom class) value))
reason_is (member a (member b no_members)) e =
    let x = atom_is a e in
    (x.0, (b, cc x.1))
reason_is no_members e = absurd cc
reason_is (member a no_members) e = absurd cc
reason_is (member a (member b (member c ts))) e = absurd cc

return_row : (row : List Data) → is_return row ≡ true → IsRow kinds.Return (atom (text_of ReturnFrom) ∷ row)
return_row (tuple ts ∷ value ∷ []) e =
    let h = function_is ts e in
    rw h.1.1.1 (returns h.0 h.1.0 h.1.1.0 value)
return_row [] e = absurd cc
return_row (int n ∷ row) e = absurd cc
return_row (atom text ∷ row) e = absurd cc
return_row (pid p ∷ row) e = absurd cc
return_row (list ts ∷ row) e = absurd cc
return_row (binary bytes ∷ row) e = absurd cc
return_row (tuple ts ∷ []) e = absurd cc
return_row (tuple ts ∷ u ∷ v ∷ us) e = absurd cc

exception_row : (row : List Data) → is_exception row ≡ true → IsRow kinds.Exception (atom (text_of ExceptionFrom) ∷ row)
exception_row (tuple ts ∷ tuple us ∷ []) e =
    let k = both (is_function (list_of ts)) (is_reason (list_of us)) e in
    let h = function_is ts k.0 in
    let r = reason_is us k.1 in
    rw (h.1.1.1, r.1.1) (raises h.0 h.1.0 h.1.1.0 r.0 r.1.0)
exception_row [] e = absurd cc
exception_row (int n ∷ row) e = absurd cc
exception_row (atom text ∷ row) e = absurd cc
exception_row (pid p ∷ row) e = absurd cc
exception_row (list ts ∷ row) e = absurd cc
exception_row (binary bytes ∷ row) e = absurd cc
exception_row (tuple ts ∷ []) e = absurd cc
exception_row (tuple ts ∷ int n ∷ us) e = absurd cc
exception_row (tuple ts ∷ atom text ∷ us) e = absurd cc
exception_row (tuple ts ∷ pid p ∷ us) e = absurd cc
exception_row (tuple ts ∷ list vs ∷ us) e = absurd cc
exception_row (tuple ts ∷ binary bytes ∷ us) e = absurd cc
exception_row (tuple ts ∷ tuple us ∷ v ∷ vs) e = absurd cc

send_row : (row : List Data) → is_two row ≡ true → IsRow kinds.Send (atom (text_of Send) ∷ row)
send_row (a ∷ b ∷ []) e = sends a b
send_row [] e = absurd cc
send_row (a ∷ []) e = absurd cc
send_row (a ∷ b ∷ c ∷ row) e = absurd cc

send_lost_row : (row : List Data) → is_two row ≡ true → IsRow kinds.SendLost (atom (text_of SendToNonExistingProcess) ∷ row)
send_lost_row (a ∷ b ∷ []) e = sends_lost a b
send_lost_row [] e = absurd cc
send_lost_row (a ∷ []) e = absurd cc
send_lost_row (a ∷ b ∷ c ∷ row) e = absurd cc

receive_row : (row : List Data) → is_one row ≡ true → IsRow kinds.Receive (atom (text_of Receive) ∷ row)
receive_row (a ∷ []) e = receives a
receive_row [] e = absurd cc
receive_row (a ∷ b ∷ row) e = absurd cc

-- what stands after a word
behind : (w : Word) (row : List Data) (seen : Seen) → kind_behind (Some w) row ≡ Some seen → IsRow seen (atom (text_of w) ∷ row)
behind Trace row seen e = absurd cc
behind TraceTs row seen e = absurd cc
behind Call row seen e = let h = only (is_call row) kinds.Call seen e in rw (← h.1) (call_row row h.0)
behind ReturnFrom row seen e = let h = only (is_return row) kinds.Return seen e in rw (← h.1) (return_row row h.0)
behind ExceptionFrom row seen e = let h = only (is_exception row) kinds.Exception seen e in rw (← h.1) (exception_row row h.0)
behind Send row seen e = let h = only (is_two row) kinds.Send seen e in rw (← h.1) (send_row row h.0)
behind SendToNonExistingProcess row seen e = let h = only (is_two row) kinds.SendLost seen e in rw (← h.1) (send_lost_row row h.0)
behind Receive row seen e = let h = only (is_one row) kinds.Receive seen e in rw (← h.1) (receive_row row h.0)

behind_text : (text : List ℕ) (w : Option Word) (row : List Data) (seen : Seen) → word_named text ≡ w → kind_behind w row ≡ Some seen → IsRow seen (atom text ∷ row)
behind_text text None row seen is e = absurd cc
behind_text text (Some w) row seen is e = rw (word_named-is text w is) (behind w row seen e)

row_sound : (row : List Data) (seen : Seen) → row_kind row ≡ Some seen → IsRow seen row
row_sound (atom text ∷ row) seen e = behind_text text (word_named text) row seen refl e
row_sound [] seen e = absurd cc
row_sound (int n ∷ row) seen e = absurd cc
row_sound (pid p ∷ row) seen e = absurd cc
row_sound (tuple ts ∷ row) seen e = absurd cc
row_sound (list ts ∷ row) seen e = absurd cc
row_sound (binary bytes ∷ row) seen e = absurd cc

-- ---- terms, as they are found

stamped_if : (p : Pid) (row : List Data) (seen : Seen) (b : Bool) → ends_with is_stamp row ≡ b → cond b (row_kind (front_of row)) None ≡ Some seen → IsMessage seen (tuple_of (atom (text_of TraceTs) ∷ pid p ∷ row))
stamped_if p row seen true is e =
    let h = ends_is row is in
    rw h.1.1 (stamped seen p (front_of row) h.0 (row_sound (front_of row) seen e) h.1.0)
stamped_if p row seen false is e = absurd cc

under : (head : List ℕ) (w : Option Word) (p : Pid) (row : List Data) (seen : Seen) → word_named head ≡ w → kind_under w row ≡ Some seen → IsMessage seen (tuple_of (atom head ∷ pid p ∷ row))
under head (Some Trace) p row seen is e = rw (word_named-is head Trace is) (plain seen p row (row_sound row seen e))
under head (Some TraceTs) p row seen is e = rw (word_named-is head TraceTs is) (stamped_if p row seen (ends_with is_stamp row) refl e)
under head (Some Call) p row seen is e = absurd cc
under head (Some ReturnFrom) p row seen is e = absurd cc
under head (Some ExceptionFrom) p row seen is e = absurd cc
under head (Some Send) p row seen is e = absurd cc
under head (Some SendToNonExistingProcess) p row seen is e = absurd cc
under head (Some Receive) p row seen is e = absurd cc
under head None p row seen is e = absurd cc

parts_sound : (ts : List Data) (seen : Seen) → parts_kind ts ≡ Some seen → IsMessage seen (tuple_of ts)
parts_sound (atom head ∷ pid p ∷ row) seen e = under head (word_named head) p row seen refl e
parts_sound [] seen e = absurd cc
parts_sound (int n ∷ ts) seen e = absurd cc
parts_sound (pid p ∷ ts) seen e = absurd cc
parts_sound (tuple us ∷ ts) seen e = absurd cc
parts_sound (list us ∷ ts) seen e = absurd cc
parts_sound (binary bytes ∷ ts) seen e = absurd cc
parts_sound (atom head ∷ []) seen e = absurd cc
parts_sound (atom head ∷ int n ∷ ts) seen e = absurd cc
parts_sound (atom head ∷ atom text ∷ ts) seen e = absurd cc
parts_sound (atom head ∷ tuple us ∷ ts) seen e = absurd cc
parts_sound (atom head ∷ list us ∷ ts) seen e = absurd cc
parts_sound (atom head ∷ binary bytes ∷ ts) seen e = absurd cc

sound : (t : Data) (seen : Seen) → kind_of t ≡ Some seen → IsMessage seen t
sound (tuple ts) seen e = rw (← members_of-list_of ts) (parts_sound (list_of ts) seen e)
sound (int n) seen e = absurd cc
sound (atom text) seen e = absurd cc
sound (pid p) seen e = absurd cc
sound (list ts) seen e = absurd cc
sound (binary bytes) seen e = absurd cc

-- ---- what is of a kind is found

row_complete : (seen : Seen) (row : List Data) → IsRow seen row → row_kind row ≡ Some seen
unfolding word_named
row_complete _ _ (calls m f args) = refl
row_complete _ _ (calls_with_arity m f n) = refl
row_complete _ _ (returns m f n value) = refl
row_complete _ _ (raises m f n class value) = refl
row_complete _ _ (sends msg target) = refl
row_complete _ _ (sends_lost msg target) = refl
row_complete _ _ (receives msg) = refl

plain_complete : (row : List Data) → kind_under (word_named (text_of Trace)) row ≡ row_kind row
unfolding word_named
plain_complete row = refl

stamped_complete : (row : List Data) → kind_under (word_named (text_of TraceTs)) row ≡ stamped_row_kind row
unfolding word_named
stamped_complete row = refl

complete : (seen : Seen) (t : Data) → IsMessage seen t → kind_of t ≡ Some seen
complete _ _ (plain seen p row h) =
    rw (list_of-members_of row) (plain_complete row ∙ row_complete seen row h)
complete _ _ (stamped seen p row stamp h is) =
    rw (list_of-members_of (row ++ stamp ∷ [])) (stamped_complete (row ++ stamp ∷ []) ∙ stamped-snoc is_stamp row_kind row stamp ∙ ap (λ b. cond b (row_kind row) None) (is_stamp_of stamp is) ∙ row_complete seen row h)

pub kind_is : (t : Data) (seen : Seen) → (kind_of t ≡ Some seen) ↔ IsMessage seen t
kind_is t seen = (sound t seen, complete seen t)

-- each term is of some kind, or of none
pub some_kind : (t : Data) → (found : Option Seen) × ((seen : Seen) → (found ≡ Some seen) ↔ IsMessage seen t)
some_kind t = (kind_of t, kind_is t)

-- what is found of a tuple's members
pub found_of_parts : (ts : List Data) (t : Data) (found : Option Seen) → found ≡ parts_kind ts → t ≡ tuple_of ts → found ≡ kind_of t
found_of_parts ts t found is same = is ∙ ap parts_kind (sym (list_of-members_of ts)) ∙ ap kind_of (sym same)

pub kind_found : (t : Data) (found : Option Seen) → found ≡ kind_of t → (seen : Seen) → (found ≡ Some seen) ↔ IsMessage seen t
kind_found t found is seen = rw is (kind_is t seen)

-- no kind fits exactly where none is found
none_is : (t : Data) (found : Option Seen) → kind_of t ≡ found → (found ≡ None) ↔ ((seen : Seen) → IsMessage seen t → ⊥)
none_is t None e = (λ _. λ seen h. let f = complete seen t h in cc, λ _. refl)
none_is t (Some seen) e = (λ f. absurd cc, λ no. absurd (no seen (sound t seen e)))

pub none_found : (t : Data) (found : Option Seen) → found ≡ kind_of t → (found ≡ None) ↔ ((seen : Seen) → IsMessage seen t → ⊥)
none_found t found is = rw is (none_is t (kind_of t) refl)

pub one_kind : (t : Data) (a b : Seen) → IsMessage a t → IsMessage b t → a ≡ b
one_kind t a b h k =
    let e = complete a t h in
    let f = complete b t k in
    cc

-- ---- messages of events

called : (flags : Flags) (m f : List ℕ) (args : List Data) (b : Bool) → flags.arity ≡ b → IsRow kinds.Call (atom (text_of Call) ∷ function_of m f (called_with flags args) ∷ [])
called flags m f args true is = rw is (calls_with_arity m f _)
called flags m f args false is = rw is (calls m f _)

row_is : (flags : Flags) (event : EventData) → IsRow (seen_of event) (row_of flags event)
row_is flags (events.call m f args) = called flags m f args flags.arity refl
row_is flags (events.return_from m f arity value) = returns m f _ value
row_is flags (events.exception_from m f arity class value) = raises m f _ class value
row_is flags (events.send msg target) = sends msg target
row_is flags (events.send_lost msg target) = sends_lost msg target
row_is flags (events.receive msg) = receives msg

told_is : (seen : Seen) (flags : Flags) (p : Pid) (stamp : Stamp) (row : List Data) (a b : Bool) → flags.timestamp ≡ a → flags.monotonic ≡ b → IsRow seen row → IsMessage seen (told_by flags p stamp row)
told_is seen flags p stamp row true b first second h = rw first (stamped seen p row _ h (moment _ _ _))
told_is seen flags p stamp row false true first second h = rw (first, second) (stamped seen p row _ h (monotonic _))
told_is seen flags p stamp row false false first second h = rw (first, second) (plain seen p row h)

asked : (b : Bool) (t u : Data) → cond b (Some t) None ≡ Some u → t ≡ u
asked true t u e = cc
asked false t u e = absurd cc

-- the message of an event is of the event's kind
pub message_kind : (event : EventData) (p : Pid) (flags : Flags) (stamp : Stamp) (t : Data) → message_of event p flags stamp ≡ Some t → IsMessage (seen_of event) t
message_kind event p flags stamp t e =
    let row = row_of flags event in
    let same = asked (is_asked flags event) (told_by flags p stamp row) t e in
    rw (← same) (told_is (seen_of event) flags p stamp row flags.timestamp flags.monotonic refl refl (row_is flags event))
