-- What is known of bytes that have come is known of these and more.
use Rattle.std.proofs.Common.{◌≡◌, inl, inr, ℕ, ◌+◌, ◌<◌, ◌≤◌, List, [], ◌∷◌, ◌++◌, length, take, drop, sym, ◌∙◌, ap, subst, arith, length-append, length-take, length-drop}
use Rattle.std.specs.Prelude.{Option}
use Rattle.std.specs.Io.KnownBytes.{Consumes}
use Rattle.std.proofs.KnownBytes.{Consumes-trans}
use Rattle.std.proofs.lemmas.List.{take-append-le, drop-append-le, get_or_append_left}
use Rattle.entry_codec.specs.Outcomes.{HasHead, IsBadOp}
use Rattle.prepared_requests.specs.Ahead.{BeginsNone, BeginsMessage, BeginsDrop, IsUnbegun, none_first, drop_alone, IsNever, no_entry, no_message, too_long, none_behind, NeverFollow, never_entry, never_message, never_behind, NoneBefore}

-- a head has five bytes
pub head_length : (op n : ℕ) (bytes : List ℕ) → HasHead op n bytes → 5 ≤ length bytes
head_length op n bytes h = let e : length (take 5 bytes) ≡ 5 = ap (λ (l : List ℕ). length l) h in omega (arith, e, length-take 5 bytes)

head_stays : (op n : ℕ) (bytes more : List ℕ) → HasHead op n bytes → HasHead op n (bytes ++ more)
head_stays op n bytes more h = take-append-le 5 bytes more (head_length op n bytes h) ∙ h

longer : (n : ℕ) (bytes more : List ℕ) → n ≤ length bytes → n ≤ length (bytes ++ more)
longer n bytes more h = omega (arith, h, length-append bytes more)

bad_op_stays : (bytes more : List ℕ) → IsBadOp bytes → IsBadOp (bytes ++ more)
bad_op_stays [] more h = absurd (omega (arith, h.some))
bad_op_stays (op ∷ rest) more h = record { some = omega arith; op = h.op }

pub none_stays : (bytes more : List ℕ) → BeginsNone bytes → BeginsNone (bytes ++ more)
none_stays bytes more (inl h) = inl (bad_op_stays bytes more h)
none_stays bytes more (inr (inl h)) = inr (inl (head_stays 1 0 bytes more h))
none_stays bytes more (inr (inr (inl h))) = inr (inr (inl (head_stays 0 0 bytes more h)))
none_stays bytes more (inr (inr (inr (came, op, other)))) =
    inr (inr (inr (longer 6 bytes more came, get_or_append_left bytes more 0 0 (omega (arith, came)) ∙ op, λ e. other (sym (get_or_append_left bytes more 0 5 came) ∙ e))))

message_stays : (size : ℕ) (bytes more : List ℕ) → BeginsMessage size bytes → BeginsMessage size (bytes ++ more)
message_stays size bytes more h = record {
  some = h.some;
  fits = h.fits;
  head = head_stays 0 size bytes more h.head;
  came = longer 6 bytes more h.came;
  first = get_or_append_left bytes more 0 5 h.came ∙ h.first;
}

drop_stays : (bytes more : List ℕ) → BeginsDrop bytes → BeginsDrop (bytes ++ more)
drop_stays bytes more h = record { count = h.count; some = h.some; fits = h.fits; head = head_stays 1 h.count bytes more h.head }

-- the same of the bytes behind a place
behind_stays : (P : List ℕ → Type 0) (n : ℕ) (bytes more : List ℕ) → n ≤ length bytes → ((l : List ℕ) → P l → P (l ++ more)) → P (drop n bytes) → P (drop n (bytes ++ more))
behind_stays P n bytes more within stays h = subst P (sym (drop-append-le n bytes more within)) (stays (drop n bytes) h)

unbegun_stays : (bytes more : List ℕ) → IsUnbegun bytes → IsUnbegun (bytes ++ more)
unbegun_stays bytes more (none_first h) = none_first (none_stays bytes more h)
unbegun_stays bytes more (drop_alone d h) = drop_alone (drop_stays bytes more d) (behind_stays BeginsNone 5 bytes more (head_length 1 d.count bytes d.head) (λ l. none_stays l more) h)

never_whole_stays : (longest : ℕ) (bytes more : List ℕ) → IsNever longest bytes → IsNever longest (bytes ++ more)
never_whole_stays longest bytes more (no_entry h) = no_entry (none_stays bytes more h)
never_whole_stays longest bytes more (no_message h) = no_message (drop_stays bytes more h)
never_whole_stays longest bytes more (too_long size h long) = too_long size (message_stays size bytes more h) long
never_whole_stays longest bytes more (none_behind size h whole behind) =
    none_behind size (message_stays size bytes more h) (longer (5 + size) bytes more whole) (behind_stays IsUnbegun (5 + size) bytes more whole (λ l. unbegun_stays l more) behind)

never_stays : (longest : ℕ) (bytes more : List ℕ) → NeverFollow longest bytes → NeverFollow longest (bytes ++ more)
never_stays longest bytes more (never_entry h) = never_entry (none_stays bytes more h)
never_stays longest bytes more (never_message size b h) = never_message size (message_stays size bytes more b) (never_whole_stays longest bytes more h)
never_stays longest bytes more (never_behind d h) =
    never_behind (drop_stays bytes more d) (behind_stays (IsNever longest) 5 bytes more (head_length 1 d.count bytes d.head) (λ l. never_whole_stays longest l more) h)

pub none_before_stays : (longest to : ℕ) (bytes more : List ℕ) → to ≤ length bytes → NoneBefore longest to bytes → NoneBefore longest to (bytes ++ more)
none_before_stays longest to bytes more within h = record {
  unbegun = unbegun_stays bytes more h.unbegun;
  none = λ p some before. behind_stays (NeverFollow longest) p bytes more (omega (arith, within, before)) (λ l. never_stays longest l more) (h.none p some before);
}

-- where so many bytes are passed over first
pub none_before_read : (longest start to : ℕ) (bytes more : List ℕ) → to ≤ length (drop start bytes) → NoneBefore longest to (drop start bytes) → 0 < to → NoneBefore longest to (drop start (bytes ++ more))
none_before_read longest start to bytes more within h some =
    let room : start ≤ length bytes = omega (arith, within, some, length-drop start bytes) in
    subst (NoneBefore longest to) (sym (drop-append-le start bytes more room)) (none_before_stays longest to (drop start bytes) more within h)

pub still_within : (start to : ℕ) (bytes more : List ℕ) → to ≤ length (drop start bytes) → to ≤ length (drop start (bytes ++ more))
still_within start to bytes more h = omega (arith, h, length-drop start bytes, length-drop start (bytes ++ more), length-append bytes more)

-- what two reads gave was consumed by both
pub read_further : (first mid last : Option (List ℕ)) (old chunk new : List ℕ) → Consumes first mid old → Consumes mid last chunk → new ≡ old ++ chunk → Consumes first last new
read_further first mid last old chunk new one two e = subst (Consumes first last) (sym e) (Consumes-trans first mid last old chunk one two)
