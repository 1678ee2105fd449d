-- What is seen at the front of bytes, and from their places on.
use Rattle.std.proofs.Common.{◌≡◌, ◌⊎◌, inl, inr, ℕ, ◌+◌, ◌-◌, ◌<◌, ◌≤◌, Bool, true, false, List, [], length, take, drop, refl, sym, ◌∙◌, subst, arith}
use Rattle.std.proofs.lemmas.Bool.{cases_lt}
use Rattle.std.proofs.lemmas.List.{take_rest}
use Rattle.prepared_requests.specs.Ahead.{BeginsMessage, BeginsDrop, HasFront, MayBegin, cut_short, with_message, with_drop, SeesBegin, IsBegun, SeesWhole, SeesEntries, Follow, a_message, a_drop, NeverFollow, never_message, never_behind, MayFollow, may_message, may_behind, NoneBetween, NoneBefore, NoneWhole, IsAhead, found}
use Rattle.prepared_requests.specs.declared.ahead_scan.Front.{Front}
use Rattle.prepared_requests.specs.declared.ahead_scan.Front.TheVariants as fronts
use Rattle.prepared_requests.specs.declared.ahead_scan.Sight.{Sight}
use Rattle.prepared_requests.specs.declared.ahead_scan.Sight.TheVariants as sights

-- the rest of some bytes from a place on, as the code has it
abbrev pub rest_of : List ℕ → ℕ → List ℕ
rest_of bytes place = take (length bytes - place) (drop place bytes)

-- what isn't known to begin no entry may begin one
pub may_begin : (f : Front) (bytes : List ℕ) → HasFront f bytes → (f ≡ fronts.Bad → ⊥) → MayBegin bytes
may_begin fronts.Cut bytes h not = cut_short h
may_begin fronts.Bad bytes h not = absurd (not refl)
may_begin (fronts.Message size) bytes h not = with_message size h
may_begin fronts.Drop bytes h not = with_drop h

pub may_begin_rest : (f : Front) (bytes : List ℕ) (place : ℕ) → HasFront f (rest_of bytes place) → (f ≡ fronts.Bad → ⊥) → MayBegin (drop place bytes)
may_begin_rest f bytes place h not = may_begin f (drop place bytes) (subst (HasFront f) (take_rest bytes place) h) not

-- what isn't seen to begin as no stream does has no byte, or begins as one does
pub may_begin_stream : (s : Sight) (bytes : List ℕ) (place : ℕ) → SeesBegin s (rest_of bytes place) → (s ≡ sights.Never → ⊥) → drop place bytes ≡ [] ⊎ IsBegun (drop place bytes)
may_begin_stream sights.Never bytes place h not = absurd (not refl)
may_begin_stream sights.Unknown bytes place h not = inl (sym (take_rest bytes place) ∙ h)
may_begin_stream sights.Now bytes place h not = inr (subst IsBegun (take_rest bytes place) h)

-- what is seen of entries, by what is seen of a message at the front, or behind a drop record
pub by_message : (longest size : ℕ) (s : Sight) (bytes : List ℕ) → BeginsMessage size bytes → SeesWhole longest s bytes → SeesEntries longest s bytes
by_message longest size sights.Never bytes begins h = never_message size begins h
by_message longest size sights.Unknown bytes begins h = may_message h
by_message longest size sights.Now bytes begins h = a_message h

by_drop : (longest : ℕ) (s : Sight) (bytes : List ℕ) → BeginsDrop bytes → SeesWhole longest s (drop 5 bytes) → SeesEntries longest s bytes
by_drop longest sights.Never bytes begins h = never_behind begins h
by_drop longest sights.Unknown bytes begins h = may_behind begins h
by_drop longest sights.Now bytes begins h = a_drop begins h

pub by_drop_rest : (longest : ℕ) (s : Sight) (bytes : List ℕ) → BeginsDrop bytes → SeesWhole longest s (rest_of bytes 5) → SeesEntries longest s bytes
by_drop_rest longest s bytes begins h = by_drop longest s bytes begins (subst (SeesWhole longest s) (take_rest bytes 5) h)

-- one more place
further : (P : ℕ → Type 0) (from place : ℕ) → ((p : ℕ) → from ≤ p → p < place → P p) → P place → (p : ℕ) → from ≤ p → p < place + 1 → P p
further P from place none at p after before = by_place (cases_lt p place)
  where
    by_place : (p < place) ⊎ (place ≤ p) → P p
    by_place (inl earlier) = none p after earlier
    by_place (inr here) = let e : place ≡ p = omega (arith, here, before) in subst P e at

pub none_further : (longest from place : ℕ) (bytes : List ℕ) → NoneBetween longest from place bytes → NeverFollow longest (rest_of bytes place) → NoneBetween longest from (place + 1) bytes
none_further longest from place bytes none at = further (λ p. NeverFollow longest (drop p bytes)) from place none (subst (NeverFollow longest) (take_rest bytes place) at)

-- what isn't seen to follow never does, or may once more has come
not_now : (longest : ℕ) (s : Sight) (bytes : List ℕ) → SeesEntries longest s bytes → (s ≡ sights.Now → ⊥) → NeverFollow longest bytes ⊎ ((true ≡ true) × MayFollow longest bytes)
not_now longest sights.Never bytes h not = inl h
not_now longest sights.Unknown bytes h not = inr (refl, h)
not_now longest sights.Now bytes h not = absurd (not refl)

pub whole_further : (longest place : ℕ) (s : Sight) (bytes : List ℕ) → NoneWhole true longest place bytes → SeesEntries longest s (rest_of bytes place) → (s ≡ sights.Now → ⊥) → NoneWhole true longest (place + 1) bytes
whole_further longest place s bytes none h not =
    further (λ p. NeverFollow longest (drop p bytes) ⊎ ((true ≡ true) × MayFollow longest (drop p bytes))) 1 place none (not_now longest s (drop place bytes) (subst (SeesEntries longest s) (take_rest bytes place) h) not)

-- from a further place on too
pub none_joined : (longest passed place : ℕ) (bytes : List ℕ) → NoneBefore longest passed bytes → NoneBetween longest passed place bytes → NoneBefore longest place bytes
none_joined longest passed place bytes before between = record { unbegun = before.unbegun; none = λ p some earlier. by_place p some earlier (cases_lt p passed) }
  where
    by_place : (p : ℕ) → 1 ≤ p → p < place → (p < passed) ⊎ (passed ≤ p) → NeverFollow longest (drop p bytes)
    by_place p some earlier (inl first) = before.none p some first
    by_place p some earlier (inr later) = between p later earlier

-- none at all, whether or not all has come
pub none_whole : (is_all : Bool) (longest place : ℕ) (bytes : List ℕ) → NoneBetween longest 1 place bytes → NoneWhole is_all longest place bytes
none_whole is_all longest place bytes none p some before = inl (none p some before)

pub found_ahead : (longest place : ℕ) (bytes : List ℕ) → 0 < place → NoneBefore longest place bytes → Follow longest (drop place bytes) → IsAhead false longest bytes place
found_ahead longest place bytes some before follow = found place some before.unbegun (none_whole false longest place bytes before.none) follow
