-- What a port and a tracee count where entries have moved.
use Rattle.std.proofs.Common.{◌≡◌, ℕ, ◌+◌, ◌-◌, ◌≤◌, false, List, [], ◌∷◌, length, map, Option, Ok, Err, refl, ◌∙◌, ap, subst, arith}
use Rattle.entry_codec.specs.Entries.{Entry, Message, Drop, drops_in}
use Rattle.recovery.specs.Items.{Item, Kept}
use Rattle.intake.specs.WaitingLists.{messages_in}
use Rattle.intake.specs.Tracees.{counts_of, CountsGrow}
use Rattle.intake.specs.declared.offer.Counts.{Counts as CountsOf}
use Rattle.intake.specs.declared.tracee.Tracee.{Tracee}
use Rattle.trace_port.specs.Port.{Told}
use Rattle.trace_port.specs.Calls.{taken, IsRefused}
use Rattle.trace_port.specs.declared.fault.PortFault.{PortFault}
use Rattle.trace_port.specs.declared.fault.PortFault.TheVariants as faults
use Rattle.tracees.specs.Hands.{TakesInOrder, none_left, takes_one, fails_at, stops_at}
use Rattle.trace_port.specs.Effects.{effect, Calls}
use Rattle.trace_port.proofs.Composed.{IsStill, accept_calls, calls_both, joins_next, no_effect_call}

-- a refusal takes nothing
pub none_taken : (e : Entry) (fault : PortFault) → IsRefused {T = ℕ} (Err fault) → taken e (Err fault) ≡ []
none_taken e faults.Device refused = absurd refused
none_taken e faults.Broken refused = refl
none_taken e faults.Sealed refused = refl
none_taken e faults.CountFull refused = refl
none_taken e faults.FileFull refused = refl

-- the calls of a hand-over are as one that accepted what moved
pub takes_calls : {P : Type 0} (told : P → Told) → ((p : P) → IsStill (told p)) → (p q : P) (offered moved : List Entry) (fault : Option PortFault) → TakesInOrder told p offered moved fault q
    → Calls (told p) (told q) (effect (map Kept moved) false ∷ [])
takes_calls told still p q offered moved fault none_left = no_effect_call (told p) (still p)
takes_calls told still p q offered moved fault (takes_one {q = mid} {e = e} {n = n} {es = es} {moved = more} {fault = fault'} accepts rest) =
    joins_next (told p) (told q) (Kept e ∷ []) (map Kept more) false
    (calls_both (told p) (told mid) (told q) (effect (Kept e ∷ []) false ∷ []) (effect (map Kept more) false ∷ []) (accept_calls (told p) (told mid) e (Ok n) accepts) (takes_calls told still mid q es more fault' rest))
takes_calls told still p q offered moved fault (fails_at {e = e} accepts) = accept_calls (told p) (told q) e (Err faults.Device) accepts
takes_calls told still p q offered moved fault (stops_at {e = e} {fault = why} accepts refused) =
    subst (λ (items : List Item). Calls (told p) (told q) (effect items false ∷ [])) (none_taken e why refused) (accept_calls (told p) (told q) e (Err why) accepts)

pub record HasCounted (old new : Told) (moved : List Entry) : Type 0 where
  pub total : new.total ≡ old.total + length moved
  pub drops : new.drops ≡ old.drops + drops_in moved
  pub covered : new.covered ≡ old.covered

-- the port counts what moved
pub takes_counts : {P : Type 0} (told : P → Told) (p q : P) (offered moved : List Entry) (fault : Option PortFault) → TakesInOrder told p offered moved fault q → HasCounted (told p) (told q) moved
takes_counts told p q offered moved fault none_left = record { total = omega arith; drops = omega arith; covered = refl }
takes_counts told p q offered moved fault (takes_one {q = mid} {e = e} {n = n} {es = es} {moved = more} {fault = fault'} accepts rest) =
    let next = takes_counts told mid q es more fault' rest in
    record {
      total = omega (arith, accepts.counts.total, next.total);
      drops = omega (arith, accepts.counts.drops, next.drops);
      covered = next.covered ∙ accepts.covered;
    }
takes_counts told p q offered moved fault (fails_at {e = e} accepts) = record { total = omega (arith, accepts.counts.total); drops = omega (arith, accepts.counts.drops); covered = accepts.covered }
takes_counts told p q offered moved fault (stops_at {e = e} {fault = why} accepts refused) =
    let same = (accepts.refused refused).same in
    record { total = omega (arith, same.total); drops = omega (arith, same.drops); covered = accepts.covered }

-- messages are some of the entries
pub few_messages : (entries : List Entry) → messages_in entries ≤ length entries
few_messages [] = omega arith
few_messages (Message bytes ∷ entries) = omega (arith, few_messages entries)
few_messages (Drop count ∷ entries) = omega (arith, few_messages entries)

-- ---- what a hand-over counts

-- the difference of a tracee's counts is what moved
pub moved_counts : (was is : Tracee) (before after : CountsOf) (messages drops : ℕ) → before ≡ counts_of was → after ≡ counts_of is → CountsGrow 0 messages drops was is
    → (after.handed - before.handed ≡ messages) × (after.lost - before.lost ≡ drops)
moved_counts was is before after messages drops one two grown =
    let handed_before : before.handed ≡ was.handed = ap (λ (k : CountsOf). k.handed) one in
    let handed_after : after.handed ≡ is.handed = ap (λ (k : CountsOf). k.handed) two in
    let lost_before : before.lost ≡ was.lost = ap (λ (k : CountsOf). k.lost) one in
    let lost_after : after.lost ≡ is.lost = ap (λ (k : CountsOf). k.lost) two in
    (omega (arith, handed_before, handed_after, grown.more_handed), omega (arith, lost_before, lost_after, grown.more_lost))
