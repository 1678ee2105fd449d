-- Entries that are handed to a view.
use Rattle.std.proofs.Common.{◌≡◌, ◌⊎◌, ℕ, zero, suc, ◌+◌, ◌<◌, Bool, true, false, Option, Some, None, List, [], ◌∷◌, ◌++◌, refl, sym, ap, ◌∙◌, subst, arith, append_assoc, append-nil}
use Rattle.std.proofs.lemmas.Bool.Decides.{nat_tests}
use Rattle.std.specs.Prelude.{◌==◌, IsSome, OnOk, Result, Ok, Err, if◌then◌else◌}
use Rattle.entry_codec.specs.Entries.{Entry, Drop, bytes_of, spelling}
use Rattle.long_messages.specs.Gatherings.{parts_up_to}
use Rattle.long_messages.specs.Joining.{Whole, parts}
use Rattle.long_messages.specs.declared.fragment.Fragment.{Fragment}
use Rattle.trace_items.specs.Items.{Handed, gap, end}
use Rattle.trace_items.specs.declared.gap.Gap.{Gap}
use Rattle.trace_items.specs.declared.consumer.ConsumerFault.{ConsumerFault}
use Rattle.trace_items.specs.declared.consumer.ConsumerFault.TheVariants.{NoMemory}
use Rattle.trace_text.specs.Choosing.{Asks}
use Rattle.trace_text.specs.Chooses.{is_part_chosen}
use Rattle.trace_client.specs.Forms.{as_bytes, lost_at, part_text, AreTexts, no_text}
use Rattle.trace_client.specs.Gaps.{gap_text}
use Rattle.trace_client.specs.Items.{WritesItem}
use Rattle.trace_client.specs.SoFar.{Completes, Point, point_at}
use Rattle.trace_client.proofs.Greatest.{bytes_of-append}
use Rattle.trace_client.proofs.JoinedSteps.{one_more_part}
use Rattle.trace_views.specs.Feeding.{TookText, StoppedAt, TakesText, TookItems}
use Rattle.trace_views.specs.declared.view.ViewFault.{ViewFault}

-- ---- what a view took

pub took_nothing : (Is : List ℕ → Type 0) (seen : List Entry) → Is [] → TookText Is seen seen
took_nothing Is seen is = record { entries = []; is = is; all = sym (append-nil seen) }

pub took_one : (Is : List ℕ → Type 0) (old new : List Entry) (e : Entry) → Is (spelling e) → new ≡ old ++ e ∷ [] → TookText Is old new
took_one Is old new e is all = record { entries = e ∷ []; is = subst Is (sym (append-nil (spelling e))) is; all = all }

pub took_as : (P Q : List ℕ → Type 0) (old new : List Entry) → ((text : List ℕ) → P text → Q text) → TookText P old new → TookText Q old new
took_as P Q old new leads h = record { entries = h.entries; is = leads (bytes_of h.entries) h.is; all = h.all }

pub took_more : (P Q R : List ℕ → Type 0) (old mid new : List Entry) → ((text more : List ℕ) → P text → Q more → R (text ++ more)) → TookText P old mid → TookText Q mid new → TookText R old new
took_more P Q R old mid new leads h k = record {
  entries = h.entries ++ k.entries;
  is = subst R (sym (bytes_of-append h.entries k.entries)) (leads (bytes_of h.entries) (bytes_of k.entries) h.is k.is);
  all = k.all ∙ ap (λ (l : List Entry). l ++ k.entries) h.all ∙ append_assoc old h.entries k.entries;
}

pub stopped_more : {P : List ℕ → Type 0} (fault : ConsumerFault) (failed : Option ViewFault) (old mid new : List Entry) → TookText P old mid → StoppedAt fault failed mid new → StoppedAt fault failed old new
stopped_more fault failed old mid new h k = record { entries = h.entries ++ k.entries; all = k.all ∙ ap (λ (l : List Entry). l ++ k.entries) h.all ∙ append_assoc old h.entries k.entries; why = k.why }

pub takes_as : {X : Type 0} (result : Result X ConsumerFault) (P Q : List ℕ → Type 0) (failed : Option ViewFault) (old new : List Entry) → ((text : List ℕ) → P text → Q text) → TakesText result P failed old new → TakesText result Q failed old new
takes_as (Ok x) P Q failed old new leads h = took_as P Q old new leads h
takes_as (Err fault) P Q failed old new leads h = h

-- and then more
pub takes_more : {X : Type 0} (result : Result X ConsumerFault) (P Q R : List ℕ → Type 0) (failed : Option ViewFault) (old mid new : List Entry) → ((text more : List ℕ) → P text → Q more → R (text ++ more)) → TookText P old mid → TakesText result Q failed mid new → TakesText result R failed old new
takes_more (Ok x) P Q R failed old mid new leads h k = took_more P Q R old mid new leads h k
takes_more (Err fault) P Q R failed old mid new leads h k = stopped_more fault failed old mid new h k

-- ---- parts of a message that isn't whole

nothing_if : (none : List ℕ) (chosen : Bool) → (if chosen then none else none) ≡ none
nothing_if none true = refl
nothing_if none false = refl

later_part : (n : ℕ) → lost_at (suc n + 1) ≡ []
later_part n = let later : (suc n + 1 == 1) ≡ false = grind (arith, nat_tests) in ap (λ (b : Bool). if b then spelling (Drop 1) else []) later

-- of several parts the first one alone has bytes
pub parts_are : (asks : Option Asks) (first of size n : ℕ) (bytes : List ℕ) → AreTexts (as_bytes asks) first (parts of size bytes (suc n)) (if is_part_chosen asks first then lost_at 1 else [])
parts_are asks first of size zero bytes =
    let one : AreTexts (as_bytes asks) first (parts of size bytes 1) ([] ++ part_text (as_bytes asks) (first + 0) 1 of size) = one_more_part (as_bytes asks) first of size 0 bytes [] (no_text first) in
    let same : first + 0 ≡ first = omega arith in
    subst (λ (m : ℕ). AreTexts (as_bytes asks) first (parts of size bytes 1) (if is_part_chosen asks m then lost_at 1 else [])) same one
parts_are asks first of size (suc n) bytes =
    let text = if is_part_chosen asks first then lost_at 1 else [] in
    let more : AreTexts (as_bytes asks) first (parts of size bytes (suc (suc n))) (text ++ part_text (as_bytes asks) (first + suc n) (suc n + 1) of size) = one_more_part (as_bytes asks) first of size (suc n) bytes text (parts_are asks first of size n bytes) in
    let none : part_text (as_bytes asks) (first + suc n) (suc n + 1) of size ≡ [] = ap (λ (l : List ℕ). if is_part_chosen asks (first + suc n) then l else []) (later_part n) ∙ nothing_if [] (is_part_chosen asks (first + suc n)) in
    subst (λ (l : List ℕ). AreTexts (as_bytes asks) first (parts of size bytes (suc (suc n))) l) (ap (λ (l : List ℕ). text ++ l) none ∙ append-nil text) more

pub parts_text : (asks : Option Asks) (first : ℕ) (last : Fragment) (bytes text : List ℕ) → 0 < last.part → text ≡ (if is_part_chosen asks first then lost_at 1 else []) → AreTexts (as_bytes asks) first (parts_up_to (Some last) bytes) text
parts_text asks first last bytes text some is = subst (λ (l : List ℕ). AreTexts (as_bytes asks) first (parts_up_to (Some last) bytes) l) (sym is) (go last.part some)
  where
    go : (n : ℕ) → 0 < n → AreTexts (as_bytes asks) first (parts last.of last.size bytes n) (if is_part_chosen asks first then lost_at 1 else [])
    go zero none = absurd (omega (arith, none))
    go (suc n) _ = parts_are asks first last.of last.size n bytes

pub no_parts : (asks : Option Asks) (first : ℕ) (last : Fragment) (bytes : List ℕ) → (0 < last.part → ⊥) → AreTexts (as_bytes asks) first (parts_up_to (Some last) bytes) []
no_parts asks first last bytes none = go last.part none
  where
    go : (n : ℕ) → (0 < n → ⊥) → AreTexts (as_bytes asks) first (parts last.of last.size bytes n) []
    go zero _ = no_text first
    go (suc n) none = absurd (none (omega arith))

-- ---- one item

took_item : (asks now : Option Asks) (from to : Point) (n : ℕ) (item : Handed) (old new : List Entry) → now ≡ asks → TookText (λ text. WritesItem (as_bytes asks) from n item text to) old new → TookItems asks now from to ((n, item) ∷ []) old new
took_item asks now from to n item old new same h = record { same = same; took = took_as _ _ old new (λ text is. (text, [], to, is, (refl, refl), sym (append-nil text))) h }

pub item_ok : {X : Type 0} (result : Result X ConsumerFault) (asks now : Option Asks) (from to : Point) (n : ℕ) (item : Handed) (failed : Option ViewFault) (old new : List Entry) → now ≡ asks → TakesText result (λ text. WritesItem (as_bytes asks) from n item text to) failed old new
    → OnOk result (TookItems asks now from to ((n, item) ∷ []) old new)
item_ok (Ok x) asks now from to n item failed old new same h = took_item asks now from to n item old new same h
item_ok (Err fault) asks now from to n item failed old new same h = tt

pub gap_ok : {X : Type 0} (result : Result X ConsumerFault) (asks now : Option Asks) (from to : Point) (n : ℕ) (missing : Gap) (failed : Option ViewFault) (old new : List Entry) → now ≡ asks
    → TakesText result (λ text. (held : List ℕ) × Completes (as_bytes asks) from [] held × (text ≡ held ++ gap_text (as_bytes asks) missing n)) failed old new → OnOk result (to ≡ point_at n) → OnOk result (TookItems asks now from to ((n, gap missing) ∷ []) old new)
gap_ok (Ok x) asks now from to n missing failed old new same h next = took_item asks now from to n (gap missing) old new same (took_as _ _ old new (λ text is. (is.0, is.1, is.2, next)) h)
gap_ok (Err fault) asks now from to n missing failed old new same h next = tt

pub end_ok : {X : Type 0} (result : Result X ConsumerFault) (asks now : Option Asks) (from to : Point) (n : ℕ) (failed : Option ViewFault) (old new : List Entry) → now ≡ asks → TakesText result (Completes (as_bytes asks) from []) failed old new → OnOk result (TookItems asks now from to ((n, end) ∷ []) old new)
end_ok (Ok x) asks now from to n failed old new same h = took_item asks now from to n end old new same (took_as _ _ old new (λ text all. (text, all, sym (append-nil text))) h)
end_ok (Err fault) asks now from to n failed old new same h = tt
