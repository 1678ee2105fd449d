-- Items of a trace that are handed to a view.
use Rattle.std.specs.Prelude.{◌≡◌, ◌⊎◌, ◌++◌, ℕ, List, [], Option, Result, MatchResult, IsSome}
use Rattle.std.proofs.Common.{refl, sym, ap, ◌∙◌, subst, append_assoc, append-nil}
use Rattle.entry_codec.specs.Entries.{Entry, bytes_of}
use Rattle.trace_items.specs.Items.{Handed}
use Rattle.trace_items.specs.declared.consumer.Consumer.{Ghosts}
use Rattle.trace_items.specs.declared.consumer.ConsumerFault.{ConsumerFault}
use Rattle.trace_items.specs.declared.consumer.ConsumerFault.TheVariants.{NoMemory}
use Rattle.trace_text.specs.Choosing.{Asks}
use Rattle.trace_client.specs.Forms.{as_bytes}
use Rattle.trace_client.specs.Items.{WriteItems, write_both}
use Rattle.trace_client.specs.SoFar.{Point}
use Rattle.trace_client.proofs.Greatest.{bytes_of-append}
use Rattle.trace_views.specs.declared.view.ViewFault.{ViewFault}

-- a view took entries whose bytes are such a text
pub record TookText (Is : List ℕ → Type 0) (old new : List Entry) : Type 0 where
  pub entries : List Entry
  pub is : Is (bytes_of entries)
  pub all : new ≡ old ++ entries

-- what a fault leaves: it took some entries, and it failed itself, or memory was wanting
pub record StoppedAt (fault : ConsumerFault) (failed : Option ViewFault) (old new : List Entry) : Type 0 where
  pub entries : List Entry
  pub all : new ≡ old ++ entries
  pub why : IsSome failed ⊎ (fault ≡ NoMemory)

-- it took them, or this is left
abbrev pub TakesText : {X : Type 0} → Result X ConsumerFault → (List ℕ → Type 0) → Option ViewFault → List Entry → List Entry → Type 0
TakesText result Is failed old new = MatchResult result (λ _. TookText Is old new) (λ fault. StoppedAt fault failed old new)

-- from one point to the other it took what an export of the items has, of those that are asked for
pub record TookItems (asks now : Option Asks) (from to : Point) (items : List (ℕ × Handed)) (old new : List Entry) : Type 0 where
  pub same : now ≡ asks
  pub took : TookText (λ text. WriteItems (as_bytes asks) from items text to) old new

-- a consumer that feeds a view so, of which these tell the choice, the point, what the view has seen, and why it takes no more
abbrev pub by_feed : {C : Type 0} → (C → Option Asks) → (C → Point) → (C → List Entry) → (C → Option ViewFault) → Ghosts C
by_feed asks at seen failed = record {
  goes = λ a items b. TookItems (asks a) (asks b) (at a) (at b) items (seen a) (seen b);
  fails = λ a item fault b. StoppedAt fault (failed b) (seen a) (seen b);
}

-- ---- laws of them

pub took_none : (asks : Option Asks) (at : Point) (seen : List Entry) → TookItems asks asks at at [] seen seen
took_none asks at seen = record { same = refl; took = record { entries = []; is = (refl, refl); all = sym (append-nil seen) } }

pub took_both : (f g h : Option Asks) (a b c : Point) (xs ys : List (ℕ × Handed)) (old mid new : List Entry) → TookItems f g a b xs old mid → TookItems g h b c ys mid new → TookItems f h a c (xs ++ ys) old new
took_both f g h a b c xs ys old mid new p q =
    let first = p.took.entries in
    let later = q.took.entries in
    let are = write_both (as_bytes f) a b c xs ys (bytes_of first) (bytes_of later) p.took.is (subst (λ (o : Option Asks). WriteItems (as_bytes o) b ys (bytes_of later) c) p.same q.took.is) in
    record {
      same = q.same ∙ p.same;
      took = record {
        entries = first ++ later;
        is = subst (λ (l : List ℕ). WriteItems (as_bytes f) a (xs ++ ys) l c) (sym (bytes_of-append first later)) are;
        all = q.took.all ∙ ap (λ (l : List Entry). l ++ later) p.took.all ∙ append_assoc old first later;
      };
    }
