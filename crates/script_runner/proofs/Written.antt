-- What is written in a run.
use Rattle.std.proofs.Common.{◌≡◌, ℕ, Option, Some, None, List, [], ◌∷◌, ◌++◌, Result, Ok, Err, OnErr, refl, sym, ◌∙◌, ap, subst, append_assoc}
use Rattle.std.proofs.lemmas.List.{append-nil}
use Rattle.std.specs.Fmt.{WritesInCalls}
use Rattle.std.specs.List.{FoldsTo, concat}
use Rattle.std.specs.Io.KnownBytes.{Appends, Keeps}
use Rattle.std.proofs.KnownBytes.{Appends-kept}
use Rattle.trace_client.specs.Output.{AppendsPrefix}
use Rattle.trace_port.specs.Port.{Told}
use Rattle.trace_port.specs.PortCalls.{Finishes}
use Rattle.tracees.specs.Books.{no_totals}
use Rattle.tracees.specs.Desks.{DeskState}
use Rattle.script_runner.specs.declared.reply.Leave.{Leave}
use Rattle.script_runner.specs.Sides.{Held, Alone, AtDesk, first_side, new_side}
use Rattle.script_runner.specs.Held.{Exchange, AreAsked, reply_text, written, IsLetGo, IsAtDesk}

-- nothing, and then two texts
pub appends_none : (known : Option (List ℕ)) → Appends known known []
appends_none None = tt
appends_none (Some xs) = sym (append-nil xs)

pub appends_both : (old mid new : Option (List ℕ)) (first second : List ℕ) → Appends old mid first → Appends mid new second → Appends old new (first ++ second)
appends_both None mid new first second a b = tt
appends_both (Some xs) None new first second a b = absurd a
appends_both (Some xs) (Some ys) None first second a b = absurd b
appends_both (Some xs) (Some ys) (Some zs) first second a b = b ∙ ap (λ (l : List ℕ). l ++ second) a ∙ append_assoc xs first second

-- what calls wrote into a text
in_parts : {W : Type 0} (bytes : W → List ℕ) (old : W) (parts : List (List ℕ)) (new : W) → FoldsTo (λ w xs v. bytes v ≡ bytes w ++ xs) old parts new → bytes new ≡ bytes old ++ concat parts
in_parts bytes old [] new same = ap bytes (sym same) ∙ sym (append-nil (bytes old))
in_parts bytes old (part ∷ parts) new calls = in_parts bytes calls.0 parts new calls.2 ∙ ap (λ (l : List ℕ). l ++ concat parts) calls.1 ∙ append_assoc (bytes old) part (concat parts)

pub in_calls : {W : Type 0} (bytes : W → List ℕ) (old new : W) (text : List ℕ) → WritesInCalls (λ w xs v. bytes v ≡ bytes w ++ xs) old text new → bytes new ≡ bytes old ++ text
in_calls bytes old new text wrote = subst (λ (l : List ℕ). bytes new ≡ bytes old ++ l) wrote.whole (in_parts bytes old wrote.parts new wrote.calls)

-- a text that was written whole, before what else failed
pub all_at_most : {E : Type 0} (r : Result Unit E) (old mid new : Option (List ℕ)) (text : List ℕ) → Appends old mid text → Keeps mid new → OnErr r (AppendsPrefix old new text)
all_at_most (Ok done) old mid new text wrote keeps = tt
all_at_most (Err fault) old mid new text wrote keeps = record { taken = text; left = []; is = sym (append-nil text); appends = Appends-kept old mid new text wrote keeps }

pub written-append : (done more : List Exchange) → written (done ++ more) ≡ written done ++ written more
written-append [] more = refl
written-append (first ∷ done) more = ap (λ (l : List ℕ). reply_text first.reply ++ l) (written-append done more) ∙ sym (append_assoc (reply_text first.reply) (written done) (written more))

-- what a run has done and written until now
pub record HasWritten {P : Type 0} (told : P → Told) (old : Held P) (leave : Option Leave) (new : Held P) (before now : Option (List ℕ)) : Type 0 where
  pub done : List Exchange
  pub asked : AreAsked told old done leave new
  pub text : Appends before now (written done)

-- a desk has finished its port
pub finished_there : {P : Type 0} (told : P → Told) (desk : DeskState P) (q : P) (end : Held P) → Finishes (told desk.port) (told q) → IsAtDesk desk end → IsLetGo told end q
finished_there told desk q (Alone p) finished there = absurd there
finished_there {P} told desk q (AtDesk side) finished there = subst (λ (d : DeskState P). Finishes (told d.port) (told q)) (sym there) finished

-- a desk that has just been made
pub new_desk : {P : Type 0} (p : P) (desk : DeskState P) → desk.number ≡ 0 → desk.port ≡ p → desk.counted ≡ no_totals → desk.attached ≡ 0 → first_side desk ≡ new_side p
new_desk {P} p desk number port counted attached =
    ap (λ n. let place : DeskState P = record { number = n; port = desk.port; counted = desk.counted; attached = desk.attached } in first_side place) number
    ∙ ap (λ q. let place : DeskState P = record { number = 0; port = q; counted = desk.counted; attached = desk.attached } in first_side place) port
    ∙ ap (λ t. let place : DeskState P = record { number = 0; port = p; counted = t; attached = desk.attached } in first_side place) counted
    ∙ ap (λ n. let place : DeskState P = record { number = 0; port = p; counted = no_totals; attached = n } in first_side place) attached
