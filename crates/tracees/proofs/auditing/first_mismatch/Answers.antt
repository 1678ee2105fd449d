use Rattle.std.proofs.Common.{◌≡◌, suc, ◌+◌, ◌<◌, ◌≤◌, List, ◌∷◌, [], length, get_or, take, drop, arith, ap, sym, ◌∙◌, subst, take-append-drop}
use Rattle.std.proofs.lemmas.List.{length-map, length-take-le}
use Rattle.entry_codec.specs.Entries.{Entry}
use Rattle.entry_codec.specs.Seen.{view, views}
use Rattle.entry_codec.specs.declared.model.Entry.{Entry as Held}
use Rattle.tracees.specs.Agreement.{Agrees, AreAgreed}
use Rattle.tracees.proofs.Audits.{agreed_append, agreed_beyond, split_at, take_one_more}
use Rattle.tracees.proofs.auditing.first_mismatch.Goals as goal

-- a number that has no value in u64 is past the window and not covered
pub returns-in_err-number-clause-agreed : goal.returns-in_err-number-clause-agreed
returns-in_err-number-clause-agreed c =
    λ none.
    let first = c.args.window.now.first in
    let window = views c.args.window.now.entries.items in
    let covered = c.args.receipt.now.covered in
    let number = c.args.receipt.now.first in
    let items = c.args.receipt.now.entries.items in
    let place = c.loop-place.place in
    let there : place < length items = omega (arith, c.loop-place-test.true, ap (λ (l : List Held). length l) c.deref-entry-items.ensures.value) in
    let front : length (take place (views items)) ≡ place = length-take-le place (views items) (omega (arith, there, length-map items view)) in
    let past : 18446744073709551616 ≤ number + length (take place (views items)) = grind (arith, front, c.in_err-number.ensures) in
    subst (λ (l : List Entry). AreAgreed first window covered number l) (take-append-drop place (views items))
    (agreed_append first covered number window (take place (views items)) (drop place (views items)) c.loop-place.invariant
    (agreed_beyond first covered (number + length (take place (views items))) window (drop place (views items)) (omega (arith, past, c.args.window.now.counted)) (omega (arith, past))))

pub returns-then-not-agrees-clause-differs : goal.returns-then-not-agrees-clause-differs
returns-then-not-agrees-clause-differs c =
    let items = c.args.receipt.now.entries.items in
    let place = c.loop-place.place in
    let same = c.deref-entry-items.ensures.value in
    let there : place < length items = omega (arith, c.loop-place-test.true, ap (λ (l : List Held). length l) same) in
    let item : c.entry-item.result ≡ get_or items place c.entry-item.result = c.entry-item.is ∙ ap (λ (l : List Held). get_or l place c.entry-item.result) same in
    record {
      before = take place (views items);
      entry = view c.entry-item.result;
      after = drop (suc place) (views items);
      parts = split_at items place c.entry-item.result there item;
      agreed = c.loop-place.invariant;
      number_is = omega (arith, c.in_ok-number.ensures, length-take-le place (views items) (omega (arith, there, length-map items view)));
      differs = λ a. (let t = c.if-not-agrees.ensures.1 a in absurd (cc));
    }

pub loop-place-preserved : goal.loop-place-preserved
loop-place-preserved c =
    let first = c.args.window.now.first in
    let window = views c.args.window.now.entries.items in
    let covered = c.args.receipt.now.covered in
    let number = c.args.receipt.now.first in
    let items = c.args.receipt.now.entries.items in
    let place = c.loop-place.place in
    let same = c.deref-entry-items.ensures.value in
    let there : place < length items = omega (arith, c.loop-place-test.true, ap (λ (l : List Held). length l) same) in
    let item : c.entry-item.result ≡ get_or items place c.entry-item.result = c.entry-item.is ∙ ap (λ (l : List Held). get_or l place c.entry-item.result) same in
    let at : c.in_ok-number.number ≡ number + length (take place (views items)) = omega (arith, c.in_ok-number.ensures, length-take-le place (views items) (omega (arith, there, length-map items view))) in
    let agrees : Agrees first window covered (number + length (take place (views items))) (view c.entry-item.result) =
    subst (λ n. Agrees first window covered n (view c.entry-item.result)) at (c.agrees.ensures.0 c.if-not-agrees.false) in
    subst (λ (l : List Entry). AreAgreed first window covered number l)
    (sym (take_one_more items place c.entry-item.result there item) ∙ ap (λ n. take n (views items)) (let next : suc place ≡ place + 1 = omega arith in next))
    (agreed_append first covered number window (take place (views items)) (view c.entry-item.result ∷ []) c.loop-place.invariant (agrees, tt))
