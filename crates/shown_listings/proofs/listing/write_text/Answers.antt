use Rattle.std.proofs.Common.{◌≡◌, ◌≤◌, ◌++◌, [], List, ℕ, Option, false, length, drop, sym, ◌∙◌, ap, subst}
use Rattle.std.specs.Prelude.{Result, Ok, Err, OnOk, is_err}
use Rattle.std.specs.Io.KnownBytes.{Appends}
use Rattle.std.proofs.KnownBytes.{Appends-nil, Appends-kept}
use Rattle.std.proofs.lemmas.List.{drop_all}
use Rattle.shown_listings.specs.declared.given.Given.{Given}
use Rattle.shown_listings.specs.Rows.{Sends}
use Rattle.shown_listings.proofs.listing.write_text.Goals as goal

-- Nothing was given of a text.
begins : (written : Given) (start now : Option (List ℕ)) (text : List ℕ) → (written.start ≡ start) × (written.bytes ≡ []) → start ≡ now → Sends now written text text
begins written start now text made same = record {
  held = subst (Appends written.start now) (sym made.1) (subst (λ later. Appends written.start later []) (made.0 ∙ same) (Appends-nil written.start));
  is = ap (λ l. l ++ text) made.1;
}

ok-of : {A E : Type 0} (result : Result A E) (P : Type 0) → is_err result ≡ false → OnOk result P → P
ok-of (Ok x) P is so = so
ok-of (Err fault) P is so = absurd cc

on-ok : {A E : Type 0} (result : Result A E) (P : Type 0) → P → OnOk result P
on-ok (Ok x) P so = so
on-ok (Err fault) P so = tt

pub returns-clause-text : goal.returns-clause-text
returns-clause-text g c =
    let contents = g.W.Write.contents in
    let text = c.args.text.items in
    let sent = c.send.new in
    let left = drop sent.unsent.taken sent.unsent.bytes.items in
    let sends : Sends (contents sent.out) sent.written left text = c.send.ensures.sends text (begins c.new-written.result g.start (contents c.args.output.now) text c.new-written.ensures c.requires.1) in
    let start : sent.written.start ≡ contents c.args.output.now = c.send.ensures.start ∙ c.new-written.ensures.0 ∙ c.requires.1 in
    let all : length sent.unsent.bytes.items ≤ sent.unsent.taken = ok-of c.send.result (length sent.unsent.bytes.items ≤ sent.unsent.taken) (sym c.is_err.ensures.value ∙ c.if-is_err.false) c.send.ensures.all in
    let P : Option (List ℕ) → Type 0 = λ was. Appends was (contents sent.out) sent.written.bytes in
    (sent.written.bytes, left, sends.is, on-ok c.write_out.result (left ≡ []) (drop_all sent.unsent.taken sent.unsent.bytes.items all), Appends-kept _ _ _ sent.written.bytes (subst P start sends.held) c.write_out.ensures.kept)

pub returns-then-is_err-clause-text : goal.returns-then-is_err-clause-text
returns-then-is_err-clause-text g c =
    let contents = g.W.Write.contents in
    let text = c.args.text.items in
    let sent = c.send.new in
    let sends : Sends (contents sent.out) sent.written (drop sent.unsent.taken sent.unsent.bytes.items) text =
    c.send.ensures.sends text (begins c.new-written.result g.start (contents c.args.output.now) text c.new-written.ensures c.requires.1) in
    let P : Option (List ℕ) → Type 0 = λ was. Appends was (contents sent.out) sent.written.bytes in
    (sent.written.bytes, drop sent.unsent.taken sent.unsent.bytes.items, sends.is, tt, subst P (c.send.ensures.start ∙ c.new-written.ensures.0 ∙ c.requires.1) sends.held)
