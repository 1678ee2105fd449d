use Rattle.std.proofs.Common.{◌≡◌, ◌<◌, ◌+◌, ℕ, suc, List, [], ◌∷◌, ◌++◌, length, take, drop, get_or, sym, ◌∙◌, ap, subst, add-one, drop-cons, arith}
use Rattle.std.specs.Str.Parse.{AllDigits}
use Rattle.std.specs.Char.{digit_value}
use Rattle.std.proofs.lemmas.List.{take-append-drop, take_more, length-take}
use Rattle.std.proofs.lemmas.Slice.Eq.{bytes_eq-Decides}
use Rattle.std.proofs.lemmas.Str.{digit_value_digit}
use Rattle.std.proofs.lemmas.Str.Parse.{digit_from_value}
use Rattle.std.proofs.lemmas.Int.Digits.{digits_value_more}
use Rattle.shown_listings.specs.Since.{object_front}
use Rattle.shown_listings.proofs.since.number_in.Goals as goal

cut-at : (bytes : List ℕ) (i byte : ℕ) → i < length bytes → get_or bytes i 0 ≡ byte → bytes ≡ take i bytes ++ byte ∷ drop (i + 1) bytes
cut-at bytes i byte within is = sym (take-append-drop i bytes) ∙ ap (λ l. take i bytes ++ l) (rw (add-one, drop-cons bytes i 0) (ap (λ b. b ∷ drop (suc i) bytes) is))

digits-push : (ds : List ℕ) (c : ℕ) → AllDigits 10 ds → digit_value c < 10 → AllDigits 10 (ds ++ c ∷ [])
digits-push [] c all is = (is, tt)
digits-push (d ∷ ds) c all is = (all.0, digits-push ds c all.1 is)

pub returns-then-index-gt0 : goal.returns-then-index-gt0
returns-then-index-gt0 c =
    let line = c.args.line.now in
    let head = c.in_ok-head.head.now in
    let behind = c.in_ok-head.behind.now in
    let i = c.loop-index.index in
    let split = c.in_ok-head.ensures.cases in
    let front : head ≡ object_front = (bytes_eq-Decides head object_front).0 (sym c.if-not-is_object.ensures) in
    let whole : head ++ behind ≡ line = ap (λ l. l ++ behind) split.1 ∙ ap (λ l. take 5 line ++ l) split.2 ∙ take-append-drop 5 line in
    let part : behind ≡ take i behind ++ 44 ∷ drop (i + 1) behind = cut-at behind i 44 c.loop-index-test.true c.if-byte-eq44.true in
    record {
      digits = take i behind;
      behind = drop (i + 1) behind;
      is = sym whole ∙ ap (λ l. l ++ behind) front ∙ ap (λ l. object_front ++ l) part;
      numeral = (omega (arith, length-take i behind, c.if-index-gt0.true, c.loop-index-test.true), c.loop-index.invariant.digits);
      tells = c.loop-index.invariant.tells;
    }

pub loop-index-preserved : goal.loop-index-preserved
loop-index-preserved c =
    let behind = c.in_ok-head.behind.now in
    let i = c.loop-index.index in
    let within : i < length behind = c.loop-index-test.true in
    let byte = get_or behind i 0 in
    let small : digit_value byte < 10 = c.if-not-is_ascii_digit.ensures.bound in
    record {
      within = omega arith;
      digits = subst (AllDigits 10) (sym (take_more behind i 0 within)) (digits-push (take i behind) byte c.loop-index.invariant.digits small);
      tells = omega (arith, digits_value_more 10 behind i within, c.loop-index.invariant.tells, digit_value_digit byte (digit_from_value byte small), c.in_ok-tens.ensures, c.in_ok-number.ensures, c.from.ensures);
    }
