use Rattle.std.proofs.Common.{◌≡◌, ◌+◌, ◌-◌, ◌≤◌, length, get_or, arith, ap, sym, refl, ◌∙◌, subst}
use Rattle.std.specs.Bool.{Decides}
use Rattle.std.specs.Option.{option_map}
use Rattle.std.proofs.lemmas.List.{length-map}
use Rattle.std.proofs.lemmas.Bool.{le-leb, leb-true}
use Rattle.std.specs.Prelude.{slice_get, Some}
use Rattle.std.proofs.lemmas.Option.{slice_get-map, slice_get_read}
use Rattle.entry_codec.specs.Seen.{view, views}
use Rattle.tracees.specs.Agreement.{newer}
use Rattle.tracees.proofs.Audits.{same_entries, agrees_inside, agrees_past}
use Rattle.tracees.proofs.auditing.agrees.Goals as goal

pub returns-in-Some : goal.returns-in-Some
returns-in-Some c =
    let xs = c.args.window.now.entries.items in
    let place = c.args.number - c.args.window.now.first in
    let lookup = c.in-Some.ensures.lookup in
    let items : c.deref.result.now ≡ xs = c.deref.ensures.value in
    let got : slice_get xs place ≡ Some c.in-Some.kept.now =
    slice_get_read xs (length xs) place c.in-Some.kept.now refl (omega (arith, lookup.3.0, ap (λ l. length l) items)) (lookup.1 ∙ ap (λ l. get_or l place c.in-Some.kept.now) items) in
    let tells : Decides c.eq.result (view c.in-Some.kept.now ≡ view c.args.entry.now) =
    subst (λ r. Decides r (view c.in-Some.kept.now ≡ view c.args.entry.now)) (sym c.eq.ensures) (same_entries c.in-Some.kept.now c.args.entry.now) in
    agrees_inside c.args.window.now.first c.args.covered c.args.number (views xs) (view c.in-Some.kept.now) (view c.args.entry.now) c.eq.result c.if-number-window.false
    (slice_get-map view xs place ∙ ap (option_map view) got) tells

pub returns-in-None : goal.returns-in-None
returns-in-None c =
    let xs = c.args.window.now.entries.items in
    let lookup = c.in-None.ensures.lookup in
    let past : c.args.window.now.first + length (views xs) ≤ c.args.number = omega (arith, lookup.3, ap (λ l. length l) c.deref.ensures.value, length-map xs view) in (
      λ t. newer past (leb-true c.args.covered c.args.number t),
      λ a. le-leb c.args.covered c.args.number (agrees_past c.args.window.now.first c.args.covered c.args.number (views xs) (view c.args.entry.now) past a),
    )
