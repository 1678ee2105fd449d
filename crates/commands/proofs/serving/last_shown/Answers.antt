use Rattle.std.proofs.Common.{◌≡◌, List, ℕ, [], Option, Some, Result, Ok, inl, inr, ap, sym, subst}
use Rattle.import.specs.Incoming.{outside}
use Rattle.faults.specs.declared.complaint.Complaint.{Complaint}
use Rattle.command_line.specs.declared.request.Shown.{Shown}
use Rattle.shown_listings.specs.Listings.{Listing, ShowsFrom}
use Rattle.commands.specs.Later.{IsNearEndOf, LooksAhead}
use Rattle.commands.specs.Serving.{ServesTrace, IsShownOf, as_asked, last_rows}
use Rattle.commands.proofs.LookedAhead.{ahead-once, ahead-twice, shown-before, was-listed}
use Rattle.commands.proofs.serving.last_shown.Goals as goal

pub returns-in-Err : goal.returns-in-Err
returns-in-Err g c =
    let mid = c.near_end.new.files in
    let Q : Shown → Type 0 = λ s. IsShownOf c.args.request c.args.files mid c.args.shown s in
    subst Q (sym c.in-Err.ensures.as_asked) (as_asked (inr (inl c.requires, ahead-once c.args.files mid c.in-Err.ensures.looks)))

pub returns-then-ended_well : goal.returns-then-ended_well
returns-then-ended_well g c =
    let near = c.in-Ok.near in
    let mid = c.near_end.new.files in
    let is : IsNearEndOf c.args.files mid c.args.shown near = c.in-Ok.ensures.near in
    let call = c.show_near_end-told in
    let left = call.result.1 in
    let rows = Some call.new.output.items in
    let lists : Listing = ServesTrace c.args.request near.later mid (outside (Some []) 0 []) left.files left.observed.notes in
    let well : call.result.0 ≡ Some (Ok tt) = c.ended_well.ensures c.if-ended_well.true in
    let P : Option (Result Unit Complaint) → Option (List ℕ) → Type 0 = λ told was. ShowsFrom near.first near.later.layout lists told was rows in
    let shows : P (Some (Ok tt)) (Some []) = subst (λ told. P told (Some [])) well (subst (λ was. P call.result.0 was) (ap (λ l. Some l) c.new-rows.ensures.items) call.ensures) in
    last_rows mid near.first near.later c.requires is.shows (record { left = left; rows = rows; shows = shows; place = c.reopen.ensures.place; same = c.reopen.ensures.same; closed = c.reopen.ensures.closed })

pub returns : goal.returns
returns g c =
    let near = c.in-Ok.near in
    let mid = c.near_end.new.files in
    let is : IsNearEndOf c.args.files mid c.args.shown near = c.in-Ok.ensures.near in
    let call = c.show_near_end-told in
    let left = call.result.1 in
    let anew = c.reopen.new.self in
    let again = c.shown_as_asked.result in
    let listed = was-listed near.first near.later.layout (ServesTrace c.args.request near.later mid (outside (Some []) 0 []) left.files left.observed.notes) call.result.0 _ _ call.ensures in
    let ahead : LooksAhead c.args.files anew = ahead-twice c.args.request near.later c.args.files mid left.files anew (outside (Some []) 0 []) left.observed.notes c.requires.list is.shows.ahead listed c.reopen.ensures.place c.reopen.ensures.same c.reopen.ensures.closed in
    let same : again ≡ c.args.shown = shown-before near.first c.args.shown near.later again near.start is.start is.shows.begun c.shown_as_asked.ensures in
    subst (λ s. IsShownOf c.args.request c.args.files anew c.args.shown s) (sym same) (as_asked (inr (inl c.requires, ahead)))
