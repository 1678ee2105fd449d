use Rattle.std.proofs.Common.{◌≡◌, List, ℕ, [], Option, Some, inr, subst, ap}
use Rattle.import.specs.Incoming.{outside}
use Rattle.command_line.specs.declared.layout.Layout.{Layout}
use Rattle.command_line.specs.declared.request.Shown.{Shown}
use Rattle.shown_listings.specs.Listings.{Shows, ShowsFrom, Listing}
use Rattle.commands.specs.Later.{IsNearEndOf, LooksAhead}
use Rattle.commands.specs.Serving.{ServesTrace, shown_all, shown_from}
use Rattle.commands.proofs.LookedAhead.{ahead-once, ahead-twice, shown-before}
use Rattle.commands.proofs.serving.show_last.Goals as goal

pub returns-in-Err : goal.returns-in-Err
returns-in-Err g c =
    let contents = g.W.Write.contents in
    let had = g.I.Read.remaining c.args.input in
    let files = c.args.files in
    let mid = c.near_end.new.files in
    let last = c.show_all in
    let Q : Shown → Type 0 = λ s. Shows s (ServesTrace c.args.request s mid (outside had 0 []) last.result.1.files last.result.1.observed.notes) last.result.0 (contents c.args.output.now) (contents last.new.output) in
    shown_all mid (inr (c.requires, ahead-once files mid c.in-Err.ensures.looks)) (subst Q c.in-Err.ensures.as_asked last.ensures)

pub returns-in-Some : goal.returns-in-Some
returns-in-Some g c =
    let contents = g.W.Write.contents in
    let near = c.in-Ok.near in
    let is : IsNearEndOf c.args.files c.near_end.new.files c.args.shown near = c.in-Ok.ensures.near in
    let call = c.show_near_end-told in
    let lists : Listing = ServesTrace c.args.request near.later c.near_end.new.files (outside (Some []) 0 []) call.result.1.files call.result.1.observed.notes in
    let told : ShowsFrom near.first near.later.layout lists (Some c.in-Some.done) (contents c.args.output.now) (contents call.new.output) =
    subst (λ told. ShowsFrom near.first near.later.layout lists told (contents c.args.output.now) (contents call.new.output)) c.in-Some.is call.ensures in
    shown_from c.near_end.new.files near.first near.later c.requires is.shows
    (subst (λ layout. ShowsFrom near.first layout lists (Some c.in-Some.done) (contents c.args.output.now) (contents call.new.output)) (ap (λ (s : Shown). s.layout) is.shows.begun.is) told)

pub returns : goal.returns
returns g c =
    let contents = g.W.Write.contents in
    let had = g.I.Read.remaining c.args.input in
    let near = c.in-Ok.near in
    let mid = c.near_end.new.files in
    let is : IsNearEndOf c.args.files mid c.args.shown near = c.in-Ok.ensures.near in
    let call = c.show_near_end-told in
    let left = call.result.1 in
    let anew = c.reopen.new.self in
    let again = c.shown_as_asked-shown.result in
    let last = c.show_all-2 in
    let told = subst (λ told. ShowsFrom near.first near.later.layout (ServesTrace c.args.request near.later mid (outside (Some []) 0 []) left.files left.observed.notes) told (contents c.args.output.now) (contents call.new.output)) c.in_default.is call.ensures in
    let ahead : LooksAhead c.args.files anew = ahead-twice c.args.request near.later c.args.files mid left.files anew (outside (Some []) 0 []) left.observed.notes c.requires.list is.shows.ahead told.1 c.reopen.ensures.place c.reopen.ensures.same c.reopen.ensures.closed in
    let same : again ≡ c.args.shown = shown-before near.first c.args.shown near.later again near.start is.start is.shows.begun c.shown_as_asked-shown.ensures in
    let Q : Shown → Option (List ℕ) → Type 0 = λ s was. Shows s (ServesTrace c.args.request s anew (outside had 0 []) last.result.1.files last.result.1.observed.notes) last.result.0 was (contents last.new.output) in
    shown_all anew (inr (c.requires, ahead)) (subst (λ s. Q s (contents c.args.output.now)) same (subst (Q again) told.0 last.ensures))
