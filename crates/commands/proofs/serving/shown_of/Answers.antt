use Rattle.std.proofs.Common.{inl, inr, refl, sym, subst}
use Rattle.command_line.specs.declared.request.Shown.{Shown}
use Rattle.commands.specs.Later.{IsNearEndOf, ShowsNew}
use Rattle.commands.specs.Serving.{IsShownOf, as_asked, from_now}
use Rattle.commands.proofs.LookedAhead.{ahead-once}
use Rattle.commands.proofs.serving.shown_of.Goals as goal

pub returns-then-was_awaited : goal.returns-then-was_awaited
returns-then-was_awaited g c = as_asked (inl refl)

pub returns-then-not-shows_new : goal.returns-then-not-shows_new
returns-then-not-shows_new g c = as_asked (inl refl)

pub returns-in-Ok : goal.returns-in-Ok
returns-in-Ok g c =
    let near = c.in-Ok.near in
    let is : IsNearEndOf c.args.files c.near_end.new.files c.args.shown near = c.in-Ok.ensures.near in
    from_now near.first near.later (c.shows_new.ensures cc) is.shows

pub returns-in-Err : goal.returns-in-Err
returns-in-Err g c =
    let mid = c.near_end.new.files in
    let new : ShowsNew c.args.shown = c.shows_new.ensures cc in
    let Q : Shown → Type 0 = λ s. IsShownOf c.args.request c.args.files mid c.args.shown s in
    subst Q (sym c.in-Err.ensures.as_asked) (as_asked (inr (inr new, ahead-once c.args.files mid c.in-Err.ensures.looks)))
