use Rattle.std.proofs.Common.{◌∙◌, Some, ap, subst, sym}
use Rattle.prepared_requests.specs.NamesLooked.{IsNamed, are_names_asked, unnamed}
use Rattle.prepared_requests.proofs.NamesLooking.{any_so}
use Rattle.prepared_requests.proofs.names.look_up_any.Goals as goal

pub returns-in-Some-clause-looked_up : goal.returns-in-Some-clause-looked_up
returns-in-Some-clause-looked_up g c = any_so g.world' c.args.asked c.args.choice.now c.in-Some.choice c.look_up.new.choice c.look_up.result c.in-Some.is c.look_up.ensures

pub returns-in_default-clause-looked_up : goal.returns-in_default-clause-looked_up
returns-in_default-clause-looked_up g c =
    subst (λ choice. IsNamed g.world' c.args.asked choice (Some c.in-Some.choice)) (sym c.in-Some.is) (unnamed (Some c.in-Some.choice) (sym c.has_names.ensures ∙ c.if-has_names.false))

pub returns-in_default-2-clause-looked_up : goal.returns-in_default-2-clause-looked_up
returns-in_default-2-clause-looked_up g c = unnamed c.args.choice.now (ap are_names_asked c.in_default.is)
