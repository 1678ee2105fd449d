use Rattle.std.proofs.Common.{◌≡◌, ◌++◌, refl, sym, ◌∙◌}
use Rattle.trace_text.specs.declared.sight.Shape.TheVariants as shapes
use Rattle.trace_text.specs.Pretty.{leaf_text}
use Rattle.trace_text.specs.Sights.{shape_of_function, sight}
use Rattle.trace_text.proofs.PartLemmas.{after_sign, told_arity}
use Rattle.trace_text.proofs.message.Called.arity.Goals as goal

pub returns-in-Tuple-Function : goal.returns-in-Tuple-Function
returns-in-Tuple-Function c = λ f by.
    let tuple = sym by.shape ∙ c.in-Tuple-Function.is in
    let shape : shape_of_function (sight f.arguments).sort ≡ shapes.Function = cc in
    let rest = c.behind-arguments.ensures ∙ after_sign (leaf_text f.of_name) (by.own ++ by.rest) _ _ 44 _ by.named c.behind.ensures by.name_size in
    let told = told_arity f.arguments by.own by.own _ shapes.Function (sym shape) refl by.size by.pretty in
    (told.0, told.1, c.front.ensures by.own by.rest rest told.3 ∙ told.2)
