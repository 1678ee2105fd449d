use Rattle.std.proofs.Common.{ℕ, List, [], ◌∷◌, ◌++◌, drop, length, ap, sym, ◌∙◌, append_assoc, length-append, arith}
use Rattle.trace_text.specs.declared.sight.Sight.{Sight}
use Rattle.trace_text.specs.declared.sight.Sort.TheVariants as sorts
use Rattle.trace_text.proofs.PartLemmas.{dropped, names_there, has_names}
use Rattle.trace_text.proofs.message.function_of.Goals as goal

pub returns-in_err-from_name : goal.returns-in_err-from_name
returns-in_err-from_name c = λ t own rest e p is.
    let sort = ap (λ (s : Sight). s.sort) (sym e) ∙ c.in-Tuple.is in
    let h = has_names t c.in-Tuple.shape own rest (names_there t c.in-Tuple.shape sort (sym c.is_function.ensures ∙ c.if-not-is_function.false)) p in
    let parted = is ∙ ap (drop 1) h.text_is in
    absurd (omega (arith, c.in_err-from_name.ensures.cases, ap (λ (s : Sight). s.sizes.first) e, h.module_size, ap length parted, length-append h.first (44 ∷ (h.second ++ 44 ∷ (h.third ++ h.rest)))))

pub returns : goal.returns
returns c = λ t own rest e p is.
    let shape = c.in-Tuple.shape in
    let sort = ap (λ (s : Sight). s.sort) (sym e) ∙ c.in-Tuple.is in
    let h = has_names t shape own rest (names_there t shape sort (sym c.is_function.ensures ∙ c.if-not-is_function.false)) p in
    let parted = is ∙ ap (drop 1) h.text_is in
    let others = h.second ++ 44 ∷ (h.third ++ h.rest) in
    let module_size = ap (λ (s : Sight). s.sizes.first) e ∙ h.module_size in
    let from_name = c.in_ok-from_name.ensures.cases.2 ∙ dropped (h.first ++ 44 ∷ []) others _ _ (parted ∙ sym (append_assoc h.first (44 ∷ []) others))
    (omega (arith, module_size, ap length parted, length-append h.first (44 ∷ others), length-append h.first (44 ∷ []))) in
    record {
      f = h.f;
      is = h.is;
      by = record {
        own = h.third;
        rest = h.rest;
        pretty = h.pretty;
        named = from_name ∙ ap (λ (l : List ℕ). l ++ 44 ∷ (h.third ++ h.rest)) h.name_text;
        text = parted ∙ ap (λ (l : List ℕ). h.first ++ 44 ∷ l) (sym from_name) ∙ ap (λ (l : List ℕ). l ++ 44 ∷ c.in_ok-from_name.from_name.now) h.module_text;
        shape = c.in-Tuple.is ∙ ap (λ s. sorts.Tuple s) h.shape_is;
        module_size = module_size ∙ ap length h.module_text;
        name_size = ap (λ (s : Sight). s.sizes.second) e ∙ h.name_size ∙ ap length h.name_text;
        size = ap (λ (s : Sight). s.sizes.third) e ∙ h.arguments_size;
      };
    }
