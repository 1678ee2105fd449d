-- How an import begins of which nothing is read ahead.
use Rattle.std.proofs.Common.{◌≡◌, ◌⊎◌, ℕ, ◌≤◌, List, [], sym, ap, subst, add-zero}
use Rattle.std.specs.Prelude.{Option}
use Rattle.command_line.specs.declared.request.Rules.{Rules}
use Rattle.command_line.specs.declared.request.Ending.TheVariants.{Seal}
use Rattle.prepared_requests.specs.Ahead.{most, passing, BeginsImport, as_asked}

-- the rules stay as they are
unchanged : (rules : Rules) → passing 0 rules ≡ rules
unchanged rules = let put : ℕ → Rules = λ n. record { skip = n; longest = rules.longest; flushing = rules.flushing; ending = rules.ending } in ap put (add-zero rules.skip)

pub begins_as_asked : (rules : Rules) (remaining : Option (List ℕ)) (bytes : List ℕ) → (rules.ending ≡ Seal) ⊎ (most ≤ rules.skip) → bytes ≡ [] → BeginsImport rules remaining bytes (passing 0 rules)
begins_as_asked rules remaining bytes why none = subst (BeginsImport rules remaining bytes) (sym (unchanged rules)) (as_asked why none)
