-- What a listing into a writer up to an empty line leaves written.
use Rattle.std.proofs.Common.{◌≡◌, ℕ, Bool, true, Option, List, [], ◌++◌, subst}
use Rattle.std.specs.Io.KnownBytes.{Appends, Keeps}
use Rattle.shown_listings.specs.declared.given.Given.{Given}
use Rattle.shown_listings.specs.Ends.{has_empty, before_empty, counted, end_contents}
use Rattle.shown_listings.specs.Listings.{Passes}
use Rattle.shown_listings.proofs.EndHanded.{passed, passed-kept}

-- all that was listed went into a new one, whose own writer has what stands before the first empty line
pub passes : (old new : Given) (was now : Option (List ℕ)) (ended : Bool) (Lists : Option (List ℕ) → Option (List ℕ) → Type 0) → old.start ≡ was → old.bytes ≡ []
    → Appends new.start now (before_empty true new.bytes) → ended ≡ has_empty true new.bytes → Lists (end_contents old.start old.bytes) (end_contents new.start new.bytes) → Passes ended Lists was now
unfolding end_contents
passes old new was now ended Lists start none held is lists =
    let after : Option (List ℕ) = end_contents new.start new.bytes in
    record {
      held = counted was ++ [];
      holds = after;
      lists = subst (λ s. Lists (end_contents s []) after) start (subst (λ b. Lists (end_contents old.start b) after) none lists);
      passed = λ text grown. passed was new.start now new.bytes text ended held is grown;
    }

-- what is written out stays so
pub passes-kept : (ended : Bool) (Lists : Option (List ℕ) → Option (List ℕ) → Type 0) (was now after : Option (List ℕ)) → Passes ended Lists was now → Keeps now after → Passes ended Lists was after
passes-kept ended Lists was now after by kept = record {
  held = by.held;
  holds = by.holds;
  lists = by.lists;
  passed = λ text grown. passed-kept ended text was now after (by.passed text grown) kept;
}
