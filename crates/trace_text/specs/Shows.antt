-- What a function puts of a term that it reads from its bytes, and keeps of it.
use Rattle.std.specs.Prelude.{List, ℕ, Result}
use Rattle.trace_terms.specs.Data.{Data}
use Rattle.ext_format.specs.declared.fault.DecodeFault.{DecodeFault}
use Rattle.ext_format.specs.Reading.{Read, Gives}
use Rattle.trace_text.specs.Spelled.{shown}
use Rattle.trace_message.specs.declared.glance.Glance.{Glance}
use Rattle.trace_text.specs.declared.told.Told.{Told}

-- the text of the term that was read, and the glance at it, stand after those that were there
abbrev pub Shows : {X : Type 0} → Result X DecodeFault → Told Glance → Read Data → Told Glance → List ℕ → Type 0
Shows result old read new rest = Gives (λ _. (new.text.items, (new.seen.items, rest))) result (shown old.text.items old.seen.items read)
