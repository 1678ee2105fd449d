-- What is said of a part of an event that words spell.
use Rattle.std.specs.Prelude.{⊤, Result, Ok, Err}
use Rattle.script_lines.specs.declared.event.EventFault.{EventFault}
use Rattle.script_lines.specs.declared.event.EventFault.TheVariants as faults

-- what is spelled has P, as it is seen; where words spell nothing, nothing has it; nothing is said where there was no memory
abbrev pub IsSpelledAs : {V X : Type 0} → (V → X) → (X → Type 0) → Result V EventFault → Type 0
IsSpelledAs seen P (Ok v) = P (seen v)
IsSpelledAs {V} {X} seen P (Err faults.Unspelled) = (x : X) → P x → ⊥
IsSpelledAs seen P (Err faults.NoMemory) = ⊤

-- the same of what is itself seen
abbrev pub IsSpelled : {X : Type 0} → (X → Type 0) → Result X EventFault → Type 0
IsSpelled P result = IsSpelledAs (λ x. x) P result
