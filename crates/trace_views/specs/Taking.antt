-- The entries that a view took: a code for lists of them, for the ghost field of what keeps them, and those of two looks.
use Rattle.std.specs.Prelude.{◌≡◌, ◌⊎◌, ℕ, List, [], ◌∷◌, Option, Some, None, refl}
use Rattle.std.specs.Coded.{Coded, code_by, coded_ℕ, coded_list, coded⊎}
use Rattle.std.proofs.Common.{inl, inr}
use Rattle.entry_codec.specs.Entries.{Entry, Message, Drop}
use Rattle.trace_views.specs.declared.view.ViewFault.{ViewFault}
use Rattle.trace_views.specs.declared.view.ViewFault.TheVariants.{NoMemory}

abbrev parted : Entry → List ℕ ⊎ ℕ
parted (Message bytes) = inl bytes
parted (Drop count) = inr count

abbrev joined : List ℕ ⊎ ℕ → Entry
joined (inl bytes) = Message bytes
joined (inr count) = Drop count

pub joined_parted : (entry : Entry) → joined (parted entry) ≡ entry
joined_parted (Message bytes) = refl
joined_parted (Drop count) = refl

-- entries, in numbers
abbrev pub coded_entries : Coded (List Entry)
coded_entries = coded_list (code_by (List ℕ ⊎ ℕ) (coded⊎ (coded_list coded_ℕ) coded_ℕ) parted joined joined_parted)

-- those of a first look and of the look after it in one list, which tells where the first one ends
abbrev pub in_two_looks : List Entry → List Entry → List Entry
in_two_looks [] after = Message [] ∷ after
in_two_looks (entry ∷ before) after = Drop 0 ∷ entry ∷ in_two_looks before after

-- why a view takes no more: it is what it failed by, or there was no memory
abbrev pub IsWhyStopped : Option ViewFault → ViewFault → Type 0
IsWhyStopped (Some failed) fault = fault ≡ failed
IsWhyStopped None fault = fault ≡ NoMemory
