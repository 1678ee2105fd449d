-- What stands at the front of the bytes of a stream.
use Rattle.std.proofs.Common.{◌≡◌, ◌⊎◌, inl, inr, ℕ, ◌+◌, ◌<◌, ◌≤◌, ◌^◌, List, [], ◌∷◌, ◌++◌, length, take, drop, refl, sym, ◌∙◌, ap, arith}
use Rattle.std.specs.Prelude.{slice_index}
use Rattle.std.specs.Int.{w32, to_be_bytes}
use Rattle.std.proofs.lemmas.List.{take-take, get_or-take, take_at}
use Rattle.entry_codec.specs.Entries.{Message}
use Rattle.entry_codec.specs.Outcomes.{Begins, HasHead, IsTooLong}
use Rattle.import.specs.Incoming.{version, HasLongHead, IsUnfinished}
use Rattle.import.specs.Parts.{IsNotWhole}

-- ---- heads

-- a head of its parts
head_of : (op n : ℕ) (bytes : List ℕ) → 5 ≤ length bytes → slice_index bytes 0 ≡ op → take 4 (drop 1 bytes) ≡ to_be_bytes w32 n → HasHead op n bytes
head_of op n [] room is number = absurd (omega (arith, room))
head_of op n (x ∷ rest) room is number = ap (λ (l : List ℕ). x ∷ l) number ∙ ap (λ (k : ℕ). k ∷ to_be_bytes w32 n) is

-- a message's head, where that message begins these
head_begun : (message bytes : List ℕ) → Begins (Message message) bytes → HasHead 0 (length message) bytes
head_begun message bytes h =
    sym (take-take 5 (5 + length message) bytes (omega arith)) ∙ ap (λ (l : List ℕ). take 5 l) h.is
    ∙ take_at (0 ∷ to_be_bytes w32 (length message)) message 5 refl

-- its first byte stands behind the head
pub first_begun : (message bytes : List ℕ) → Begins (Message message) bytes → 0 < length message → slice_index bytes 5 ≡ version → slice_index message 0 ≡ version
first_begun message bytes h some is =
    sym (sym (get_or-take (5 + length message) bytes 5 0 (omega (arith, some))) ∙ ap (λ (l : List ℕ). slice_index l 5) h.is) ∙ is

-- the head of one that no entry can hold
pub long_head : (n : ℕ) (bytes : List ℕ) → IsNotWhole bytes → n < 2 ^ 32 → 65531 < n → 5 < length bytes → slice_index bytes 0 ≡ 0 → take 4 (drop 1 bytes) ≡ to_be_bytes w32 n → HasLongHead (5 + n) bytes
long_head n bytes (inl empty) fits long some op number = absurd (omega (arith, some, ap (λ (l : List ℕ). length l) empty))
long_head n bytes (inr cut) fits long some op number = record {
  long = record { number = n; fits = fits; long = long; head = head_of 0 n bytes (omega (arith, some)) op number };
  is = refl;
  some = some;
  first = cut.1 some;
}

-- nothing is taken yet: an entry that hasn't come whole
pub unfinished_of : (bytes : List ℕ) → IsNotWhole bytes → (IsTooLong bytes → length bytes ≤ 5) → IsUnfinished bytes × (length bytes ≤ 65536)
unfinished_of bytes (inl empty) few = (inl empty, omega (arith, ap (λ (l : List ℕ). length l) empty))
unfinished_of bytes (inr (inl (inl head), first)) few = (inr (inl (inl head), first), omega (arith, head.short))
unfinished_of bytes (inr (inl (inr cut), first)) few = (inr (inl (inr cut), first), omega (arith, cut.short, cut.lawful))
unfinished_of bytes (inr (inr long, first)) few =
    (inr (inr (record { head = long; short = omega (arith, few long, long.long) }), first), omega (arith, few long))
