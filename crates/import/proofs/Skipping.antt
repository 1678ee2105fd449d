-- How far the bytes that an import is to skip are passed over, from one read to the next.
use Rattle.std.proofs.Common.{◌≡◌, inl, ℕ, ◌+◌, ◌-◌, ◌≤◌, List, [], length, refl, ap, subst, arith}
use Rattle.std.specs.Io.KnownBytes.{IsAtEnd}
use Rattle.import.specs.declared.fault.ImportFault.{ImportFault}
use Rattle.import.specs.declared.fault.ImportFault.TheVariants as faults
use Rattle.import.specs.Incoming.{Outside, Comes}
use Rattle.import.specs.Beginning.{Skips, none, more, EndsWithin, IsUnread}

module _ (skip : ℕ) (was mid is : Outside) where
  -- before the first read
  pub skips_none : (left : ℕ) → left ≡ skip → Skips (skip - left) was was
  skips_none left same = subst (λ (n : ℕ). Skips n was was) (let e : 0 ≡ skip - left = omega arith in e) none

  -- a read within them
  pub skips_more : (left after : ℕ) (chunk : List ℕ) → left ≤ skip → Skips (skip - left) was mid → Comes mid is chunk → after + length chunk ≡ left → Skips (skip - after) was is
  skips_more left after chunk within skips comes less =
      subst (λ (n : ℕ). Skips n was is) (let e : skip - left + length chunk ≡ skip - after = omega arith in e) (more chunk skips comes)

  -- nothing more comes
  pub skips_end : (left : ℕ) (chunk : List ℕ) → left ≤ skip → Skips (skip - left) was mid → Comes mid is chunk → length chunk ≡ 0 → IsAtEnd is.remaining → EndsWithin skip was is
  skips_end left chunk within skips comes nothing over = record {
    count = skip - left + length chunk;
    within = omega arith;
    skips = more chunk skips comes;
    at_end = over;
  }

  -- a read failed
  pub skips_unread : (left : ℕ) → left ≤ skip → Skips (skip - left) was mid → Comes mid is [] → IsUnread skip was is faults.Read
  skips_unread left within skips comes = record { count = skip - left + length (let l : List ℕ = [] in l); within = omega arith; skips = more [] skips comes; why = inl refl }

-- ---- past them

module _ (skip : ℕ) (was mid is : Outside) (chunk : List ℕ) (skips : Skips skip was mid) (comes : Comes mid is chunk) where
  pub begin_unread : (fault : ImportFault) → fault ≡ faults.Read → chunk ≡ [] → IsUnread skip was is fault
  begin_unread fault failed empty = record { count = skip + length chunk; within = omega (arith, ap (λ (l : List ℕ). length l) empty); skips = more chunk skips comes; why = inl failed }

  pub begin_end : length chunk ≡ 0 → IsAtEnd is.remaining → EndsWithin skip was is
  begin_end nothing over = record { count = skip + length chunk; within = omega arith; skips = more chunk skips comes; at_end = over }
