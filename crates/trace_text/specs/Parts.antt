-- What is read of a message, and the parts that it tells of.
use Rattle.std.specs.Prelude.{◌≡◌, ℕ, ℤ, ◌≤◌, List, [], ◌∷◌, ◌++◌, length, Bool, true, false, Option, Some, None, Result, Ok, MatchOption, MatchResult}
use Rattle.std.specs.Fmt.{decimal}
use Rattle.ext_format.specs.declared.fault.DecodeFault.{DecodeFault}
use Rattle.ext_format.specs.Reading.{Read, Fails}
use Rattle.trace_text.specs.declared.message.Arity.{Arity}
use Rattle.trace_text.specs.declared.message.Arity.TheVariants.{Counted, Told, Untold}
use Rattle.trace_text.specs.declared.message.Called.{Called}
use Rattle.trace_text.specs.declared.message.Opening.{Opening}
use Rattle.trace_text.specs.declared.separator.Separator.TheVariants.{First}
use Rattle.trace_text.specs.declared.sight.Kind.{Kind}
use Rattle.trace_text.specs.declared.sight.Sight.{Sight}
use Rattle.trace_text.specs.declared.sight.Sort.TheVariants as sorts
use Rattle.trace_text.specs.declared.told.Told.{Told as Written}
use Rattle.trace_text.specs.BigText.{whole_signed}
use Rattle.trace_text.specs.AnyTerm.{Leaf, int, AnyTerm, leaf, tuple, AnyMembers, member}
use Rattle.trace_text.specs.AnyReading.{any_term_at}
use Rattle.trace_text.specs.Facts.{Function, arity_told}
use Rattle.trace_text.specs.Pretty.{leaf_text, IsPretty}
use Rattle.trace_text.specs.PrettyLines.{longest_message}
use Rattle.trace_text.specs.Printed.{PutMembers, any_tuple_of}
use Rattle.trace_text.specs.Sights.{shape_of_function, sight, sights}
use Rattle.trace_text.specs.SpellsAny.{SpellsAny}

-- what is seen of a tuple's members; of any other term nothing
abbrev pub members_seen : AnyTerm → List Sight
members_seen (tuple ts) = sights ts
members_seen t = []

-- this is seen of a term with that text
pub record IsSeenSo (t : AnyTerm) (seen : List Sight) (text : List ℕ) : Type 0 where
  pub members : seen ≡ members_seen t
  pub pretty : IsPretty t text

-- the text of a tuple's fifth member begins behind a byte at this place
abbrev pub IsFifthAt : AnyTerm → List ℕ → ℕ → Type 0
IsFifthAt (tuple (member a (member b (member c (member d (member e ts)))))) text place = (front own rest : List ℕ) × IsPretty e own × (place ≡ length front) × (text ≡ front ++ 44 ∷ (own ++ rest))
IsFifthAt t text place = Unit {0}

-- a message is read: it is one spelling of a term that isn't too long, and of this kind
pub record IsReadSo (kind : Option Kind) (bytes : List ℕ) (seen : List Sight) (text : List ℕ) : Type 0 where
  pub t : AnyTerm
  pub short : length bytes ≤ longest_message
  pub spells : SpellsAny t bytes
  pub is_kind : kind ≡ (sight t).kind
  pub is_seen : IsSeenSo t seen text

-- ---- what a message tells of, by texts

-- the process or the port
pub record IsTheTracee (own : List ℕ) (o : Option Leaf) : Type 0 where
  pub l : Leaf
  pub is : o ≡ Some l
  pub text : own ≡ leaf_text l

-- what tells how many arguments there are
abbrev pub IsArity : Arity → AnyTerm → Type 0
IsArity (Counted n) t = arity_told t ≡ Some (decimal n)
IsArity (Told own) t = (z : ℤ) × (t ≡ leaf (int z)) × (own.now ≡ whole_signed z)
IsArity Untold t = arity_told t ≡ None

-- a function: what is seen of its tuple, and texts that begin with its module and with its name
pub record IsCalledBy (called : Called) (f : Function) : Type 0 where
  pub own : List ℕ
  pub rest : List ℕ
  pub pretty : IsPretty f.arguments own
  pub named : called.from_name.now ≡ leaf_text f.of_name ++ 44 ∷ (own ++ rest)
  pub text : called.from_module.now ≡ leaf_text f.of_module ++ 44 ∷ called.from_name.now
  pub shape : called.seen.now.sort ≡ sorts.Tuple (shape_of_function (sight f.arguments).sort)
  pub module_size : called.seen.now.sizes.first ≡ length (leaf_text f.of_module)
  pub name_size : called.seen.now.sizes.second ≡ length (leaf_text f.of_name)
  pub size : called.seen.now.sizes.third ≡ (sight f.arguments).sizes.first

pub record IsTheFunction (called : Called) (o : Option Function) : Type 0 where
  pub f : Function
  pub is : o ≡ Some f
  pub by : IsCalledBy called f

-- ---- as it is put

abbrev pub is_tuple : AnyTerm → Bool
is_tuple (tuple ts) = true
is_tuple t = false

-- what is read is such a tuple, or else nothing that is read is one
abbrev pub IsOpening : Option Opening → Read AnyTerm → Type 0
IsOpening found read =
    MatchOption found ((x : AnyTerm × List ℕ) → read ≡ Ok x → is_tuple x.0 ≡ false) (λ o. read ≡ any_tuple_of (any_term_at o.inner) o.count o.behind.now)

-- so much is known, or reading fails so
abbrev pub Opens : Result (Option Opening) DecodeFault → Read AnyTerm → Type 0
Opens result read = MatchResult result (λ found. IsOpening found read) (λ fault. Fails fault read)

-- a message was read: its text stands after the line, its kind is known, and what was seen of its members is left
pub record PutMessage {R : Type 0} (kind : Option Kind) (old new : Written Sight) (read : Result (AnyTerm × R) DecodeFault) (rest : R) : Type 0 where
  pub t : AnyTerm
  pub is : read ≡ Ok (t, rest)
  pub text : List ℕ
  pub pretty : IsPretty t text
  pub line_is : new.text.items ≡ old.text.items ++ text
  pub is_kind : kind ≡ (sight t).kind
  pub members : new.seen.items ≡ members_seen t
  pub fifth : IsFifthAt t new.text.items new.place

-- the members of a message were read
pub record PutParts (old new : Written Sight) (read : Read AnyMembers) (rest : List ℕ) : Type 0 where
  pub put : PutMembers First old.text.items old.seen.items read new.text.items new.seen.items rest
  pub fifth : IsFifthAt (tuple put.ts) new.text.items new.place
