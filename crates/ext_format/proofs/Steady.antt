-- More bytes at the end change nothing of what is read, but where bytes were missing.
use Rattle.std.proofs.Common.{◌≡◌, ℕ, zero, suc, ◌-◌, ◌<◌, ◌≤◌, Bool, true, false, cond, ltb, eqb, List, [], ◌++◌, length, take, drop, Result, Ok, Err, refl, sym, ap, ◌∙◌, append-nil, arith}
use Rattle.std.specs.Int.{Width, w8, w16, w32, byte_len, from_be_bytes, cast_signed}
use Rattle.std.specs.Option.{ok_or}
use Rattle.std.proofs.lemmas.Bool.{ltb-false, le-ltb}
use Rattle.std.proofs.lemmas.List.{length-append, take-append-le, drop-append-le}
use Rattle.std.specs.Prelude.{pos}
use Rattle.trace_terms.specs.Data.{Data, int, atom, pid, tuple, list, binary, no_members, member}
use Rattle.ext_format.specs.declared.fault.DecodeFault.{DecodeFault}
use Rattle.ext_format.specs.declared.fault.DecodeFault.TheVariants.{Truncated, BadVersion, BadTag, BadText, TooBig, Improper, TooDeep, AtomTooLong, NoMemory}
use Rattle.ext_format.specs.declared.tag.Tag.{Tag}
use Rattle.ext_format.specs.declared.tag.Tag.TheVariants.{SmallIntegerExt, IntegerExt, SmallBigExt, SmallAtomUtf8Ext, AtomUtf8Ext, SmallAtomExt, AtomExt, NewPidExt, PidExt, SmallTupleExt, LargeTupleExt, NilExt, StringExt, ListExt, BinaryExt}
use Rattle.ext_format.specs.Tags.{tag_of}
use Rattle.ext_format.specs.Members.{integers}
use Rattle.ext_format.specs.Spelling.{little_endian, Spells}
use Rattle.ext_format.specs.Reading.{◌>>=◌, Read, number_at, bytes_at, sized_at, tag_at, signed, big_at, utf8_text, latin1_text, text_in, text_at, node_at, pid_at, members_at, tuple_at, tail_at, list_at, fields_at, tagged_at, inner_of, term_at, whole_at}
use Rattle.ext_format.proofs.FieldLaws.{ok_is}
use Rattle.ext_format.proofs.Again.{whole_again}

-- What a reader gives of some bytes, and later, when more bytes stand after them.
abbrev Kept : {X : Type 0} → Read X → List ℕ → Read X → Type 0
Kept (Ok x) more later = later ≡ Ok (x.0, x.1 ++ more)
Kept (Err Truncated) more later = Unit {0}
Kept (Err e) more later = later ≡ Err e

abbrev Steady : {X : Type 0} → (List ℕ → Read X) → Type 0
Steady read = (bytes more : List ℕ) → Kept (read bytes) more (read (bytes ++ more))

-- one step after the other
then : {X Y : Type 0} (r later : Read X) (f : X × List ℕ → Read Y) (more : List ℕ) → Kept r more later → ((x : X) (rest : List ℕ) → Kept (f (x, rest)) more (f (x, rest ++ more))) → Kept (r >>= f) more (later >>= f)
then (Ok x) later f more kept next = rw kept (next x.0 x.1)
then (Err Truncated) later f more kept next = tt
then (Err BadVersion) later f more kept next = ap (λ r. r >>= f) kept
then (Err BadTag) later f more kept next = ap (λ r. r >>= f) kept
then (Err BadText) later f more kept next = ap (λ r. r >>= f) kept
then (Err TooBig) later f more kept next = ap (λ r. r >>= f) kept
then (Err Improper) later f more kept next = ap (λ r. r >>= f) kept
then (Err TooDeep) later f more kept next = ap (λ r. r >>= f) kept
then (Err AtomTooLong) later f more kept next = ap (λ r. r >>= f) kept
then (Err NoMemory) later f more kept next = ap (λ r. r >>= f) kept

failed : (X : Type 0) (e : DecodeFault) (more : List ℕ) → Kept {X = X} (Err e) more (Err e)
failed X Truncated more = tt
failed X BadVersion more = refl
failed X BadTag more = refl
failed X BadText more = refl
failed X TooBig more = refl
failed X Improper more = refl
failed X TooDeep more = refl
failed X AtomTooLong more = refl
failed X NoMemory more = refl

-- a step that reads no bytes
pure : {A Y : Type 0} (p : Result A DecodeFault) (f g : A → Read Y) (more : List ℕ) → ((x : A) → Kept (f x) more (g x)) → Kept (p >>= f) more (p >>= g)
pure (Ok x) f g more next = next x
pure (Err e) f g more next = failed _ e more

-- ---- fields

front : {X : Type 0} (n : ℕ) (bytes more : List ℕ) (value : List ℕ → X) (short : Bool) → ltb (length bytes) n ≡ short
    → Kept (cond short (Err Truncated) (Ok (value (take n bytes), drop n bytes))) more (cond (ltb (length (bytes ++ more)) n) (Err Truncated) (Ok (value (take n (bytes ++ more)), drop n (bytes ++ more))))
front n bytes more value true is = tt
front n bytes more value false is =
    let long : n ≤ length bytes = ltb-false _ _ is in
    let longer : ltb (length (bytes ++ more)) n ≡ false = le-ltb _ _ (omega (arith, length-append bytes more)) in
    rw (longer, take-append-le n bytes more long, drop-append-le n bytes more long) refl

number_steady : (w : Width) → Steady (number_at w)
number_steady w bytes more = front (byte_len w) bytes more (from_be_bytes w) (ltb (length bytes) (byte_len w)) refl

bytes_steady : (n : ℕ) → Steady (bytes_at n)
bytes_steady n bytes more = front n bytes more (λ x. x) (ltb (length bytes) n) refl

sized_steady : (w : Width) → Steady (sized_at w)
unfolding sized_at
sized_steady w bytes more = then (number_at w bytes) (number_at w (bytes ++ more)) (λ n. bytes_at n.0 n.1) more (number_steady w bytes more) (λ n rest. bytes_steady n rest more)

tag_steady : Steady tag_at
unfolding tag_at
tag_steady bytes more =
    then (number_at w8 bytes) (number_at w8 (bytes ++ more)) (λ b. ok_or (tag_of b.0) BadTag >>= λ tag. Ok (tag, b.1)) more (number_steady w8 bytes more)
    (λ b rest. pure (ok_or (tag_of b) BadTag) (λ tag. Ok (tag, rest)) (λ tag. Ok (tag, rest ++ more)) more (λ tag. refl))

big_steady : Steady big_at
unfolding big_at
big_steady bytes more =
    then (number_at w8 bytes) (number_at w8 (bytes ++ more)) (λ n. number_at w8 n.1 >>= λ sign. bytes_at n.0 sign.1 >>= λ digits. signed sign.0 (little_endian digits.0) >>= λ z. Ok (z, digits.1)) more (number_steady w8 bytes more)
    (λ n rest. then (number_at w8 rest) (number_at w8 (rest ++ more)) (λ sign. bytes_at n sign.1 >>= λ digits. signed sign.0 (little_endian digits.0) >>= λ z. Ok (z, digits.1)) more (number_steady w8 rest more)
    (λ sign rest. then (bytes_at n rest) (bytes_at n (rest ++ more)) (λ digits. signed sign (little_endian digits.0) >>= λ z. Ok (z, digits.1)) more (bytes_steady n rest more)
    (λ digits rest. pure (signed sign (little_endian digits)) (λ z. Ok (z, rest)) (λ z. Ok (z, rest ++ more)) more (λ z. refl))))

-- ---- atoms and pids

text_in_steady : (text_of : List ℕ → Result (List ℕ) DecodeFault) (w : Width) → Steady (text_in text_of w)
text_in_steady text_of w bytes more =
    then (sized_at w bytes) (sized_at w (bytes ++ more)) (λ sized. text_of sized.0 >>= λ text. Ok (text, sized.1)) more (sized_steady w bytes more)
    (λ sized rest. pure (text_of sized) (λ text. Ok (text, rest)) (λ text. Ok (text, rest ++ more)) more (λ text. refl))

text_steady : (tag : Tag) → Steady (text_at tag)
unfolding text_at
text_steady SmallAtomUtf8Ext = text_in_steady utf8_text w8
text_steady AtomUtf8Ext = text_in_steady utf8_text w16
text_steady SmallAtomExt = text_in_steady latin1_text w8
text_steady AtomExt = text_in_steady latin1_text w16
text_steady tag = λ bytes more. refl

node_steady : Steady node_at
unfolding node_at
node_steady bytes more = then (tag_at bytes) (tag_at (bytes ++ more)) (λ tag. text_at tag.0 tag.1) more (tag_steady bytes more) (λ tag rest. text_steady tag rest more)

pid_steady : (w : Width) → Steady (pid_at w)
unfolding pid_at
pid_steady w bytes more =
    then (node_at bytes) (node_at (bytes ++ more)) (λ node. number_at w32 node.1 >>= λ id. number_at w32 id.1 >>= λ serial. number_at w serial.1 >>= λ creation. Ok (record { node = node.0; id = id.0; serial = serial.0; creation = creation.0 }, creation.1)) more (node_steady bytes more)
    (λ node rest. then (number_at w32 rest) (number_at w32 (rest ++ more)) (λ id. number_at w32 id.1 >>= λ serial. number_at w serial.1 >>= λ creation. Ok (record { node = node; id = id.0; serial = serial.0; creation = creation.0 }, creation.1)) more (number_steady w32 rest more)
    (λ id rest. then (number_at w32 rest) (number_at w32 (rest ++ more)) (λ serial. number_at w serial.1 >>= λ creation. Ok (record { node = node; id = id; serial = serial.0; creation = creation.0 }, creation.1)) more (number_steady w32 rest more)
    (λ serial rest. then (number_at w rest) (number_at w (rest ++ more)) (λ creation. Ok (record { node = node; id = id; serial = serial; creation = creation.0 }, creation.1)) more (number_steady w rest more)
    (λ creation rest. refl))))

-- ---- terms

abbrev tail_if : Bool → List ℕ → Read (Unit {0})
tail_if nil rest = cond nil (Ok (tt, rest)) (Err Improper)

tail_cases : (nil : Bool) (rest more : List ℕ) → Kept (tail_if nil rest) more (tail_if nil (rest ++ more))
tail_cases true rest more = refl
tail_cases false rest more = refl

tail_steady : Steady tail_at
tail_steady bytes more =
    then (number_at w8 bytes) (number_at w8 (bytes ++ more)) (λ b. tail_if (eqb b.0 106) b.1) more (number_steady w8 bytes more) (λ b rest. tail_cases (eqb b 106) rest more)

module _ (read : List ℕ → Read Data) (steady : Steady read) where
  members_steady : (n : ℕ) → Steady (members_at read n)
  unfolding members_at
  members_steady zero bytes more = refl
  members_steady (suc n) bytes more =
      then (read bytes) (read (bytes ++ more)) (λ first. members_at read n first.1 >>= λ others. Ok (member first.0 others.0, others.1)) more (steady bytes more)
      (λ first rest. then (members_at read n rest) (members_at read n (rest ++ more)) (λ others. Ok (member first others.0, others.1)) more (members_steady n rest more) (λ others rest. refl))

  tuple_steady : (w : Width) → Steady (tuple_at w read)
  unfolding tuple_at
  tuple_steady w bytes more =
      then (number_at w bytes) (number_at w (bytes ++ more)) (λ n. members_at read n.0 n.1 >>= λ ts. Ok (tuple ts.0, ts.1)) more (number_steady w bytes more)
      (λ n rest. then (members_at read n rest) (members_at read n (rest ++ more)) (λ ts. Ok (tuple ts.0, ts.1)) more (members_steady n rest more) (λ ts rest. refl))

  list_steady : Steady (list_at read)
  unfolding list_at
  list_steady bytes more =
      then (number_at w32 bytes) (number_at w32 (bytes ++ more)) (λ n. members_at read n.0 n.1 >>= λ ts. tail_at ts.1 >>= λ tail. Ok (list ts.0, tail.1)) more (number_steady w32 bytes more)
      (λ n rest. then (members_at read n rest) (members_at read n (rest ++ more)) (λ ts. tail_at ts.1 >>= λ tail. Ok (list ts.0, tail.1)) more (members_steady n rest more)
      (λ ts rest. then (tail_at rest) (tail_at (rest ++ more)) (λ tail. Ok (list ts, tail.1)) more (tail_steady rest more) (λ tail rest. refl)))

-- the reader of members, where there is one
abbrev SteadyInner : Result (List ℕ → Read Data) DecodeFault → Type 0
SteadyInner (Ok read) = Steady read
SteadyInner (Err e) = Unit {0}

inside : (inner : Result (List ℕ → Read Data) DecodeFault) (f : (List ℕ → Read Data) → List ℕ → Read Data) → SteadyInner inner → ((read : List ℕ → Read Data) → Steady read → Steady (f read)) → Steady (λ bytes. inner >>= λ read. f read bytes)
inside (Ok read) f steady each = each read steady
inside (Err e) f steady each = λ bytes more. failed Data e more

fields_steady : (inner : Result (List ℕ → Read Data) DecodeFault) → SteadyInner inner → (tag : Tag) → Steady (fields_at inner tag)
unfolding fields_at
fields_steady inner steady SmallIntegerExt = λ bytes more. then (number_at w8 bytes) (number_at w8 (bytes ++ more)) (λ n. Ok (int (pos n.0), n.1)) more (number_steady w8 bytes more) (λ n rest. refl)
fields_steady inner steady IntegerExt = λ bytes more. then (number_at w32 bytes) (number_at w32 (bytes ++ more)) (λ n. Ok (int (cast_signed w32 n.0), n.1)) more (number_steady w32 bytes more) (λ n rest. refl)
fields_steady inner steady SmallBigExt = λ bytes more. then (big_at bytes) (big_at (bytes ++ more)) (λ z. Ok (int z.0, z.1)) more (big_steady bytes more) (λ z rest. refl)
fields_steady inner steady NewPidExt = λ bytes more. then (pid_at w32 bytes) (pid_at w32 (bytes ++ more)) (λ p. Ok (pid p.0, p.1)) more (pid_steady w32 bytes more) (λ p rest. refl)
fields_steady inner steady PidExt = λ bytes more. then (pid_at w8 bytes) (pid_at w8 (bytes ++ more)) (λ p. Ok (pid p.0, p.1)) more (pid_steady w8 bytes more) (λ p rest. refl)
fields_steady inner steady SmallTupleExt = inside inner (tuple_at w8) steady (λ read s. tuple_steady read s w8)
fields_steady inner steady LargeTupleExt = inside inner (tuple_at w32) steady (λ read s. tuple_steady read s w32)
fields_steady inner steady NilExt = inside inner (λ read bytes. Ok (list no_members, bytes)) steady (λ read s bytes more. refl)
fields_steady inner steady StringExt =
    inside inner (λ read bytes. sized_at w16 bytes >>= λ sized. Ok (list (integers sized.0), sized.1)) steady
    (λ read s bytes more. then (sized_at w16 bytes) (sized_at w16 (bytes ++ more)) (λ sized. Ok (list (integers sized.0), sized.1)) more (sized_steady w16 bytes more) (λ sized rest. refl))
fields_steady inner steady ListExt = inside inner list_at steady (λ read s. list_steady read s)
fields_steady inner steady BinaryExt = λ bytes more. then (sized_at w32 bytes) (sized_at w32 (bytes ++ more)) (λ sized. Ok (binary sized.0, sized.1)) more (sized_steady w32 bytes more) (λ sized rest. refl)
fields_steady inner steady SmallAtomUtf8Ext = λ bytes more. then (text_at SmallAtomUtf8Ext bytes) (text_at SmallAtomUtf8Ext (bytes ++ more)) (λ text. Ok (atom text.0, text.1)) more (text_steady SmallAtomUtf8Ext bytes more) (λ text rest. refl)
fields_steady inner steady AtomUtf8Ext = λ bytes more. then (text_at AtomUtf8Ext bytes) (text_at AtomUtf8Ext (bytes ++ more)) (λ text. Ok (atom text.0, text.1)) more (text_steady AtomUtf8Ext bytes more) (λ text rest. refl)
fields_steady inner steady SmallAtomExt = λ bytes more. then (text_at SmallAtomExt bytes) (text_at SmallAtomExt (bytes ++ more)) (λ text. Ok (atom text.0, text.1)) more (text_steady SmallAtomExt bytes more) (λ text rest. refl)
fields_steady inner steady AtomExt = λ bytes more. then (text_at AtomExt bytes) (text_at AtomExt (bytes ++ more)) (λ text. Ok (atom text.0, text.1)) more (text_steady AtomExt bytes more) (λ text rest. refl)

tagged_steady : (inner : Result (List ℕ → Read Data) DecodeFault) → SteadyInner inner → Steady (tagged_at inner)
tagged_steady inner steady bytes more = then (tag_at bytes) (tag_at (bytes ++ more)) (λ tag. fields_at inner tag.0 tag.1) more (tag_steady bytes more) (λ tag rest. fields_steady inner steady tag rest more)

inner_steady : (room : ℕ) → SteadyInner (inner_of room)
unfolding inner_of
inner_steady zero = tt
inner_steady (suc room) = tagged_steady (inner_of room) (inner_steady room)

-- ---- the whole

abbrev body_at : List ℕ → Read Data
body_at bytes = number_at w8 bytes >>= λ version. cond (eqb version.0 131) (term_at 64 version.1) (Err BadVersion)

version_cases : (same : Bool) (rest more : List ℕ) → Kept (cond same (term_at 64 rest) (Err BadVersion)) more (cond same (term_at 64 (rest ++ more)) (Err BadVersion))
version_cases true rest more = tagged_steady (inner_of 64) (inner_steady 64) rest more
version_cases false rest more = refl

body_steady : Steady body_at
body_steady bytes more =
    then (number_at w8 bytes) (number_at w8 (bytes ++ more)) (λ version. cond (eqb version.0 131) (term_at 64 version.1) (Err BadVersion)) more (number_steady w8 bytes more) (λ version rest. version_cases (eqb version 131) rest more)

abbrev counted : ℕ → Read Data → Result (Data × ℕ) DecodeFault
counted size read = read >>= λ t. Ok (t.0, size - length t.1)

regrouped : {A : Type 0} (size : ℕ) (r : Result A DecodeFault) (f : A → Read Data) → (r >>= λ x. counted size (f x)) ≡ counted size (r >>= f)
regrouped size (Ok x) f = refl
regrouped size (Err e) f = refl

whole-body : (bytes : List ℕ) → whole_at bytes ≡ counted (length bytes) (body_at bytes)
unfolding whole_at
whole-body bytes = regrouped (length bytes) (number_at w8 bytes) (λ version. cond (eqb version.0 131) (term_at 64 version.1) (Err BadVersion))

missing : (r later : Read Data) (more : List ℕ) (size whole : ℕ) (t : Data) → Kept r more later → 0 < length more → 0 < whole → counted whole later ≡ Ok (t, whole) → counted size r ≡ Err Truncated
missing (Ok x) later more size whole t kept some any e =
    let all : counted whole (Ok (x.0, x.1 ++ more)) ≡ Ok (t, whole) = rw kept at e in
    let sizes : whole - length (x.1 ++ more) ≡ whole = ap (λ (p : Data × ℕ). p.1) (ok_is (x.0, whole - length (x.1 ++ more)) (t, whole) all) in
    absurd (omega (arith, length-append x.1 more))
missing (Err Truncated) later more size whole t kept some any e = refl
missing (Err BadVersion) later more size whole t kept some any e = absurd cc
missing (Err BadTag) later more size whole t kept some any e = absurd cc
missing (Err BadText) later more size whole t kept some any e = absurd cc
missing (Err TooBig) later more size whole t kept some any e = absurd cc
missing (Err Improper) later more size whole t kept some any e = absurd cc
missing (Err TooDeep) later more size whole t kept some any e = absurd cc
missing (Err AtomTooLong) later more size whole t kept some any e = absurd cc
missing (Err NoMemory) later more size whole t kept some any e = absurd cc

pub cut_short : (t : Data) (bytes more : List ℕ) → Spells t (bytes ++ more) → 0 < length more → whole_at bytes ≡ Err Truncated
cut_short t bytes more is some =
    let text = bytes ++ more in
    let read : whole_at text ≡ Ok (t, length text) = ap whole_at (sym (append-nil text)) ∙ whole_again t text [] is in
    whole-body bytes ∙ missing (body_at bytes) (body_at text) more (length bytes) (length text) t (body_steady bytes more) some (omega (arith, length-append bytes more)) (sym (whole-body text) ∙ read)
