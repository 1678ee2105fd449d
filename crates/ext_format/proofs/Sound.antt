-- What is read is spelled so.
use Rattle.std.proofs.Common.{◌≡◌, ℕ, zero, suc, ◌-◌, ◌^◌, ◌<◌, ◌≤◌, Bool, true, false, cond, ltb, leb, eqb, ℤ, pos, neg_ℤ, List, [], ◌∷◌, ◌++◌, length, take, Result, Ok, Err, refl, sym, ap, subst, ◌∙◌, arith}
use Rattle.std.specs.Int.{Width, w8, w16, w32, w64, to_be_bytes, cast_signed, cast_unsigned}
use Rattle.std.specs.Int.RustNames.{FitsSigned}
use Rattle.std.proofs.lemmas.Bool.{ltb-true, leb-true, eqb-true}
use Rattle.std.proofs.lemmas.Int.{of_z-to_z}
use Rattle.std.proofs.lemmas.List.{length-append, take_at}
use borrow.Author.Gap.{read_sfits}
use Rattle.trace_terms.specs.Data.{Data, int, atom, pid, tuple, list, binary, Members, no_members, member, depth, greatest_depth}
use Rattle.ext_format.specs.declared.fault.DecodeFault.{DecodeFault}
use Rattle.ext_format.specs.declared.fault.DecodeFault.TheVariants.{BadVersion, TooBig, Improper}
use Rattle.ext_format.specs.declared.tag.Tag.{Tag}
use Rattle.ext_format.specs.declared.tag.Tag.TheVariants.{SmallIntegerExt, IntegerExt, SmallBigExt, SmallAtomUtf8Ext, AtomUtf8Ext, SmallAtomExt, AtomExt, NewPidExt, PidExt, SmallTupleExt, LargeTupleExt, NilExt, StringExt, ListExt, BinaryExt}
use Rattle.ext_format.specs.Tags.{byte_of}
use Rattle.ext_format.specs.Members.{integers, member_count}
use Rattle.ext_format.specs.Spelling.{sized, little_endian, with_sign, pid_fields, Form, Forms, small_integer, integer, small_big, an_atom, new_pid, old_pid, small_tuple, large_tuple, nil, string, a_list, a_binary, no_forms, form, Spells}
use Rattle.ext_format.specs.Reading.{◌>>=◌, Read, number_at, bytes_at, sized_at, tag_at, signed, big_at, text_at, pid_at, members_at, tuple_at, tail_at, list_at, fields_at, tagged_at, inner_of, term_at, whole_at}
use Rattle.ext_format.proofs.FieldLaws.{IsBytes, bind_ok, ok_is, Takes, Takes-then, IsWide, wide8, wide16, wide32, one_byte, number_takes, bytes_take, sized_takes, tag_takes}
use Rattle.ext_format.proofs.AtomLaws.{text_takes, pid_takes}

-- ---- integers

signed_below : (size : ℕ) (z : ℤ) (b : Bool) → ltb size (2 ^ 63) ≡ b → cond b (Ok (pos size)) (Err TooBig) ≡ Ok z → FitsSigned w64 (pos size) × (pos size ≡ z)
signed_below size z true is e = (record { sfits = ltb-true _ _ is }, cc)
signed_below size z false is e = absurd cc

negative_fits : (size : ℕ) → size ≤ 2 ^ 63 → FitsSigned w64 (neg_ℤ (pos size))
negative_fits zero le = record { sfits = omega arith }
negative_fits (suc n) le = record { sfits = omega arith }

signed_above : (size : ℕ) (z : ℤ) (b : Bool) → leb size (2 ^ 63) ≡ b → cond b (Ok (neg_ℤ (pos size))) (Err TooBig) ≡ Ok z → FitsSigned w64 (neg_ℤ (pos size)) × (neg_ℤ (pos size) ≡ z)
signed_above size z true is e = (negative_fits size (leb-true _ _ is), cc)
signed_above size z false is e = absurd cc

signed-is : (sign size : ℕ) (z : ℤ) → signed sign size ≡ Ok z → FitsSigned w64 (with_sign sign size) × (with_sign sign size ≡ z)
unfolding signed
signed-is zero size z e = signed_below size z (ltb size (2 ^ 63)) refl e
signed-is (suc sign) size z e = signed_above size z (leb size (2 ^ 63)) refl e

-- ---- terms

-- What a reader has taken: the tag's fields, and the term that they stand for.
record FieldsTaken (tag : Tag) (room : ℕ) (bytes : List ℕ) (t : Data) (rest : List ℕ) : Type 0 where
  fields : List ℕ
  is_form : Form t (byte_of tag ∷ fields)
  taken : Takes bytes fields rest
  shallow : depth t ≤ room

pub record TermTaken (room : ℕ) (bytes : List ℕ) (t : Data) (rest : List ℕ) : Type 0 where
  pub text : List ℕ
  pub is_form : Form t text
  pub taken : Takes bytes text rest
  pub shallow : depth t ≤ room

pub record MembersTaken (room n : ℕ) (bytes : List ℕ) (ts : Members) (rest : List ℕ) : Type 0 where
  pub text : List ℕ
  pub are_forms : Forms ts text
  pub taken : Takes bytes text rest
  pub count : member_count ts ≡ n
  pub shallow : greatest_depth ts ≤ room

abbrev Sound : ℕ → (List ℕ → Read Data) → Type 0
Sound room read = (bytes : List ℕ) (x : Data × List ℕ) → IsBytes bytes → read bytes ≡ Ok x → TermTaken room bytes x.0 x.1

big_takes : (room : ℕ) (bytes : List ℕ) (z : ℤ) (rest : List ℕ) → IsBytes bytes → big_at bytes ≡ Ok (z, rest) → FieldsTaken SmallBigExt room bytes (int z) rest
unfolding big_at
big_takes room bytes z rest fits e =
    let a = bind_ok (number_at w8 bytes) (λ n. number_at w8 n.1 >>= λ sign. bytes_at n.0 sign.1 >>= λ digits. signed sign.0 (little_endian digits.0) >>= λ z. Ok (z, digits.1)) (z, rest) e in
    let b = bind_ok (number_at w8 a.0.1) (λ sign. bytes_at a.0.0 sign.1 >>= λ digits. signed sign.0 (little_endian digits.0) >>= λ z. Ok (z, digits.1)) (z, rest) a.2 in
    let c = bind_ok (bytes_at a.0.0 b.0.1) (λ digits. signed b.0.0 (little_endian digits.0) >>= λ z. Ok (z, digits.1)) (z, rest) b.2 in
    let d = bind_ok (signed b.0.0 (little_endian c.0.0)) (λ z. Ok (z, c.0.1)) (z, rest) c.2 in
    let t0 = number_takes w8 (2 ^ 8) wide8 bytes a.0.0 a.0.1 fits a.1 in
    let t1 = number_takes w8 (2 ^ 8) wide8 a.0.1 b.0.0 b.0.1 t0.0.rest_fits b.1 in
    let t2 = bytes_take a.0.0 b.0.1 c.0.0 c.0.1 t1.0.rest_fits c.1 in
    let e1 = Takes-then bytes (to_be_bytes w8 a.0.0) a.0.1 (to_be_bytes w8 b.0.0) b.0.1 t0.0 t1.0 in
    let e2 = Takes-then bytes (to_be_bytes w8 a.0.0 ++ to_be_bytes w8 b.0.0) b.0.1 c.0.0 c.0.1 e1 t2.0 in
    let e3 = subst (λ (k : ℕ). Takes bytes (to_be_bytes w8 k ++ to_be_bytes w8 b.0.0 ++ c.0.0) c.0.1) (sym t2.1) e2 in
    let is = signed-is b.0.0 (little_endian c.0.0) d.0 d.1 in
    let whole : FieldsTaken SmallBigExt room bytes (int (with_sign b.0.0 (little_endian c.0.0))) c.0.1 = record {
      fields = to_be_bytes w8 (length c.0.0) ++ to_be_bytes w8 b.0.0 ++ c.0.0;
      is_form = small_big b.0.0 c.0.0 t1.1 (omega (arith, t2.1, t0.1)) is.0;
      taken = e3;
      shallow = omega arith;
    } in
    let both : (with_sign b.0.0 (little_endian c.0.0), c.0.1) ≡ (z, rest) = ap (λ (k : ℤ). (k, c.0.1)) is.1 ∙ ok_is (d.0, c.0.1) (z, rest) d.2 in
    subst (λ (p : ℤ × List ℕ). FieldsTaken SmallBigExt room bytes (int p.0) p.1) both whole

module _ (room : ℕ) (read : List ℕ → Read Data) (sound : Sound room read) where
  members_take : (n : ℕ) (bytes : List ℕ) (x : Members × List ℕ) → IsBytes bytes → members_at read n bytes ≡ Ok x → MembersTaken room n bytes x.0 x.1
  unfolding members_at
  members_take zero bytes x fits e =
      subst (λ (y : Members × List ℕ). MembersTaken room 0 bytes y.0 y.1) (ok_is (no_members, bytes) x e)
      (record { text = []; are_forms = no_forms; taken = record { parts = refl; rest_fits = fits }; count = refl; shallow = omega arith })
  members_take (suc n) bytes x fits e =
      let a = bind_ok (read bytes) (λ first. members_at read n first.1 >>= λ others. Ok (member first.0 others.0, others.1)) x e in
      let b = bind_ok (members_at read n a.0.1) (λ others. Ok (member a.0.0 others.0, others.1)) x a.2 in
      let first = sound bytes a.0 fits a.1 in
      let others = members_take n a.0.1 b.0 first.taken.rest_fits b.1 in
      let made : Members × List ℕ = (member a.0.0 b.0.0, b.0.1) in
      let s1 = first.shallow in
      let s2 = others.shallow in
      subst (λ (y : Members × List ℕ). MembersTaken room (suc n) bytes y.0 y.1) (ok_is made x b.2) (record {
        text = first.text ++ others.text;
        are_forms = form a.0.0 b.0.0 first.text others.text first.is_form others.are_forms;
        taken = Takes-then bytes first.text a.0.1 others.text b.0.1 first.taken others.taken;
        count = ap suc others.count;
        shallow = omega arith;
      })

  record Counted (w : Width) (limit : ℕ) (bytes : List ℕ) (ts : Members) (rest : List ℕ) : Type 0 where
    text : List ℕ
    are_forms : Forms ts text
    taken : Takes bytes (to_be_bytes w (member_count ts) ++ text) rest
    below : member_count ts < limit
    shallow : greatest_depth ts ≤ room

  counted : (w : Width) (limit : ℕ) (wide : IsWide w limit) (bytes : List ℕ) (n : ℕ × List ℕ) (x : Members × List ℕ) → IsBytes bytes → number_at w bytes ≡ Ok n → members_at read n.0 n.1 ≡ Ok x → Counted w limit bytes x.0 x.1
  counted w limit wide bytes n x fits e f =
      let t0 = number_takes w limit wide bytes n.0 n.1 fits e in
      let t1 = members_take n.0 n.1 x t0.0.rest_fits f in
      let both = Takes-then bytes (to_be_bytes w n.0) n.1 t1.text x.1 t0.0 t1.taken in
      record {
        text = t1.text;
        are_forms = t1.are_forms;
        taken = subst (λ (k : ℕ). Takes bytes (to_be_bytes w k ++ t1.text) x.1) (sym t1.count) both;
        below = omega (arith, t1.count, t0.1);
        shallow = t1.shallow;
      }

  tuple_takes : (w : Width) (limit : ℕ) (wide : IsWide w limit) (bytes : List ℕ) (x : Data × List ℕ) → IsBytes bytes → tuple_at w read bytes ≡ Ok x → (ts : Members) × (tuple ts ≡ x.0) × Counted w limit bytes ts x.1
  unfolding tuple_at
  tuple_takes w limit wide bytes x fits e =
      let n = bind_ok (number_at w bytes) (λ n. members_at read n.0 n.1 >>= λ ts. Ok (tuple ts.0, ts.1)) x e in
      let ts = bind_ok (members_at read n.0.0 n.0.1) (λ ts. Ok (tuple ts.0, ts.1)) x n.2 in
      let c = counted w limit wide bytes n.0 ts.0 fits n.1 ts.1 in
      let both : (tuple ts.0.0, ts.0.1) ≡ x = ok_is (tuple ts.0.0, ts.0.1) x ts.2 in
      (ts.0.0, ap (λ (y : Data × List ℕ). y.0) both, subst (λ (y : Data × List ℕ). Counted w limit bytes ts.0.0 y.1) both c)

  tail_is : (b : ℕ) (rest : List ℕ) (same : Bool) (y : Unit {0} × List ℕ) → eqb b 106 ≡ same → cond same (Ok (tt, rest)) (Err Improper) ≡ Ok y → (b ≡ 106) × (rest ≡ y.1)
  tail_is b rest true y is e = (eqb-true b 106 is, ap (λ (p : Unit {0} × List ℕ). p.1) (ok_is (tt, rest) y e))
  tail_is b rest false y is e = absurd cc

  tail_takes : (bytes : List ℕ) (y : Unit {0} × List ℕ) → IsBytes bytes → tail_at bytes ≡ Ok y → Takes bytes (106 ∷ []) y.1
  tail_takes bytes y fits e =
      let b = bind_ok (number_at w8 bytes) (λ b. cond (eqb b.0 106) (Ok (tt, b.1)) (Err Improper)) y e in
      let t = number_takes w8 (2 ^ 8) wide8 bytes b.0.0 b.0.1 fits b.1 in
      let is = tail_is b.0.0 b.0.1 (eqb b.0.0 106) y refl b.2 in
      subst (λ (r : List ℕ). Takes bytes (106 ∷ []) r) is.1 (subst (λ (x : List ℕ). Takes bytes x b.0.1) (one_byte b.0.0 t.1 ∙ ap (λ (k : ℕ). k ∷ []) is.0) t.0)

  list_takes : (bytes : List ℕ) (x : Data × List ℕ) → IsBytes bytes → list_at read bytes ≡ Ok x → FieldsTaken ListExt (suc room) bytes x.0 x.1
  unfolding list_at
  list_takes bytes x fits e =
      let n = bind_ok (number_at w32 bytes) (λ n. members_at read n.0 n.1 >>= λ ts. tail_at ts.1 >>= λ tail. Ok (list ts.0, tail.1)) x e in
      let ts = bind_ok (members_at read n.0.0 n.0.1) (λ ts. tail_at ts.1 >>= λ tail. Ok (list ts.0, tail.1)) x n.2 in
      let tail = bind_ok (tail_at ts.0.1) (λ tail. Ok (list ts.0.0, tail.1)) x ts.2 in
      let c = counted w32 (2 ^ 32) wide32 bytes n.0 ts.0 fits n.1 ts.1 in
      let t = tail_takes ts.0.1 tail.0 c.taken.rest_fits tail.1 in
      let s = c.shallow in
      let whole : FieldsTaken ListExt (suc room) bytes (list ts.0.0) tail.0.1 = record {
        fields = to_be_bytes w32 (member_count ts.0.0) ++ c.text ++ 106 ∷ [];
        is_form = a_list ts.0.0 c.text c.are_forms c.below;
        taken = Takes-then bytes (to_be_bytes w32 (member_count ts.0.0) ++ c.text) ts.0.1 (106 ∷ []) tail.0.1 c.taken t;
        shallow = omega arith;
      } in
      subst (λ (y : Data × List ℕ). FieldsTaken ListExt (suc room) bytes y.0 y.1) (ok_is (list ts.0.0, tail.0.1) x tail.2) whole

depth-integers : (bytes : List ℕ) → greatest_depth (integers bytes) ≡ 0
depth-integers [] = refl
depth-integers (b ∷ bytes) = omega (arith, depth-integers bytes)

-- Where the reader of members is there, it is sound for one level less.
abbrev SoundInner : ℕ → Result (List ℕ → Read Data) DecodeFault → Type 0
SoundInner room (Err f) = Unit {0}
SoundInner room (Ok read) = (0 < room) × Sound (room - 1) read

record Inner (room : ℕ) (inner : Result (List ℕ → Read Data) DecodeFault) (read : List ℕ → Read Data) : Type 0 where
  is : inner ≡ Ok read
  some : suc (room - 1) ≡ room
  sound : Sound (room - 1) read

inner_is : {B : Type 0} (room : ℕ) (inner : Result (List ℕ → Read Data) DecodeFault) (f : (List ℕ → Read Data) → Result B DecodeFault) (y : B) → SoundInner room inner → (inner >>= f) ≡ Ok y → (read : List ℕ → Read Data) × Inner room inner read × (f read ≡ Ok y)
inner_is room (Err d) f y sound e = absurd cc
inner_is room (Ok read) f y sound e = let some = sound.0 in (read, record { is = refl; some = omega arith; sound = sound.1 }, e)

atom_takes : (tag : Tag) (room : ℕ) (bytes : List ℕ) (x : Data × List ℕ) → IsBytes bytes → (text_at tag bytes >>= λ text. Ok (atom text.0, text.1)) ≡ Ok x → FieldsTaken tag room bytes x.0 x.1
atom_takes tag room bytes x fits e =
    let a = bind_ok (text_at tag bytes) (λ text. Ok (atom text.0, text.1)) x e in
    let t = text_takes tag bytes a.0.0 a.0.1 fits a.1 in
    let whole : FieldsTaken tag room bytes (atom a.0.0) a.0.1 = record { fields = t.fields; is_form = an_atom a.0.0 (byte_of tag ∷ t.fields) t.is_form; taken = t.taken; shallow = omega arith } in
    subst (λ (y : Data × List ℕ). FieldsTaken tag room bytes y.0 y.1) (ok_is (atom a.0.0, a.0.1) x a.2) whole

fields_take : (tag : Tag) (room : ℕ) (inner : Result (List ℕ → Read Data) DecodeFault) (bytes : List ℕ) (x : Data × List ℕ) → SoundInner room inner → IsBytes bytes → fields_at inner tag bytes ≡ Ok x → FieldsTaken tag room bytes x.0 x.1
unfolding fields_at
fields_take SmallIntegerExt room inner bytes x sound fits e =
    let n = bind_ok (number_at w8 bytes) (λ n. Ok (int (pos n.0), n.1)) x e in
    let t = number_takes w8 (2 ^ 8) wide8 bytes n.0.0 n.0.1 fits n.1 in
    let whole : FieldsTaken SmallIntegerExt room bytes (int (pos n.0.0)) n.0.1 = record { fields = to_be_bytes w8 n.0.0; is_form = small_integer n.0.0 t.1; taken = t.0; shallow = omega arith } in
    subst (λ (y : Data × List ℕ). FieldsTaken SmallIntegerExt room bytes y.0 y.1) (ok_is (int (pos n.0.0), n.0.1) x n.2) whole
fields_take IntegerExt room inner bytes x sound fits e =
    let n = bind_ok (number_at w32 bytes) (λ n. Ok (int (cast_signed w32 n.0), n.1)) x e in
    let t = number_takes w32 (2 ^ 32) wide32 bytes n.0.0 n.0.1 fits n.1 in
    let z = cast_signed w32 n.0.0 in
    let back : n.0.0 ≡ cast_unsigned w32 z = sym (of_z-to_z w32 n.0.0 t.1) in
    let whole : FieldsTaken IntegerExt room bytes (int z) n.0.1 = record {
      fields = to_be_bytes w32 (cast_unsigned w32 z);
      is_form = integer z (read_sfits w32 n.0.0);
      taken = subst (λ (k : ℕ). Takes bytes (to_be_bytes w32 k) n.0.1) back t.0;
      shallow = omega arith;
    } in
    subst (λ (y : Data × List ℕ). FieldsTaken IntegerExt room bytes y.0 y.1) (ok_is (int z, n.0.1) x n.2) whole
fields_take SmallBigExt room inner bytes x sound fits e =
    let z = bind_ok (big_at bytes) (λ z. Ok (int z.0, z.1)) x e in
    let whole = big_takes room bytes z.0.0 z.0.1 fits z.1 in
    subst (λ (y : Data × List ℕ). FieldsTaken SmallBigExt room bytes y.0 y.1) (ok_is (int z.0.0, z.0.1) x z.2) whole
fields_take SmallAtomUtf8Ext room inner bytes x sound fits e = atom_takes SmallAtomUtf8Ext room bytes x fits e
fields_take AtomUtf8Ext room inner bytes x sound fits e = atom_takes AtomUtf8Ext room bytes x fits e
fields_take SmallAtomExt room inner bytes x sound fits e = atom_takes SmallAtomExt room bytes x fits e
fields_take AtomExt room inner bytes x sound fits e = atom_takes AtomExt room bytes x fits e
fields_take NewPidExt room inner bytes x sound fits e =
    let p = bind_ok (pid_at w32 bytes) (λ p. Ok (pid p.0, p.1)) x e in
    let t = pid_takes w32 (2 ^ 32) wide32 bytes p.0 fits p.1 in
    let whole : FieldsTaken NewPidExt room bytes (pid p.0.0) p.0.1 = record { fields = pid_fields w32 p.0.0 t.node; is_form = new_pid p.0.0 t.node t.is_form t.fits; taken = t.taken; shallow = omega arith } in
    subst (λ (y : Data × List ℕ). FieldsTaken NewPidExt room bytes y.0 y.1) (ok_is (pid p.0.0, p.0.1) x p.2) whole
fields_take PidExt room inner bytes x sound fits e =
    let p = bind_ok (pid_at w8 bytes) (λ p. Ok (pid p.0, p.1)) x e in
    let t = pid_takes w8 (2 ^ 8) wide8 bytes p.0 fits p.1 in
    let whole : FieldsTaken PidExt room bytes (pid p.0.0) p.0.1 = record { fields = pid_fields w8 p.0.0 t.node; is_form = old_pid p.0.0 t.node t.is_form t.fits; taken = t.taken; shallow = omega arith } in
    subst (λ (y : Data × List ℕ). FieldsTaken PidExt room bytes y.0 y.1) (ok_is (pid p.0.0, p.0.1) x p.2) whole
fields_take SmallTupleExt room inner bytes x sound fits e =
    let i = inner_is room inner (λ read. tuple_at w8 read bytes) x sound e in
    let t = tuple_takes (room - 1) i.0 i.1.sound w8 (2 ^ 8) wide8 bytes x fits i.2 in
    let c = t.2 in
    let some = i.1.some in
    let s = c.shallow in
    let whole : FieldsTaken SmallTupleExt room bytes (tuple t.0) x.1 = record { fields = to_be_bytes w8 (member_count t.0) ++ c.text; is_form = small_tuple t.0 c.text c.are_forms c.below; taken = c.taken; shallow = omega arith } in
    subst (λ (y : Data). FieldsTaken SmallTupleExt room bytes y x.1) t.1 whole
fields_take LargeTupleExt room inner bytes x sound fits e =
    let i = inner_is room inner (λ read. tuple_at w32 read bytes) x sound e in
    let t = tuple_takes (room - 1) i.0 i.1.sound w32 (2 ^ 32) wide32 bytes x fits i.2 in
    let c = t.2 in
    let some = i.1.some in
    let s = c.shallow in
    let whole : FieldsTaken LargeTupleExt room bytes (tuple t.0) x.1 = record { fields = to_be_bytes w32 (member_count t.0) ++ c.text; is_form = large_tuple t.0 c.text c.are_forms c.below; taken = c.taken; shallow = omega arith } in
    subst (λ (y : Data). FieldsTaken LargeTupleExt room bytes y x.1) t.1 whole
fields_take NilExt room inner bytes x sound fits e =
    let i = inner_is room inner (λ read. Ok (list no_members, bytes)) x sound e in
    let some = i.1.some in
    let whole : FieldsTaken NilExt room bytes (list no_members) bytes = record { fields = []; is_form = nil; taken = record { parts = refl; rest_fits = fits }; shallow = omega arith } in
    subst (λ (y : Data × List ℕ). FieldsTaken NilExt room bytes y.0 y.1) (ok_is (list no_members, bytes) x i.2) whole
fields_take StringExt room inner bytes x sound fits e =
    let i = inner_is room inner (λ read. sized_at w16 bytes >>= λ sized. Ok (list (integers sized.0), sized.1)) x sound e in
    let r = bind_ok (sized_at w16 bytes) (λ sized. Ok (list (integers sized.0), sized.1)) x i.2 in
    let t = sized_takes w16 (2 ^ 16) wide16 bytes r.0.0 r.0.1 fits r.1 in
    let some = i.1.some in
    let flat = depth-integers r.0.0 in
    let whole : FieldsTaken StringExt room bytes (list (integers r.0.0)) r.0.1 = record { fields = sized w16 r.0.0; is_form = string r.0.0 t.1; taken = t.0; shallow = omega arith } in
    subst (λ (y : Data × List ℕ). FieldsTaken StringExt room bytes y.0 y.1) (ok_is (list (integers r.0.0), r.0.1) x r.2) whole
fields_take ListExt room inner bytes x sound fits e =
    let i = inner_is room inner (λ read. list_at read bytes) x sound e in
    subst (λ (k : ℕ). FieldsTaken ListExt k bytes x.0 x.1) i.1.some (list_takes (room - 1) i.0 i.1.sound bytes x fits i.2)
fields_take BinaryExt room inner bytes x sound fits e =
    let r = bind_ok (sized_at w32 bytes) (λ sized. Ok (binary sized.0, sized.1)) x e in
    let t = sized_takes w32 (2 ^ 32) wide32 bytes r.0.0 r.0.1 fits r.1 in
    let whole : FieldsTaken BinaryExt room bytes (binary r.0.0) r.0.1 = record { fields = sized w32 r.0.0; is_form = a_binary r.0.0 t.1; taken = t.0; shallow = omega arith } in
    subst (λ (y : Data × List ℕ). FieldsTaken BinaryExt room bytes y.0 y.1) (ok_is (binary r.0.0, r.0.1) x r.2) whole

tagged_sound : (room : ℕ) (inner : Result (List ℕ → Read Data) DecodeFault) → SoundInner room inner → Sound room (tagged_at inner)
tagged_sound room inner sound bytes x fits e =
    let g = bind_ok (tag_at bytes) (λ tag. fields_at inner tag.0 tag.1) x e in
    let t0 = tag_takes bytes g.0.0 g.0.1 fits g.1 in
    let t1 = fields_take g.0.0 room inner g.0.1 x sound t0.rest_fits g.2 in
    record { text = byte_of g.0.0 ∷ t1.fields; is_form = t1.is_form; taken = Takes-then bytes (byte_of g.0.0 ∷ []) g.0.1 t1.fields x.1 t0 t1.taken; shallow = t1.shallow }

inner_sound : (room : ℕ) → SoundInner room (inner_of room)
unfolding inner_of
inner_sound zero = tt
inner_sound (suc room) =
    let less : room ≡ suc room - 1 = omega arith in
    (omega arith, subst (λ (k : ℕ). Sound k (tagged_at (inner_of room))) less (tagged_sound room (inner_of room) (inner_sound room)))

pub term_takes : (room : ℕ) (bytes : List ℕ) (x : Data × List ℕ) → IsBytes bytes → term_at room bytes ≡ Ok x → TermTaken room bytes x.0 x.1
term_takes room = tagged_sound room (inner_of room) (inner_sound room)

-- ---- the whole

version_is : (b : ℕ) (same : Bool) (read : Read Data) (y : Data × List ℕ) → eqb b 131 ≡ same → cond same read (Err BadVersion) ≡ Ok y → (b ≡ 131) × (read ≡ Ok y)
version_is b true read y is e = (eqb-true b 131 is, e)
version_is b false read y is e = absurd cc

-- what is left after a term is shorter
pub shorter : (room : ℕ) (bytes : List ℕ) (version : ℕ) (behind : List ℕ) (x : Data × List ℕ) → IsBytes bytes → number_at w8 bytes ≡ Ok (version, behind) → term_at room behind ≡ Ok x → length x.1 ≤ length bytes
shorter room bytes version behind x fits e f =
    let t0 = number_takes w8 (2 ^ 8) wide8 bytes version behind fits e in
    let t1 = term_takes room behind x t0.0.rest_fits f in
    omega (arith, ap length t0.0.parts, ap length t1.taken.parts, length-append (to_be_bytes w8 version) behind, length-append t1.text x.1)

pub whole_takes : (bytes : List ℕ) (x : Data × ℕ) → IsBytes bytes → whole_at bytes ≡ Ok x → (x.1 ≤ length bytes) × Spells x.0 (take x.1 bytes)
unfolding whole_at
whole_takes bytes x fits e =
    let v = bind_ok (number_at w8 bytes) (λ version. cond (eqb version.0 131) (term_at 64 version.1) (Err BadVersion) >>= λ t. Ok (t.0, length bytes - length t.1)) x e in
    let t = bind_ok (cond (eqb v.0.0 131) (term_at 64 v.0.1) (Err BadVersion)) (λ t. Ok (t.0, length bytes - length t.1)) x v.2 in
    let is = version_is v.0.0 (eqb v.0.0 131) (term_at 64 v.0.1) t.0 refl t.1 in
    let t0 = number_takes w8 (2 ^ 8) wide8 bytes v.0.0 v.0.1 fits v.1 in
    let t1 = term_takes 64 v.0.1 t.0 t0.0.rest_fits is.1 in
    let front : Takes bytes (131 ∷ []) v.0.1 = subst (λ (f : List ℕ). Takes bytes f v.0.1) (one_byte v.0.0 t0.1 ∙ ap (λ (k : ℕ). k ∷ []) is.0) t0.0 in
    let both = Takes-then bytes (131 ∷ []) v.0.1 t1.text t.0.1 front t1.taken in
    let text = 131 ∷ t1.text in
    let size : length bytes - length t.0.1 ≡ length text = omega (arith, ap length both.parts, length-append text t.0.1) in
    let cut : take (length bytes - length t.0.1) bytes ≡ text = ap (take (length bytes - length t.0.1)) both.parts ∙ take_at text t.0.1 (length bytes - length t.0.1) (sym size) in
    let made : Data × ℕ = (t.0.0, length bytes - length t.0.1) in
    subst (λ (y : Data × ℕ). (y.1 ≤ length bytes) × Spells y.0 (take y.1 bytes)) (ok_is made x t.2)
    (omega arith, record { form = t1.text; is_form = t1.is_form; behind_version = cut; not_too_deep = t1.shallow })
