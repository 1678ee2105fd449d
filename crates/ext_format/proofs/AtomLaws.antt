-- Atoms and pids: what is read has that form, and that form is read.
use Rattle.std.proofs.Common.{◌≡◌, ℕ, ◌^◌, ◌<◌, Bool, true, false, cond, ltb, List, [], ◌∷◌, ◌++◌, length, Result, Ok, Err, refl, ap, subst, ◌∙◌, append_assoc, arith}
use Rattle.std.specs.Int.{Width, w8, w16, w32, to_be_bytes}
use Rattle.std.specs.Str.{IsUtf8, is_utf8, chars, encode_utf8_all}
use Rattle.std.proofs.lemmas.Bool.{ltb-false, le-ltb, lt-ltb}
use Rattle.std.proofs.lemmas.Str.{IsUtf8-from_is_utf8, is_utf8-from_IsUtf8}
use Rattle.std.proofs.Math.Utf8.{scalars, encodes}
use Rattle.trace_terms.specs.declared.term.Pid.{Pid}
use Rattle.ext_format.specs.declared.fault.DecodeFault.{DecodeFault}
use Rattle.ext_format.specs.declared.fault.DecodeFault.TheVariants.{BadText, AtomTooLong}
use Rattle.ext_format.specs.declared.tag.Tag.{Tag}
use Rattle.ext_format.specs.declared.tag.Tag.TheVariants.{SmallIntegerExt, IntegerExt, SmallBigExt, SmallAtomUtf8Ext, AtomUtf8Ext, SmallAtomExt, AtomExt, NewPidExt, PidExt, SmallTupleExt, LargeTupleExt, NilExt, StringExt, ListExt, BinaryExt}
use Rattle.ext_format.specs.Tags.{byte_of}
use Rattle.ext_format.specs.Spelling.{sized, IsText, AtomForm, small_atom_utf8, atom_utf8, small_atom, old_atom, pid_fields, FitsPid}
use Rattle.ext_format.specs.Reading.{◌>>=◌, number_at, sized_at, tag_at, short_text, utf8_text, latin1_text, text_in, text_at, node_at, pid_at}
use Rattle.ext_format.proofs.FieldLaws.{IsBytes, IsBytes-rest, bind_ok, guard_ok, ok_is, Takes, Takes-then, IsWide, wide8, wide16, wide32, number_takes, number_again, sized_takes, sized_again, tag_takes, tag_again}

-- ---- texts

is_short : (text out : List ℕ) → IsUtf8 text → short_text text ≡ Ok out → IsText text × (text ≡ out)
is_short text out utf8 e =
    let g = guard_ok (ltb 255 (length (chars text))) AtomTooLong text out e in
    (record { utf8 = utf8; short = ltb-false _ _ g.0 }, g.1)

utf8_decided : (bytes out : List ℕ) (b : Bool) → is_utf8 bytes ≡ b → cond b (short_text bytes) (Err BadText) ≡ Ok out → IsText bytes × (bytes ≡ out)
utf8_decided bytes out true is e = is_short bytes out (IsUtf8-from_is_utf8 bytes is) e
utf8_decided bytes out false is e = absurd cc

utf8_is : (bytes out : List ℕ) → utf8_text bytes ≡ Ok out → IsText bytes × (bytes ≡ out)
unfolding utf8_text
utf8_is bytes out e = utf8_decided bytes out (is_utf8 bytes) refl e

pub scalars-bytes : (codes : List ℕ) → IsBytes codes → scalars codes ≡ true
scalars-bytes [] fits = refl
scalars-bytes (c ∷ codes) fits =
    let low : ltb c 55296 ≡ true = lt-ltb c 55296 (omega (arith, fits 0)) in
    rw (low, scalars-bytes codes (IsBytes-rest c codes fits)) refl

latin1_is : (codes out : List ℕ) → IsBytes codes → latin1_text codes ≡ Ok out → IsText (encode_utf8_all codes) × (encode_utf8_all codes ≡ out)
latin1_is codes out fits e = is_short (encode_utf8_all codes) out (codes, (scalars-bytes codes fits, refl)) e

pub is_short-again : (text : List ℕ) → IsText text → short_text text ≡ Ok text
is_short-again text is = rw (le-ltb 255 (length (chars text)) is.short) refl

pub utf8_again : (text : List ℕ) → IsText text → utf8_text text ≡ Ok text
unfolding utf8_text
utf8_again text is = rw (is_utf8-from_IsUtf8 text is.utf8) (is_short-again text is)

record Raw (text_of : List ℕ → Result (List ℕ) DecodeFault) (w : Width) (limit : ℕ) (bytes text rest : List ℕ) : Type 0 where
  raw : List ℕ
  taken : Takes bytes (sized w raw) rest
  len : length raw < limit
  fits : IsBytes raw
  is : text_of raw ≡ Ok text

raw_text : (text_of : List ℕ → Result (List ℕ) DecodeFault) (w : Width) (limit : ℕ) (wide : IsWide w limit) (bytes text rest : List ℕ) → IsBytes bytes → text_in text_of w bytes ≡ Ok (text, rest) → Raw text_of w limit bytes text rest
raw_text text_of w limit wide bytes text rest fits e =
    let r = bind_ok (sized_at w bytes) (λ sized. text_of sized.0 >>= λ text. Ok (text, sized.1)) (text, rest) e in
    let t = bind_ok (text_of r.0.0) (λ text. Ok (text, r.0.1)) (text, rest) r.2 in
    let both : (t.0, r.0.1) ≡ (text, rest) = ok_is (t.0, r.0.1) (text, rest) t.2 in
    let taken = sized_takes w limit wide bytes r.0.0 r.0.1 fits r.1 in
    record {
      raw = r.0.0;
      taken = subst (λ (p : List ℕ × List ℕ). Takes bytes (sized w r.0.0) p.1) both taken.0;
      len = taken.1;
      fits = taken.2;
      is = t.1 ∙ ap (λ (p : List ℕ × List ℕ). Ok p.0) both;
    }

pub record TextTaken (tag : Tag) (bytes text rest : List ℕ) : Type 0 where
  pub fields : List ℕ
  pub is_form : AtomForm text (byte_of tag ∷ fields)
  pub taken : Takes bytes fields rest

pub text_takes : (tag : Tag) (bytes text rest : List ℕ) → IsBytes bytes → text_at tag bytes ≡ Ok (text, rest) → TextTaken tag bytes text rest
unfolding text_at
text_takes SmallAtomUtf8Ext bytes text rest fits e =
    let r = raw_text utf8_text w8 (2 ^ 8) wide8 bytes text rest fits e in
    let is = utf8_is r.raw text r.is in
    record { fields = sized w8 r.raw; is_form = subst (λ (t : List ℕ). AtomForm t (119 ∷ sized w8 r.raw)) is.1 (small_atom_utf8 r.raw is.0 r.len); taken = r.taken }
text_takes AtomUtf8Ext bytes text rest fits e =
    let r = raw_text utf8_text w16 (2 ^ 16) wide16 bytes text rest fits e in
    let is = utf8_is r.raw text r.is in
    record { fields = sized w16 r.raw; is_form = subst (λ (t : List ℕ). AtomForm t (118 ∷ sized w16 r.raw)) is.1 (atom_utf8 r.raw is.0 r.len); taken = r.taken }
text_takes SmallAtomExt bytes text rest fits e =
    let r = raw_text latin1_text w8 (2 ^ 8) wide8 bytes text rest fits e in
    let is = latin1_is r.raw text r.fits r.is in
    record { fields = sized w8 r.raw; is_form = subst (λ (t : List ℕ). AtomForm t (115 ∷ sized w8 r.raw)) is.1 (small_atom r.raw is.0 r.len); taken = r.taken }
text_takes AtomExt bytes text rest fits e =
    let r = raw_text latin1_text w16 (2 ^ 16) wide16 bytes text rest fits e in
    let is = latin1_is r.raw text r.fits r.is in
    record { fields = sized w16 r.raw; is_form = subst (λ (t : List ℕ). AtomForm t (100 ∷ sized w16 r.raw)) is.1 (old_atom r.raw is.0 r.len); taken = r.taken }
text_takes SmallIntegerExt bytes text rest fits e = absurd cc
text_takes IntegerExt bytes text rest fits e = absurd cc
text_takes SmallBigExt bytes text rest fits e = absurd cc
text_takes NewPidExt bytes text rest fits e = absurd cc
text_takes PidExt bytes text rest fits e = absurd cc
text_takes SmallTupleExt bytes text rest fits e = absurd cc
text_takes LargeTupleExt bytes text rest fits e = absurd cc
text_takes NilExt bytes text rest fits e = absurd cc
text_takes StringExt bytes text rest fits e = absurd cc
text_takes ListExt bytes text rest fits e = absurd cc
text_takes BinaryExt bytes text rest fits e = absurd cc

-- The tag of a form, and what is read of the fields after it.
pub record TextAgain (text form : List ℕ) : Type 0 where
  pub tag : Tag
  pub fields : List ℕ
  pub parts : form ≡ byte_of tag ∷ fields
  pub again : (rest : List ℕ) → text_at tag (fields ++ rest) ≡ Ok (text, rest)

pub text_again : (text form : List ℕ) → AtomForm text form → TextAgain text form
unfolding text_at
text_again _ _ (small_atom_utf8 text is len) = record { tag = SmallAtomUtf8Ext; fields = sized w8 text; parts = refl; again = λ rest. rw (sized_again w8 (2 ^ 8) wide8 text rest len, utf8_again text is) refl }
text_again _ _ (atom_utf8 text is len) = record { tag = AtomUtf8Ext; fields = sized w16 text; parts = refl; again = λ rest. rw (sized_again w16 (2 ^ 16) wide16 text rest len, utf8_again text is) refl }
text_again _ _ (small_atom codes is len) = record { tag = SmallAtomExt; fields = sized w8 codes; parts = refl; again = λ rest. rw (sized_again w8 (2 ^ 8) wide8 codes rest len, is_short-again (encode_utf8_all codes) is) refl }
text_again _ _ (old_atom codes is len) = record { tag = AtomExt; fields = sized w16 codes; parts = refl; again = λ rest. rw (sized_again w16 (2 ^ 16) wide16 codes rest len, is_short-again (encode_utf8_all codes) is) refl }

-- ---- nodes and pids

pub record NodeTaken (bytes text rest : List ℕ) : Type 0 where
  pub node : List ℕ
  pub is_form : AtomForm text node
  pub taken : Takes bytes node rest

pub node_takes : (bytes text rest : List ℕ) → IsBytes bytes → node_at bytes ≡ Ok (text, rest) → NodeTaken bytes text rest
unfolding node_at
node_takes bytes text rest fits e =
    let g = bind_ok (tag_at bytes) (λ tag. text_at tag.0 tag.1) (text, rest) e in
    let t0 = tag_takes bytes g.0.0 g.0.1 fits g.1 in
    let t1 = text_takes g.0.0 g.0.1 text rest t0.rest_fits g.2 in
    record { node = byte_of g.0.0 ∷ t1.fields; is_form = t1.is_form; taken = Takes-then bytes (byte_of g.0.0 ∷ []) g.0.1 t1.fields rest t0 t1.taken }

pub node_again : (text node rest : List ℕ) → AtomForm text node → node_at (node ++ rest) ≡ Ok (text, rest)
unfolding node_at
node_again text node rest is =
    let a = text_again text node is in
    ap (λ (bs : List ℕ). node_at (bs ++ rest)) a.parts ∙ rw (tag_again a.tag (a.fields ++ rest)) (a.again rest)

pub record PidTaken (w : Width) (limit : ℕ) (bytes : List ℕ) (p : Pid) (rest : List ℕ) : Type 0 where
  pub node : List ℕ
  pub is_form : AtomForm p.node node
  pub taken : Takes bytes (pid_fields w p node) rest
  pub fits : FitsPid limit p

pub pid_takes : (w : Width) (limit : ℕ) (wide : IsWide w limit) (bytes : List ℕ) (x : Pid × List ℕ) → IsBytes bytes → pid_at w bytes ≡ Ok x → PidTaken w limit bytes x.0 x.1
unfolding pid_at
pid_takes w limit wide bytes x fits e =
    let a = bind_ok (node_at bytes) (λ node. number_at w32 node.1 >>= λ id. number_at w32 id.1 >>= λ serial. number_at w serial.1 >>= λ creation. Ok (record { node = node.0; id = id.0; serial = serial.0; creation = creation.0 }, creation.1)) x e in
    let b = bind_ok (number_at w32 a.0.1) (λ id. number_at w32 id.1 >>= λ serial. number_at w serial.1 >>= λ creation. Ok (record { node = a.0.0; id = id.0; serial = serial.0; creation = creation.0 }, creation.1)) x a.2 in
    let c = bind_ok (number_at w32 b.0.1) (λ serial. number_at w serial.1 >>= λ creation. Ok (record { node = a.0.0; id = b.0.0; serial = serial.0; creation = creation.0 }, creation.1)) x b.2 in
    let d = bind_ok (number_at w c.0.1) (λ creation. Ok (record { node = a.0.0; id = b.0.0; serial = c.0.0; creation = creation.0 }, creation.1)) x c.2 in
    let t0 = node_takes bytes a.0.0 a.0.1 fits a.1 in
    let t1 = number_takes w32 (2 ^ 32) wide32 a.0.1 b.0.0 b.0.1 t0.taken.rest_fits b.1 in
    let t2 = number_takes w32 (2 ^ 32) wide32 b.0.1 c.0.0 c.0.1 t1.0.rest_fits c.1 in
    let t3 = number_takes w limit wide c.0.1 d.0.0 d.0.1 t2.0.rest_fits d.1 in
    let e1 = Takes-then bytes t0.node a.0.1 (to_be_bytes w32 b.0.0) b.0.1 t0.taken t1.0 in
    let e2 = Takes-then bytes (t0.node ++ to_be_bytes w32 b.0.0) b.0.1 (to_be_bytes w32 c.0.0) c.0.1 e1 t2.0 in
    let e3 = Takes-then bytes (t0.node ++ to_be_bytes w32 b.0.0 ++ to_be_bytes w32 c.0.0) c.0.1 (to_be_bytes w d.0.0) d.0.1 e2 t3.0 in
    let made : Pid × List ℕ = (record { node = a.0.0; id = b.0.0; serial = c.0.0; creation = d.0.0 }, d.0.1) in
    subst (λ (y : Pid × List ℕ). PidTaken w limit bytes y.0 y.1) (ok_is made x d.2)
    (record { node = t0.node; is_form = t0.is_form; taken = e3; fits = record { id = t1.1; serial = t2.1; creation = t3.1 } })

pub pid_again : (w : Width) (limit : ℕ) (wide : IsWide w limit) (p : Pid) (node rest : List ℕ) → AtomForm p.node node → FitsPid limit p → pid_at w (pid_fields w p node ++ rest) ≡ Ok (p, rest)
unfolding pid_at
pid_again w limit wide p node rest is fits =
    let i = to_be_bytes w32 p.id in
    let s = to_be_bytes w32 p.serial in
    let c = to_be_bytes w p.creation in
    let regrouped : pid_fields w p node ++ rest ≡ node ++ (i ++ (s ++ (c ++ rest))) = append_assoc (node ++ i ++ s) c rest ∙ append_assoc (node ++ i) s (c ++ rest) ∙ append_assoc node i (s ++ (c ++ rest)) in
    ap (pid_at w) regrouped ∙ rw (node_again p.node node (i ++ (s ++ (c ++ rest))) is, number_again w32 (2 ^ 32) wide32 p.id (s ++ (c ++ rest)) fits.id, number_again w32 (2 ^ 32) wide32 p.serial (c ++ rest) fits.serial, number_again w limit wide p.creation rest fits.creation) refl
