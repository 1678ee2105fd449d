-- Texts that a trace leaves.
use Rattle.std.proofs.Common.{◌≡◌, ◌⊎◌, ⊎_elim, inl, inr, ℕ, ◌+◌, ◌-◌, ◌<◌, ◌≤◌, false, List, [], ◌∷◌, ◌++◌, length, get_or, take, drop, refl, sym, ◌∙◌, ap, subst, arith, length-append, length-take, length-drop}
use Rattle.std.proofs.lemmas.Bool.{cases_lt, cases_eq}
use Rattle.std.proofs.lemmas.List.{get_or-take, get_or-drop, get_or_append_left, get_or-append_right, ext_get_or, drop-take, take-take, take_at}
use Rattle.trace_store.specs.Disk.{DiskFile, IsBytes, IsFileImage, is_unsynced, overlay, settled, written, shortened}
use Rattle.stores.specs.CallRecords.{IsSound}
use Rattle.stores.proofs.Images.{unsynced-push, IsTornFile, torn_image, IsCutFile, cut_image, settled_image, written_torn, shortened_cut}
use Rattle.stores.proofs.FolderSteps.{write_left_torn, cut_left_cut}
use Rattle.entry_codec.specs.Entries.{Entry, Message, Drop, size}
use Rattle.entry_codec.specs.Outcomes.{Begins}
use Rattle.entry_codec.proofs.OutcomeLemmas.{begun}
use Rattle.segment.specs.Segments.{Header, IsHeader, IsLawfulHeader, header_bytes, Segment, Open, reading_of}
use Rattle.segment.specs.Specification.{Spec, File, Wrap, Timed}
use Rattle.segment.proofs.Taken.{text_of}
use Rattle.foreign_files.specs.Foreign.{HasMagic, IsOfStream, BeginsMessage, IsForeign, IsTame}
use Rattle.foreign_files.specs.Acts.{Act, FailsTo, AtMoment, sync, write_at, cut_to, LeavesTexts, IsBehindCut}

-- ---- foreign texts

first_of_drop : (count : ℕ) (text : List ℕ) → Begins (Drop count) text → get_or text 0 0 ≡ 1
first_of_drop count text begins = ap (λ (l : List ℕ). get_or l 0 0) (begun (Drop count) text begins)

stream_message : (e : Entry) (text : List ℕ) → IsOfStream e → Begins e text → get_or text 0 0 ≡ 0 → BeginsMessage text
stream_message (Message bytes) text kind begins shut = record { bytes = bytes; version = kind; begins = begins }
stream_message (Drop count) text kind begins shut = absurd (omega (arith, shut, first_of_drop count text begins))

pub closed_foreign : (text : List ℕ) → get_or text 0 0 ≡ 0 → IsForeign text → BeginsMessage text
closed_foreign text shut foreign = ⊎_elim
    (λ other. absurd (omega (arith, other, shut)))
    (λ stream. stream_message stream.entry text stream.kind stream.begins shut)
    foreign.why

pub tame_foreign : (text : List ℕ) → IsTame text → IsForeign text → (get_or text 0 0 ≡ 0) × BeginsMessage text
tame_foreign text (inl short) foreign = absurd (omega (arith, short, foreign.some))
tame_foreign text (inr (inl magic)) foreign = absurd (foreign.no_magic magic)
tame_foreign text (inr (inr shut)) foreign = (shut, closed_foreign text shut foreign)

-- ---- the magic of a header

version_of : (version : ℕ) (spec : Spec) (g e d : ℕ) → IsHeader version spec g e d → (version ≡ 1) ⊎ (version ≡ 2)
version_of version File g e d h = h.0
version_of version (Wrap size count) g e d h = h.0
version_of version (Timed millis count) g e d h = inr h.0

-- a header after a first byte, whatever follows
pub header_magic : (h : Header) (gate : ℕ) (rest : List ℕ) → IsLawfulHeader h → HasMagic (gate ∷ (header_bytes h ++ rest))
header_magic h gate rest lawful = ⊎_elim
    (λ one. inl (ap (λ (v : ℕ). 68 ∷ 66 ∷ 84 ∷ (48 + v) ∷ []) one))
    (λ two. inr (ap (λ (v : ℕ). 68 ∷ 66 ∷ 84 ∷ (48 + v) ∷ []) two))
    (version_of h.version h.spec h.generation h.entries_before h.drops_before lawful)

pub open_magic : (text : List ℕ) (s : Segment) → IsBytes text → reading_of text ≡ Open s → HasMagic text
open_magic text s bytes reads =
    let has = text_of text s bytes reads in
    subst HasMagic (sym has.is.is) (header_magic s.header 1 has.is.rest has.is.header)

-- ---- texts that agree

-- in their first five bytes
pub tame_alike : (c d : List ℕ) → take 5 c ≡ take 5 d → IsTame d → IsTame c
tame_alike c d same (inl short) = inl (omega (arith, ap (λ (l : List ℕ). length l) same, length-take 5 c, length-take 5 d, short))
tame_alike c d same (inr (inl magic)) = inr (inl (subst (λ (l : List ℕ). (l ≡ 68 ∷ 66 ∷ 84 ∷ 49 ∷ []) ⊎ (l ≡ 68 ∷ 66 ∷ 84 ∷ 50 ∷ [])) (sym (drop-take 1 4 d) ∙ ap (λ (l : List ℕ). drop 1 l) (sym same) ∙ drop-take 1 4 c) magic))
tame_alike c d same (inr (inr shut)) =
    let near : 0 < 5 = omega arith in
    inr (inr (sym (get_or-take 5 c 0 0 near) ∙ ap (λ (l : List ℕ). get_or l 0 0) same ∙ get_or-take 5 d 0 0 near ∙ shut))

-- in all but the first
magic_alike : (c d : List ℕ) → length c ≡ length d → ((k : ℕ) → k < length d → 1 ≤ k → get_or c k 0 ≡ get_or d k 0) → HasMagic d → HasMagic c
magic_alike c d size same magic =
    let behind : drop 1 d ≡ drop 1 c = ext_get_or 0 (drop 1 d) (drop 1 c) (omega (arith, size, length-drop 1 c, length-drop 1 d))
    (λ k below. get_or-drop 1 d k 0 ∙ sym (same (1 + k) (omega (arith, below, length-drop 1 d)) (omega arith)) ∙ sym (get_or-drop 1 c k 0)) in
    subst (λ (l : List ℕ). (take 4 l ≡ 68 ∷ 66 ∷ 84 ∷ 49 ∷ []) ⊎ (take 4 l ≡ 68 ∷ 66 ∷ 84 ∷ 50 ∷ [])) behind magic

-- ---- a write

-- what stands before it is that of an image from before
early_image : (place n : ℕ) (old new : DiskFile) → IsSound old → place ≤ length old.bytes → IsTornFile place n old new → (c : List ℕ) → IsFileImage new c → (d : List ℕ) × IsFileImage old d × (take place c ≡ take place d)
early_image place n old new sound fits torn c image = elim (cases_lt (length c) place) [
  | inl short ↦ (
    c,
    record {
      no_shorter = omega (arith, image.no_shorter, torn.least);
      no_longer = omega (arith, short, fits, sound.upper);
      synced = λ k below is. kept k (omega (arith, below, short)) below is;
      bytes = image.bytes;
    },
    refl,
  )
  | inr long ↦ (
    take place c ++ drop place old.bytes,
    record {
      no_shorter = omega (arith, size long, sound.lower);
      no_longer = omega (arith, size long, sound.upper);
      synced = λ k below is. elim (cases_lt k place) [
        | inl before ↦ front long k before ∙ kept k before (omega (arith, before, long)) is
        | inr past ↦ back long k past
      ];
      bytes = λ k. elim (cases_lt k place) [
        | inl before ↦ subst (λ (b : ℕ). b < 256) (sym (front long k before)) (image.bytes k)
        | inr past ↦ subst (λ (b : ℕ). b < 256) (sym (back long k past)) (sound.bytes k)
      ];
    },
    sym (take_at (take place c) (drop place old.bytes) place (half long)),
  )
] where
  kept : (k : ℕ) → k < place → k < length c → is_unsynced old.unsynced k ≡ false → get_or c k 0 ≡ get_or old.bytes k 0
  kept k before below is =
      image.synced k below (subst (λ (s : List (ℕ × ℕ)). is_unsynced s k ≡ false) (sym torn.unsynced) (unsynced-push old.unsynced place (place + n) k is (inl before))) ∙ torn.bytes k (inl before)

  half : place ≤ length c → length (take place c) ≡ place
  half long = omega (arith, long, length-take place c)

  size : place ≤ length c → length (take place c ++ drop place old.bytes) ≡ length old.bytes
  size long = omega (arith, length-append (take place c) (drop place old.bytes), length-take place c, length-drop place old.bytes, long, fits)

  front : place ≤ length c → (k : ℕ) → k < place → get_or (take place c ++ drop place old.bytes) k 0 ≡ get_or c k 0
  front long k before = get_or_append_left (take place c) (drop place old.bytes) 0 k (omega (arith, before, half long)) ∙ get_or-take place c k 0 before

  back : place ≤ length c → (k : ℕ) → place ≤ k → get_or (take place c ++ drop place old.bytes) k 0 ≡ get_or old.bytes k 0
  back long k past =
      get_or-append_right (take place c) (drop place old.bytes) place k 0 (half long) past ∙ get_or-drop place old.bytes (k - place) 0 ∙ ap (λ (j : ℕ). get_or old.bytes j 0) (omega (arith, past))

-- a write after the first five bytes
pub late_write : (place n : ℕ) (old new : DiskFile) → 5 ≤ place → IsSound old → place ≤ length old.bytes → IsTornFile place n old new → LeavesTexts IsTame old → LeavesTexts IsTame new
late_write place n old new late sound fits torn tame c image =
    let d = early_image place n old new sound fits torn c image in
    tame_alike c d.0 (sym (take-take 5 place c late) ∙ ap (λ (l : List ℕ). take 5 l) d.2 ∙ take-take 5 place d.0 late) (tame d.0 d.1)

-- a write after the first byte, which is 00
pub second_write : (n : ℕ) (old new : DiskFile) → IsSound old → 1 ≤ length old.bytes → IsTornFile 1 n old new → LeavesTexts (λ text. get_or text 0 0 ≡ 0) old → LeavesTexts IsTame new
second_write n old new sound fits torn shut c image =
    let d = early_image 1 n old new sound fits torn c image in
    let near : 0 < 1 = omega arith in
    inr (inr (sym (get_or-take 1 c 0 0 near) ∙ ap (λ (l : List ℕ). get_or l 0 0) d.2 ∙ get_or-take 1 d.0 0 0 near ∙ shut d.0 d.1))

-- a write of the first byte before the magic
pub first_write : (old new : DiskFile) → IsSound old → IsTornFile 0 1 old new → LeavesTexts HasMagic old → LeavesTexts IsTame new
first_write old new sound torn magic c image = elim (cases_lt (length c) 2) [
  | inl short ↦ inl short
  | inr long ↦
      let d = torn_image 0 1 old new sound (omega arith) torn c image in
      let size : length c ≡ length d.0 = omega (arith, d.2.no_shorter, d.2.no_longer, long) in
      inr (inl (magic_alike c d.0 size (λ k below one. d.2.above k below one) (magic d.0 d.1)))
]

-- a write of the first byte of a file that has no other
pub only_write : (old new : DiskFile) → IsTornFile 0 1 old new → old.greatest ≤ 1 → LeavesTexts IsTame new
only_write old new torn short c image = inl (omega (arith, image.no_longer, torn.greatest, short))

-- ---- a cut to the first byte

-- it is the first byte of an image from before
pub cut_front : (old new : DiskFile) → IsSound old → IsCutFile 1 old new → LeavesTexts (λ text. get_or text 0 0 ≡ 0) old → LeavesTexts IsTame new
cut_front old new sound cut shut c image = elim (cases_lt (length c) 2) [
  | inl short ↦ inl short
  | inr long ↦
      let d = cut_image 1 old new sound cut c image in
      inr (inr (d.2.below 0 (omega (arith, long)) (omega arith) ∙ shut d.0 d.1))
]

pub behind_cut : (old new : DiskFile) → IsSound old → IsCutFile 1 old new → LeavesTexts IsTame old → (c : List ℕ) → IsFileImage new c → IsTame c ⊎ IsBehindCut old c
behind_cut old new sound cut tame c image = elim (cases_lt (length c) 2) [
  | inl short ↦ inl (inl short)
  | inr long ↦
      let d = cut_image 1 old new sound cut c image in
      by_image d.0 d.1 (d.2.below 0 (omega (arith, long)) (omega arith)) d.2.no_longer long (tame d.0 d.1)
] where
  by_image : (d : List ℕ) → IsFileImage old d → get_or c 0 0 ≡ get_or d 0 0 → length c ≤ length d → 2 ≤ length c → IsTame d → IsTame c ⊎ IsBehindCut old c
  by_image d left same size long (inl short) = absurd (omega (arith, size, long, short))
  by_image d left same size long (inr (inl magic)) = elim (cases_eq (get_or d 0 0) 0) [
    | inl shut ↦ inl (inr (inr (same ∙ shut)))
    | inr gate ↦ inr (record { was = d; left = left; magic = magic; gate = gate; same_gate = same; no_longer = size })
  ]
  by_image d left same size long (inr (inr shut)) = inl (inr (inr (same ∙ shut)))

-- ---- what a call leaves

pub leaves_settled : (P : List ℕ → Type 0) (bytes : List ℕ) → P bytes → LeavesTexts P (settled bytes)
leaves_settled P bytes has text image = subst P (sym (settled_image bytes text image)) has

pub leaves_now : (P : List ℕ → Type 0) (file now : DiskFile) → now ≡ file → LeavesTexts P file → LeavesTexts P now
leaves_now P file now same leaves = subst (λ (f : DiskFile). LeavesTexts P f) (sym same) leaves

failed_write : (place : ℕ) (bytes : List ℕ) (file now : DiskFile) → place ≤ length file.bytes → FailsTo (write_at place bytes) file now → IsTornFile place (length bytes) file now
failed_write place bytes file now fits f = subst (λ (x : DiskFile). IsTornFile place (length bytes) file x) (sym f.is) (write_left_torn place (length bytes) f.left file (f.right.1 refl).0 fits)

failed_cut : (n : ℕ) (file now : DiskFile) → FailsTo (cut_to n) file now → IsCutFile n file now
failed_cut n file now f = subst (λ (x : DiskFile). IsCutFile n file x) (sym f.is) (cut_left_cut n f.left file (f.right refl).0)

-- a write and a sync: what they leave, where each state of the write leaves it, and then what is left after them
module _ (P : List ℕ → Type 0) (place : ℕ) (bytes : List ℕ) (file now : DiskFile) (acts : List Act) where
  pub written_synced : place ≤ length file.bytes → LeavesTexts P file → ((new : DiskFile) → IsTornFile place (length bytes) file new → LeavesTexts P new)
      → (IsBytes bytes → AtMoment acts (settled (overlay place bytes file.bytes)) now → LeavesTexts P now) → AtMoment (write_at place bytes ∷ sync ∷ acts) file now → LeavesTexts P now
  written_synced fits here torn then (inl before) = leaves_now P file now before here
  written_synced fits here torn then (inr (inl failed)) = torn now (failed_write place bytes file now fits failed)
  written_synced fits here torn then (inr (inr (right, inl wrote))) = leaves_now P (written place bytes file) now wrote (torn (written place bytes file) (written_torn place bytes file fits))
  written_synced fits here torn then (inr (inr (right, inr (inl failed)))) = leaves_now P (written place bytes file) now failed.is (torn (written place bytes file) (written_torn place bytes file fits))
  written_synced fits here torn then (inr (inr (right, inr (inr (ok, rest))))) = then right.0 rest

-- the same of a cut, where what is left may depend on the state
module _ (P : DiskFile → List ℕ → Type 0) (n : ℕ) (file now : DiskFile) (acts : List Act) where
  left_by : (new : DiskFile) → now ≡ new → LeavesTexts (P new) new → LeavesTexts (P now) now
  left_by new same leaves = subst (λ (f : DiskFile). LeavesTexts (P f) f) (sym same) leaves

  pub cut_synced : LeavesTexts (P file) file → ((new : DiskFile) → AtMoment (cut_to n ∷ []) file new → IsCutFile n file new → LeavesTexts (P new) new)
      → (AtMoment acts (settled (take n file.bytes)) now → LeavesTexts (P now) now) → AtMoment (cut_to n ∷ sync ∷ acts) file now → LeavesTexts (P now) now
  cut_synced here cut then (inl before) = left_by file before here
  cut_synced here cut then (inr (inl failed)) = cut now (inr (inl failed)) (failed_cut n file now failed)
  cut_synced here cut then (inr (inr (right, inl was))) = left_by (shortened n file) was (cut (shortened n file) (inr (inr (right, refl))) (shortened_cut n file))
  cut_synced here cut then (inr (inr (right, inr (inl failed)))) = left_by (shortened n file) failed.is (cut (shortened n file) (inr (inr (right, refl))) (shortened_cut n file))
  cut_synced here cut then (inr (inr (right, inr (inr (ok, rest))))) = then rest
