-- What a crash leaves of a file at any moment of the calls that change a segment.
use Rattle.std.proofs.Common.{◌≡◌, ◌⊎◌, inl, inr, ℕ, ◌+◌, ◌<◌, ◌≤◌, List, [], ◌∷◌, ◌++◌, length, get_or, take, drop, refl, sym, ap, subst, arith, length-append, length-take}
use Rattle.trace_store.specs.Disk.{DiskFile, IsBytes, overlay, settled, written}
use Rattle.stores.specs.CallRecords.{IsSound}
use Rattle.stores.specs.FileLaws.{sound_settled, sound_written}
use Rattle.stores.proofs.Images.{read_image, written_torn}
use Rattle.segment.specs.Segments.{Header, IsLawfulHeader, header_bytes, IsOpen}
use Rattle.foreign_files.specs.Foreign.{HasMagic, IsTame}
use Rattle.foreign_files.specs.Acts.{AtMoment, sync, write_at, cut_to, prepare_acts, open_acts, gate_acts, retire_acts, LeavesTexts, IsBehindCut, IsTameOrBehindCut}
use Rattle.foreign_files.proofs.Tame.{header_magic, late_write, second_write, first_write, only_write, cut_front, behind_cut, leaves_settled, leaves_now, written_synced, cut_synced}

-- ---- texts that a write makes

length-overlay : (place : ℕ) (bytes old : List ℕ) → place ≤ length old → place + length bytes ≤ length (overlay place bytes old)
length-overlay place bytes old fits = omega (arith, length-append (take place old ++ bytes) (drop (place + length bytes) old), length-append (take place old) bytes, length-take place old, fits)

bytes-overlay : (place : ℕ) (bytes : List ℕ) (file : DiskFile) → IsBytes bytes → IsSound file → IsBytes (overlay place bytes file.bytes)
bytes-overlay place bytes file are sound = (sound_written place bytes file are sound).bytes

-- a write after the first five bytes
late_text : (place : ℕ) (bytes : List ℕ) (file : DiskFile) → 5 ≤ place → IsBytes bytes → IsSound file → place ≤ length file.bytes → LeavesTexts IsTame file → IsTame (overlay place bytes file.bytes)
late_text place bytes file late are sound fits tame =
    late_write place (length bytes) file (written place bytes file) late sound fits (written_torn place bytes file fits) tame (overlay place bytes file.bytes) (read_image (written place bytes file) (sound_written place bytes file are sound))

-- ---- the calls

pub prepare_leaves : (file now : DiskFile) → IsSound file → LeavesTexts IsTame file → AtMoment prepare_acts file now → LeavesTexts (IsTameOrBehindCut file now) now
prepare_leaves file now sound tame moment =
    cut_synced (IsTameOrBehindCut file) 1 file now (write_at 0 (0 ∷ []) ∷ sync ∷ [])
    (λ text image. inl (tame text image))
    (λ new at cut text image. in_cut new at text (behind_cut file new sound cut tame text image))
    (λ rest text image. inl (behind rest text image))
    moment
  where
    in_cut : (new : DiskFile) → AtMoment (cut_to 1 ∷ []) file new → (text : List ℕ) → IsTame text ⊎ IsBehindCut file text → IsTameOrBehindCut file new text
    in_cut new at text (inl ours) = inl ours
    in_cut new at text (inr behind) = inr (at, behind)

    one : length (take 1 file.bytes) ≤ 1
    one = omega (arith, length-take 1 file.bytes)

    behind : AtMoment (write_at 0 (0 ∷ []) ∷ sync ∷ []) (settled (take 1 file.bytes)) now → LeavesTexts IsTame now
    behind rest =
        written_synced IsTame 0 (0 ∷ []) (settled (take 1 file.bytes)) now []
        (omega arith)
        (leaves_settled IsTame (take 1 file.bytes) (inl (omega (arith, one))))
        (λ new torn. only_write (settled (take 1 file.bytes)) new torn one)
        (λ are end. leaves_now IsTame (settled (overlay 0 (0 ∷ []) (take 1 file.bytes))) now end (leaves_settled IsTame (overlay 0 (0 ∷ []) (take 1 file.bytes)) (inr (inr refl))))
        rest

pub open_leaves : (file now : DiskFile) (h : Header) → IsSound file → IsLawfulHeader h → LeavesTexts (λ text. text ≡ 0 ∷ []) file → AtMoment (open_acts h) file now → LeavesTexts IsTame now
open_leaves file now h sound lawful prepared moment =
    let header : List ℕ = header_bytes h ++ 0 ∷ [] in
    let is : file.bytes ≡ 0 ∷ [] = prepared file.bytes (read_image file sound) in
    let whole : List ℕ = overlay 1 header file.bytes in
    let magic : HasMagic whole = subst (λ (l : List ℕ). HasMagic (overlay 1 header l)) (sym is) (header_magic h 0 [] lawful) in
    let opened : HasMagic (overlay 0 (1 ∷ []) whole) = subst (λ (l : List ℕ). HasMagic (overlay 0 (1 ∷ []) (overlay 1 header l))) (sym is) (header_magic h 1 [] lawful) in
    let fits : 1 ≤ length file.bytes = omega (arith, ap (λ (l : List ℕ). length l) is) in
    written_synced IsTame 1 header file now (write_at 0 (1 ∷ []) ∷ sync ∷ [])
    fits
    (λ text image. inl (omega (arith, ap (λ (l : List ℕ). length l) (prepared text image))))
    (λ new torn. second_write (length header) file new sound fits torn (λ text image. ap (λ (l : List ℕ). get_or l 0 0) (prepared text image)))
    (λ are rest.
    written_synced IsTame 0 (1 ∷ []) (settled whole) now []
    (omega arith)
    (leaves_settled IsTame whole (inr (inl magic)))
    (λ new torn. first_write (settled whole) new (sound_settled whole (bytes-overlay 1 header file are sound)) torn (leaves_settled HasMagic whole magic))
    (λ one end. leaves_now IsTame (settled (overlay 0 (1 ∷ []) whole)) now end (leaves_settled IsTame (overlay 0 (1 ∷ []) whole) (inr (inl opened))))
    rest)
    moment

pub gate_leaves : (file now : DiskFile) (gate : ℕ) (behind : List ℕ) → IsSound file → 36 ≤ gate → gate < length file.bytes → LeavesTexts IsTame file → AtMoment (gate_acts gate behind) file now → LeavesTexts IsTame now
gate_leaves file now gate behind sound late within tame moment =
    let whole : List ℕ = overlay (gate + 1) behind file.bytes in
    let fits : gate + 1 ≤ length file.bytes = omega (arith, within) in
    let five : 5 ≤ gate = omega (arith, late) in
    let six : 5 ≤ gate + 1 = omega (arith, late) in
    written_synced IsTame (gate + 1) behind file now (write_at gate (1 ∷ []) ∷ sync ∷ [])
    fits tame
    (λ new torn. late_write (gate + 1) (length behind) file new six sound fits torn tame)
    (λ are rest.
    let calm = sound_settled whole (bytes-overlay (gate + 1) behind file are sound) in
    let room : gate ≤ length whole = omega (arith, length-overlay (gate + 1) behind file.bytes fits) in
    let ours = leaves_settled IsTame whole (late_text (gate + 1) behind file six are sound fits tame) in
    written_synced IsTame gate (1 ∷ []) (settled whole) now []
    room ours
    (λ new torn. late_write gate 1 (settled whole) new five calm room torn ours)
    (λ one end. leaves_now IsTame (settled (overlay gate (1 ∷ []) whole)) now end (leaves_settled IsTame (overlay gate (1 ∷ []) whole) (late_text gate (1 ∷ []) (settled whole) five one calm room ours)))
    rest)
    moment

open_magic_of : (text : List ℕ) → IsOpen text → IsTame text → HasMagic text
open_magic_of text opened (inl short) = absurd (omega (arith, opened.0, short))
open_magic_of text opened (inr (inl magic)) = magic
open_magic_of text opened (inr (inr shut)) = absurd (omega (arith, opened.1, shut))

pub retire_leaves : (file now : DiskFile) → IsSound file → LeavesTexts IsOpen file → LeavesTexts IsTame file → AtMoment retire_acts file now → LeavesTexts IsTame now
retire_leaves file now sound opened tame moment =
    let whole : List ℕ = overlay 0 (0 ∷ []) file.bytes in
    let shut : IsTame whole = inr (inr refl) in
    written_synced IsTame 0 (0 ∷ []) file now (cut_to 1 ∷ sync ∷ [])
    (omega arith)
    tame
    (λ new torn. first_write file new sound torn (λ text image. open_magic_of text (opened text image) (tame text image)))
    (λ are rest.
    cut_synced (λ state text. IsTame text) 1 (settled whole) now []
    (leaves_settled IsTame whole shut)
    (λ new at cut. cut_front (settled whole) new (sound_settled whole (bytes-overlay 0 (0 ∷ []) file are sound)) cut (leaves_settled (λ text. get_or text 0 0 ≡ 0) whole refl))
    (λ end. leaves_now IsTame (settled (take 1 whole)) now end (leaves_settled IsTame (take 1 whole) (inr (inr refl))))
    rest)
    moment
